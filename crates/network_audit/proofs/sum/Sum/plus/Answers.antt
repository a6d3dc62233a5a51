use Rattle.network_audit.proofs.Words.{value_formed}
use Rattle.network_audit.proofs.ItemLemmas.{found-formed, found-not_formed, found-nothing}
use Rattle.std.proofs.Common.{◌+◌, ◌∙◌}
use Rattle.network_audit.proofs.sum.Sum.plus.Goals as goal

pub returns-in_default : goal.returns-in_default
returns-in_default c = λ at. found-not_formed at _ _ _ _ c.in_default.is c.plus.ensures

pub returns : goal.returns
returns c = (
  λ at. found-formed at _ _ _ _ _ c.in-Some.is c.plus.ensures ∙ found-nothing,
  λ i. record { total = value_formed _ _ _ c.in-Some.is c.plus.ensures i; steps = c.args.self.now.steps + 1 },
)
