use Rattle.network_audit.proofs.Words.{is_below, value_formed}
use Rattle.network_audit.proofs.ItemLemmas.{found-failed, found-formed, found-not_formed, found-nothing, found-passed}
use Rattle.std.proofs.Common.{false, true, ◌∙◌, ◌≡◌}
use Rattle.network_audit.proofs.statements.split_rest.Goals as goal

pub returns-then-not-is_below : goal.returns-then-not-is_below
returns-then-not-is_below c =
    let e : is_below c.args.cp.now c.args.from.now.cp ≡ false = cc in
    found-failed _ _ e

pub returns-in_default : goal.returns-in_default
returns-in_default c =
    let e : is_below c.args.cp.now c.args.from.now.cp ≡ true = cc in
    found-passed _ _ e ∙ found-not_formed _ _ _ _ _ c.in_default.is c.minus.ensures

pub returns : goal.returns
returns c = let e : is_below c.args.cp.now c.args.from.now.cp ≡ true = cc in (
  found-passed _ _ e ∙ found-formed _ _ _ _ _ _ c.in-Some.is c.minus.ensures ∙ found-nothing,
  λ i. record { cp = value_formed _ _ _ c.in-Some.is c.minus.ensures i; t = c.args.from.now.t },
)
