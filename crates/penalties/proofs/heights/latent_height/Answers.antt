use Rattle.penalties.proofs.Words.{value_formed}
use Rattle.network_audit.proofs.ItemLemmas.{found-formed, found-not_formed, found-nothing}
use Rattle.std.proofs.Common.{◌∙◌}
use Rattle.penalties.proofs.heights.latent_height.Goals as goal

pub returns-then-not-counts : goal.returns-then-not-counts
returns-then-not-counts c = rw c.if-not-counts.true (found-nothing, c.whole.ensures)

pub returns-in-Some : goal.returns-in-Some
returns-in-Some c =
    rw c.if-not-counts.false (
      found-formed c.args.place _ _ _ _ _ c.in-Some.is c.times.ensures ∙ found-nothing,
      value_formed _ _ _ c.in-Some.is c.times.ensures,
    )

pub returns-in-None : goal.returns-in-None
returns-in-None c = rw c.if-not-counts.false (found-not_formed c.args.place _ _ _ _ c.in-None.is c.times.ensures)
