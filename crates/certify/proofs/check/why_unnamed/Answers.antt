use Rattle.certify.proofs.Unnamed.{cut_unnamed, flow_unnamed}
use Rattle.certify.proofs.check.why_unnamed.Goals.{then-is_empty-via-else-is_empty+then-is_empty-2, then-is_empty-via-then-is_empty}
use Rattle.std.proofs.Common.{inl, inr}
use Rattle.certify.proofs.check.why_unnamed.Goals as goal

pub returns-then-is_empty-clause-answer : goal.returns-then-is_empty-clause-answer
returns-then-is_empty-clause-answer c k complete =
    let f = c.in-Flow in
    rw f.is (flow_unnamed k f.cost f.uses f.moves f.gives f.takes (elim c.then-is_empty.branch [
      | then-is_empty-via-then-is_empty w ↦ inl (c.is_empty.ensures.0 w.if-is_empty.true)
      | then-is_empty-via-else-is_empty+then-is_empty-2 w ↦ inr (w.is_empty-else-is_empty.ensures.0 w.if-is_empty-2.true)
    ]) complete)

pub returns-then-is_empty-3-clause-answer : goal.returns-then-is_empty-3-clause-answer
returns-then-is_empty-3-clause-answer c k complete =
    let f = c.in-Cut in
    rw f.is (cut_unnamed k f.kind f.need f.offer f.parts (c.is_empty-in-Cut.ensures.0 c.if-is_empty-3.true))
