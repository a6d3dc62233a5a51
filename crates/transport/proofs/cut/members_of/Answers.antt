use Rattle.transport.proofs.Words.{ints, is_in, is_picked}
use Rattle.std.proofs.Common.{ap, arith, sym, ℕ, ◌+◌, ◌∙◌}
use Rattle.transport.proofs.LoopLemmas.{member_none, member_other, member_push}
use Rattle.transport.proofs.cut.members_of.Goals.{else-is_picked, else-is_picked-via-else-is_picked, else-is_picked-via-then-is_picked+else-part-gt0}
use Rattle.transport.proofs.cut.members_of.Goals.{then-is_picked+then-part-gt0+in_ok-push}
use Rattle.transport.proofs.cut.members_of.Goals as goal

pub loop-index-preserved : goal.loop-index-preserved
loop-index-preserved c =
    let picked = λ (i : ℕ). is_picked c.args.kind (is_in c.args.reached.now (c.args.first + i)) in
    let parts = c.args.parts.now in
    let i = c.loop-index.index in
    let within = c.loop-index-test.true in
    let old = c.loop-index.members.items in
    let before = c.loop-index.invariant in
    elim c.if-is_picked.branch [
      | then-is_picked+then-part-gt0+in_ok-push w ↦
          member_push picked parts i within old _ before (ap (λ v. v.items) w.members-is ∙ w.in_ok-push.ensures.items)
          (sym c.is_picked.ensures ∙ w.if-is_picked.true) (omega (arith, ints, w.if-part-gt0.true))
      | else-is_picked w ↦
          elim w.else-is_picked.branch [
            | else-is_picked-via-then-is_picked+else-part-gt0 v ↦
                member_none picked parts i within old _ before (ap (λ x. x.items) w.members-is) (sym c.is_picked.ensures ∙ v.if-is_picked.true)
                (omega (arith, ints, v.if-part-gt0.false))
            | else-is_picked-via-else-is_picked v ↦
                member_other picked parts i within old _ before (ap (λ x. x.items) w.members-is) (sym c.is_picked.ensures ∙ v.if-is_picked.false)
          ]
    ]
