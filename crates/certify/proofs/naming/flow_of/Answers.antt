use Rattle.certify.proofs.Moves.{one_more_given, one_more_known}
use Rattle.certify.proofs.Words.{transfer_by, transfer_of}
use Rattle.std.proofs.Common.{ap₂, refl, sym, take_all, ◌∙◌}
use Rattle.certify.proofs.naming.flow_of.Goals as goal

pub loop-moved-preserved : goal.loop-moved-preserved
loop-moved-preserved c =
    let h = transfer_of c.args.case.now c.args.parts.now.hot c.args.parts.now.cold in
    let moves = c.args.moves.now in
    let i = c.loop-moved.moved-index in
    let m = c.moved-item.result in
    let t = c.in-Some.transfer in
    let hot = rw c.as_slice.ensures at (c.in_ok-hot.ensures.table m.hot) in
    let cold = rw c.as_slice-2.ensures at (c.in_ok-cold.ensures.table m.cold) in
    let is = sym (ap₂ (transfer_by m.heat) hot cold) ∙ sym c.in-Some.ensures in
    record {
      known = one_more_known h moves i m t c.loop-moved-test.true c.moved-item.is c.loop-moved.invariant.known is;
      transfers =
          one_more_given h moves i m c.loop-moved.transfers.items _ t c.loop-moved-test.true c.moved-item.is c.loop-moved.invariant.transfers is
          c.in_ok-push.ensures.items;
    }

pub returns-clause-some : goal.returns-clause-some
returns-clause-some c =
    let all = take_all c.loop-moved.moved-index c.args.moves.now c.loop-moved-test.false in
    (λ e. rw all at c.loop-moved.invariant.known, λ known. refl)
