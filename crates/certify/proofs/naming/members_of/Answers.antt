use Rattle.certify.proofs.Moves.{one_more_given, one_more_known}
use Rattle.certify.proofs.Words.{index_of}
use Rattle.std.proofs.Common.{sym, ◌∙◌}
use Rattle.certify.proofs.naming.members_of.Goals as goal

pub loop-span-preserved : goal.loop-span-preserved
loop-span-preserved c =
    let h = index_of c.args.case.now c.args.parts.now in
    let spans = c.args.spans.now in
    let i = c.loop-span.span-index in
    let s = c.span-item.result in
    let member = c.in-Some.member in
    let is = sym (c.in_ok-table.ensures.table s) ∙ sym c.in-Some.ensures in
    record {
      known = one_more_known h spans i s member c.loop-span-test.true c.span-item.is c.loop-span.invariant.known is;
      members =
          one_more_given h spans i s c.loop-span.members.items _ member c.loop-span-test.true c.span-item.is c.loop-span.invariant.members is
          c.in_ok-push.ensures.items;
    }
