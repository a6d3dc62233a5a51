use Rattle.certify.proofs.Table.{one_more_part}
use Rattle.certify.proofs.Words.{begun_by}
use Rattle.std.proofs.Common.{ap, ◌∙◌}
use Rattle.certify.proofs.part_table.table_of.Goals as goal

pub loop-index-preserved : goal.loop-index-preserved
loop-index-preserved c = record {
  table =
      one_more_part c.args.case.now c.args.parts.now c.loop-index.index c.span_of-span.result c.loop-index.table c.add_span.new.table
      c.loop-index-test.true c.span_of-span.ensures c.loop-index.invariant.table c.in_ok-add_span.ensures.added;
  key = ap begun_by c.add_span.ensures.key ∙ c.loop-index.invariant.key;
}
