use Rattle.certify.proofs.Table.{bytes_of_parts-more}
use Rattle.certify.proofs.Words.{Holds256, bytes_of_parts}
use Rattle.std.proofs.Common.{subst, take}
use Rattle.certify.proofs.part_table.key_of.Goals as goal

pub loop-part-init : goal.loop-part-init
unfolding bytes_of_parts
loop-part-init c = c.new-digest.ensures

pub loop-part-preserved : goal.loop-part-preserved
loop-part-preserved c =
    let so_far = bytes_of_parts c.args.case.now (take c.loop-part.part-index c.args.parts.now) in
    let more = bytes_of_parts-more c.args.case.now c.args.parts.now c.loop-part.part-index c.span_of-span.result
    c.loop-part-test.true c.span_of-span.ensures in
    subst (Holds256 c.digest_span.new.digest) more (c.digest_span.ensures so_far c.loop-part.invariant)
