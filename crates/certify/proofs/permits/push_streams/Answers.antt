use Rattle.certify.proofs.SourceRows.{push_stream}
use Rattle.certify.proofs.Words.{ArePermissions, AreStreams-IsComplete, length-AreStreams}
use Rattle.std.proofs.Common.{[], arith, length, length-append, ◌<◌, ◌∷◌}
use Rattle.certify.proofs.permits.push_streams.Goals as goal
use Rattle.stream_case.specs.declared.source.Source.TheVariants.{Stream as of_stream}

pub overflow_cast-number : goal.overflow_cast-number
overflow_cast-number c = omega (
  arith,
  c.loop-number-test.true,
  c.len-number-end.ensures,
  length-AreStreams c.args.case.now.streams (AreStreams-IsComplete c.args.case.now c.requires.complete),
)

pub loop-number-preserved : goal.loop-number-preserved
loop-number-preserved c =
    let case = c.args.case.now in
    let rows = c.loop-number.rows in
    let row = c.from_vec.result in
    let count = c.loop-number.invariant.count in
    let within : c.loop-number.number < length case.streams
    = omega (arith, c.loop-number-test.true, c.len-number-end.ensures) in
    let is : ArePermissions case case.forbids (of_stream c.loop-number.number) row
    = rw c.from_vec.ensures c.in_ok-row.ensures in
    rw c.in_ok-push.ensures.ok (record {
      count = omega (arith, count, length-append rows (row ∷ []));
      each = push_stream case rows row c.loop-number.number within count is c.loop-number.invariant.each;
    })
