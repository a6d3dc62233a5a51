use Rattle.heat_flow.proofs.Blanks.{no_transfer}
use Rattle.heat_flow.proofs.CheckLemmas.{AreHeats-more}
use Rattle.std.proofs.Common.{FitsSigned, arith, get_or, length, of_z, rules, to_z, w64, ◌*◌, ◌+◌, ◌<◌, ◌^◌, ◌≡◌}
use Rattle.heat_flow.proofs.Words.{All, All-set, All-weaker, IsBetween, ints, pos, w128, ◌+ℤ◌}
use Rattle.heat_flow.proofs.check.add_heats.Goals as goal

pub loop-transfer-preserved : goal.loop-transfer-preserved
loop-transfer-preserved c =
    let i = c.loop-transfer.transfer-index in
    let sums = c.loop-transfer.sums in
    let t = get_or c.args.transfers.now i no_transfer in
    let index = c.part_index.result in
    let within = c.loop-transfer-test.true in
    let next = to_z w128 (of_z w128 (to_z w128 (of_z w128 (get_or sums index (pos 0))) +ℤ to_z w128 (of_z w128 c.from.result))) in
    let few : i * 2 ^ 63 < 2 ^ 126 = omega arith in
    let room : index < length sums = omega (arith, c.part_index.ensures, c.requires.indexes i no_transfer within) in
    let old = c.loop-transfer.invariant.range index (pos 0) room in
    let heat = c.requires.positive i no_transfer within in
    let heat_fits : FitsSigned w64 t.heat = search rules in
    let added : next ≡ get_or sums index (pos 0) +ℤ t.heat = omega (arith, ints) in
    let wider : All (IsBetween (pos 0) (pos ((i + 1) * 2 ^ 63))) sums =
    All-weaker (IsBetween (pos 0) (pos (i * 2 ^ 63))) (IsBetween (pos 0) (pos ((i + 1) * 2 ^ 63)))
    (λ x h. record { from = h.from; upto = omega (arith, ints, h.upto) }) sums c.loop-transfer.invariant.range in
    record {
      sum =
          AreHeats-more c.args.side c.args.transfers.now i sums index next within c.part_index.ensures room added c.loop-transfer.invariant.sum;
      range = All-set (IsBetween (pos 0) (pos ((i + 1) * 2 ^ 63))) sums index next (omega (arith, ints)) wider;
    }
