-- A stream of the side adds its heat.
use Rattle.problem_table.proofs.SideLemmas.{sum_side-more, sum_side-so_far}
use Rattle.problem_table.proofs.deficit.side_heat_over.Goals.{else-is_on, then-is_on}
use Rattle.std.proofs.Common.{Bool, ap, arith, if◌then◌else◌, of_z, pos, sym, to_z, w32, ◌∙◌}
use Rattle.problem_table.proofs.Words.{heat_over, heat_over-between, ints}
use Rattle.problem_table.proofs.deficit.side_heat_over.Goals as goal

pub overflow_add-heat : goal.overflow_add-heat
overflow_add-heat c =
    let t = to_z w32 (of_z w32 c.args.t) in
    let so_far =
    sum_side-so_far c.args.side (heat_over c.args.from_itself t)
    (heat_over-between c.args.from_itself t) c.args.streams.now c.loop-stream.stream-index c.requires in
    omega (arith, ints)

pub loop-stream-preserved : goal.loop-stream-preserved
loop-stream-preserved c =
    let t = to_z w32 (of_z w32 c.args.t) in
    let s = c.stream-item.result in
    let so_far =
    sum_side-so_far c.args.side (heat_over c.args.from_itself t)
    (heat_over-between c.args.from_itself t) c.args.streams.now c.loop-stream.stream-index c.requires in
    let step = sum_side-more c.args.side (heat_over c.args.from_itself t) c.args.streams.now
    c.loop-stream.stream-index s c.loop-stream-test.true c.stream-item.is in
    let term = λ (b : Bool). if b then heat_over c.args.from_itself t s else pos 0 in
    elim c.if-is_on.branch [
      | then-is_on w ↦
          let added = ap term (sym c.is_on.ensures ∙ w.if-is_on.true) in
          omega (arith, ints)
      | else-is_on w ↦
          let added = ap term (sym c.is_on.ensures ∙ w.if-is_on.false) in
          omega (arith, ints)
    ]

pub returns-clause-range : goal.returns-clause-range
returns-clause-range c =
    let t = to_z w32 (of_z w32 c.args.t) in
    let so_far =
    sum_side-so_far c.args.side (heat_over c.args.from_itself t)
    (heat_over-between c.args.from_itself t) c.args.streams.now c.loop-stream.stream-index c.requires in
    omega (arith, ints)
