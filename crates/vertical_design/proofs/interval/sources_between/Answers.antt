use Rattle.std.proofs.Common.{List, ap, arith, length, sym, ◌++◌, ◌-◌, ◌∙◌, ◌≡◌}
use Rattle.vertical_design.proofs.Words.{Source, flat_map, range_with_len, sources_in}
use Rattle.vertical_design.proofs.RowLists.{rows_more}
use Rattle.vertical_design.proofs.interval.sources_between.Goals as goal

pub loop-number-preserved : goal.loop-number-preserved
loop-number-preserved c =
    c.in_ok-push_sources.ensures ∙ ap (λ (ss : List Source). ss ++ sources_in c.args.bands.now) c.loop-number.invariant
    ∙ sym (rows_more (λ n. sources_in c.args.bands.now) c.loop-number._number)

pub returns : goal.returns
returns c =
    let all : c.loop-number._number ≡ length c.args.cuts.now - 1
    = omega (arith, c.loop-number-test.false, c.count_of-number-end.ensures) in
    c.loop-number.invariant ∙ ap (λ k. flat_map (λ n. sources_in c.args.bands.now) (range_with_len 0 k)) all
