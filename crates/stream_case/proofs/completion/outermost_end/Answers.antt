-- Each stream brings its two ends.
use Rattle.std.proofs.Common.{List, ap, ap₂, fold, rules, subst, sym, to_z, w32, ◌∙◌}
use Rattle.stream_case.proofs.Words.{IsShifted, Stream, outer_of, stream_ends, take_all, to_z-of_z}
use Rattle.stream_case.proofs.EndLemmas.{outer_ends-all, outer_ends-more, outermost-between}
use Rattle.stream_case.proofs.completion.outermost_end.Goals as goal

pub loop-stream-preserved : goal.loop-stream-preserved
loop-stream-preserved c =
    let outer = outer_of c.args.side in
    let high = to_z-of_z w32 c.high_end.result (search rules) ∙ c.high_end.ensures.value in
    let low = to_z-of_z w32 c.low_end.result (search rules) ∙ c.low_end.ensures.value in
    let first =
    to_z-of_z w32 c.outer_of-outermost.result (search rules) ∙ c.outer_of-outermost.ensures
    ∙ ap (outer (to_z w32 c.loop-stream.outermost-bits)) high in
    to_z-of_z w32 c.outer_of-outermost-in-loop-stream.result (search rules)
    ∙ c.outer_of-outermost-in-loop-stream.ensures ∙ ap₂ outer first low
    ∙ outer_ends-more c.args.side _ _ c.args.streams.now c.loop-stream.stream-index c.stream-item.result c.loop-stream-test.true c.stream-item.is
    c.loop-stream.invariant

pub returns-clause-value : goal.returns-clause-value
returns-clause-value c =
    let streams = c.args.streams.now in
    let outer = outer_of c.args.side in
    let first = to_z-of_z w32 c.high_end-outermost.result (search rules) ∙ c.high_end-outermost.ensures.value in
    c.loop-stream.invariant ∙ ap₂ (λ a (ss : List Stream). fold outer a (stream_ends ss)) first
    (take_all c.loop-stream.stream-index streams c.loop-stream-test.false)
    ∙ outer_ends-all c.args.side streams c.index-streams-0.result c.requires.some c.index-streams-0.is

pub returns-clause-range : goal.returns-clause-range
returns-clause-range c =
    subst IsShifted (sym (returns-clause-value c)) (outermost-between c.args.side c.args.streams.now c.requires.are_streams.each)
