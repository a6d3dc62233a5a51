-- No stream reaches above the highest shifted temperature.
use Rattle.vertical_design.proofs.Words.{All-weaker, AreEnds-IsValidStream, AreSensibleStreams-both, HIGHEST_SHIFTED, IsSensibleStream, heat_below, heat_of}
use Rattle.vertical_design.proofs.Words.{sum_side-same, to_z-of_z, ◌≡◌}
use Rattle.std.proofs.Common.{rules, w64, ◌∙◌}
use Rattle.vertical_design.proofs.CurveLemmas.{heat_below-all}
use Rattle.vertical_design.proofs.curve.side_heat.Goals as goal

pub returns-clause-value : goal.returns-clause-value
returns-clause-value c =
    let streams = c.args.streams.now in
    let sensible = (AreSensibleStreams-both streams c.requires.streams c.requires.sensible).each in
    let all_below = All-weaker IsSensibleStream (λ s. heat_below HIGHEST_SHIFTED s ≡ heat_of s) (λ s h.
    heat_below-all HIGHEST_SHIFTED s h (AreEnds-IsValidStream s h.valid).upto) streams sensible in
    to_z-of_z w64 c.side_heat_below.result (search rules) ∙ c.side_heat_below.ensures.value
    ∙ sum_side-same c.args.side (heat_below HIGHEST_SHIFTED) heat_of streams all_below
