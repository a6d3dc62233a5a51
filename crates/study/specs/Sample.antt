-- Samples: cases out of the draws of the generator.
use Rattle.std.specs.Prelude.{ℕ, ◌+◌, ◌*◌, ◌==◌, pos, List, [], ◌++◌, map, filter, codes}
use Rattle.std.specs.Fmt.{decimal}
use Rattle.std.specs.List.{range_with_len}
use Rattle.stream_case.specs.declared.source.Side.{Side}
use Rattle.stream_case.specs.declared.source.Side.TheVariants.{Hot, Cold}
use Rattle.stream_case.specs.declared.source.Source.TheVariants.{Stream as of_stream}
use Rattle.stream_case.specs.Stream.{sensible_stream}
use Rattle.stream_case.specs.declared.stream.Stream.{Stream}
use Rattle.stream_case.specs.declared.case.Forbid.{Forbid}
use Rattle.stream_case.specs.declared.case.Case.{Case}
use Rattle.study.specs.declared.limits.TheConstants.{FLOW_RATES, FORBID_CHANCE, LEAST_HOT_TEMPERATURE, SAMPLE_CONTRIBUTION, TEMPERATURES}
use Rattle.study.specs.Draws.{draw, state_after}

-- ---- streams

-- H1, H2 and so on, and C1, C2 and so on
abbrev pub letter : Side → List ℕ
letter Hot = codes "H"
letter Cold = codes "C"

abbrev pub stream_name : Side → ℕ → List ℕ
stream_name side number = letter side ++ decimal number

abbrev pub least_temperature : Side → ℕ
least_temperature Hot = LEAST_HOT_TEMPERATURE
least_temperature Cold = 0

-- the ends of the range and the heat-capacity flow that the three draws after the state x give
abbrev pub drawn_low : Side → ℕ → ℕ
drawn_low side x = least_temperature side + draw x 0 TEMPERATURES

abbrev pub drawn_high : Side → ℕ → ℕ
drawn_high side x = drawn_low side x + 1 + draw x 1 TEMPERATURES

abbrev pub drawn_flow_rate : ℕ → ℕ
drawn_flow_rate x = 1 + draw x 2 FLOW_RATES

-- the stream of a side that these draws make
abbrev pub drawn_stream : Side → ℕ → ℕ → Stream
drawn_stream Hot x number =
    sensible_stream (stream_name Hot number) Hot (pos (drawn_high Hot x)) (pos (drawn_low Hot x)) (pos (drawn_flow_rate x)) SAMPLE_CONTRIBUTION
drawn_stream Cold x number =
    sensible_stream (stream_name Cold number) Cold (pos (drawn_low Cold x)) (pos (drawn_high Cold x)) (pos (drawn_flow_rate x)) SAMPLE_CONTRIBUTION

-- so many streams of a side, with three draws each, numbered from 1
abbrev pub drawn_streams : Side → ℕ → ℕ → List Stream
drawn_streams side x count = map (λ i. drawn_stream side (state_after x (3 * i)) (i + 1)) (range_with_len 0 count)

-- ---- forbidden matches

-- the pair of a hot stream and the cold stream of the same number, where so many hot streams come first
abbrev pub pair_of : ℕ → ℕ → Forbid
pair_of count i = record { hot = of_stream i; cold = of_stream (count + i) }

-- the pairs for which 0 is drawn, with one draw each
abbrev pub drawn_forbids : ℕ → ℕ → List Forbid
drawn_forbids x count = map (pair_of count) (filter (λ i. draw x i FORBID_CHANCE == 0) (range_with_len 0 count))

-- ---- the case

-- the draws make the hot streams, then the cold ones, then the forbidden matches
abbrev pub sample : ℕ → ℕ → Case
sample number count = record {
  contribution = SAMPLE_CONTRIBUTION;
  streams = drawn_streams Hot number count ++ drawn_streams Cold (state_after number (3 * count)) count;
  utilities = [];
  forbids = drawn_forbids (state_after number (6 * count)) count;
}
