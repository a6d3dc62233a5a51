-- Sums over the streams of one side.
use Rattle.std.specs.Prelude.{ℤ, pos, List, if◌then◌else◌}
use Rattle.stream_case.specs.declared.source.Side.{Side}
use Rattle.stream_case.specs.declared.stream.Stream.{Stream}
use Rattle.stream_case.specs.Source.{same_side}
use Rattle.sums.specs.Sum.{int_sum_by}

abbrev pub sum_side : Side → (Stream → ℤ) → List Stream → ℤ
sum_side side f streams = int_sum_by (λ s. if same_side s.side side then f s else pos 0) streams
