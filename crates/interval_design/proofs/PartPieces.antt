-- The states between which a heat flow leads the streams: the temperatures of the ends of their parts, or the first and last parts of a load.
use Rattle.std.specs.Prelude.{ℤ, slice_get, if◌then◌else◌}
use Rattle.std.specs.Option.{option_map_or}
use Rattle.stream_case.specs.Stream.{is_latent}
use Rattle.stream_case.specs.declared.case.Case.{Case}
use Rattle.stream_case.specs.declared.source.Side.{Side}
use Rattle.stream_case.specs.declared.source.Source.{Source}
use Rattle.stream_case.specs.declared.source.Source.TheVariants as source
use Rattle.stream_case.specs.declared.stream.Stream.{Stream}
use Rattle.fractions.specs.Rationals.{Rational, rational_zero, whole}
use Rattle.network_values.specs.Penalties.{unshifted}
use Rattle.network_values.specs.Values.{first_state, last_state}
use Rattle.grid.specs.declared.part.Part.{Part}
use Rattle.pieces.specs.Pieces.{Piece, on_side}

-- the place where a source comes into a part, and the place where it leaves it
abbrev pub entered_at : Side → Part → ℤ
entered_at of p = on_side of p.high p.low

abbrev pub left_at : Side → Part → ℤ
left_at of p = on_side of p.low p.high

-- the state of a stream where it comes into a part, and where it leaves it; a latent stream has one part, which takes it from its first state to its last
abbrev pub entered_state : Part → Stream → Rational
entered_state p s = if is_latent s then first_state s else whole (unshifted s.side (entered_at s.side p) s.contribution)

abbrev pub left_state : Part → Stream → Rational
left_state p s = if is_latent s then last_state s else whole (unshifted s.side (left_at s.side p) s.contribution)

-- the state of a source in a part, by that of a stream; 0, of which no rule speaks, for a utility, which keeps its level
abbrev pub source_state : (Stream → Rational) → Case → Source → Rational
source_state state case (source.Stream number) = option_map_or state (slice_get case.streams number) rational_zero
source_state state case (source.Utility number) = rational_zero

-- a part is the piece of its source between the two states
abbrev pub piece_of : Case → Part → Piece
piece_of case p = record {
  source = p.source;
  before = source_state (entered_state p) case p.source;
  after = source_state (left_state p) case p.source;
}
