-- A network of pieces: each source goes through pieces, and each exchange of heat between a hot and a cold piece is
-- an exchanger.
use Rattle.std.specs.Prelude.{ℕ, ◌==◌, ◌&&◌, Bool, List, length, map, false, nat_lt, Option, Some, None, slice_get, unwrap_or, if◌then◌else◌}
use Rattle.std.specs.List.{enumerate_from, filter_map}
use Rattle.std.specs.Option.{option_map_or}
use Rattle.stream_case.specs.Source.{same_source}
use Rattle.stream_case.specs.declared.case.Case.{Case}
use Rattle.stream_case.specs.declared.source.Side.{Side}
use Rattle.stream_case.specs.declared.source.Side.TheVariants as side
use Rattle.stream_case.specs.declared.source.Source.{Source}
use Rattle.stream_case.specs.declared.source.Source.TheVariants as source
use Rattle.stream_case.specs.declared.stream.Stream.{Stream}
use Rattle.fractions.specs.Rationals.{Rational}
use Rattle.networks.specs.Lines.{Exchanger}
use Rattle.networks.specs.declared.network.Network.{Network}
use Rattle.design_lines.specs.Drawn.{Course, drawn}
use Rattle.design_lines.specs.Names.{exchanger_name}
use Rattle.design_lines.specs.LedStages.{LedStage}
use Rattle.design_lines.specs.Ways.{on_the_way}
use Rattle.design_lines.specs.declared.stage.Share.{Share}
use Rattle.pieces.specs.declared.exchange.Exchange.{Exchange}

-- ---- pieces

-- a piece of a source, and the states in which its source comes into it and leaves it
pub record Piece : Type 0 where
  pub source : Source
  pub before : Rational
  pub after : Rational

abbrev pub sources_of : List Piece → List Source
sources_of pieces = map (λ p. p.source) pieces

-- one of two lists, by the side
abbrev pub on_side : {X : Type 0} → Side → X → X → X
on_side side.Hot hot cold = hot
on_side side.Cold hot cold = cold

-- the piece of an exchange on a side, and the size of its branch there
abbrev pub piece_on : Side → Exchange → ℕ
piece_on of e = on_side of e.hot e.cold

abbrev pub size_on : Side → Exchange → Rational
size_on of e = on_side of e.hot_size e.cold_size

-- ---- exchangers

-- the source of the piece at an index; the first stream, of which no rule speaks, where there is none
abbrev pub source_at : List Source → ℕ → Source
source_at sources index = unwrap_or (slice_get sources index) (source.Stream 0)

abbrev pub exchanger_of : List Source → List Source → ℕ × Exchange → Exchanger
exchanger_of hot cold (number, e) = record {
  name = exchanger_name number;
  hot = source_at hot e.hot;
  cold = source_at cold e.cold;
  duty = e.heat;
}

abbrev pub exchangers_for : List Source → List Source → List Exchange → List Exchanger
exchangers_for hot cold exchanges = map (exchanger_of hot cold) (enumerate_from 0 exchanges)

-- ---- courses

-- the share of an exchange
abbrev pub share_for : Side → ℕ × Exchange → Share
share_for of (number, e) = record { exchanger = number; cp = size_on of e }

-- the shares of the piece at an index: one for each of its exchanges, in their order
abbrev pub share_of : Side → ℕ → ℕ × Exchange → Option Share
share_of of index (number, e) = if piece_on of e == index then Some (share_for of (number, e)) else None

unfoldable pub shares_of : Side → ℕ → List Exchange → List Share
shares_of of index exchanges = filter_map (share_of of index) (enumerate_from 0 exchanges)

-- whether the piece at an index is one of the stream
abbrev pub is_of_stream : List Source → ℕ → ℕ → Bool
is_of_stream sources stream index =
    option_map_or (λ a. same_source a (source.Stream stream)) (slice_get sources index) false

-- the shares of a stream, each with the index of its piece: one for each exchange of its pieces, in their order
abbrev pub own_share : Side → List Source → ℕ → ℕ × Exchange → Option (ℕ × Share)
own_share of sources stream (number, e) =
    if is_of_stream sources stream (piece_on of e) then Some (piece_on of e, share_for of (number, e)) else None

unfoldable pub own_shares : Side → List Source → List Exchange → ℕ → List (ℕ × Share)
own_shares of sources exchanges stream = filter_map (own_share of sources stream) (enumerate_from 0 exchanges)

-- one of them, if its piece has the index
abbrev pub share_at : ℕ → ℕ × Share → Option Share
share_at index (piece, share) = if piece == index then Some share else None

-- whether a piece is one of the stream, and exchanges heat
abbrev pub is_stage : Side → List Exchange → ℕ → ℕ → Source → Bool
is_stage of exchanges stream index a =
    same_source a (source.Stream stream) && nat_lt 0 (length (shares_of of index exchanges))

-- such a piece is a stage of the stream's course
abbrev pub stage_of : Side → List Exchange → ℕ → ℕ × Source → Option (List Share)
stage_of of exchanges stream (index, a) =
    if is_stage of exchanges stream index a then Some (shares_of of index exchanges) else None

-- the pieces of a side are listed from the hottest down: hot streams go down through theirs, and cold ones up
abbrev pub course_of : Side → List Source → List Exchange → ℕ → Course
course_of of sources exchanges stream =
    filter_map (stage_of of exchanges stream) (on_the_way of (enumerate_from 0 sources))

abbrev pub stream_course : List Source → List Source → List Exchange → ℕ × Stream → Course
stream_course hot cold exchanges (number, s) = course_of s.side (on_side s.side hot cold) exchanges number

abbrev pub courses_of : Case → List Source → List Source → List Exchange → List Course
courses_of case hot cold exchanges = map (stream_course hot cold exchanges) (enumerate_from 0 case.streams)

-- the network: an exchanger for each exchange, and each stream led through its pieces
unfoldable pub network_of : Case → List Source → List Source → List Exchange → Network
network_of case hot cold exchanges = drawn case (exchangers_for hot cold exchanges) (courses_of case hot cold exchanges)

-- ---- the states on the way

-- a stream in one of its pieces
abbrev pub led_piece : Side → List Exchange → ℕ × Piece → LedStage
led_piece of exchanges (index, p) = record { before = p.before; after = p.after; shares = shares_of of index exchanges }

abbrev pub led_stage : Side → List Exchange → ℕ → ℕ × Piece → Option LedStage
led_stage of exchanges stream (index, p) =
    if is_stage of exchanges stream index p.source then Some (led_piece of exchanges (index, p)) else None

-- a stream on its way through its pieces
abbrev pub led_course : List Piece → List Piece → List Exchange → ℕ × Stream → List LedStage
led_course hot cold exchanges (number, s) =
    filter_map (led_stage s.side exchanges number) (on_the_way s.side (enumerate_from 0 (on_side s.side hot cold)))
