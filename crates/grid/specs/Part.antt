-- The parts of streams and utilities on places of the shifted scale, and their order.
use Rattle.std.specs.Prelude.{◌≡◌, ◌⊎◌, ◌<◌, ℕ, ◌+◌, ℤ, pos, ◌+ℤ◌, ◌≤ℤ◌, ◌<ℤ◌, Bool, if◌then◌else◌, List, Some, slice_get}
use Rattle.stream_case.specs.declared.source.Side.{Side}
use Rattle.stream_case.specs.declared.source.Side.TheVariants.{Hot, Cold}
use Rattle.stream_case.specs.declared.source.Source.{Source}
use Rattle.stream_case.specs.declared.source.Source.TheVariants.{Stream as of_stream, Utility as of_utility}
use Rattle.stream_case.specs.declared.stream.Stream.{Stream}
use Rattle.stream_case.specs.declared.utility.Utility.{Utility}
use Rattle.stream_case.specs.declared.case.Case.{Case}
use Rattle.stream_case.specs.Stream.{high_end, low_end, heat_between, counts_above, IsLatent}
use Rattle.stream_case.specs.Utility.{shifted_level}
use Rattle.sums.specs.Order.{Lists}
use Rattle.grid.specs.declared.part.Part.{Part}
use Rattle.grid.specs.Grid.{IsGrid}

-- high and low are neighbours among the places
pub record IsInterval (places : List ℤ) (high low : ℤ) : Type 0 where
  pub index : ℕ
  pub from : slice_get places index ≡ Some high
  pub to : slice_get places (index + 1) ≡ Some low

-- a piece of a stream: an interval, or the one level of a latent stream
abbrev pub IsPiece : List ℤ → Stream → ℤ → ℤ → Type 0
IsPiece places s high low = IsInterval places high low ⊎ (IsLatent s × (high ≡ low))

-- the heat of a piece: one of the two summands is 0
abbrev pub piece_heat : ℤ → ℤ → Stream → ℤ
piece_heat high low s = heat_between high low s +ℤ s.load

-- the part of stream number i from high down to low
abbrev pub stream_part : ℤ → ℤ → ℕ → Stream → Part
stream_part high low i s = record {
  source = of_stream i;
  side = s.side;
  high = high;
  low = low;
  least = piece_heat high low s;
  most = piece_heat high low s;
  price = pos 0;
}

-- the part of utility number i, at its level
abbrev pub utility_part : ℕ → Utility → Part
utility_part i u = record {
  source = of_utility i;
  side = u.side;
  high = shifted_level u;
  low = shifted_level u;
  least = u.least;
  most = u.most;
  price = u.price;
}

-- p is the part of stream number i on a piece of its range
pub record IsStreamPart (streams : List Stream) (places : List ℤ) (side : Side) (i : ℕ) (s : Stream)
    (p : Part) : Type 0 where
  pub stream : slice_get streams i ≡ Some s
  pub side_is : s.side ≡ side
  pub piece : IsPiece places s p.high p.low
  pub from : low_end s ≤ℤ p.low
  pub upto : p.high ≤ℤ high_end s
  pub is : p ≡ stream_part p.high p.low i s

-- p is the part of utility number i
pub record IsUtilityPart (utilities : List Utility) (side : Side) (i : ℕ) (u : Utility) (p : Part) : Type 0 where
  pub utility : slice_get utilities i ≡ Some u
  pub side_is : u.side ≡ side
  pub is : p ≡ utility_part i u

-- a stream on a piece of its range, or a utility at its level
abbrev pub IsPartOf : List Stream → List Utility → List ℤ → Side → Part → Type 0
IsPartOf streams utilities places side p =
    ((i : ℕ) × (s : Stream) × IsStreamPart streams places side i s p)
    ⊎ ((i : ℕ) × (u : Utility) × IsUtilityPart utilities side i u p)

-- a part stands above a place with its low where the place counts from itself, else with its high
abbrev pub stands_above : Bool → ℤ → Part → Bool
stands_above from_itself place p = counts_above from_itself place (if from_itself then p.low else p.high)

-- streams before utilities, each in their order
abbrev pub comes_before_source : Source → Source → Type 0
comes_before_source (of_stream i) (of_stream j) = i < j
comes_before_source (of_stream i) (of_utility j) = Unit {0}
comes_before_source (of_utility i) (of_stream j) = ⊥
comes_before_source (of_utility i) (of_utility j) = i < j

-- by falling high, then by falling low, then by the source
abbrev pub comes_before : Part → Part → Type 0
comes_before p q =
    (q.high <ℤ p.high) ⊎ ((q.high ≡ p.high) × (q.low <ℤ p.low))
    ⊎ ((q.high ≡ p.high) × (q.low ≡ p.low) × comes_before_source p.source q.source)

-- the parts of a side, in their order
abbrev pub AreParts : List Stream → List Utility → List ℤ → Side → List Part → Type 0
AreParts streams utilities places side parts = Lists comes_before (IsPartOf streams utilities places side) parts

-- the parts of the case on its grid
pub record AreCaseParts (c : Case) (hot cold : List Part) : Type 0 where
  pub grid : List ℤ
  pub is_grid : IsGrid c grid
  pub hot_parts : AreParts c.streams c.utilities grid Hot hot
  pub cold_parts : AreParts c.streams c.utilities grid Cold cold
