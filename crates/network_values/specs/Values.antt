-- What each branch of a network carries: its size and its state.
use Rattle.std.specs.Prelude.{◌≡◌, ℕ, ◌<◌, ◌≤◌, pos, ◌+ℤ◌, Bool, false, IsTrue, List, [], ◌∷◌, length, map, take, All, Contains, Option, Some, None, slice_get, slice_index_or, unwrap_or, if◌then◌else◌}
use Rattle.std.specs.List.{flat_map}
use Rattle.std.specs.Option.{option_map_or}
use Rattle.stream_case.specs.Case.{side_of}
use Rattle.stream_case.specs.Stream.{is_latent}
use Rattle.stream_case.specs.declared.case.Case.{Case}
use Rattle.stream_case.specs.declared.source.Side.{Side}
use Rattle.stream_case.specs.declared.source.Side.TheVariants as side
use Rattle.stream_case.specs.declared.source.Source.TheVariants as source
use Rattle.stream_case.specs.declared.stream.Stream.{Stream}
use Rattle.fractions.specs.Rationals.{IsAtMost, IsBelow, Rational, minus, plus, rational_zero, times, whole}
use Rattle.networks.specs.Lines.{Exchanger, exchangers_of, stream_at}
use Rattle.networks.specs.Shape.{HasShape, made_before}
use Rattle.networks.specs.declared.network.Line.{Line}
use Rattle.networks.specs.declared.network.Line.TheVariants as line
use Rattle.networks.specs.declared.network.Network.{Network}
use Rattle.network_values.specs.declared.values.BranchValue.{BranchValue}

-- ---- streams

-- the full size of a stream is its heat-capacity flow or its load: one of the two is 0
abbrev pub full_size : Stream → Rational
full_size s = whole (s.cp +ℤ s.load)

-- the part of a latent stream's load that is still to be given (hot), or was taken already (cold)
abbrev pub first_part_of_load : Side → Rational
first_part_of_load side.Hot = whole (pos 1)
first_part_of_load side.Cold = rational_zero

abbrev pub last_part_of_load : Side → Rational
last_part_of_load side.Hot = rational_zero
last_part_of_load side.Cold = whole (pos 1)

-- the states of a sensible stream are its temperatures, those of a latent one parts of its load
abbrev pub first_state : Stream → Rational
first_state s = if is_latent s then first_part_of_load s.side else whole s.supply

abbrev pub last_state : Stream → Rational
last_state s = if is_latent s then last_part_of_load s.side else whole s.target

-- what its own branch carries, and what it carries where it ends
abbrev pub first_value : Stream → BranchValue
first_value s = record { cp = full_size s; t = first_state s }

abbrev pub last_value : Stream → BranchValue
last_value s = record { cp = full_size s; t = last_state s }

-- ---- valuations

-- what branches carry, by their numbers
abbrev pub Valuation : Type 0
Valuation = List BranchValue

-- nothing, of which no rule speaks
abbrev pub no_value : BranchValue
no_value = record { cp = rational_zero; t = rational_zero }

abbrev pub value_at : Valuation → ℕ → BranchValue
value_at values number = slice_index_or values number no_value

-- the side of the stream of a branch; hot, of which no rule speaks, where there is none
unfoldable pub branch_side : Case → Network → ℕ → Side
branch_side case network number = unwrap_or (side_of case (source.Stream (stream_at network.branches number))) side.Hot

-- whether the stream of a branch is latent; not, of which no rule speaks, where there is none
unfoldable pub is_latent_branch : Case → Network → ℕ → Bool
is_latent_branch case network number =
    option_map_or is_latent (slice_get case.streams (stream_at network.branches number)) false

-- the duty of the exchanger with a number; 0, of which no rule speaks, where there is none
abbrev pub duty_of : Option Exchanger → Rational
duty_of (Some e) = e.duty
duty_of None = rational_zero

unfoldable pub duty_at : Network → ℕ → Rational
duty_at network number = duty_of (slice_get (exchangers_of network.lines) number)

-- how far a state falls on the hot side, or rises on the cold side
abbrev pub change : Side → Rational → Rational → Rational
change side.Hot before after = minus before after
change side.Cold before after = minus after before

-- the first part has the given size, the sizes add up, and the state stays
pub record IsSplit (from first second : BranchValue) (cp : Rational) : Type 0 where
  pub first_size : first.cp ≡ cp
  pub sizes : plus first.cp second.cp ≡ from.cp
  pub first_state : first.t ≡ from.t
  pub second_state : second.t ≡ from.t

-- the size stays, and size times the change of the state is the duty
pub record IsPass (side : Side) (duty : Rational) (from to : BranchValue) : Type 0 where
  pub size : to.cp ≡ from.cp
  pub heat : times from.cp (change side from.t to.t) ≡ duty

-- sizes add up, and so do sizes times states
pub record IsMix (first second to : BranchValue) : Type 0 where
  pub size : to.cp ≡ plus first.cp second.cp
  pub heat : times to.cp to.t ≡ plus (times first.cp first.t) (times second.cp second.t)

abbrev pub Solves : Case → Network → Valuation → Line → Type 0
Solves case network values (line.Exchanger name hot cold duty) = Unit {0}
Solves case network values (line.Split from first cp second) =
    IsSplit (value_at values from) (value_at values first) (value_at values second) cp
Solves case network values (line.Pass from exchanger to) =
    IsPass (branch_side case network from) (duty_at network exchanger) (value_at values from) (value_at values to)
Solves case network values (line.Mix first second to) =
    IsMix (value_at values first) (value_at values second) (value_at values to)
Solves case network values (line.End branch) = Unit {0}

-- each branch that the first n lines have made has a size above 0 and a state that solve their equations
pub record IsValuation (case : Case) (network : Network) (n : ℕ) (values : Valuation) : Type 0 where
  pub within : n ≤ length network.lines
  pub count : length values ≡ made_before case network n
  pub own : take (length case.streams) values ≡ map first_value case.streams
  pub positive : All (λ v. IsBelow rational_zero v.cp) values
  pub solved : All (Solves case network values) (take n network.lines)

-- the same of all lines
abbrev pub IsWholeValuation : Case → Network → Valuation → Type 0
IsWholeValuation case network values = IsValuation case network (length network.lines) values

-- ---- states of latent branches

-- a part of a load is from 0 to 1
pub record IsPartOfLoad (state : Rational) : Type 0 where
  pub least : IsAtMost rational_zero state
  pub most : IsAtMost state (whole (pos 1))

abbrev pub KeepsLoad : Case → Network → Valuation → ℕ → Type 0
KeepsLoad case network values branch =
    IsTrue (is_latent_branch case network branch) → IsPartOfLoad (value_at values branch).t

-- each latent branch has such a state
abbrev pub KeepLoads : Case → Network → Valuation → Type 0
KeepLoads case network values = (branch : ℕ) → branch < length values → KeepsLoad case network values branch

-- the branch behind a pass does
abbrev pub PassKeepsLoad : Case → Network → Valuation → Line → Type 0
PassKeepsLoad case network values (line.Exchanger name hot cold duty) = Unit {0}
PassKeepsLoad case network values (line.Split from first cp second) = Unit {0}
PassKeepsLoad case network values (line.Pass from exchanger to) = KeepsLoad case network values to
PassKeepsLoad case network values (line.Mix first second to) = Unit {0}
PassKeepsLoad case network values (line.End branch) = Unit {0}

-- where each pass does, each branch does: streams begin so, splits keep the state, and that of a mix is a mean
abbrev pub LoadsAreKept : Type 0
LoadsAreKept =
    (case : Case) (network : Network) (n : ℕ) (values : Valuation) → HasShape case network
    → IsValuation case network n values
    → All (PassKeepsLoad case network values) (take n network.lines) → KeepLoads case network values

-- ---- ends

-- the branches that a line ends
abbrev pub ends : Line → List ℕ
ends (line.Exchanger name hot cold duty) = []
ends (line.Split from first cp second) = []
ends (line.Pass from exchanger to) = []
ends (line.Mix first second to) = []
ends (line.End branch) = branch ∷ []

-- in order, by all lines, and the streams of them
unfoldable pub ended_by : List Line → List ℕ
ended_by lines = flat_map ends lines

unfoldable pub ended_streams : Network → List ℕ
ended_streams network = map (stream_at network.branches) (ended_by network.lines)

-- a branch carries the whole stream in its last state
abbrev pub IsFullEnd : Case → Network → Valuation → ℕ → Type 0
IsFullEnd case network values branch =
    (s : Stream) → slice_get case.streams (stream_at network.branches branch) ≡ Some s
    → value_at values branch ≡ last_value s

-- each end is a full one, and each stream has one
pub record AreEnded (case : Case) (network : Network) (values : Valuation) : Type 0 where
  pub full : All (IsFullEnd case network values) (ended_by network.lines)
  pub each : (stream : ℕ) → stream < length case.streams → Contains (ended_streams network) stream
