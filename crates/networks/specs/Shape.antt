-- The shape of a network: what the grammar asks of it but the two counts, said of its branches and lines.
use Rattle.std.specs.Prelude.{◌≡◌, ◌≢◌, ℕ, pos, ◌-◌, ◌+◌, ◌<◌, ◌≤◌, ◌<ℤ◌, ◌⊎◌, List, length, take, count_by, All, AllPairs, Some, slice_get}
use Rattle.std.specs.List.{range_with_len}
use Rattle.stream_case.specs.Case.{IsSourceOf, side_of}
use Rattle.stream_case.specs.Name.{IsAnyName, IsName}
use Rattle.stream_case.specs.declared.case.Case.{Case}
use Rattle.stream_case.specs.declared.source.Side.TheVariants as side
use Rattle.stream_case.specs.declared.source.Source.TheVariants as source
use Rattle.fractions.specs.Rationals.{IsWithinLimits, Rational}
use Rattle.networks.specs.Lines.{Exchanger, exchangers_of, made_by, names_of, own_branches, passages_of, same_passage, stream_at, used_by, uses}
use Rattle.networks.specs.declared.limits.TheConstants.{MOST_EXCHANGERS, MOST_LINES, MOST_STATEMENTS}
use Rattle.networks.specs.declared.network.Branch.{Branch}
use Rattle.networks.specs.declared.network.Line.{Line}
use Rattle.networks.specs.declared.network.Line.TheVariants as line
use Rattle.networks.specs.declared.network.Network.{Network}

-- ---- branches

-- the streams' own branches come first, and each further branch is made by one line, in the order of the numbers
pub record AreMadeInOrder (case : Case) (network : Network) : Type 0 where
  pub own : take (length case.streams) network.branches ≡ own_branches case
  pub made : made_by network.lines
      ≡ range_with_len (length case.streams) (length network.branches - length case.streams)

-- how many branches there are before the line at an index
abbrev pub made_before : Case → Network → ℕ → ℕ
made_before case network index = length case.streams + length (made_by (take index network.lines))

-- a line uses branches that were made before it
abbrev pub AreMadeBeforeUse : Case → Network → Type 0
AreMadeBeforeUse case network =
    (index : ℕ) (l : Line) → slice_get network.lines index ≡ Some l
    → All (λ b. b < made_before case network index) (uses l)

-- each branch is used at most once
abbrev pub AreUsedOnce : Network → Type 0
AreUsedOnce network = AllPairs (λ a b. a ≢ b) (used_by network.lines)

-- the names are names or dotted names, and differ
pub record AreNamed (network : Network) : Type 0 where
  pub names : All IsAnyName (names_of network.branches)
  pub distinct : AllPairs (λ a b. a ≢ b) (names_of network.branches)

-- the branches of one line are branches of one stream
abbrev pub IsOfOneStream : List Branch → Line → Type 0
IsOfOneStream branches (line.Exchanger name hot cold duty) = Unit {0}
IsOfOneStream branches (line.Split from first size second) = (stream_at branches first ≡ stream_at branches from)
    × (stream_at branches second ≡ stream_at branches from)
IsOfOneStream branches (line.Pass from exchanger to) = stream_at branches to ≡ stream_at branches from
IsOfOneStream branches (line.Mix first second to) =
    (stream_at branches second ≡ stream_at branches first) × (stream_at branches to ≡ stream_at branches first)
IsOfOneStream branches (line.End branch) = Unit {0}

-- ---- exchangers

-- a duty or a size: a fraction above 0
pub record IsPositive (a : Rational) : Type 0 where
  pub above : pos 0 <ℤ a.num
  pub within : IsWithinLimits a

-- an undotted name, a hot source and a cold one of the case, and a duty above 0
pub record IsExchanger (case : Case) (exchanger : Exchanger) : Type 0 where
  pub name : IsName exchanger.name
  pub hot : side_of case exchanger.hot ≡ Some side.Hot
  pub cold : side_of case exchanger.cold ≡ Some side.Cold
  pub duty : IsPositive exchanger.duty

pub record AreExchangers (case : Case) (network : Network) : Type 0 where
  pub each : All (IsExchanger case) (exchangers_of network.lines)
  pub distinct : AllPairs (λ a b. a.name ≢ b.name) (exchangers_of network.lines)

abbrev pub HasPositiveSize : Line → Type 0
HasPositiveSize (line.Exchanger name hot cold duty) = Unit {0}
HasPositiveSize (line.Split from first size second) = IsPositive size
HasPositiveSize (line.Pass from exchanger to) = Unit {0}
HasPositiveSize (line.Mix first second to) = Unit {0}
HasPositiveSize (line.End branch) = Unit {0}

-- ---- passes

-- the exchanger has a side of the stream
abbrev pub Joins : Exchanger → ℕ → Type 0
Joins exchanger stream = (exchanger.hot ≡ source.Stream stream) ⊎ (exchanger.cold ≡ source.Stream stream)

-- a branch passes an exchanger that was declared before, on the side of its stream
abbrev pub PassesDeclared : List Branch → List Exchanger → Line → Type 0
PassesDeclared branches declared (line.Exchanger name hot cold duty) = Unit {0}
PassesDeclared branches declared (line.Split from first size second) = Unit {0}
PassesDeclared branches declared (line.Pass from exchanger to) =
    (e : Exchanger) × (slice_get declared exchanger ≡ Some e) × Joins e (stream_at branches from)
PassesDeclared branches declared (line.Mix first second to) = Unit {0}
PassesDeclared branches declared (line.End branch) = Unit {0}

abbrev pub ArePassedWhenDeclared : Network → Type 0
ArePassedWhenDeclared network = (index : ℕ) (l : Line) → slice_get network.lines index ≡ Some l
    → PassesDeclared network.branches (exchangers_of (take index network.lines)) l

-- how many lines lead a branch of the stream through the exchanger with this number
abbrev pub passes : Network → ℕ → ℕ → ℕ
passes network exchanger stream =
    count_by (same_passage (record { exchanger = exchanger; stream = stream })) (passages_of network.branches network.lines)

-- each side of an exchanger that is a stream is passed exactly once
abbrev pub ArePassedOnce : Network → Type 0
ArePassedOnce network =
    (number stream : ℕ) (e : Exchanger) → slice_get (exchangers_of network.lines) number ≡ Some e → Joins e stream
    → passes network number stream ≡ 1

-- ---- what lines name

-- the sources, branches and exchangers of a line are there
abbrev pub NamesKnown : Case → Network → Line → Type 0
NamesKnown case network (line.Exchanger name hot cold duty) = IsSourceOf case hot × IsSourceOf case cold
NamesKnown case network (line.Split from first size second) =
    (from < length network.branches) × (first < length network.branches)
    × (second < length network.branches)
NamesKnown case network (line.Pass from exchanger to) =
    (from < length network.branches) × (exchanger < length (exchangers_of network.lines))
    × (to < length network.branches)
NamesKnown case network (line.Mix first second to) =
    (first < length network.branches) × (second < length network.branches) × (to < length network.branches)
NamesKnown case network (line.End branch) = branch < length network.branches

-- ---- the shape

pub record HasShape (case : Case) (network : Network) : Type 0 where
  pub few : length network.lines ≤ MOST_LINES
  pub made_once : AreMadeInOrder case network
  pub made_first : AreMadeBeforeUse case network
  pub used_once : AreUsedOnce network
  pub named : AreNamed network
  pub streams : All (λ b. b.stream < length case.streams) network.branches
  pub one_stream : All (IsOfOneStream network.branches) network.lines
  pub sizes : All HasPositiveSize network.lines
  pub exchangers : AreExchangers case network
  pub declared_first : ArePassedWhenDeclared network
  pub passed_once : ArePassedOnce network

-- the two counts of a text, which are no part of the shape
pub record KeepsCounts (network : Network) : Type 0 where
  pub lines : length network.lines ≤ MOST_STATEMENTS
  pub exchangers : length (exchangers_of network.lines) ≤ MOST_EXCHANGERS
