-- The sources of a case; valid, completed and standard cases.
use Rattle.std.specs.Prelude.{◌≡◌, ◌≢◌, ◌⊎◌, ℕ, ℤ, pos, ◌+ℤ◌, ◌-ℤ◌, ◌<◌, ◌≤◌, Bool, ◌&&◌, if◌then◌else◌, List, [], ◌∷◌, ◌++◌, length, map, fold, position, All, AllPairs, Option, Some, None, option_map, slice_get, take, ◌-◌, codes}
use Rattle.std.specs.Int.{int_max, int_min}
use Rattle.std.specs.List.{list_any}
use Rattle.std.specs.Option.{option_map_or}
use Rattle.std.specs.Str.{bytes_eq}
use Rattle.stream_case.specs.declared.source.Side.{Side}
use Rattle.stream_case.specs.declared.source.Side.TheVariants.{Hot, Cold}
use Rattle.stream_case.specs.declared.source.Source.{Source}
use Rattle.stream_case.specs.declared.source.Source.TheVariants.{Stream as of_stream, Utility as of_utility}
use Rattle.stream_case.specs.declared.stream.Stream.{Stream}
use Rattle.stream_case.specs.declared.utility.Utility.{Utility}
use Rattle.stream_case.specs.declared.case.Forbid.{Forbid}
use Rattle.stream_case.specs.declared.case.Case.{Case}
use Rattle.stream_case.specs.declared.limits.TheConstants.{MOST_UTILITIES, MOST_FORBIDS, MOST_HEAT}
use Rattle.stream_case.specs.Limits.{IsContribution}
use Rattle.stream_case.specs.Source.{is_side, same_side, same_source}
use Rattle.stream_case.specs.Stream.{stream_ends, HasValidStreams}
use Rattle.stream_case.specs.Utility.{IsValidUtility}

-- ---- the sources of a case

abbrev pub IsSourceOf : Case → Source → Type 0
IsSourceOf c (of_stream i) = i < length c.streams
IsSourceOf c (of_utility i) = i < length c.utilities

-- the side of a source among these streams and utilities, if it is one of them
abbrev pub side_among : List Stream → List Utility → Source → Option Side
side_among streams utilities (of_stream i) = option_map (λ s. s.side) (slice_get streams i)
side_among streams utilities (of_utility i) = option_map (λ u. u.side) (slice_get utilities i)

-- the same of a case
abbrev pub side_of : Case → Source → Option Side
side_of c source = side_among c.streams c.utilities source

-- the source is on the side
unfoldable pub is_on : Case → Side → Source → Bool
is_on c of source = is_side of (side_of c source)

-- the name of a source of the case; nothing where it has no such source
abbrev pub source_name : Case → Source → List ℕ
source_name c (of_stream i) = option_map_or (λ s. s.name) (slice_get c.streams i) []
source_name c (of_utility i) = option_map_or (λ u. u.name) (slice_get c.utilities i) []

-- the index of the first stream with a name, and of the first utility
abbrev pub stream_named : Case → List ℕ → Option ℕ
stream_named c name = position (λ s. bytes_eq name s.name) c.streams

abbrev pub utility_named : Case → List ℕ → Option ℕ
utility_named c name = position (λ u. bytes_eq name u.name) c.utilities

-- the source that was found at an index among the streams, or else at one among the utilities
abbrev pub first_source : Option ℕ → Option ℕ → Option Source
first_source (Some i) utility = Some (of_stream i)
first_source None (Some i) = Some (of_utility i)
first_source None None = None

-- the source of the case with a name
unfoldable pub source_named : Case → List ℕ → Option Source
source_named c name = first_source (stream_named c name) (utility_named c name)

-- the names of its streams, then those of its utilities
abbrev pub names_of : Case → List (List ℕ)
names_of c = map (λ s. s.name) c.streams ++ map (λ u. u.name) c.utilities

-- the pair of sources is a forbidden match
abbrev pub is_forbidden : List Forbid → Source → Source → Bool
is_forbidden forbids hot cold = list_any (λ f. same_source f.hot hot && same_source f.cold cold) forbids

-- ---- valid cases

-- the case with these utilities in place of its own
abbrev pub with_utilities : Case → List Utility → Case
with_utilities c utilities = record c { utilities = utilities }

-- it joins a hot source with a cold one
abbrev pub IsValidForbid : Case → Forbid → Type 0
IsValidForbid c f = (side_of c f.hot ≡ Some Hot) × (side_of c f.cold ≡ Some Cold)

-- no stream has the name of a standard utility
abbrev pub IsUnreserved : List ℕ → Type 0
IsUnreserved name = (name ≢ codes "HOT") × (name ≢ codes "COLD")

-- and a utility only that of its own side
abbrev pub IsRightlyNamed : Utility → Type 0
IsRightlyNamed u = (u.name ≡ codes "HOT" → u.side ≡ Hot) × (u.name ≡ codes "COLD" → u.side ≡ Cold)

-- a case that the case grammar can give
pub record IsValid (c : Case) : Type 0 where
  pub contribution : IsContribution c.contribution
  pub streams : HasValidStreams c.streams
  pub utilities : All IsValidUtility c.utilities
  pub few_utilities : length c.utilities ≤ MOST_UTILITIES
  pub distinct_names : AllPairs (λ a b. a ≢ b) (names_of c)
  pub stream_names : All (λ s. IsUnreserved s.name) c.streams
  pub utility_names : All IsRightlyNamed c.utilities
  pub forbids : All (IsValidForbid c) c.forbids
  pub few_forbids : length c.forbids ≤ MOST_FORBIDS
  pub distinct_forbids : AllPairs (λ f g. f ≢ g) c.forbids

-- ---- completion

-- the greatest and the least of a list that is not empty
abbrev pub greatest : List ℤ → ℤ
greatest [] = pos 0
greatest (x ∷ xs) = fold int_max x xs

abbrev pub least : List ℤ → ℤ
least [] = pos 0
least (x ∷ xs) = fold int_min x xs

-- the outer one of two temperatures on a side, and the outermost one of a list: outward is up for hot and down for cold
abbrev pub outer_of : Side → ℤ → ℤ → ℤ
outer_of Hot = int_max
outer_of Cold = int_min

abbrev pub outermost : Side → List ℤ → ℤ
outermost Hot xs = greatest xs
outermost Cold xs = least xs

-- the utility of a case that gives none on a side: its shifted level is the outermost stream end
abbrev pub standard_utility : Side → Case → Utility
standard_utility Hot c = record {
  name = codes "HOT";
  side = Hot;
  level = greatest (stream_ends c.streams) +ℤ c.contribution;
  least = pos 0;
  most = MOST_HEAT;
  price = pos 1;
  contribution = c.contribution;
}
standard_utility Cold c = record {
  name = codes "COLD";
  side = Cold;
  level = least (stream_ends c.streams) -ℤ c.contribution;
  least = pos 0;
  most = MOST_HEAT;
  price = pos 0;
  contribution = c.contribution;
}

-- whether a utility is on a side
abbrev pub has_utility : Side → List Utility → Bool
has_utility side utilities = list_any (λ u. same_side u.side side) utilities

-- the standard utility of a side, if no utility is on it
abbrev pub unless_given : Side → Case → List Utility
unless_given side c = if has_utility side c.utilities then [] else standard_utility side c ∷ []

abbrev pub completed : Case → Case
completed c = with_utilities c ((c.utilities ++ unless_given Hot c) ++ unless_given Cold c)

-- the case without its last utilities, n of them
abbrev pub without_last : Case → ℕ → Case
without_last c n = with_utilities c (take (length c.utilities - n) c.utilities)

-- what completion makes of some valid case
abbrev pub IsComplete : Case → Type 0
IsComplete c = (k : Case) × IsValid k × (c ≡ completed k)

-- a completed case with no forbidden match, and with just the two standard utilities
pub record IsStandard (c : Case) : Type 0 where
  pub free : c.forbids ≡ []
  pub utilities : (c.utilities ≡ standard_utility Hot c ∷ standard_utility Cold c ∷ [])
      ⊎ (c.utilities ≡ standard_utility Cold c ∷ standard_utility Hot c ∷ [])
