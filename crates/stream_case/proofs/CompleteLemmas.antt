-- What a completed case keeps of a valid one.
use Rattle.std.proofs.Common.{All, AllPairs, List, None, Option, Some, [], ap, arith, false, get_or, if◌then◌else◌, length, lit≤, map, refl, subst, sym, true}
use Rattle.std.proofs.Common.{ℕ, ℤ, ◌++◌, ◌∙◌, ◌∷◌, ◌≡◌, ◌≢◌, ◌≤◌}
use Rattle.stream_case.proofs.Words.{ALL_UTILITIES, All-append, All-cons, All-from_recursion, All-map, All-nil, All-weaker, AreStreams, Case, Cold, Forbid}
use Rattle.stream_case.proofs.Words.{HasValidStreams, Hot, IsContribution, IsLevel, IsName, IsPlaced, IsShifted, IsTemperature, IsTrue, IsValidStream}
use Rattle.stream_case.proofs.Words.{IsValidUtility, MOST_FORBIDS, Side, Source, Utility, all_pairs_push, append-nil, append_assoc, codes, false≢true, ints}
use Rattle.stream_case.proofs.Words.{is_name_byte, length-append, list_any_at, map-append, names_of, option_map, outermost, same_side, shifted, shifted_level}
use Rattle.stream_case.proofs.Words.{side_of, slice_get, standard_utility, stream_ends, with_utilities}
use Rattle.stream_case.proofs.EndLemmas.{outermost-between}
use Rattle.stream_case.proofs.ListLemmas.{slice_get-append}
use Rattle.stream_case.proofs.SourceLemmas.{own_side}
use Rattle.stream_case.specs.Case.{IsComplete, IsRightlyNamed, IsUnreserved, IsValid, IsValidForbid, completed, has_utility, unless_given}
use Rattle.stream_case.specs.declared.source.Source.TheVariants.{Stream as of_stream, Utility as of_utility}

-- a utility of a completed case: its level may lie outside the range of a file
pub record IsUtility (u : Utility) : Type 0 where
  pub name : IsName u.name
  pub level : IsLevel u.level
  pub placed : IsPlaced u
  pub contribution : IsContribution u.contribution

-- what holds of each completed case
pub record StaysValid (c : Case) : Type 0 where
  pub contribution : IsContribution c.contribution
  pub streams : HasValidStreams c.streams
  pub utilities : All IsUtility c.utilities
  pub few_utilities : length c.utilities ≤ ALL_UTILITIES
  pub names : All IsName (names_of c)
  pub distinct_names : AllPairs (λ a b. a ≢ b) (names_of c)
  pub forbids : All (IsValidForbid c) c.forbids
  pub few_forbids : length c.forbids ≤ MOST_FORBIDS
  pub distinct_forbids : AllPairs (λ f g. f ≢ g) c.forbids

-- ---- the utilities

IsShifted-shifted : (side : Side) (level contribution : ℤ) → IsTemperature level
    → IsContribution contribution → IsShifted (shifted side level contribution)
IsShifted-shifted Hot level contribution l c = omega (arith, ints)
IsShifted-shifted Cold level contribution l c = omega (arith, ints)

pub IsUtility-IsValidUtility : (u : Utility) → IsValidUtility u → IsUtility u
IsUtility-IsValidUtility u h =
    let level = h.level in record {
      name = h.name;
      level = omega (arith, ints);
      placed =
          record { level = IsShifted-shifted u.side u.level u.contribution h.level h.contribution; least = h.least; most = h.most; price = h.price };
      contribution = h.contribution;
    }

IsName-standard : (side : Side) (c : Case) → IsName (standard_utility side c).name
IsName-standard Hot c =
    (refl, All-from_recursion (λ x. IsTrue (is_name_byte x)) (codes "OT") (refl, (refl, tt)), lit≤ tt)
IsName-standard Cold c =
    (refl, All-from_recursion (λ x. IsTrue (is_name_byte x)) (codes "OLD") (refl, (refl, (refl, tt))), lit≤ tt)

pub shifted_level-standard : (side : Side) (c : Case)
    → shifted_level (standard_utility side c) ≡ outermost side (stream_ends c.streams)
shifted_level-standard Hot c = omega (arith, ints)
shifted_level-standard Cold c = omega (arith, ints)

-- the standard utilities of valid streams
IsUtility-standard : (side : Side) (c : Case) → All IsValidStream c.streams → IsContribution c.contribution
    → IsUtility (standard_utility side c)
IsUtility-standard side c each own =
    let end = outermost-between side c.streams each in
    let placed = subst IsShifted (sym (shifted_level-standard side c)) end in
    by side end placed
  where
    by : (side : Side) → IsShifted (outermost side (stream_ends c.streams))
        → IsShifted (shifted_level (standard_utility side c))
        → IsUtility (standard_utility side c)
    by Hot end placed = record {
      name = IsName-standard Hot c;
      level = omega (arith, ints);
      placed =
          record { level = placed; least = omega (arith, ints); most = omega (arith, ints); price = omega (arith, ints) };
      contribution = own;
    }
    by Cold end placed = record {
      name = IsName-standard Cold c;
      level = omega (arith, ints);
      placed =
          record { level = placed; least = omega (arith, ints); most = omega (arith, ints); price = omega (arith, ints) };
      contribution = own;
    }

-- a fact of what is added, from the two cases
unless_given-elim : (Q : List Utility → Type 0) (side : Side) (c : Case) → (has_utility side c.utilities ≡ true → Q [])
    → (has_utility side c.utilities ≡ false → Q (standard_utility side c ∷ [])) → Q (unless_given side c)
unless_given-elim Q side c given absent = let answer = has_utility side c.utilities in
    (elim answer as (λ b. answer ≡ b → Q (if b then [] else standard_utility side c ∷ [])) [ true ↦ given | false ↦ absent ]) refl

-- no utility on a side
none_on : (side : Side) (us : List Utility) → has_utility side us ≡ false → All (λ u. u.side ≢ side) us
none_on side us absent k d within same =
    false≢true (sym absent ∙ list_any_at (λ u. same_side u.side side) us k d within (ap (λ s. same_side s side) same ∙ own_side side))

-- a case with no utility on either side has none
none_at_all : (us : List Utility) → has_utility Hot us ≡ false → has_utility Cold us ≡ false → us ≡ []
none_at_all [] hot cold = refl
none_at_all (u ∷ us) hot cold =
    absurd (neither u.side (none_on Hot (u ∷ us) hot 0 u (omega arith)) (none_on Cold (u ∷ us) cold 0 u (omega arith)))
  where
    neither : (side : Side) → side ≢ Hot → side ≢ Cold → ⊥
    neither Hot a b = a refl
    neither Cold a b = b refl

-- at most one utility more than the limit: with none given there are two
few-completed : (c : Case) → IsValid c → length (completed c).utilities ≤ ALL_UTILITIES
few-completed c h =
    let us = c.utilities in
    let few = h.few_utilities in
    unless_given-elim (λ xs. length ((us ++ xs) ++ unless_given Cold c) ≤ ALL_UTILITIES) Hot c
    (λ _. unless_given-elim (λ ys. length ((us ++ []) ++ ys) ≤ ALL_UTILITIES) Cold c (λ _. omega (arith, length-append {A = Utility}))
    (λ _. omega (arith, length-append {A = Utility})))
    (λ no_hot. unless_given-elim (λ ys. length ((us ++ standard_utility Hot c ∷ []) ++ ys) ≤ ALL_UTILITIES) Cold c
    (λ _. omega (arith, length-append {A = Utility}))
    (λ no_cold. let none = ap length (none_at_all us no_hot no_cold) in omega (arith, length-append {A = Utility})))

-- ---- the names

unreserved : (side : Side) (c : Case) (name : List ℕ) → IsUnreserved name → name ≢ (standard_utility side c).name
unreserved Hot c name h = h.0
unreserved Cold c name h = h.1

rightly_named : (side : Side) (c : Case) (u : Utility) → IsRightlyNamed u
    → u.name ≡ (standard_utility side c).name → u.side ≡ side
rightly_named Hot c u h = h.0
rightly_named Cold c u h = h.1

-- where no utility is on a side none has the name of its standard one
name-free : (side : Side) (c : Case) → IsValid c → has_utility side c.utilities ≡ false
    → All (λ n. n ≢ (standard_utility side c).name) (names_of c)
name-free side c h absent =
    let P = λ (n : List ℕ). n ≢ (standard_utility side c).name in
    let none = none_on side c.utilities absent in
    All-append P (map (λ s. s.name) c.streams) (map (λ u. u.name) c.utilities)
    (All-map P (λ s. s.name) c.streams (λ k d within. unreserved side c (get_or c.streams k d).name (h.stream_names k d within)))
    (All-map P (λ u. u.name) c.utilities (λ k d within same. none k d within (rightly_named side c (get_or c.utilities k d) (h.utility_names k d within) same)))

-- names stay distinct where an added utility has a new one
distinct-added : (names : List (List ℕ)) (side : Side) (c : Case) → AllPairs (λ a b. a ≢ b) names
    → (has_utility side c.utilities ≡ false → All (λ n. n ≢ (standard_utility side c).name) names)
    → AllPairs (λ a b. a ≢ b) (names ++ map (λ v. v.name) (unless_given side c))
distinct-added names side c distinct new =
    let P : List (List ℕ) → Type 0 = λ ns. AllPairs (λ a b. a ≢ b) ns in
    unless_given-elim (λ xs. P (names ++ map (λ v. v.name) xs)) side c (λ _. subst P (sym (append-nil names)) distinct)
    (λ absent. all_pairs_push (λ a b. a ≢ b) names (standard_utility side c).name distinct (new absent))

-- the names with further utilities
names_of-append : (c : Case) (more : List Utility)
    → names_of (with_utilities c (c.utilities ++ more)) ≡ names_of c ++ map (λ u. u.name) more
names_of-append c more =
    ap (λ ns. map (λ s. s.name) c.streams ++ ns) (map-append (λ (u : Utility). u.name) c.utilities more)
    ∙ sym (append_assoc (map (λ s. s.name) c.streams) (map (λ u. u.name) c.utilities) (map (λ u. u.name) more))

distinct-completed : (c : Case) → IsValid c → AllPairs (λ a b. a ≢ b) (names_of (completed c))
distinct-completed c h =
    let us = c.utilities in
    let hot = unless_given Hot c in
    let cold = unless_given Cold c in
    let P : List (List ℕ) → Type 0 = λ ns. AllPairs (λ a b. a ≢ b) ns in
    let other = λ (n : List ℕ). n ≢ codes "COLD" in
    let first = distinct-added (names_of c) Hot c h.distinct_names (name-free Hot c h) in
    let apart = unless_given-elim (λ xs. All other (map (λ u. u.name) xs)) Hot c (λ _. All-nil other)
    (λ _. All-cons other (codes "HOT") [] (λ e. absurd (omega (arith, ap length e))) (All-nil other)) in
    let both = distinct-added (names_of c ++ map (λ u. u.name) hot) Cold c first
    (λ absent. All-append other (names_of c) (map (λ u. u.name) hot) (name-free Cold c h absent) apart) in
    subst P (sym (names_of-append (with_utilities c (us ++ hot)) cold ∙ ap (λ ns. ns ++ map (λ u. u.name) cold) (names_of-append c hot))) both

-- ---- the forbidden matches

-- a source that a case has keeps its side where utilities are added
side_at-append : (us more : List Utility) (i : ℕ) (side : Side) → option_map (λ u. u.side) (slice_get us i) ≡ Some side
    → option_map (λ u. u.side) (slice_get (us ++ more) i) ≡ Some side
side_at-append us more i side h = by (slice_get us i) refl
  where
    by : (o : Option Utility) → slice_get us i ≡ o → option_map (λ u. u.side) (slice_get (us ++ more) i) ≡ Some side
    by None at = cc (rw at at h)
    by (Some u) at = ap (option_map (λ u. u.side)) (slice_get-append us more i u at) ∙ rw at at h

side_of-append : (c : Case) (more : List Utility) (source : Source) (side : Side) → side_of c source ≡ Some side
    → side_of (with_utilities c (c.utilities ++ more)) source ≡ Some side
side_of-append c more (of_stream i) side h = h
side_of-append c more (of_utility i) side h = side_at-append c.utilities more i side h

forbid-append : (c : Case) (more : List Utility) (f : Forbid) → IsValidForbid c f
    → IsValidForbid (with_utilities c (c.utilities ++ more)) f
forbid-append c more f h = (side_of-append c more f.hot Hot h.0, side_of-append c more f.cold Cold h.1)

-- ---- the whole case

All-added : (side : Side) (c : Case) → All IsValidStream c.streams → IsContribution c.contribution
    → All IsUtility (unless_given side c)
All-added side c each own = unless_given-elim (All IsUtility) side c (λ _. All-nil IsUtility)
    (λ _. All-cons IsUtility (standard_utility side c) [] (IsUtility-standard side c each own) (All-nil IsUtility))

pub StaysValid-completed : (c : Case) → IsValid c → StaysValid (completed c)
StaysValid-completed c h =
    let us = c.utilities in
    let hot = unless_given Hot c in
    let cold = unless_given Cold c in
    let each = h.streams.are_streams.each in
    let all_utilities = All-append IsUtility (us ++ hot) cold
    (All-append IsUtility us hot (All-weaker IsValidUtility IsUtility IsUtility-IsValidUtility us h.utilities) (All-added Hot c each h.contribution))
    (All-added Cold c each h.contribution) in record {
      contribution = h.contribution;
      streams = h.streams;
      utilities = all_utilities;
      few_utilities = few-completed c h;
      names = All-append IsName (map (λ s. s.name) c.streams) (map (λ u. u.name) ((us ++ hot) ++ cold))
          (All-map IsName (λ s. s.name) c.streams (All-weaker IsValidStream (λ s. IsName s.name) (λ s k. k.name) c.streams each))
          (All-map IsName (λ u. u.name) ((us ++ hot) ++ cold) (All-weaker IsUtility (λ u. IsName u.name) (λ u k. k.name) ((us ++ hot) ++ cold) all_utilities));
      distinct_names = distinct-completed c h;
      forbids = All-weaker (IsValidForbid c) (IsValidForbid (completed c))
          (λ f k. forbid-append (with_utilities c (us ++ hot)) cold f (forbid-append c hot f k)) c.forbids h.forbids;
      few_forbids = h.few_forbids;
      distinct_forbids = h.distinct_forbids;
    }

pub StaysValid-IsComplete : (c : Case) → IsComplete c → StaysValid c
StaysValid-IsComplete c h = subst StaysValid (sym h.2) (StaysValid-completed h.0 h.1)

pub HasValidStreams-IsComplete : (c : Case) → IsComplete c → HasValidStreams c.streams
HasValidStreams-IsComplete c h = (StaysValid-IsComplete c h).streams

pub AreStreams-IsComplete : (c : Case) → IsComplete c → AreStreams c.streams
AreStreams-IsComplete c h = (HasValidStreams-IsComplete c h).are_streams

pub IsPlaced-IsComplete : (c : Case) → IsComplete c → All IsPlaced c.utilities
IsPlaced-IsComplete c h =
    All-weaker IsUtility IsPlaced (λ u k. k.placed) c.utilities (StaysValid-IsComplete c h).utilities

pub length-utilities : (c : Case) → IsComplete c → length c.utilities ≤ ALL_UTILITIES
length-utilities c h = (StaysValid-IsComplete c h).few_utilities
