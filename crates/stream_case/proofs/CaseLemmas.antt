-- How many streams there are, the contributions, and the sources of a case.
use Rattle.std.proofs.Common.{IfSome, List, None, Option, Some, [], ap, arith, cond, false, get_or, length, map, pos, refl, slice_get, subst, suc, sym}
use Rattle.std.proofs.Common.{unwrap_or, zero, ℕ, ℤ, ◌++◌, ◌+◌, ◌<◌, ◌∙◌, ◌∷◌, ◌≡◌, ◌≢◌, ◌≤◌}
use Rattle.stream_case.proofs.Words.{ALL_STREAMS, All, AreStreams, Case, Cold, Hot, IsContribution, IsName, IsSourceOf, Side, Source, Stream, Utility}
use Rattle.stream_case.proofs.Words.{bytes_eq, count_on}
use Rattle.stream_case.proofs.Words.{false_from_ne_true, false≢true, get_or-append-add, get_or_append_left, length-append, length-map, names_of, option_map}
use Rattle.stream_case.proofs.Words.{option_map_or, same_Some, same_side, same_source, side_of, source_name, source_named, sum_by-append, sum_by-cons}
use Rattle.std.specs.Prelude.{AllPairs, IsSome}
use Rattle.stream_case.proofs.DistinctLemmas.{AllPairs-across, AllPairs-back, AllPairs-front, no_place_of, place_of}
use Rattle.stream_case.proofs.ListLemmas.{position-map}
use Rattle.stream_case.proofs.SourceLemmas.{same_source-true}
use Rattle.stream_case.specs.declared.source.Source.TheVariants.{Stream as of_stream, Utility as of_utility}

-- ---- counts

pub length-names_of : (c : Case) → length (names_of c) ≡ length c.streams + length c.utilities
length-names_of c = simp (length-append, length-map)

-- each stream is on one of the two sides
pub count_on-add : (streams : List Stream) → count_on Hot streams + count_on Cold streams ≡ length streams
count_on-add [] = refl
count_on-add (s ∷ ss) =
    let one = λ (side : Side). sum_by-cons (λ (x : Stream). cond (same_side x.side side) 1 0) s ss in
    let hot = one Hot in
    let cold = one Cold in
    let rest = count_on-add ss in
    let sides = one_side s.side in
    omega arith
  where
    one_side : (side : Side) → cond (same_side side Hot) 1 0 + cond (same_side side Cold) 1 0 ≡ 1
    one_side Hot = refl
    one_side Cold = refl

pub count_on-append : (side : Side) (xs ys : List Stream)
    → count_on side (xs ++ ys) ≡ count_on side xs + count_on side ys
count_on-append side xs ys = sum_by-append (λ (s : Stream). cond (same_side s.side side) 1 0) xs ys

pub length-AreStreams : (streams : List Stream) → AreStreams streams → length streams ≤ ALL_STREAMS
length-AreStreams streams h = omega (arith, count_on-add streams, h.few Hot, h.few Cold)

-- one stream more on a side that has room
pub one_more_on : (own : Side) (count : Side → ℕ) (most : ℕ) → ((of : Side) → count of ≤ most)
    → count own < most → (of : Side)
    → count of + cond (same_side own of) 1 0 ≤ most
one_more_on Hot count most few room Hot = omega (arith, room)
one_more_on Hot count most few room Cold = omega (arith, few Cold)
one_more_on Cold count most few room Hot = omega (arith, few Hot)
one_more_on Cold count most few room Cold = omega (arith, room)

-- ---- contributions

pub no_contribution : IsContribution (pos 0)
no_contribution = omega arith

-- the contribution that is given, or the one that stands for it
pub range_of : (o : Option ℤ) (otherwise : ℤ) → IfSome o IsContribution → IsContribution otherwise
    → IsContribution (unwrap_or o otherwise)
range_of None otherwise fits range = range
range_of (Some c) otherwise fits range = fits

-- ---- sources

within_map : {X Y : Type 0} (f : X → Y) (xs : List X) (i : ℕ) → IsSome (option_map f (slice_get xs i)) → i < length xs
within_map f [] i some = absurd (false≢true some)
within_map f (x ∷ xs) zero some = omega arith
within_map f (x ∷ xs) (suc i) some = let rest = within_map f xs i some in omega arith

-- what has a side is a source
pub IsSourceOf-side : (c : Case) (source : Source) → IsSome (side_of c source) → IsSourceOf c source
IsSourceOf-side c (of_stream i) some = within_map (λ s. s.side) c.streams i some
IsSourceOf-side c (of_utility i) some = within_map (λ u. u.side) c.utilities i some

-- a source of the other side is not the utility
pub other_source : (c : Case) (source : Source) (side : Side) (index : ℕ) (u : Utility) → side_of c source ≡ Some side
    → slice_get c.utilities index ≡ Some u → u.side ≢ side → same_source source (of_utility index) ≡ false
other_source c source side index u side_is here other =
    false_from_ne_true (same_source source (of_utility index)) (λ holds.
    let own = ap (side_of c) (same_source-true source (of_utility index) holds)
    ∙ ap (option_map (λ (v : Utility). v.side)) here in
    other (same_Some u.side side (sym own ∙ side_is)))

-- the name of the item at an index, and none behind the last
pub name_at : {X : Type 0} (name : X → List ℕ) (xs : List X) (i : ℕ)
    → option_map_or name (slice_get xs i) [] ≡ get_or (map name xs) i []
name_at name [] i = refl
name_at name (x ∷ xs) zero = refl
name_at name (x ∷ xs) (suc i) = name_at name xs i

abbrev stream_names : Case → List (List ℕ)
stream_names c = map (λ s. s.name) c.streams

abbrev utility_names : Case → List (List ℕ)
utility_names c = map (λ u. u.name) c.utilities

abbrev Differ : List ℕ → List ℕ → Type 0
Differ a b = a ≢ b

-- what is named is found by its name, where the names differ
pub source_named-source_name : (c : Case) → AllPairs (λ a b. a ≢ b) (names_of c) → (source : Source)
    → IsSourceOf c source
    → source_named c (source_name c source) ≡ Some source
unfolding source_named
source_named-source_name c distinct (of_stream i) within =
    let names = stream_names c in
    let place =
    place_of names i (AllPairs-front Differ names (utility_names c) distinct) (omega (arith, within, length-map c.streams (λ (s : Stream). s.name))) in
    rw (name_at (λ (s : Stream). s.name) c.streams i) (rw (position-map (bytes_eq (get_or names i [])) (λ (s : Stream). s.name) c.streams ∙ place) refl)
source_named-source_name c distinct (of_utility i) within =
    let names = utility_names c in
    let name = get_or names i [] in
    let inside : i < length names = omega (arith, within, length-map c.utilities (λ (u : Utility). u.name)) in
    let place = place_of names i (AllPairs-back Differ (stream_names c) names distinct) inside in
    let nowhere = no_place_of (stream_names c) name (λ k d early. AllPairs-across Differ (stream_names c) names k d distinct early i [] inside) in
    rw (name_at (λ (u : Utility). u.name) c.utilities i) (rw (
      position-map (bytes_eq name) (λ (s : Stream). s.name) c.streams ∙ nowhere,
      position-map (bytes_eq name) (λ (u : Utility). u.name) c.utilities ∙ place,
    ) refl)

pub IsName-source_name : (c : Case) → All IsName (names_of c) → (source : Source) → IsSourceOf c source
    → IsName (source_name c source)
IsName-source_name c each (of_stream i) within =
    let long = length-map c.streams (λ (s : Stream). s.name) in
    let whole = length-names_of c in
    let is = name_at (λ (s : Stream). s.name) c.streams i
    ∙ sym (get_or_append_left (stream_names c) (utility_names c) [] i (omega (arith, within, long))) in
    subst IsName (sym is) (each i [] (omega (arith, within, whole)))
IsName-source_name c each (of_utility i) within =
    let long = length-map c.streams (λ (s : Stream). s.name) in
    let whole = length-names_of c in
    let is = name_at (λ (u : Utility). u.name) c.utilities i
    ∙ sym (get_or-append-add (stream_names c) (utility_names c) i []) in
    subst IsName (sym is) (each (length (stream_names c) + i) [] (omega (arith, within, whole, long)))
