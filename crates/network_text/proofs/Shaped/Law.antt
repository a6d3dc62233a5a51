-- A network that the grammar gives has no more statements and exchangers than a text may have.
use Rattle.network_text.proofs.Words.{ArePassedOnce, Case, Entry, Exchanger, Give, HasShape, IsComplete, IsNetwork, Joins, KeepsCounts, Kind, Line}
use Rattle.network_text.proofs.Words.{MOST_EXCHANGERS, MOST_STATEMENTS, Network, Passes, Source, StandsBefore, Statement, StaysValid-IsComplete, checks}
use Rattle.network_text.proofs.Words.{counted, entry_by, entry_in, exchanger_checks, exchanger_of, exchangers_of, exchangers_of-push, first_missing}
use Rattle.network_text.proofs.Words.{get_or-range_with_len, get_or_from_slice_get, given_has, grammar, is_missed, is_passed, kind_checks, kind_of}
use Rattle.network_text.proofs.Words.{length-range_with_len, misses_pass, misses_side, nat_tests, next, none_found, not-false, or_parts, passages_of, passes}
use Rattle.network_text.proofs.Words.{range_with_len, same_passage, slice_get_within, stands_before, start, with_any, with_entry}
use Rattle.std.proofs.Common.{List, None, Option, Some, [], ap, arith, false, get_or, inl, inr, length, length-append, option_map, option_to_list, refl, subst}
use Rattle.std.proofs.Common.{sym, ℕ, ◌+◌, ◌<◌, ◌∙◌, ◌∷◌, ◌≡◌, ◌≤◌}
use Rattle.network_text.proofs.Missing.{missing-at}
use Rattle.network_text.proofs.Shaped.Kept.{shape_so_far}
use Rattle.network_text.specs.declared.kind.Kind.TheVariants as kind
use Rattle.stream_case.specs.declared.source.Source.TheVariants as source

-- there is room for a statement that is not at fault
pub has_room : (case : Case) (given : Network) (s : Statement) → Passes (checks case given s)
    → length given.lines < MOST_STATEMENTS
unfolding checks
has_room case given s passes = let room = passes.0 in grind (arith, nat_tests)

one_more : (given : Network) (e : Entry) → length given.lines < MOST_STATEMENTS
    → length (exchangers_of given.lines) + length (option_to_list (exchanger_of e.line)) ≤ MOST_EXCHANGERS
    → KeepsCounts (with_entry given e)
unfolding with_entry
one_more given e room few = record {
  lines = omega (arith, room, length-append given.lines (e.line ∷ []));
  exchangers = omega (
    arith,
    few,
    ap length (exchangers_of-push given.lines e.line),
    length-append (exchangers_of given.lines) (option_to_list (exchanger_of e.line)),
  );
}

few_by : (case : Case) (given : Network) (s : Statement) (k : Option Kind) → KeepsCounts given
    → length given.lines < MOST_STATEMENTS
    → Passes (kind_checks k case given s) → KeepsCounts (with_any given (entry_by k case given s))
unfolding kind_checks exchanger_checks
few_by case given s None few room passes = few
few_by case given s (Some kind.Exchanger) few room passes =
    let test = passes.1.0 in
    let less : length (exchangers_of given.lines) < MOST_EXCHANGERS = grind (arith, nat_tests) in
    one_more given _ room (omega (arith, less))
few_by case given s (Some other) few room passes = one_more given _ room (omega (arith, few.exchangers))

few_next : (case : Case) (given : Network) (s : Statement) → KeepsCounts given → Passes (checks case given s)
    → KeepsCounts (next case given s)
unfolding entry_in checks
few_next case given s few passes = few_by case given s (kind_of s) few (has_room case given s passes) passes.1.1

few_first : (case : Case) → KeepsCounts (start case)
unfolding start exchangers_of
few_first case = record { lines = omega arith; exchangers = omega arith }

pub network-keeps_counts : (case : Case) (statements : List Statement) (network : Network)
    → IsNetwork case statements network → KeepsCounts network
network-keeps_counts case statements network is = subst KeepsCounts (sym is.value_is)
    (given_has (grammar case) KeepsCounts (few_first case) (few_next case) statements is.sound)

-- A network that the grammar gives has the shape.

-- ---- no pass is missing

-- no line declares an exchanger with a side that is not passed
none_misses : (network : Network) → first_missing network ≡ None → (index : ℕ) → index < length network.lines
    → misses_pass network index ≡ false
unfolding first_missing
none_misses network none index within =
    let indexes = range_with_len 0 (length network.lines) in
    let long = length-range_with_len 0 (length network.lines) in
    let here = none_found (misses_pass network) indexes none index 0 (omega (arith, long, within)) in
    let number : index ≡ get_or indexes index 0
    = omega (arith, get_or-range_with_len 0 (length network.lines) index 0 within) in
    ap (misses_pass network) number ∙ here

no_side_missed : (network : Network) (number : ℕ) (e : Exchanger) (index : ℕ) (l : Line)
    → StandsBefore exchanger_of network.lines number e index l
    → misses_pass network index ≡ false → misses_side network number (Some e) ≡ false
unfolding exchangers_of
no_side_missed network number e index l stands none =
    let within = slice_get_within network.lines index l stands.here in
    let at = missing-at network index number l within (sym (get_or_from_slice_get network.lines index l l stands.here)) (sym stands.earlier) in
    ap (misses_side network number) (sym stands.gives) ∙ sym at ∙ none

passed : (network : Network) (number stream : ℕ) (s : Source) → s ≡ source.Stream stream
    → is_missed network number s ≡ false → 0 < passes network number stream
unfolding is_passed
passed network number stream s is none =
    let some = not-false (is_passed network number stream) (ap (is_missed network number) (sym is) ∙ none) in
    counted (same_passage (record { exchanger = number; stream = stream })) (passages_of network.branches network.lines) some

passed_once : (network : Network) → ((number stream : ℕ) → passes network number stream ≤ 1)
    → first_missing network ≡ None → ArePassedOnce network
unfolding exchangers_of
passed_once network few none number stream e at joins =
    let (index, l, stands) = stands_before exchanger_of network.lines number e at in
    let within = slice_get_within network.lines index l stands.here in
    let sides = or_parts (is_missed network number e.hot) (is_missed network number e.cold)
    (no_side_missed network number e index l stands (none_misses network none index within)) in
    let some : Joins e stream → 0 < passes network number stream =
    λ j. elim j [ inl hot ↦ passed network number stream e.hot hot sides.0 | inr cold ↦ passed network number stream e.cold cold sides.1 ] in
    omega (arith, some joins, few number stream)

none_from_map : {X Y : Type 0} (f : X → Y) (o : Option X) → option_map f o ≡ None → o ≡ None
none_from_map f None e = refl
none_from_map f (Some x) e = cc e

-- ---- the shape

pub network-has_shape : (case : Case) (statements : List Statement) (network : Network) → IsComplete case
    → IsNetwork case statements network
    → HasShape case network
network-has_shape case statements network complete is =
    let give : Give (grammar case) statements network = record { sound = is.sound; given_is = is.value_is } in
    let shape = shape_so_far (StaysValid-IsComplete case complete) give in
    let few = network-keeps_counts case statements network is in
    record {
      few = omega (arith, few.lines);
      made_once = shape.made_once;
      made_first = shape.made_first;
      used_once = shape.used_once;
      named = shape.named;
      streams = shape.streams;
      one_stream = shape.one_stream;
      sizes = shape.sizes;
      exchangers = shape.exchangers;
      declared_first = shape.declared_first;
      passed_once =
          passed_once network shape.at_most_once (ap first_missing is.value_is ∙ none_from_map _ _ is.complete);
    }
