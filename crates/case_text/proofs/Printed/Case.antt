-- The printed rows of a valid case give the case.
use Rattle.case_text.proofs.Printed.Rows.{IsFound, forbid_follows, stream_entry, stream_follows, utility_entry, utility_follows}
use Rattle.case_text.proofs.Sources.{count_of}
use Rattle.case_text.proofs.Words.{All-append, All-map, All-seam, All-weaker, AllPairs-seam, Case, Decides-int_eq, Follows, Forbid, Give, Given, IsCase, IsName}
use Rattle.case_text.proofs.Words.{IsName-source_name, IsRightlyNamed, IsSourceOf-side, IsUnreserved, IsValid, IsValidForbid, IsValidStream, IsValidUtility}
use Rattle.case_text.proofs.Words.{MOST_FORBIDS, MOST_STREAMS, MOST_UTILITIES, Side, Source, Stream, StreamData, Utility, UtilityData, all_give, append-nil}
use Rattle.case_text.proofs.Words.{case_of, contribution_row, count_by-map, count_on, end_checks, end_fault, forbid_row, grammar, int_eq, keys_of, length-map}
use Rattle.case_text.proofs.Words.{length-seam, map-append, map-map, names_of, nat_tests, nothing, nothing_gives, one_more_gives, own_contribution, own_load}
use Rattle.case_text.proofs.Words.{own_side, printed_rows, same_side, side_of, source_name, source_named, source_named-source_name, stream_of, stream_row}
use Rattle.case_text.proofs.Words.{sum_by-append, sum_by-cons, utility_of, utility_row}
use Rattle.case_text.proofs.Words.{Passes, are_empty, contribution-passes, contribution-read, contribution_causes, is_passed_over, kind_of, none_fails}
use Rattle.case_text.specs.Checks.{checks, kind_checks}
use Rattle.std.proofs.Common.{All, Bool, List, None, Some, [], ap, append_assoc, arith, cond, false, if◌then◌else◌, is_some, length, map, pos, refl, subst, sym}
use Rattle.std.proofs.Common.{true, unwrap_or, ℕ, ℤ, ◌++◌, ◌<◌, ◌∙◌, ◌∷◌, ◌≡◌, ◌≢◌, ◌≤◌}
use Rattle.stream_case.specs.declared.source.Side.TheVariants as side

-- the streams, the utilities and the forbidden matches that are given so far
abbrev given_with : Case → List Stream → List Utility → List Forbid → Given
given_with k streams utilities forbids =
    record { contribution = Some k.contribution; streams = map (stream_entry k) streams; utilities = map (utility_entry k) utilities; forbids = forbids }

-- an item more, where there are items before it
entries-more : {X V : Type 0} (entry_of : X → V) (before : List X) (x : X)
    → map entry_of (before ++ x ∷ []) ≡ map entry_of before ++ entry_of x ∷ []
entries-more entry_of before x = map-append entry_of before (x ∷ [])

abbrev Differ : List ℕ → List ℕ → Type 0
Differ a b = a ≢ b

stream_keys : (k : Case) (ss : List Stream) → keys_of (map (stream_entry k) ss) ≡ map (λ s. s.name) ss
stream_keys k ss = map-map (λ (e : List ℕ × StreamData). e.0) (stream_entry k) ss

utility_keys : (k : Case) (us : List Utility) → keys_of (map (utility_entry k) us) ≡ map (λ u. u.name) us
utility_keys k us = map-map (λ (e : List ℕ × UtilityData). e.0) (utility_entry k) us

-- ---- streams

-- a side has room for a stream behind the ones before it
room_before : (k : Case) (all before : List Stream) (s : Stream) (after : List Stream)
    → all ≡ before ++ s ∷ after → count_on s.side all ≤ MOST_STREAMS
    → count_of s.side (map (stream_entry k) before) < MOST_STREAMS
room_before k all before s after is few =
    let one : Stream → ℕ = λ t. cond (same_side t.side s.side) 1 0 in
    let own : one s ≡ 1 = ap (λ b. cond b 1 0) (own_side s.side) in
    let before_is = count_by-map (λ (e : List ℕ × StreamData). same_side e.1.side s.side) (stream_entry k) before in
    omega (arith, few, ap (count_on s.side) is, sum_by-append one before (s ∷ after), sum_by-cons one s after, own, before_is)

stream_step : (k : Case) → IsValid k → (before : List Stream) (s : Stream) (after : List Stream)
    → k.streams ≡ before ++ s ∷ after
    → Follows grammar (given_with k before [] []) (stream_row k s) (given_with k (before ++ s ∷ []) [] [])
stream_step k valid before s after is =
    let names : names_of k ≡ map (λ s. s.name) before ++ s.name ∷ (map (λ s. s.name) after ++ map (λ u. u.name) k.utilities)
    =
    ap (λ (ss : List Stream). map (λ s. s.name) ss ++ map (λ u. u.name) k.utilities) is
    ∙ ap (λ (ns : List (List ℕ)). ns ++ map (λ u. u.name) k.utilities) (map-append (λ (t : Stream). t.name) before (s ∷ after))
    ∙ append_assoc (map (λ (t : Stream). t.name) before) (s.name ∷ map (λ (t : Stream). t.name) after) (map (λ (u : Utility). u.name) k.utilities) in
    let new = AllPairs-seam Differ (names_of k) _ s.name _ names valid.distinct_names in
    let keys : keys_of (map (stream_entry k) before) ++ [] ≡ map (λ s. s.name) before
    = append-nil _ ∙ stream_keys k before in
    let room = room_before k k.streams before s after is (valid.streams.are_streams.few s.side) in
    let each = All-seam IsValidStream k.streams before s after is valid.streams.are_streams.each in
    let unreserved = All-seam (λ (s : Stream). IsUnreserved s.name) k.streams before s after is valid.stream_names in
    rw (entries-more (stream_entry k) before s)
    (stream_follows (given_with k before [] []) k s each unreserved room (subst (All (λ (o : List ℕ). o ≢ s.name)) (sym keys) new))

-- ---- utilities

utility_step : (k : Case) → IsValid k → (before : List Utility) (u : Utility) (after : List Utility)
    → k.utilities ≡ before ++ u ∷ after
    → Follows grammar (given_with k k.streams before []) (utility_row k u) (given_with k k.streams (before ++ u ∷ []) [])
utility_step k valid before u after is =
    let names : names_of k ≡ (map (λ s. s.name) k.streams ++ map (λ u. u.name) before) ++ u.name ∷ map (λ u. u.name) after
    =
    ap (λ (us : List Utility). map (λ s. s.name) k.streams ++ map (λ u. u.name) us) is
    ∙ ap (λ (ns : List (List ℕ)). map (λ s. s.name) k.streams ++ ns) (map-append (λ (t : Utility). t.name) before (u ∷ after))
    ∙ sym (append_assoc (map (λ (s : Stream). s.name) k.streams) (map (λ (t : Utility). t.name) before) (u.name ∷ map (λ (t : Utility). t.name) after)) in
    let new = AllPairs-seam Differ (names_of k) _ u.name _ names valid.distinct_names in
    let keys : keys_of (map (stream_entry k) k.streams) ++ keys_of (map (utility_entry k) before)
    ≡ map (λ s. s.name) k.streams ++ map (λ u. u.name) before
    =
    λ i. stream_keys k k.streams i ++ utility_keys k before i in
    let room : length (map (utility_entry k) before) < MOST_UTILITIES =
    omega (arith, length-map before (utility_entry k), length-seam k.utilities before u after is, valid.few_utilities) in
    let each = All-seam IsValidUtility k.utilities before u after is valid.utilities in
    let named = All-seam IsRightlyNamed k.utilities before u after is valid.utility_names in
    rw (entries-more (utility_entry k) before u)
    (utility_follows (given_with k k.streams before []) k u each named room (subst (All (λ (o : List ℕ). o ≢ u.name)) (sym keys) new))

-- ---- the case of what is given

-- the contribution that a source gives, or else that of the case
own_back : (k : Case) (c : ℤ) → unwrap_or (own_contribution k c) k.contribution ≡ c
own_back k c = by (int_eq c k.contribution) refl
  where
    by : (b : Bool) → int_eq c k.contribution ≡ b → unwrap_or (if b then None else Some c) k.contribution ≡ c
    by true same = sym ((Decides-int_eq c k.contribution).0 same)
    by false differs = refl

-- the load that a stream gives, or else 0
load_back : (load : ℤ) → unwrap_or (own_load load) (pos 0) ≡ load
load_back load = by (int_eq load (pos 0)) refl
  where
    by : (b : Bool) → int_eq load (pos 0) ≡ b → unwrap_or (if b then None else Some load) (pos 0) ≡ load
    by true none = sym ((Decides-int_eq load (pos 0)).0 none)
    by false some = refl

streams_back : (k : Case) (ss : List Stream) → map (stream_of k.contribution) (map (stream_entry k) ss) ≡ ss
streams_back k [] = refl
streams_back k (s ∷ ss) =
    λ i. record s { load = load_back s.load i; contribution = own_back k s.contribution i } ∷ streams_back k ss i

utilities_back : (k : Case) (us : List Utility) → map (utility_of k.contribution) (map (utility_entry k) us) ≡ us
utilities_back k [] = refl
utilities_back k (u ∷ us) = λ i. record u { contribution = own_back k u.contribution i } ∷ utilities_back k us i

case_back : (k : Case) (forbids : List Forbid)
    → case_of (given_with k k.streams k.utilities forbids) ≡ record k { forbids = forbids }
case_back k forbids =
    λ i. record { contribution = k.contribution; streams = streams_back k k.streams i; utilities = utilities_back k k.utilities i; forbids = forbids }

-- ---- forbidden matches

all_names : (k : Case) → IsValid k → All IsName (names_of k)
all_names k valid =
    let streams = All-map IsName (λ (s : Stream). s.name) k.streams
    (All-weaker IsValidStream (λ s. IsName s.name) (λ s each. each.name) k.streams valid.streams.are_streams.each) in
    let utilities =
    All-map IsName (λ (u : Utility). u.name) k.utilities (All-weaker IsValidUtility (λ u. IsName u.name) (λ u each. each.name) k.utilities valid.utilities) in
    All-append IsName (map (λ s. s.name) k.streams) (map (λ u. u.name) k.utilities) streams utilities

pub name_of : (k : Case) → IsValid k → (of : Side) (s : Source) → side_of k s ≡ Some of → IsName (source_name k s)
name_of k valid of s on = IsName-source_name k (all_names k valid) s (IsSourceOf-side k s (ap is_some on))

found : (k : Case) → IsValid k → (forbids : List Forbid) (of : Side) (s : Source) → side_of k s ≡ Some of
    → IsFound (given_with k k.streams k.utilities forbids) of s (source_name k s)
unfolding source_named
found k valid forbids of s on =
    let back = sym (case_back k forbids) in
    let named : source_named (record k { forbids = forbids }) (source_name k s) ≡ Some s =
    source_named-source_name k valid.distinct_names s (IsSourceOf-side k s (ap is_some on)) in
    record {
      is_name = name_of k valid of s on;
      named = subst (λ c. source_named c (source_name k s) ≡ Some s) back named;
      on = subst (λ c. side_of c s ≡ Some of) back on;
    }

forbid_step : (k : Case) → IsValid k → (before : List Forbid) (f : Forbid) (after : List Forbid)
    → k.forbids ≡ before ++ f ∷ after
    → Follows grammar (given_with k k.streams k.utilities before) (forbid_row k f) (given_with k k.streams k.utilities (before ++ f ∷ []))
forbid_step k valid before f after is =
    let (hot, cold) = All-seam (IsValidForbid k) k.forbids before f after is valid.forbids in
    let room : length before < MOST_FORBIDS
    = omega (arith, length-seam k.forbids before f after is, valid.few_forbids) in
    let new = AllPairs-seam (λ (g h : Forbid). g ≢ h) k.forbids before f after is valid.distinct_forbids in
    forbid_follows (given_with k k.streams k.utilities before) k f (found k valid before side.Hot f.hot hot)
    (found k valid before side.Cold f.cold cold) room new

-- ---- all rows

-- the row of the contribution comes first
first_step : (k : Case) → IsValid k → Follows grammar nothing (contribution_row k.contribution) (given_with k [] [] [])
unfolding checks kind_checks kind_of is_passed_over are_empty
first_step k valid =
    let row = contribution_row k.contribution in
    let passes : Passes (checks nothing row)
    = (refl, (refl, contribution-passes contribution_causes k.contribution valid.contribution)) in
    let read = contribution-read k.contribution valid.contribution in
    record { passes = none_fails (checks nothing row) passes; next_is = rw read refl }

rows_give : (k : Case) → IsValid k → Give grammar (printed_rows k) (given_with k k.streams k.utilities k.forbids)
unfolding printed_rows
rows_give k valid =
    let first = one_more_gives grammar [] nothing (contribution_row k.contribution) (given_with k [] [] []) (nothing_gives grammar nothing refl)
    (first_step k valid) in
    let streams = all_give grammar (stream_row k) (λ ss. given_with k ss [] []) (contribution_row k.contribution ∷ []) k.streams (stream_step k valid) first in
    let utilities = all_give grammar (utility_row k) (λ us. given_with k k.streams us [])
    (contribution_row k.contribution ∷ map (stream_row k) k.streams) k.utilities (utility_step k valid) streams in
    all_give grammar (forbid_row k) (given_with k k.streams k.utilities)
    (contribution_row k.contribution ∷ (map (stream_row k) k.streams ++ map (utility_row k) k.utilities)) k.forbids (forbid_step k valid) utilities

-- the end is not at fault where there are a contribution and a stream
lacks_nothing : (rows : ℕ) (given : Given) → is_some given.contribution ≡ true → 0 < length given.streams
    → end_fault rows given ≡ None
unfolding end_checks
lacks_nothing rows given first some = grind (arith, nat_tests)

pub rows_back : (k : Case) → IsValid k → IsCase (printed_rows k) k
rows_back k valid =
    let gives = rows_give k valid in
    let rows = length (printed_rows k) in
    let complete : end_fault rows (given_with k k.streams k.utilities k.forbids) ≡ None =
    lacks_nothing rows (given_with k k.streams k.utilities k.forbids) refl (omega (arith, length-map k.streams (stream_entry k), valid.streams.some)) in
    record {
      sound = gives.sound;
      complete = ap (end_fault rows) (sym gives.given_is) ∙ complete;
      value_is = sym (case_back k k.forbids) ∙ ap case_of gives.given_is;
    }
