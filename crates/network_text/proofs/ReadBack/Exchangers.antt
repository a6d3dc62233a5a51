-- The network before one of its lines, and with it.
use Rattle.network_text.proofs.Words.{All-from_recursion, All-nil, AllPairs-across, AllPairs-back, AllPairs-front, AllPairs-map, AreExchangers, AreMadeInOrder}
use Rattle.network_text.proofs.Words.{Branch, Case, Entry, Exchanger, HasShape, IsExchanger, IsLineOf, IsOfOneStream, Joins, KeepsCounts, Line, MOST_EXCHANGERS}
use Rattle.network_text.proofs.Words.{MOST_STATEMENTS, Network, Passage, Rational, Source, StaysValid, all_made, and_from, append-nil, append_assoc, branch_at}
use Rattle.network_text.proofs.Words.{branch_name, branch_named, branch_of, count_by-cons, declared_parts, exchanger_at, exchanger_name, exchanger_named}
use Rattle.network_text.proofs.Words.{exchanger_names, exchangers_of, first_stream, get_or-map, get_or_append_left, get_or_default, get_or_from_slice_get}
use Rattle.network_text.proofs.Words.{has_stream, is_branch_name, is_free_side, is_passed, is_used, joins_stream, list_any, list_any_none}
use Rattle.network_text.proofs.Words.{made_before, made_by, made_no_more, makes, map-map, members, names_of, nat_tests, none_counted, or_right, own_branches}
use Rattle.network_text.proofs.Words.{own_exchanger, passages_of, passages_of-front, passed_parts, passes, same_passage, same_source, same_source-same, slice_get-append, slice_get_within}
use Rattle.network_text.proofs.Words.{stream_at, stream_at-get_or, stream_at-take, sum_by-append, take-map, take_all, used_before, used_by, used_parts, uses}
use Rattle.network_text.proofs.Words.{with_entry}
use Rattle.std.proofs.Common.{All, AllPairs, List, Some, [], ap, arith, bytes_eq, cond, count_by, drop, false, get_or, inl, inr, is_some, length, length-append}
use Rattle.std.proofs.Common.{length-take-le, map, not, position, refl, slice_get, subst, suc, sym, take, take-append-drop, take_at, true, unwrap_or, ℕ, ◌++◌}
use Rattle.std.proofs.Common.{◌+◌, ◌<◌, ◌==◌, ◌∙◌, ◌∷◌, ◌≡◌, ◌≢◌, ◌≤◌}
use Rattle.std.proofs.Math.Seq.{take-suc}
use Rattle.network_text.proofs.NameTests.{branch_name-passes}
use Rattle.network_text.proofs.Printed.Lengths.{found_in_front, many_exchangers, many_names, none_in_front}
use Rattle.networks.proofs.OfShape.{exchanger_at as declared_at}
use Rattle.networks.specs.declared.few.AtMostTwo.TheVariants as few
use Rattle.networks.specs.declared.network.Line.TheVariants as line
use Rattle.stream_case.specs.declared.source.Source.TheVariants as source

-- the network before the line at an index
abbrev pub front : Case → Network → ℕ → Network
front case network index =
    record { branches = take (made_before case network index) network.branches; lines = take index network.lines }

-- before the first line there are the streams' branches, and behind the last line all
pub front-first : {case : Case} {network : Network} → AreMadeInOrder case network
    → take (made_before case network 0) network.branches ≡ own_branches case
unfolding made_by
front-first {case} {network} made =
    let none : made_before case network 0 ≡ length case.streams = omega arith in
    ap (λ n. take n network.branches) none ∙ made.own

pub front-last : {case : Case} {network : Network} → AreMadeInOrder case network
    → front case network (length network.lines) ≡ network
front-last {case} {network} made =
    let lines = take_all (length network.lines) network.lines (omega arith) in
    let all = ap (λ ls. length case.streams + length (made_by ls)) lines ∙ all_made made in
    let branches = ap (λ n. take n network.branches) all
    ∙ take_all (length network.branches) network.branches (omega arith) in
    λ i. record { branches = branches i; lines = lines i }

-- ---- the entry of a line

-- a line of the network, with the names of the branches that it makes
abbrev pub entry_of : Network → Line → Entry
entry_of network (line.Exchanger name hot cold duty) =
    record { line = line.Exchanger name hot cold duty; names = few.Nothing }
entry_of network (line.Split from first cp second) = record {
  line = line.Split from first cp second;
  names = few.Two (branch_name network first) (branch_name network second);
}
entry_of network (line.Pass from exchanger to) =
    record { line = line.Pass from exchanger to; names = few.One (branch_name network to) }
entry_of network (line.Mix first second to) =
    record { line = line.Mix first second to; names = few.One (branch_name network to) }
entry_of network (line.End branch) = record { line = line.End branch; names = few.Nothing }

-- what it says, by what the line makes and uses
entry-line : (network : Network) (l : Line) → (entry_of network l).line ≡ l
entry-line network (line.Exchanger name hot cold duty) = refl
entry-line network other = refl

entry-names : (network : Network) (l : Line) → members (entry_of network l).names ≡ map (branch_name network) (makes l)
entry-names network (line.Exchanger name hot cold duty) = refl
entry-names network other = refl

abbrev IsOn : Network → ℕ → ℕ → Type 0
IsOn network stream b = stream_at network.branches b ≡ stream

made_on : (network : Network) (l : Line) → IsOfOneStream network.branches l
    → All (IsOn network (first_stream network.branches (uses l))) (makes l)
made_on network (line.Split from first cp second) one =
    All-from_recursion (IsOn network (stream_at network.branches from)) (first ∷ second ∷ []) (one.0, (one.1, tt))
made_on network (line.Pass from exchanger to) one =
    All-from_recursion (IsOn network (stream_at network.branches from)) (to ∷ []) (one, tt)
made_on network (line.Mix first second to) one =
    All-from_recursion (IsOn network (stream_at network.branches first)) (to ∷ []) (one.1, tt)
made_on network other one = All-nil (IsOn network (first_stream network.branches (uses other)))

-- ---- one line more

-- a front with the next items
take-more : {X : Type 0} (f : ℕ → X) (d : X) (xs : List X) (m : ℕ) (numbers : List ℕ) → m + length numbers ≤ length xs
    → ((j : ℕ) → j < length numbers → get_or numbers j 0 ≡ m + j) → All (λ k. f k ≡ get_or xs k d) numbers
    → take m xs ++ map f numbers ≡ take (m + length numbers) xs
take-more f d xs m [] fits next is = append-nil (take m xs) ∙ ap (λ n. take n xs) (omega arith)
take-more {X} f d xs m (k ∷ numbers) fits next is =
    let first : k ≡ m = next 0 (omega arith) ∙ omega arith in
    let here : f k ≡ get_or xs m d = is 0 0 (omega arith) ∙ ap (λ n. get_or xs n d) first in
    let long : suc m + length numbers ≡ m + suc (length numbers) = omega arith in
    let one : take (suc m) xs ≡ take m xs ++ f k ∷ []
    = take-suc xs m d (omega (arith, fits)) ∙ ap (λ x. take m xs ++ x ∷ []) (sym here) in
    sym (append_assoc (take m xs) (f k ∷ []) (map f numbers)) ∙ ap (λ ys. ys ++ map f numbers) (sym one)
    ∙ take-more f d xs (suc m) numbers (omega (arith, fits, long)) (λ j within. let later = next (suc j) (omega (arith, within)) in omega (arith, later))
    (λ j e within. is (suc j) e (omega (arith, within))) ∙ ap (λ n. take n xs) long

no_branch : Branch
no_branch = record { name = []; stream = 0 }

-- a branch has its name and its stream
branch_is : (network : Network) (number : ℕ) → number < length network.branches
    → branch_of (stream_at network.branches number) (branch_name network number)
    ≡ get_or network.branches number no_branch
unfolding branch_name names_of
branch_is network number within =
    let name = get_or-map (λ (b : Branch). b.name) network.branches number no_branch [] within in
    let stream = stream_at-get_or network.branches number no_branch within in
    λ i. record { name = name i; stream = stream i }

first_stream-take : (branches : List Branch) (m : ℕ) (numbers : List ℕ) → All (λ b. b < m) numbers
    → first_stream (take m branches) numbers ≡ first_stream branches numbers
first_stream-take branches m [] early = refl
first_stream-take branches m (b ∷ numbers) early = stream_at-take branches m b (early 0 0 (omega arith))

branches-with : {case : Case} {network : Network} {index : ℕ} {l : Line} → IsLineOf case network index l
    → take (made_before case network index) network.branches ++ map
    (branch_of (first_stream (take (made_before case network index) network.branches) (uses l))) (map (branch_name network) (makes l)) ≡ take
    (made_before case network (suc index)) network.branches
branches-with {case} {network} {index} {l} of =
    let m = made_before case network index in
    let numbers = of.numbers in
    let stream = first_stream-take network.branches m (uses l) numbers.used in
    let made = made_on network l of.one_stream in
    (λ i. take m network.branches ++ map-map (branch_of (stream i)) (branch_name network) (makes l) i)
    ∙ take-more (λ k. branch_of (first_stream network.branches (uses l)) (branch_name network k)) no_branch network.branches m (makes l)
    (omega (arith, numbers.next, numbers.within)) numbers.made (λ j d within. let b = get_or (makes l) j d in let there : b < length network.branches = omega
    (arith, get_or_default (makes l) j d 0 within, numbers.made j within, numbers.next, numbers.within, within) in
    ap (λ s. branch_of s (branch_name network b)) (sym (made j d within)) ∙ branch_is network b there)
    ∙ ap (λ n. take n network.branches) (sym numbers.next)

pub front-next : {case : Case} {network : Network} {index : ℕ} {l : Line} → IsLineOf case network index l
    → with_entry (front case network index) (entry_of network l) ≡ front case network (suc index)
unfolding with_entry
front-next {case} {network} {index} {l} of =
    let given = front case network index in
    let line_is = entry-line network l in
    let branches = (λ i. given.branches ++ map (branch_of (first_stream given.branches (uses (line_is i)))) (entry-names network l i))
    ∙ branches-with of in
    let lines = (λ i. given.lines ++ line_is i ∷ []) ∙ sym of.at.more in
    λ i. record { branches = branches i; lines = lines i }

-- The branches that a printed line uses and makes.

-- a network whose text is not too long for the grammar
pub record IsReadable (case : Case) (network : Network) : Type 0 where
  pub valid : StaysValid case
  pub shape : HasShape case network
  pub counts : KeepsCounts network

-- the branch that the checks find by a name, and that is not used
pub record IsUsable (given : Network) (name : List ℕ) (number : ℕ) : Type 0 where
  pub known : is_some (branch_named given name) ≡ true
  pub at : branch_at given name ≡ number
  pub unused : not (is_used given number) ≡ true

-- a name that the checks let a new branch have
pub record IsNewBranch (given : Network) (name : List ℕ) : Type 0 where
  pub is : is_branch_name name ≡ true
  pub free : not (is_some (branch_named given name)) ≡ true

abbrev Differ : ℕ → ℕ → Type 0
Differ a b = a ≢ b

module _ {case : Case} {network : Network} (readable : IsReadable case network) {index : ℕ} {l : Line} (of : IsLineOf case network index l) where
  pub room : length (front case network index).lines < MOST_STATEMENTS
  room =
      omega (arith, length-take-le index network.lines (omega (arith, of.at.within)), of.at.within, readable.counts.lines)

  -- the branches before the line
  pub front_length : length (front case network index).branches ≡ made_before case network index
  front_length =
      length-take-le (made_before case network index) network.branches (made_no_more readable.shape.made_once index)

  front_names : names_of (front case network index).branches
      ≡ take (made_before case network index) (names_of network.branches)
  unfolding names_of
  front_names = sym (take-map (λ (b : Branch). b.name) (made_before case network index) network.branches)

  used_named : (b : ℕ) → b < made_before case network index
      → branch_named (front case network index) (branch_name network b) ≡ Some b
  unfolding branch_named branch_name
  used_named b early =
      let m = made_before case network index in
      let found = found_in_front (names_of network.branches) m b readable.shape.named.distinct early
      (omega (arith, made_no_more readable.shape.made_once index, many_names network)) in ap (position (bytes_eq (branch_name network b))) front_names ∙ found

  not_used : (j : ℕ) → j < length (uses l) → is_used (front case network index) (get_or (uses l) j 0) ≡ false
  not_used j within =
      let before = used_by (take index network.lines) in
      let later = used_by (drop (suc index) network.lines) in
      let b = get_or (uses l) j 0 in
      let pairs = subst (AllPairs Differ) (used_parts of.at) readable.shape.used_once in
      list_any_none (λ used. b == used) before (λ k d early.
      let across = AllPairs-across Differ before (uses l ++ later) k d pairs early j 0 (omega (arith, within, length-append (uses l) later)) in
      let other : get_or before k d ≢ b = λ e. across (e ∙ sym (get_or_append_left (uses l) later 0 j within)) in
      grind (arith, nat_tests, other))

  -- a branch that the line uses
  pub used : (j : ℕ) → j < length (uses l)
      → IsUsable (front case network index) (branch_name network (get_or (uses l) j 0)) (get_or (uses l) j 0)
  unfolding branch_at
  used j within =
      let b = get_or (uses l) j 0 in
      let named = used_named b (of.numbers.used j 0 within) in
      record {
        known = ap is_some named;
        at = ap (λ o. unwrap_or o 0) named;
        unused = ap not (not_used j within);
      }

  -- two branches that the line uses are two
  pub two_used : (first second : ℕ) → uses l ≡ first ∷ second ∷ [] → second ≢ first
  two_used first second both same =
      let before = used_by (take index network.lines) in
      let later = used_by (drop (suc index) network.lines) in
      let pairs = subst (AllPairs Differ) (used_parts of.at) readable.shape.used_once in
      let own = subst (AllPairs Differ) both (AllPairs-front Differ (uses l) later (AllPairs-back Differ before (uses l ++ later) pairs)) in
      own 0 1 0 (omega arith) (omega arith) (sym same)

  -- the number of a branch that the line makes
  pub made_number : (j : ℕ) → j < length (makes l)
      → length (front case network index).branches + j ≡ get_or (makes l) j 0
  made_number j within = omega (arith, front_length, of.numbers.made j within)

  pub made_known : (j : ℕ) → j < length (makes l) → get_or (makes l) j 0 < length network.branches
  made_known j within = omega (arith, of.numbers.made j within, of.numbers.next, of.numbers.within, within)

  -- a branch that the line makes
  pub new : (j : ℕ) → j < length (makes l)
      → IsNewBranch (front case network index) (branch_name network (get_or (makes l) j 0))
  unfolding branch_named branch_name
  new j within =
      let b = get_or (makes l) j 0 in
      let names = names_of network.branches in
      let named = readable.shape.named in
      let inside : b < length names = omega (arith, made_known j within, many_names network) in
      let none = none_in_front names (made_before case network index) b named.distinct (omega (arith, of.numbers.made j within)) inside in
      record {
        is = branch_name-passes (get_or names b []) (named.names b [] inside);
        free = ap (λ o. not (is_some o)) (ap (position (bytes_eq (get_or names b []))) front_names ∙ none);
      }

-- The exchangers that printed lines declare and pass.

-- an exchanger that the checks find by a name
pub record IsDeclared (given : Network) (name : List ℕ) (number : ℕ) : Type 0 where
  pub known : is_some (exchanger_named given name) ≡ true
  pub at : exchanger_at given name ≡ number

-- an exchanger that the checks let a line declare
pub record IsNewExchanger (case : Case) (given : Network) (e : Exchanger) : Type 0 where
  pub sound : IsExchanger case e
  pub few : length (exchangers_of given.lines) < MOST_EXCHANGERS
  pub free : not (is_some (exchanger_named given e.name)) ≡ true

distinct_exchangers : (case : Case) (network : Network) → AreExchangers case network
    → AllPairs (λ a b. a ≢ b) (exchanger_names network)
unfolding exchanger_names
distinct_exchangers case network are =
    AllPairs-map (λ (a b : List ℕ). a ≢ b) (λ (e : Exchanger). e.name) (exchangers_of network.lines) are.distinct

joined : (e : Exchanger) (stream : ℕ) → Joins e stream → has_stream stream (Some e) ≡ true
joined e stream (inl hot) =
    let own = same_source-same (source.Stream stream) in
    let first : same_source e.hot (source.Stream stream) ≡ true = rw hot own in
    rw first refl
joined e stream (inr cold) =
    let own = same_source-same (source.Stream stream) in
    let second : same_source e.cold (source.Stream stream) ≡ true = rw cold own in
    or_right (same_source e.hot (source.Stream stream)) (same_source e.cold (source.Stream stream)) second

-- how many exchangers the lines before an index declare
abbrev declared_before : Network → ℕ → ℕ
declared_before network index = length (exchangers_of (take index network.lines))

module _ {case : Case} {network : Network} (readable : IsReadable case network) {index : ℕ} where
  declared_names : {l : Line} → IsLineOf case network index l
      → map (λ e. e.name) (exchangers_of (take index network.lines))
      ≡ take (declared_before network index) (exchanger_names network)
  unfolding exchanger_names
  declared_names {l} of =
      let before = exchangers_of (take index network.lines) in
      let first : take (length before) (exchangers_of network.lines) ≡ before
      = ap (take (length before)) (declared_parts of.at)
      ∙ take_at before (exchangers_of (l ∷ drop (suc index) network.lines)) (length before) refl in
      sym (take-map (λ (e : Exchanger). e.name) (length before) (exchangers_of network.lines) ∙ ap (map (λ e. e.name)) first)

  pub new_exchanger : (name : List ℕ) (hot cold : Source) (duty : Rational)
      → IsLineOf case network index (line.Exchanger name hot cold duty)
      → IsNewExchanger case (front case network index) (record { name = name; hot = hot; cold = cold; duty = duty })
  unfolding exchanger_named exchanger_names
  new_exchanger name hot cold duty of =
      let e : Exchanger = record { name = name; hot = hot; cold = cold; duty = duty } in
      let all = exchangers_of network.lines in
      let at = declared_at network.lines index name hot cold duty of.at.here in
      let within = slice_get_within all (declared_before network index) e at in
      let own = get_or-map (λ (x : Exchanger). x.name) all (declared_before network index) e [] within
      ∙ ap (λ (x : Exchanger). x.name) (get_or_from_slice_get all (declared_before network index) e e at) in
      let none = none_in_front (exchanger_names network) (declared_before network index) (declared_before network index)
      (distinct_exchangers case network readable.shape.exchangers) (omega arith) (omega (arith, within, many_exchangers network)) in record {
        sound = own_exchanger readable.shape index name hot cold duty of.at.here;
        few = omega (arith, within, readable.counts.exchangers);
        free = ap (λ o. not (is_some o)) ((λ i. position (bytes_eq (sym own i)) (declared_names of i)) ∙ none);
      }

  -- the side is not passed before
  not_passed : (from exchanger to stream : ℕ) → IsLineOf case network index (line.Pass from exchanger to)
      → stream_at network.branches from ≡ stream
      → passes network exchanger stream ≡ 1 → is_passed (front case network index) exchanger stream ≡ false
  unfolding is_passed passages_of
  not_passed from exchanger to stream of own one =
      let m = made_before case network index in
      let before = take index network.lines in
      let later = passages_of network.branches (drop (suc index) network.lines) in
      let this = same_passage (record { exchanger = exchanger; stream = stream }) in
      let passage : Passage = record { exchanger = exchanger; stream = stream_at network.branches from } in
      let count = ap (count_by this) (passed_parts network.branches of.at)
      ∙ sum_by-append (λ p. cond (this p) 1 0) (passages_of network.branches before) (passage ∷ later) in
      let same_stream : (stream == stream_at network.branches from) ≡ true = grind (arith, nat_tests, own) in
      let same_number : (exchanger == exchanger) ≡ true = grind (arith, nat_tests) in
      let counted = ap {B = ℕ} (λ b. cond b 1 0) (and_from (exchanger == exchanger) (stream == stream_at network.branches from) same_number same_stream) in
      let none = none_counted this (passages_of network.branches before) (omega (arith, one, count, count_by-cons this passage later, counted)) in
      let short = length-take-le m network.branches (made_no_more readable.shape.made_once index) in
      let used = subst (λ n. All (λ b. b < n) (used_by before)) (sym short) (used_before case network readable.shape.made_first index) in
      let front = sym (passages_of-front (take m network.branches) (drop m network.branches) before used)
      ∙ ap (λ bs. passages_of bs before) (take-append-drop m network.branches) in ap (list_any this) front ∙ none

  -- the exchanger that a line passes is found by its name, and its side is free
  pub passed_exchanger : (from exchanger to : ℕ) → IsLineOf case network index (line.Pass from exchanger to)
      → IsDeclared (front case network index) (exchanger_name network exchanger) exchanger
  unfolding exchanger_named exchanger_at
  passed_exchanger from exchanger to of =
      let (e, at, joins) = of.declared in
      let found = found_in_front (exchanger_names network) (declared_before network index) exchanger
      (distinct_exchangers case network readable.shape.exchangers) (slice_get_within (exchangers_of (take index network.lines)) exchanger e at) (omega (
        arith,
        ap length (declared_parts of.at),
        length-append (exchangers_of (take index network.lines)) (exchangers_of (line.Pass from exchanger to ∷ drop (suc index) network.lines)),
        many_exchangers network,
      )) in
      let named = ap (position (bytes_eq (exchanger_name network exchanger))) (declared_names of) ∙ found in
      record { known = ap is_some named; at = ap (λ o. unwrap_or o 0) named }

  pub free_side : (from exchanger to : ℕ) → IsLineOf case network index (line.Pass from exchanger to)
      → is_free_side (front case network index) exchanger (stream_at (front case network index).branches from) ≡ true
  unfolding joins_stream
  free_side from exchanger to of =
      let stream = stream_at network.branches from in
      let before = exchangers_of (take index network.lines) in
      let (e, at, joins) = of.declared in
      let own = stream_at-take network.branches (made_before case network index) from (of.numbers.used 0 0 (omega arith)) in
      let there = ap (λ es. slice_get es exchanger) (declared_parts of.at)
      ∙ slice_get-append before (exchangers_of (line.Pass from exchanger to ∷ drop (suc index) network.lines)) exchanger e at in
      let side : has_stream stream (slice_get before exchanger) ≡ true
      = ap (has_stream stream) at ∙ joined e stream joins in
      let unpassed = not_passed from exchanger to stream of refl (readable.shape.passed_once exchanger stream e there joins) in
      ap (is_free_side (front case network index) exchanger) own ∙ rw (side, unpassed) refl
