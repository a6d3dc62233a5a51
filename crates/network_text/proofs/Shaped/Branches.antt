-- The branches of a network keep their shape with one entry more.
use Rattle.network_text.proofs.Words.{All-append, All-front, All-head, All-map, All-push, All-weaker, AllPairs-front, AreMadeBeforeUse, AreMadeInOrder}
use Rattle.network_text.proofs.Words.{AreNamed, ArePassedWhenDeclared, AreUsedOnce, Branch, Case, Entry, Exchanger, ForSome, IsAnyName, IsName, IsOfOneStream}
use Rattle.network_text.proofs.Words.{Joins, Line, Network, Passage, PassesDeclared, StaysValid, Stream, Utility, all_at, all_made, and_parts, branch_of}
use Rattle.network_text.proofs.Words.{branches_in, enumerate_from, exchangers_of, first_stream, get_or-append-add, get_or-enumerate_from, get_or-map}
use Rattle.network_text.proofs.Words.{get_or-range_with_len, is_passed, length-enumerate_from, length-map, length-range_with_len, made_before, made_by}
use Rattle.network_text.proofs.Words.{made_by-push, made_there, makes, many_own, map-enumerate_from_item, map-id, map-map, members, names_of, names_of-append}
use Rattle.network_text.proofs.Words.{nat_tests, own_branch, own_branches, passage_of, passage_of-front, passages_of, passages_of-front, passages_of-push}
use Rattle.network_text.proofs.Words.{passes, range_with_len, range_with_len-append, same_passage, slice_get_push, slice_get_within, start, stream_at}
use Rattle.network_text.proofs.Words.{stream_at-front, stream_at-get_or, streams_first, sum_by-append, take-append-le, take_all, uncounted, used_by-push}
use Rattle.network_text.proofs.Words.{used_there, used_within, uses, with_entry}
use Rattle.std.proofs.Common.{All, AllPairs, Bool, List, None, Option, Some, [], ap, arith, cond, count_by, false, get_or, inl, inr, length, length-append, map}
use Rattle.std.proofs.Common.{option_to_list, refl, slice_get, subst, sym, take, take_at, true, ℕ, ◌++◌, ◌+◌, ◌-◌, ◌<◌, ◌==◌, ◌∙◌, ◌∷◌, ◌≡◌, ◌≢◌, ◌≤◌, ◌⊎◌}
use Rattle.network_text.proofs.Shaped.Entries.{Adds, HasShapeSoFar}
use Rattle.networks.specs.declared.network.Line.TheVariants as line

-- ---- the branches of an entry

many_made : (given : Network) (e : Entry) → length (branches_in given e) ≡ length (members e.names)
many_made given e = length-map (members e.names) (branch_of (first_stream given.branches (uses e.line)))

names_made : (given : Network) (e : Entry) → names_of (branches_in given e) ≡ members e.names
unfolding names_of
names_made given e =
    map-map (λ (b : Branch). b.name) (branch_of (first_stream given.branches (uses e.line))) (members e.names)
    ∙ map-id (members e.names)

-- a line that makes branches uses some
uses_some : (l : Line) → 0 < length (makes l) → 0 < length (uses l)
uses_some (line.Exchanger name hot cold duty) some = some
uses_some other some = omega arith

first_stream-within : (branches : List Branch) (n : ℕ) (numbers : List ℕ) → All (λ b. b.stream < n) branches
    → All (λ b. b < length branches) numbers
    → 0 < length numbers → first_stream branches numbers < n
first_stream-within branches n [] streams there some = absurd (omega (arith, some))
first_stream-within branches n (b ∷ numbers) streams there some =
    let d : Branch = record { name = []; stream = 0 } in
    let within = All-head (λ k. k < length branches) b numbers there in
    omega (arith, streams b d within, stream_at-get_or branches b d within)

-- ---- one stream for each line

-- the branches that a line uses and makes are of a stream
record AreOf (branches : List Branch) (l : Line) (stream : ℕ) : Type 0 where
  used : All (λ b. stream_at branches b ≡ stream) (uses l)
  made : All (λ b. stream_at branches b ≡ stream) (makes l)

one_stream_from : (branches : List Branch) (l : Line) (stream : ℕ) → AreOf branches l stream → IsOfOneStream branches l
one_stream_from branches (line.Split from first cp second) stream are =
    let own = sym (are.used 0 0 (omega arith)) in
    (are.made 0 0 (omega arith) ∙ own, are.made 1 0 (omega arith) ∙ own)
one_stream_from branches (line.Pass from exchanger to) stream are =
    are.made 0 0 (omega arith) ∙ sym (are.used 0 0 (omega arith))
one_stream_from branches (line.Mix first second to) stream are =
    let own = sym (are.used 0 0 (omega arith)) in
    (are.used 1 0 (omega arith) ∙ own, are.made 0 0 (omega arith) ∙ own)
one_stream_from branches other stream are = tt

-- with more branches the streams of a line stay
still_one : (branches new : List Branch) (l : Line) → All (λ b. b < length branches) (uses l)
    → All (λ b. b < length branches) (makes l)
    → IsOfOneStream branches l → IsOfOneStream (branches ++ new) l
still_one branches new (line.Split from first cp second) used made one =
    let own = sym (stream_at-front branches new from (used 0 0 (omega arith))) in
    (stream_at-front branches new first (made 0 0 (omega arith)) ∙ one.0 ∙ own, stream_at-front branches new second (made 1 0 (omega arith)) ∙ one.1 ∙ own)
still_one branches new (line.Pass from exchanger to) used made one =
    stream_at-front branches new to (made 0 0 (omega arith)) ∙ one
    ∙ sym (stream_at-front branches new from (used 0 0 (omega arith)))
still_one branches new (line.Mix first second to) used made one =
    let own = sym (stream_at-front branches new first (used 0 0 (omega arith))) in
    (stream_at-front branches new second (used 1 0 (omega arith)) ∙ one.0 ∙ own, stream_at-front branches new to (made 0 0 (omega arith)) ∙ one.1 ∙ own)
still_one branches new other used made one = tt

-- the new branches are of the stream that they are given
stream_made : (branches : List Branch) (stream : ℕ) (names : List (List ℕ))
    → All (λ b. stream_at (branches ++ map (branch_of stream) names) b ≡ stream) (range_with_len (length branches) (length names))
stream_made branches stream names k d within =
    let new = map (branch_of stream) names in
    let inside : k < length names = omega (arith, within, length-range_with_len (length branches) (length names)) in
    let there : length branches + k < length (branches ++ new)
    = omega (arith, inside, length-append branches new, length-map names (branch_of stream)) in
    let b = branch_of stream [] in
    ap (stream_at (branches ++ new)) (get_or-range_with_len (length branches) (length names) k d inside)
    ∙ stream_at-get_or (branches ++ new) (length branches + k) b there
    ∙ ap (λ (x : Branch). x.stream) (get_or-append-add branches new k b ∙ get_or-map (branch_of stream) names k [] b inside)

one_stream_next : {case : Case} {given : Network} {e : Entry} → Adds case given e
    → IsOfOneStream (given.branches ++ branches_in given e) e.line
one_stream_next {case} {given} {e} adds =
    let stream = first_stream given.branches (uses e.line) in
    one_stream_from (given.branches ++ branches_in given e) e.line stream (record {
      used =
          λ k d within. stream_at-front given.branches (branches_in given e) (get_or (uses e.line) k d) (adds.fresh.known k d within)
          ∙ adds.one_stream k d within;
      made = subst (All (λ b. stream_at (given.branches ++ branches_in given e) b ≡ stream)) (sym adds.numbers)
          (stream_made given.branches stream (members e.names));
    })

-- ---- one entry more

module _ {case : Case} {given : Network} (shape : HasShapeSoFar case given) {e : Entry} (adds : Adds case given e) where
  pub made_in_order : AreMadeInOrder case (with_entry given e)
  unfolding with_entry
  made_in_order =
      let n = length case.streams in
      let new = branches_in given e in
      let are = shape.made_once in
      let some = streams_first are in
      let count = length given.branches - n in
      let next : length given.branches ≡ n + count = omega (arith, some) in
      let all : count + length (members e.names) ≡ length (given.branches ++ new) - n = omega
      (arith, some, length-append given.branches new, many_made given e) in record {
        own = take-append-le n given.branches new some ∙ are.own;
        made = made_by-push given.lines e.line ∙ (λ i. are.made i ++ adds.numbers i)
            ∙ ap (λ b. range_with_len n count ++ range_with_len b (length (members e.names))) next
            ∙ range_with_len-append n count (length (members e.names))
            ∙ ap (range_with_len n) all;
      }

  -- the lines before an index, where there is one line more
  made_before_still : (index : ℕ) → index ≤ length given.lines
      → made_before case given index ≡ made_before case (with_entry given e) index
  unfolding with_entry
  made_before_still index within =
      ap (λ ls. length case.streams + length (made_by ls)) (sym (take-append-le index given.lines (e.line ∷ []) within))

  pub made_first : AreMadeBeforeUse case (with_entry given e)
  unfolding with_entry
  made_first index k at = by (slice_get_push given.lines e.line index k at)
    where
      by : (slice_get given.lines index ≡ Some k) ⊎ ((index ≡ length given.lines) × (k ≡ e.line))
          → All (λ b. b < made_before case (with_entry given e) index) (uses k)
      by (inl here) =
          let same = made_before_still index (omega (arith, slice_get_within given.lines index k here)) in
          λ j d inside. omega (arith, same, shape.made_first index k here j d inside)
      by (inr (last, is)) =
          let count = ap (λ ls. length (made_by ls)) (take_all index given.lines (omega (arith, last))) in
          subst (λ (m : Line). All (λ b. b < made_before case (with_entry given e) index) (uses m)) (sym is)
          (λ j d inside. omega (arith, made_before_still index (omega (arith, last)), all_made shape.made_once, count, adds.fresh.known j d inside))

  pub used_once : AreUsedOnce (with_entry given e)
  unfolding with_entry
  used_once = subst (AllPairs (λ (a b : ℕ). a ≢ b)) (sym (used_by-push given.lines e.line)) adds.fresh.unused

  pub named : AreNamed (with_entry given e)
  unfolding with_entry
  named =
      let all = sym (names_of-append given.branches (branches_in given e) ∙ ap (λ ns. names_of given.branches ++ ns) (names_made given e)) in
      record {
        names =
            subst (All IsAnyName) all (All-append IsAnyName (names_of given.branches) (members e.names) shape.named.names adds.fresh.names);
        distinct = subst (AllPairs (λ (a b : List ℕ). a ≢ b)) all adds.fresh.new_names;
      }

  pub streams : All (λ b. b.stream < length case.streams) (with_entry given e).branches
  unfolding with_entry
  streams =
      let stream = first_stream given.branches (uses e.line) in
      let within : 0 < length (members e.names)
      → stream < length case.streams =
      λ some. first_stream-within given.branches (length case.streams) (uses e.line) shape.streams adds.fresh.known
      (uses_some e.line (omega (arith, some, ap length adds.numbers ∙ length-range_with_len (length given.branches) (length (members e.names))))) in
      All-append (λ (b : Branch). b.stream < length case.streams) given.branches (branches_in given e) shape.streams
      (All-map (λ (b : Branch). b.stream < length case.streams) (branch_of stream) (members e.names) (λ k d inside. within (omega (arith, inside))))

  pub one_stream : All (IsOfOneStream (with_entry given e).branches) (with_entry given e).lines
  unfolding with_entry
  one_stream =
      let new = branches_in given e in
      let used = used_there shape.made_once shape.made_first in
      let made = made_there shape.made_once in
      All-push (IsOfOneStream (given.branches ++ new)) given.lines e.line
      (λ k d within. still_one given.branches new (get_or given.lines k d) (used k d within) (made k d within) (shape.one_stream k d within))
      (one_stream_next adds)

-- ---- before the first statement

own_names : (case : Case) → names_of (own_branches case) ≡ map (λ (s : Stream). s.name) case.streams
unfolding names_of own_branches
own_names case = map-map (λ (b : Branch). b.name) own_branch (enumerate_from 0 case.streams)
    ∙ sym (map-map (λ (s : Stream). s.name) (λ (p : ℕ × Stream). p.1) (enumerate_from 0 case.streams))
    ∙ ap (map (λ (s : Stream). s.name)) (map-enumerate_from_item 0 case.streams)

pub named_first : (case : Case) → StaysValid case → AreNamed (start case)
unfolding start
named_first case valid =
    let names = map (λ (s : Stream). s.name) case.streams in
    let others = map (λ (u : Utility). u.name) case.utilities in
    let all = sym (own_names case) in record {
      names =
          subst (All IsAnyName) all (All-weaker IsName IsAnyName (λ n is. inl is) names (All-front IsName names others valid.names));
      distinct =
          subst (AllPairs (λ a b. a ≢ b)) all (AllPairs-front (λ (a b : List ℕ). a ≢ b) names others valid.distinct_names);
    }

pub streams_own : (case : Case) → All (λ b. b.stream < length case.streams) (start case).branches
unfolding start own_branches
streams_own case =
    All-map (λ (b : Branch). b.stream < length case.streams) own_branch (enumerate_from 0 case.streams) (λ k d within.
    let inside : k < length case.streams = omega (arith, within, length-enumerate_from 0 case.streams) in
    let number = ap (λ (p : ℕ × Stream). p.0) (get_or-enumerate_from 0 case.streams k d inside) in
    omega (arith, number, inside))

pub own_in_order : (case : Case) → AreMadeInOrder case (start case)
unfolding start made_by
own_in_order case =
    let n = length case.streams in
    let none : 0 ≡ length (own_branches case) - n = omega (arith, many_own case) in
    record {
      own = take_all n (own_branches case) (omega (arith, many_own case));
      made = ap (range_with_len n) none;
    }

-- The passes of a network keep their shape with one entry more.

-- with more branches
still_declared : (branches new : List Branch) (declared : List Exchanger) (l : Line)
    → All (λ b. b < length branches) (uses l)
    → PassesDeclared branches declared l → PassesDeclared (branches ++ new) declared l
still_declared branches new declared (line.Pass from exchanger to) there
    (e, at, joins) = (e, at, subst (Joins e) (sym (stream_at-front branches new from (there 0 0 (omega arith)))) joins)
still_declared branches new declared other there passes = tt

-- a side that is free was not passed
none_so_far : (given : Network) (exchanger stream : ℕ) → is_passed given exchanger stream ≡ false
    → passes given exchanger stream ≡ 0
unfolding is_passed
none_so_far given exchanger stream free = uncounted (same_passage (record { exchanger = exchanger; stream = stream }))
    (passages_of given.branches given.lines) free

one_more : (given : Network) (exchanger stream : ℕ) (o : Option Passage) → passes given exchanger stream ≤ 1
    → ForSome o (λ p. is_passed given p.exchanger p.stream ≡ false)
    → passes given exchanger stream + count_by (same_passage (record { exchanger = exchanger; stream = stream })) (option_to_list o) ≤ 1
one_more given exchanger stream None few free = omega (arith, few)
one_more given exchanger stream (Some p) few free =
    by (same_passage (record { exchanger = exchanger; stream = stream }) p) refl
  where
    by : (b : Bool) → same_passage (record { exchanger = exchanger; stream = stream }) p ≡ b
        → passes given exchanger stream + (0 + cond b 1 0) ≤ 1
    by true is =
        let both = and_parts (exchanger == p.exchanger) (stream == p.stream) is in
        let same_exchanger : p.exchanger ≡ exchanger = grind (arith, nat_tests, both.0) in
        let same_stream : p.stream ≡ stream = grind (arith, nat_tests, both.1) in
        let none = none_so_far given exchanger stream ((λ i. is_passed given (sym same_exchanger i) (sym same_stream i)) ∙ free p refl) in
        omega (arith, none)
    by false is = omega (arith, few)

module _ {case : Case} {given : Network} (shape : HasShapeSoFar case given) {e : Entry} (adds : Adds case given e) where
  pub declared_first : ArePassedWhenDeclared (with_entry given e)
  unfolding with_entry
  declared_first index k at = by (slice_get_push given.lines e.line index k at)
    where
      by : (slice_get given.lines index ≡ Some k) ⊎ ((index ≡ length given.lines) × (k ≡ e.line))
          → PassesDeclared (given.branches ++ branches_in given e) (exchangers_of (take index (given.lines ++ e.line ∷ []))) k
      by (inl here) =
          let within = slice_get_within given.lines index k here in
          let there = all_at (λ (m : Line). All (λ b. b < length given.branches) (uses m)) given.lines index k
          (used_there shape.made_once shape.made_first) here in
          let same = sym (take-append-le index given.lines (e.line ∷ []) (omega (arith, within))) in
          subst (λ ls. PassesDeclared (given.branches ++ branches_in given e) (exchangers_of ls) k) same
          (still_declared given.branches (branches_in given e) (exchangers_of (take index given.lines)) k there (shape.declared_first index k here))
      by (inr (last, is)) =
          let own = still_declared given.branches (branches_in given e) (exchangers_of given.lines) e.line adds.fresh.known adds.declared in
          subst (λ ls. PassesDeclared (given.branches ++ branches_in given e) (exchangers_of ls) k) (sym (take_at given.lines (e.line ∷ []) index (sym last)))
          (subst (PassesDeclared (given.branches ++ branches_in given e) (exchangers_of given.lines)) (sym is) own)

  -- the passages so far stay
  passages-more : passages_of (given.branches ++ branches_in given e) (given.lines ++ e.line ∷ [])
      ≡ passages_of given.branches given.lines ++ option_to_list (passage_of given.branches e.line)
  passages-more = passages_of-push (given.branches ++ branches_in given e) given.lines e.line
      ∙ (λ i. passages_of-front given.branches (branches_in given e) given.lines (used_within shape.made_once shape.made_first) i ++ option_to_list
      (passage_of-front given.branches (branches_in given e) e.line adds.fresh.known i))

  pub at_most_once : (exchanger stream : ℕ) → passes (with_entry given e) exchanger stream ≤ 1
  unfolding with_entry
  at_most_once exchanger stream =
      let this = same_passage (record { exchanger = exchanger; stream = stream }) in
      let more = ap (count_by this) passages-more
      ∙ sum_by-append (λ p. cond (this p) 1 0) (passages_of given.branches given.lines) (option_to_list (passage_of given.branches e.line)) in
      omega (arith, more, one_more given exchanger stream (passage_of given.branches e.line) (shape.at_most_once exchanger stream) adds.fresh.unpassed)
