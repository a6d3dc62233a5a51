-- The tables beside a network: look-ups in them, and what one entry more adds to each.
use Rattle.network_text.proofs.Words.{All-append, All-cons, All-front, All-nil, All-weaker, AllPairs-across, AllPairs-before, AllPairs-map, AtMostTwo, Branch}
use Rattle.network_text.proofs.Words.{Case, Entry, Exchanger, ForSome, IndexMap, IsAnyName, IsFresh, IsName, IsTracked, Line, MOST_STATEMENTS, Network, Passage}
use Rattle.network_text.proofs.Words.{Sides, StaysValid, Stream, Utility, branch_named, bytes_decides, enumerate_from, enumerate_from-push, exchanger_named}
use Rattle.network_text.proofs.Words.{exchanger_of, exchangers_of, exchangers_of-push, false_from_ne_true, first_stream, get_or-map, insert_entry}
use Rattle.network_text.proofs.Words.{insert_entry-new, is_branch_name, is_passed, is_some-lookup, is_some-position, keys_of, length-AreStreams}
use Rattle.network_text.proofs.Words.{length-enumerate_from, length-map, list_any, list_any_none, map-append, map-enumerate_from_item, map-map, members}
use Rattle.network_text.proofs.Words.{named_branch, named_sides, names_of, none_there, other_name, own_branches, own_entries, own_entry, passage_of}
use Rattle.network_text.proofs.Words.{passages_of, passages_of-front, passages_of-push, same_passage, slice_get-map, start, stream_at, take-map, take_more}
use Rattle.network_text.proofs.Words.{used_by, used_by-push, uses, with_entry}
use Rattle.std.proofs.Common.{All, AllPairs, Bool, List, None, Option, Some, [], ap, append_assoc, arith, bytes_eq, false, get_or, inl, length, length-append}
use Rattle.std.proofs.Common.{length-take-le, map, map-id, option_to_list, position, refl, slice_get, subst, sym, take, true, ℕ, ◌++◌, ◌+◌, ◌<◌, ◌∙◌, ◌∷◌, ◌≡◌}
use Rattle.std.proofs.Common.{◌≢◌, ◌≤◌}
use Rattle.network_text.proofs.NameTests.{branch_name-passes}
use Rattle.networks.specs.declared.few.AtMostTwo.TheVariants as few

-- the network that the tables tell of
abbrev pub so_far : List (List ℕ × ℕ) → List Line → Network
so_far es ls = record { branches = map named_branch es; lines = ls }

-- ---- names

-- the names of the branches are the keys of their table
names-keys : (es : List (List ℕ × ℕ)) → names_of (map named_branch es) ≡ keys_of es
unfolding names_of
names-keys es = map-map (λ (b : Branch). b.name) named_branch es

exchanger_names-keys : (xs : List Exchanger) → keys_of (map named_sides xs) ≡ map (λ (x : Exchanger). x.name) xs
exchanger_names-keys xs = map-map (λ (e : List ℕ × Sides). e.0) named_sides xs

-- what is no name is none of some names
pub unnamed : (names : List (List ℕ)) (name : List ℕ) → All IsAnyName names → is_branch_name name ≡ false
    → position (bytes_eq name) names ≡ None
unnamed names name named other =
    let fails = list_any_none (bytes_eq name) names (λ k d within. false_from_ne_true _ (λ e. let same = (bytes_decides name (get_or names k d)).0 e in
    cc (other, ap is_branch_name same, branch_name-passes (get_or names k d) (named k d within)))) in
    none_there _ (is_some-position (bytes_eq name) names ∙ fails)

-- a look-up among the names of branches and of exchangers
pub branch_named-keys : (es : List (List ℕ × ℕ)) (ls : List Line) (name : List ℕ)
    → branch_named (so_far es ls) name ≡ position (bytes_eq name) (keys_of es)
unfolding branch_named
branch_named-keys es ls name = ap (position (bytes_eq name)) (names-keys es)

pub exchanger_named-keys : (es : List (List ℕ × Sides)) (bs : List Branch) (ls : List Line) (name : List ℕ)
    → es ≡ map named_sides (exchangers_of ls)
    → exchanger_named (record { branches = bs; lines = ls }) name ≡ position (bytes_eq name) (keys_of es)
unfolding exchanger_named
exchanger_named-keys es bs ls name is =
    ap (position (bytes_eq name)) (sym (ap keys_of is ∙ exchanger_names-keys (exchangers_of ls)))

-- ---- streams and sides

pub stream_at-entry : (es : List (List ℕ × ℕ)) (k : ℕ) (e : List ℕ × ℕ) → slice_get es k ≡ Some e
    → stream_at (map named_branch es) k ≡ e.1
unfolding stream_at
stream_at-entry es k e at = rw (slice_get-map named_branch es k, at) refl

pub stream_at-none : (es : List (List ℕ × ℕ)) (k : ℕ) → slice_get es k ≡ None → stream_at (map named_branch es) k ≡ 0
unfolding stream_at
stream_at-none es k at = rw (slice_get-map named_branch es k, at) refl

-- ---- new among the old

-- one that differs from each before it is not found among them
module _ {X : Type 0} (eq : X → X → Bool) (same : (a b : X) → eq a b ≡ true → a ≡ b) where
  pub first_new : (xs : List X) (new : AtMostTwo X) (x : X) (later : List X) → members new ≡ x ∷ later
      → AllPairs (λ a b. a ≢ b) (xs ++ members new)
      → list_any (eq x) xs ≡ false
  first_new xs new x later is pairs =
      let all = subst (λ (ys : List X). AllPairs (λ (a b : X). a ≢ b) (xs ++ ys)) is pairs in
      list_any_none (eq x) xs (λ k d early.
      false_from_ne_true _ (λ e. AllPairs-across (λ (a b : X). a ≢ b) xs (x ∷ later) k d all early 0 x (omega arith) (sym (same x (get_or xs k d) e))))

  pub second_new : (xs ys : List X) (new : AtMostTwo X) (x y : X) → members new ≡ x ∷ y ∷ []
      → AllPairs (λ a b. a ≢ b) (xs ++ members new) → ys ≡ xs ++ x ∷ []
      → list_any (eq y) ys ≡ false
  second_new xs ys new x y is pairs one =
      let all = ap (λ zs. xs ++ zs) is ∙ sym (append_assoc xs (x ∷ []) (y ∷ [])) ∙ ap (λ zs. zs ++ y ∷ []) (sym one) in
      first_new ys (few.One y) y [] refl (subst (AllPairs (λ (a b : X). a ≢ b)) all pairs)

-- a new name goes last
pub new_entry : {V S : Type 0} (m : IndexMap (List ℕ) V S) (name : List ℕ) (v : V)
    → list_any (bytes_eq name) (keys_of m.entries) ≡ false
    → insert_entry bytes_eq m.entries name v ≡ m.entries ++ (name, v) ∷ []
new_entry m name v none =
    insert_entry-new bytes_eq m name v (none_there _ (is_some-lookup (bytes_eq name) m.entries ∙ none))

-- ---- one entry more

few_members : {X : Type 0} (new : AtMostTwo X) → length (members new) ≤ 2
few_members few.Nothing = omega arith
few_members (few.One a) = omega arith
few_members (few.Two a b) = omega arith

named_exchanger : (o : Option Exchanger) → ForSome o (λ x. IsAnyName x.name)
    → All IsAnyName (keys_of (map named_sides (option_to_list o)))
named_exchanger None named = All-nil IsAnyName
named_exchanger (Some x) named = All-cons IsAnyName x.name [] (named x refl) (All-nil IsAnyName)

module _ {es : List (List ℕ × ℕ)} {used : List ℕ} {xs : List (List ℕ × Sides)} {passed : List Passage} {ls : List Line} (is : IsTracked es used xs passed ls)
    (e : Entry) (fresh : IsFresh (so_far es ls) e) where
  pub new_exchanger : AllPairs (λ a b. a ≢ b) (keys_of xs ++ map (λ x. x.name) (option_to_list (exchanger_of e.line)))
  new_exchanger =
      let own = option_to_list (exchanger_of e.line) in
      let all = AllPairs-map (λ (a b : List ℕ). a ≢ b) (λ (x : Exchanger). x.name) (exchangers_of ls ++ own) fresh.new_exchanger in
      let keys = ap keys_of is.exchangers_are ∙ exchanger_names-keys (exchangers_of ls) in
      subst (AllPairs (λ (a b : List ℕ). a ≢ b))
      (map-append (λ (x : Exchanger). x.name) (exchangers_of ls) own ∙ ap (λ ns. ns ++ map (λ (x : Exchanger). x.name) own) (sym keys)) all

  pub unused-now : AllPairs (λ a b. a ≢ b) (used ++ uses e.line)
  unused-now = subst (λ us. AllPairs (λ (a b : ℕ). a ≢ b) (us ++ uses e.line)) (sym is.used_are) fresh.unused

  pub new_names : AllPairs (λ a b. a ≢ b) (keys_of es ++ members e.names)
  new_names = subst (λ ns. AllPairs (λ (a b : List ℕ). a ≢ b) (ns ++ members e.names)) (names-keys es) fresh.new_names

  pub unpassed : ForSome (passage_of (map named_branch es) e.line) (λ p. list_any (same_passage p) passed ≡ false)
  unfolding is_passed
  unpassed p at = ap (list_any (same_passage p)) is.passed_are ∙ fresh.unpassed p at

  -- the branches that the entry makes, as entries of their table
  abbrev pub made_entries : ℕ → List (List ℕ × ℕ)
  made_entries stream = map (λ name. (name, stream)) (members e.names)

  pub view-with : (stream : ℕ) → stream ≡ first_stream (map named_branch es) (uses e.line)
      → so_far (es ++ made_entries stream) (ls ++ e.line ∷ []) ≡ with_entry (so_far es ls) e
  unfolding with_entry
  view-with stream own =
      let branches = map-append named_branch es (made_entries stream)
      ∙ (λ i. map named_branch es ++ map-map named_branch (λ (name : List ℕ). (name, own i)) (members e.names) i) in
      λ i. record { branches = branches i; lines = ls ++ e.line ∷ [] }

  pub tracked-with : (stream : ℕ) → length ls < MOST_STATEMENTS
      → IsTracked (es ++ made_entries stream) (used ++ uses e.line) (xs ++ map named_sides (option_to_list (exchanger_of e.line)))
      (passed ++ option_to_list (passage_of (map named_branch es) e.line)) (ls ++ e.line ∷ [])
  tracked-with stream room =
      let l = e.line in
      let bs = map named_branch es in
      let more = made_entries stream in
      let own = map named_sides (option_to_list (exchanger_of l)) in
      let all : map named_branch (es ++ more) ≡ bs ++ map named_branch more = map-append named_branch es more in
      let wide : length bs ≡ length es = length-map es named_branch in
      let before : All (λ k. k < length bs) (used_by ls) = rw wide is.made in
      let made : All (λ k. k < length bs) (used_by (ls ++ l ∷ [])) = rw (used_by-push ls l)
      (All-append (λ k. k < length bs) (used_by ls) (uses l) before fresh.known) in
      let long : length (es ++ more) ≡ length es + length (members e.names) = length-append es more
      ∙ ap (λ n. length es + n) (length-map (members e.names) (λ (name : List ℕ). (name, stream))) in
      let names : keys_of (es ++ more) ≡ keys_of es ++ members e.names = map-append (λ (x : List ℕ × ℕ). x.0) es more
      ∙ ap (λ ns. keys_of es ++ ns) (map-map (λ (x : List ℕ × ℕ). x.0) (λ (name : List ℕ). (name, stream)) (members e.names) ∙ map-id (members e.names)) in
      record {
        used_are = ap (λ u. u ++ uses l) is.used_are ∙ sym (used_by-push ls l);
        exchangers_are = ap (λ ys. ys ++ own) is.exchangers_are
            ∙ sym (ap (map named_sides) (exchangers_of-push ls l) ∙ map-append named_sides (exchangers_of ls) (option_to_list (exchanger_of l)));
        passed_are = ap (λ p. p ++ option_to_list (passage_of bs l)) is.passed_are
            ∙ sym (ap (λ b. passages_of b (ls ++ l ∷ [])) all ∙ passages_of-front bs (map named_branch more) (ls ++ l ∷ []) made ∙ passages_of-push bs ls l);
        made =
            All-weaker (λ k. k < length bs) (λ k. k < length (es ++ more)) (λ k within. omega (arith, within, long, wide)) (used_by (ls ++ l ∷ [])) made;
        branch_names = rw names (All-append IsAnyName (keys_of es) (members e.names) is.branch_names fresh.names);
        exchanger_names = rw (map-append (λ (x : List ℕ × Sides). x.0) xs own)
            (All-append IsAnyName (keys_of xs) (keys_of own) is.exchanger_names (named_exchanger (exchanger_of l) fresh.exchanger));
        few_lines = omega (arith, room, length-append ls (l ∷ []));
        few_branches = omega (arith, is.few_branches, long, few_members e.names, length-append ls (l ∷ []));
      }

-- The branches of the streams themselves, and their table.

own_keys : (streams : List Stream) → keys_of (own_entries streams) ≡ map (λ (s : Stream). s.name) streams
unfolding own_entries
own_keys streams = map-map (λ (e : List ℕ × ℕ). e.0) own_entry (enumerate_from 0 streams)
    ∙ sym (map-map (λ (s : Stream). s.name) (λ (p : ℕ × Stream). p.1) (enumerate_from 0 streams))
    ∙ ap (map (λ (s : Stream). s.name)) (map-enumerate_from_item 0 streams)

-- one stream more
pub own_entries-more : (streams : List Stream) (i : ℕ) (s : Stream) → i < length streams → get_or streams i s ≡ s
    → own_entries (take (i + 1) streams) ≡ own_entries (take i streams) ++ (s.name, i) ∷ []
unfolding own_entries
own_entries-more streams i s within here =
    let more = take_more streams i s within ∙ ap (λ x. take i streams ++ x ∷ []) here in
    let count : 0 + length (take i streams) ≡ i = omega (arith, length-take-le i streams (omega arith)) in
    ap (λ l. map own_entry (enumerate_from 0 l)) more
    ∙ ap (map own_entry) (enumerate_from-push 0 (take i streams) s ∙ ap (λ k. enumerate_from 0 (take i streams) ++ (k, s) ∷ []) count)
    ∙ map-append own_entry (enumerate_from 0 (take i streams)) ((i, s) ∷ [])

-- its name is none of those before it
pub own_entries-new : (streams : List Stream) (i : ℕ) (s : Stream) → i < length streams → get_or streams i s ≡ s
    → AllPairs (λ a b. a ≢ b) (map (λ (s : Stream). s.name) streams)
    → list_any (bytes_eq s.name) (keys_of (own_entries (take i streams))) ≡ false
own_entries-new streams i s within here distinct =
    let names = map (λ (t : Stream). t.name) streams in
    let inside : i < length names = omega (arith, within, length-map streams (λ (t : Stream). t.name)) in
    let name : get_or names i [] ≡ s.name
    = get_or-map (λ (t : Stream). t.name) streams i s [] within ∙ ap (λ (t : Stream). t.name) here in
    let earlier = subst (λ n. All (λ m. m ≢ n) (take i names)) name (AllPairs-before (λ (a b : List ℕ). a ≢ b) names i [] distinct inside) in
    ap (list_any (bytes_eq s.name)) (own_keys (take i streams) ∙ sym (take-map (λ (t : Stream). t.name) i streams))
    ∙ list_any_none (bytes_eq s.name) (take i names)
    (All-weaker (λ m. m ≢ s.name) (λ m. bytes_eq s.name m ≡ false) (λ m other. other_name s.name m other) (take i names) earlier)

-- ---- before the first statement

pub own-view : (case : Case) → so_far (own_entries case.streams) [] ≡ start case
unfolding own_entries own_branches start
own-view case = λ i. record { branches = map-map named_branch own_entry (enumerate_from 0 case.streams) i; lines = [] }

pub own-tracked : (case : Case) → StaysValid case → IsTracked (own_entries case.streams) [] [] [] []
unfolding own_entries used_by exchangers_of passages_of
own-tracked case valid =
    let few = length-map (enumerate_from 0 case.streams) own_entry ∙ length-enumerate_from 0 case.streams in
    let names = All-front IsName (map (λ (s : Stream). s.name) case.streams) (map (λ (u : Utility). u.name) case.utilities) valid.names in
    record {
      used_are = refl;
      exchangers_are = refl;
      passed_are = refl;
      made = All-nil (λ k. k < length (own_entries case.streams));
      branch_names =
          rw (own_keys case.streams) (All-weaker IsName IsAnyName (λ n is. inl is) (map (λ (s : Stream). s.name) case.streams) names);
      exchanger_names = All-nil IsAnyName;
      few_lines = omega arith;
      few_branches = omega (arith, few, length-AreStreams case.streams valid.streams.are_streams);
    }
