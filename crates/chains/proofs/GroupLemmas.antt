-- Lists of exactly the values that meet a predicate, each once: one value more, and what a loop over such a list keeps; the sources of a side, and groups.
use Rattle.chains.proofs.Words.{ALL_UTILITIES, All, All-append, All-cons_if, All-contains, All-enumerated, All-flat_map, All-nil, All-push, All-slice_get}
use Rattle.chains.proofs.Words.{All-weaker, AllPairs, AllPairs-append, AllPairs-before, AllPairs-cons_if, AllPairs-nil, Any, Any-push, AreGroups, AreSources}
use Rattle.chains.proofs.Words.{AreStreams-IsComplete, Case, Contains, Contains-append_left, Contains-append_right, Contains-flat_map, Contains-push}
use Rattle.chains.proofs.Words.{Contains-push_cases, Group, HaveSamePartners, Hot, IsComplete, IsLike, Lists-same, ListsOnce, MOST_INNER_NODES, MOST_PARTS}
use Rattle.chains.proofs.Words.{MOST_PLACES, MOST_STREAMS, Side, Source, StandInLine, StandsIn, Stream, Utility, all_pairs_push, cases_order, append-nil}
use Rattle.chains.proofs.Words.{cons_if, count_by, count_by-cons, count_by-le-length, enumerate_from, false_from_ne_true, false≢true, flat_map, get_or_default}
use Rattle.chains.proofs.Words.{get_or_from_slice_get, length-take, length-utilities, length_push, mul-le, own_side, same_Some, same_side}
use Rattle.chains.proofs.Words.{same_side-true, side_among, side_of, slice_get_push, slice_get_read, slice_get_within, streams_on, take_all, utilities_on}
use Rattle.std.proofs.Common.{Bool, List, None, Option, Some, [], ap, arith, cond, false, get_or, inl, inr, length, length-append, option_map, refl, slice_get}
use Rattle.std.proofs.Common.{subst, subst₂, sym, take, true, ℕ, ⊎_elim, ◌*◌, ◌++◌, ◌+◌, ◌<◌, ◌∙◌, ◌∷◌, ◌≡◌, ◌≢◌, ◌≤◌, ◌⊎◌}
use Rattle.chains.proofs.FlatMaps.{Contains-enumerated, enumerated-step, taken-more}
use Rattle.stream_case.specs.declared.source.Source.TheVariants.{Stream as of_stream, Utility as of_utility}

module _ {X : Type 0} where
  -- one value more
  pub once-push : (P Q : X → Type 0) (xs : List X) (x : X) → ListsOnce P xs → (P x → ⊥) → Q x
      → ((y : X) → P y → Q y) → ((y : X) → Q y → P y ⊎ (y ≡ x))
      → ListsOnce Q (xs ++ x ∷ [])
  once-push P Q xs x h new own there back = record {
    ordered = all_pairs_push (λ a b. a ≢ b) xs x h.ordered (λ k d within e. new (subst P e (h.each k d within)));
    each = All-push Q xs x (All-weaker P Q there xs h.each) own;
    every =
        λ y q.
        ⊎_elim (λ p. Contains-append_left xs (x ∷ []) y (h.every y p)) (λ e.
        subst (Contains (xs ++ x ∷ [])) (sym e) (Contains-push xs x)) (back y q);
  }

  -- ---- what a loop over such a list has kept so far

  -- of the first n values, those that meet P
  abbrev pub KeptSoFar : (X → Type 0) → List X → ℕ → List X → Type 0
  KeptSoFar P xs n kept = ListsOnce (λ x. Contains (take n xs) x × P x) kept

  module _ (P : X → Type 0) (xs : List X) (differ : AllPairs (λ a b. a ≢ b) xs) (i : ℕ)
      (within : i < length xs) (x : X) (is : x ≡ get_or xs i x) (kept : List X) (before : KeptSoFar P xs i kept) where
    pub kept-push : P x → KeptSoFar P xs (i + 1) (kept ++ x ∷ [])
    kept-push own =
        let before_i = AllPairs-before (λ a b. a ≢ b) xs i x differ within in
        let listed = once-push (λ y. Contains (take i xs) y × P y) (λ y. Contains (take i xs ++ x ∷ []) y × P y) kept x
        before (λ h. All-contains (λ y. y ≢ get_or xs i x) (take i xs) x before_i h.0 is)
        (Contains-push (take i xs) x, own) (λ y h. (Contains-append_left (take i xs) (x ∷ []) y h.0, h.1))
        (λ y h.
        ⊎_elim (λ early. inl (early, h.1)) (λ last. inr (sym last)) (Contains-push_cases (take i xs) x y h.0)) in
        subst (λ ys. ListsOnce (λ y. Contains ys y × P y) (kept ++ x ∷ [])) (sym (taken-more xs i x within is)) listed

    pub kept-pass : (P x → ⊥) → KeptSoFar P xs (i + 1) kept
    kept-pass other =
        let listed = Lists-same (λ a b. a ≢ b) (λ y. Contains (take i xs) y × P y)
        (λ y. Contains (take i xs ++ x ∷ []) y × P y) kept
        (λ y h. (Contains-append_left (take i xs) (x ∷ []) y h.0, h.1))
        (λ y h.
        ⊎_elim (λ early. (early, h.1)) (λ last. absurd (other (subst P (sym last) h.1)))
        (Contains-push_cases (take i xs) x y h.0))
        before in
        subst (λ ys. ListsOnce (λ y. Contains ys y × P y) kept) (sym (taken-more xs i x within is)) listed

-- The lists of the sources on a side.

abbrev Differ : Source → Source → Type 0
Differ a b = a ≢ b

-- of items that have a side, the sources by their indexes
module _ {X : Type 0} (side_in : X → Side) (source : ℕ → Source) (side : Side) where
  abbrev on : X → Bool
  on x = same_side (side_in x) side

  abbrev of_item : ℕ × X → List Source
  of_item p = cons_if (on p.1) (source p.0) []

  abbrev from : ℕ → List X → List Source
  from n xs = flat_map of_item (enumerate_from n xs)

  abbrev IsAt : List X → Source → Type 0
  IsAt xs s = (i : ℕ) × (s ≡ source i) × (option_map side_in (slice_get xs i) ≡ Some side)

  each_is : (xs : List X) → All (IsAt xs) (from 0 xs)
  each_is xs =
      let each_item = All-enumerated (λ p. All (IsAt xs) (of_item p)) xs (λ i x at.
      All-cons_if (IsAt xs) (on x) (source i) [] (λ is.
      (i, refl, ap (option_map side_in) at ∙ ap Some (same_side-true (side_in x) side is))) (All-nil (IsAt xs))) in
      All-flat_map (IsAt xs) of_item (enumerate_from 0 xs) each_item

  every_is : (xs : List X) (i : ℕ) → option_map side_in (slice_get xs i) ≡ Some side → Contains (from 0 xs) (source i)
  every_is xs i = at (slice_get xs i) refl
    where
      at : (o : Option X) → slice_get xs i ≡ o → option_map side_in o ≡ Some side → Contains (from 0 xs) (source i)
      at None none is = cc is
      at (Some x) there is =
          let test : on x ≡ true = ap (λ a. same_side a side) (same_Some (side_in x) side is) ∙ own_side side in
          Contains-flat_map of_item (enumerate_from 0 xs) (i, x) (source i) (Contains-enumerated xs i x there)
          (subst (λ b. Contains (cons_if b (source i) []) (source i)) (sym test) (0, omega arith, refl))

  -- one item more, as a loop pushes it
  pub item_pushed : (xs : List X) (i : ℕ) (x : X) (before after now : List Source) (test : Bool)
      → i < length xs → x ≡ get_or xs i x
      → after ≡ before ++ from 0 (take i xs) → (test ≡ true → side_in x ≡ side) → (side_in x ≡ side → test ≡ true)
      → ((test ≡ true) × (now ≡ after ++ source i ∷ [])) ⊎ ((test ≡ false) × (now ≡ after))
      → now ≡ before ++ from 0 (take (i + 1) xs)
  item_pushed xs i x before after now test within is so_far there own pushed =
      enumerated-step xs i x before after now within is of_item so_far (by pushed)
    where
      by : ((test ≡ true) × (now ≡ after ++ source i ∷ [])) ⊎ ((test ≡ false) × (now ≡ after))
          → now ≡ after ++ of_item (i, x)
      by (inl (on_it, more)) =
          let own = ap (λ a. same_side a side) (there on_it) ∙ own_side side in
          more ∙ ap (λ b. after ++ cons_if b (source i) []) (sym own)
      by (inr (off_it, kept)) = kept ∙ sym (append-nil after) ∙ ap (λ b. after ++ cons_if b (source i) [])
          (sym (false_from_ne_true (on x) (λ e. false≢true (sym off_it ∙ own (same_side-true (side_in x) side e)))))

  few_on : (n : ℕ) (xs : List X) → length (from n xs) ≤ count_by on xs
  few_on n [] = omega arith
  few_on n (x ∷ xs) =
      omega (
        arith,
        count_by-cons on x xs,
        length-append (of_item (n, x)) (from (n + 1) xs),
        few_on (n + 1) xs,
        one_or_none (on x) (source n),
      )
    where
      one_or_none : (b : Bool) (s : Source) → length (cons_if b s []) ≡ cond b 1 0
      one_or_none true s = refl
      one_or_none false s = refl

  -- the later ones have greater indexes
  abbrev IsLate : ℕ → Source → Type 0
  IsLate n s = (i : ℕ) × (n ≤ i) × (s ≡ source i)

  each_late : (n : ℕ) (xs : List X) → All (IsLate n) (from n xs)
  each_late n [] = All-nil (IsLate n)
  each_late n (x ∷ xs) =
      let this_late = All-cons_if (IsLate n) (on x) (source n) [] (λ is. (n, omega arith, refl)) (All-nil (IsLate n)) in
      let others_late = All-weaker (IsLate (n + 1)) (IsLate n) (λ s h. (h.0, omega (arith, h.1), h.2)) (from (n + 1) xs)
      (each_late (n + 1) xs) in
      All-append (IsLate n) (of_item (n, x)) (from (n + 1) xs) this_late others_late

  once : ((i j : ℕ) → source i ≡ source j → i ≡ j) → (n : ℕ) (xs : List X) → AllPairs Differ (from n xs)
  once one n [] = AllPairs-nil Differ
  once one n (x ∷ xs) =
      let later = from (n + 1) xs in
      let differ =
      λ (s : Source) (h : IsLate (n + 1) s) (e : source n ≡ s). absurd (omega (arith, h.1, one n h.0 (e ∙ h.2))) in
      let this_once =
      AllPairs-cons_if Differ (on x) (source n) [] (λ is. All-nil (Differ (source n))) (AllPairs-nil Differ) in
      let this_differs = All-cons_if (λ a. All (Differ a) later) (on x) (source n) []
      (λ is. All-weaker (IsLate (n + 1)) (Differ (source n)) differ later (each_late (n + 1) xs))
      (All-nil (λ a. All (Differ a) later)) in
      AllPairs-append Differ (of_item (n, x)) later this_once (once one (n + 1) xs) this_differs

module _ (streams : List Stream) (utilities : List Utility) (side : Side) where
  abbrev IsOn : Source → Type 0
  IsOn source = side_among streams utilities source ≡ Some side

  every_on : (source : Source) → IsOn source → Contains (streams_on side streams ++ utilities_on side utilities) source
  every_on (of_stream i) is =
      let in_streams = every_is (λ (s : Stream). s.side) of_stream side streams i is in
      Contains-append_left (streams_on side streams) (utilities_on side utilities) (of_stream i) in_streams
  every_on (of_utility i) is =
      Contains-append_right (streams_on side streams) (utilities_on side utilities) (of_utility i)
      (every_is (λ (u : Utility). u.side) of_utility side utilities i is)

  pub AreSources-on : AreSources streams utilities side (streams_on side streams ++ utilities_on side utilities)
  AreSources-on =
      let firsts = streams_on side streams in
      let others = utilities_on side utilities in
      let of_streams = each_is (λ (s : Stream). s.side) of_stream side streams in
      let of_utilities = each_is (λ (u : Utility). u.side) of_utility side utilities in
      let IsFirst = IsAt (λ (s : Stream). s.side) of_stream side streams in
      let IsOther = IsAt (λ (u : Utility). u.side) of_utility side utilities in
      let differ =
      λ (s : Source) (h : IsFirst s). All-weaker IsOther (Differ s) (λ u k e. (cc (e, h.1, k.1))) others of_utilities in
      record {
        listed = record {
          ordered =
              let streams_once = once (λ (s : Stream). s.side) of_stream side (λ i j e. (cc)) 0 streams in
              let utilities_once = once (λ (u : Utility). u.side) of_utility side (λ i j e. (cc)) 0 utilities in
              let kinds_differ = All-weaker IsFirst (λ a. All (Differ a) others) differ firsts of_streams in
              AllPairs-append Differ firsts others streams_once utilities_once kinds_differ;
          each =
              let streams_on_side = All-weaker IsFirst IsOn (λ s h. subst IsOn (sym h.1) h.2) firsts of_streams in
              let utilities_on_side = All-weaker IsOther IsOn (λ u h. subst IsOn (sym h.1) h.2) others of_utilities in
              All-append IsOn firsts others streams_on_side utilities_on_side;
          every = every_on;
        };
        few =
            let all = count_by-le-length (λ (u : Utility). same_side u.side side) utilities in
            let both = length-append firsts others in
            omega (
              arith,
              few_on (λ (s : Stream). s.side) of_stream side 0 streams,
              few_on (λ (u : Utility). u.side) of_utility side 0 utilities,
              all,
              both,
            );
      }

-- Groups of hot sources, one hot source after another.

-- ---- the groups so far

-- the sources of a group are those to which the same is permitted as to one of these sources
pub record IsGroupFrom (c : Case) (early : List Source) (g : Group) : Type 0 where
  pub first : Source
  pub is_early : Contains early first
  pub sources : ListsOnce (IsLike c first) g.sources

-- the same is permitted to no source of the one and no source of the other
abbrev pub AreApart : Case → Group → Group → Type 0
AreApart c g h = (p q : Source) → Contains g.sources p → Contains h.sources q → HaveSamePartners c p q → ⊥

abbrev pub StandsInOne : List Group → Source → Type 0
StandsInOne groups source = Any (λ g. Contains g.sources source) groups

-- the groups from these sources, which stand in them
pub record HoldsGroups (c : Case) (early : List Source) (first nodes : ℕ) (groups : List Group) : Type 0 where
  pub each : All (IsGroupFrom c early) groups
  pub every : All (StandsInOne groups) early
  pub apart : AllPairs (AreApart c) groups
  pub in_line : StandInLine first nodes groups
  pub few : length groups ≤ length early

module _ (c : Case) (early : List Source) (first nodes : ℕ) (groups : List Group)
    (h : HoldsGroups c early first nodes groups) (source : Source) where
  more_early : (g : Group) → IsGroupFrom c early g → IsGroupFrom c (early ++ source ∷ []) g
  more_early g k =
      record {
        first = k.first;
        is_early = Contains-append_left early (source ∷ []) k.first k.is_early;
        sources = k.sources;
      }

  -- a source that stands in a group
  pub groups-pass : StandsInOne groups source → HoldsGroups c (early ++ source ∷ []) first nodes groups
  groups-pass stands = record {
    each = All-weaker (IsGroupFrom c early) (IsGroupFrom c (early ++ source ∷ [])) more_early groups h.each;
    every = All-push (StandsInOne groups) early source h.every stands;
    apart = h.apart;
    in_line = h.in_line;
    few = omega (arith, h.few, length_push early source);
  }

  module _ (g : Group) (hot : side_of c source ≡ Some Hot) (sources : ListsOnce (IsLike c source) g.sources)
      (node : g.first_node ≡ first + length groups * nodes) (new : StandsInOne groups source → ⊥) where
    still : (s : Source) → StandsInOne groups s → StandsInOne (groups ++ g ∷ []) s
    still s (k, f, within, is, found) =
        let (j, j_in, there) = Contains-append_left groups (g ∷ []) f (k, within, is) in
        (j, f, j_in, there, found)

    apart_from : (f : Group) → Contains groups f → AreApart c f g
    apart_from f in_groups p q in_f in_g same =
        let from = All-contains (IsGroupFrom c early) groups f h.each in_groups in
        let of_p = (All-contains (IsLike c from.first) f.sources p from.sources.each in_f).alike in
        let of_q = (All-contains (IsLike c source) g.sources q sources.each in_g).alike in
        let to_source : HaveSamePartners c from.first source
        = λ cold side. of_p cold side ∙ same cold side ∙ sym (of_q cold side) in
        let in_that = from.sources.every source (record { side = hot; alike = to_source }) in
        let (k, within, there) = in_groups in new (k, f, within, there, in_that)

    -- one that begins a group
    pub groups-push : HoldsGroups c (early ++ source ∷ []) first nodes (groups ++ g ∷ [])
    groups-push =
        let own = sources.every source (record { side = hot; alike = λ cold at. refl }) in
        record {
          each = All-push (IsGroupFrom c (early ++ source ∷ [])) groups g
              (All-weaker (IsGroupFrom c early) (IsGroupFrom c (early ++ source ∷ [])) more_early groups h.each)
              (record { first = source; is_early = Contains-push early source; sources = sources });
          every =
              let old_stand = All-weaker (StandsInOne groups) (StandsInOne (groups ++ g ∷ [])) still early h.every in
              let new_stands = Any-push (λ f. Contains f.sources source) groups g own in
              All-push (StandsInOne (groups ++ g ∷ [])) early source old_stand new_stands;
          apart =
              all_pairs_push (AreApart c) groups g h.apart (λ k d within.
              apart_from (get_or groups k d) (k, within, get_or_default groups k (get_or groups k d) d within));
          in_line =
              λ i f at.
              ⊎_elim (λ here. h.in_line i f here) (λ last.
              ap (λ f. f.first_node) last.1 ∙ node ∙ ap (λ n. first + n * nodes) (sym last.0))
              (slice_get_push groups g i f at);
          few = omega (arith, h.few, length_push early source, length_push groups g);
        }

-- ---- steps of the loop

module _ (c : Case) (hot : List Source) (first nodes : ℕ) (i : ℕ) (within : i < length hot) (source : Source)
    (is : source ≡ get_or hot i source) (groups : List Group) (h : HoldsGroups c (take i hot) first nodes groups) where
  pub groups-old : (now : List Group) → now ≡ groups → StandsInOne groups source
      → HoldsGroups c (take (i + 1) hot) first nodes now
  groups-old now same stands =
      subst₂ (λ early gs. HoldsGroups c early first nodes gs) (sym (taken-more hot i source within is)) (sym same)
      (groups-pass c (take i hot) first nodes groups h source stands)

  pub groups-new : (now : List Group) (g : Group) → now ≡ groups ++ g ∷ [] → side_of c source ≡ Some Hot
      → ListsOnce (IsLike c source) g.sources
      → g.first_node ≡ first + length groups * nodes → (StandsInOne groups source → ⊥)
      → HoldsGroups c (take (i + 1) hot) first nodes now
  groups-new now g pushed side sources node new =
      subst₂ (λ early gs. HoldsGroups c early first nodes gs) (sym (taken-more hot i source within is)) (sym pushed)
      (groups-push c (take i hot) first nodes groups h source g side sources node new)

-- ---- the whole

module _ (c : Case) (hot : List Source) (lists : ListsOnce (λ source. side_of c source ≡ Some Hot) hot)
    (first nodes : ℕ) (groups : List Group) (h : HoldsGroups c hot first nodes groups) where
  from_of : (i : ℕ) (g : Group) → slice_get groups i ≡ Some g → IsGroupFrom c hot g
  from_of i g at = All-slice_get (IsGroupFrom c hot) groups i g h.each at

  never_same : (i j : ℕ) (p q : Source) → i < j → StandsIn groups i p → StandsIn groups j q → HaveSamePartners c p q → ⊥
  never_same i j p q before (f, f_at, in_f) (g, g_at, in_g) same =
      let same_f = get_or_from_slice_get groups i f f f_at in
      let same_g = get_or_from_slice_get groups j g f g_at in
      h.apart i j f before (slice_get_within groups j g g_at) p q (subst (λ k. Contains k.sources p) (sym same_f) in_f)
      (subst (λ k. Contains k.sources q) (sym same_g) in_g) same

  pub AreGroups-holds : AreGroups c groups
  AreGroups-holds = record {
    hot = λ i source (g, at, found). let from = from_of i g at in
        (All-contains (IsLike c from.first) g.sources source from.sources.each found).side;
    some =
        λ source side.
        let (k, g, within, is, found) =
        All-contains (StandsInOne groups) hot source h.every (lists.every source side) in
        (k, (g, slice_get_read groups (length groups) k g refl within (sym is), found));
    filled = All-weaker (IsGroupFrom c hot) (λ g. 0 < length g.sources) some_source groups h.each;
    once =
        All-weaker (IsGroupFrom c hot) (λ g. AllPairs (λ p q. p ≢ q) g.sources) (λ g from. from.sources.ordered) groups
        h.each;
    alike = λ i j p q in_i in_j. (together i j p q in_i in_j, apart i j p q in_i in_j);
  }
    where
      some_source : (g : Group) → IsGroupFrom c hot g → 0 < length g.sources
      some_source g from =
          let side = All-contains (λ s. side_of c s ≡ Some Hot) hot from.first lists.each from.is_early in
          let (k, within, is) = from.sources.every from.first (record { side = side; alike = λ cold at. refl }) in
          omega (arith, within)

      together : (i j : ℕ) (p q : Source) → StandsIn groups i p → StandsIn groups j q → i ≡ j → HaveSamePartners c p q
      together i j p q (f, f_at, in_f) (g, g_at, in_g) e =
          let from = from_of i f f_at in
          let one : f ≡ g = same_Some f g (sym f_at ∙ ap (slice_get groups) e ∙ g_at) in
          let of_p = (All-contains (IsLike c from.first) f.sources p from.sources.each in_f).alike in
          let of_q = (All-contains (IsLike c from.first) f.sources q from.sources.each
          (subst (λ k. Contains k.sources q) (sym one) in_g)).alike in
          λ cold side. sym (of_p cold side) ∙ of_q cold side

      apart : (i j : ℕ) (p q : Source) → StandsIn groups i p → StandsIn groups j q → HaveSamePartners c p q → i ≡ j
      apart i j p q in_i in_j same =
          ⊎_elim (λ e. e) (λ other. absurd (⊎_elim (λ less. never_same i j p q less in_i in_j same)
          (λ more. never_same j i q p more in_j in_i (λ cold side. sym (same cold side))) other)) (cases_order i j)

-- ---- sizes

-- the hot sources of a completed case are few
pub few_groups : (c : Case) (hot items : List Source) (first nodes i : ℕ) (groups : List Group)
    → IsComplete c → AreSources c.streams c.utilities Hot hot
    → items ≡ hot → HoldsGroups c (take i items) first nodes groups → length groups ≤ MOST_STREAMS + ALL_UTILITIES
few_groups c hot items first nodes i groups complete sources is h =
    omega (
      arith,
      sources.few,
      h.few,
      (AreStreams-IsComplete c complete).few Hot,
      length-utilities c complete,
      length-take i items,
      ap length is,
    )

-- so their chains have few nodes
pub few_chain_nodes : (groups nodes : ℕ) → groups ≤ MOST_STREAMS + ALL_UTILITIES → nodes ≤ 2 * MOST_PLACES
    → 2 * MOST_PARTS + groups * nodes < MOST_INNER_NODES
few_chain_nodes groups nodes few_groups few_nodes =
    omega (arith, mul-le groups nodes (MOST_STREAMS + ALL_UTILITIES) (2 * MOST_PLACES) few_groups few_nodes)

-- ---- a list of hot sources that are like one

pub likes-all : (c : Case) (hot : List Source) (first : Source) (i : ℕ) (kept : List Source)
    → ListsOnce (λ source. side_of c source ≡ Some Hot) hot
    → length hot ≤ i → KeptSoFar (HaveSamePartners c first) hot i kept → ListsOnce (IsLike c first) kept
likes-all c hot first i kept lists past h =
    Lists-same (λ a b. a ≢ b) (λ s. Contains (take i hot) s × HaveSamePartners c first s) (IsLike c first) kept
    (λ s both. let stands = subst (λ xs. Contains xs s) (take_all i hot past) both.0 in
    record { side = All-contains (λ x. side_of c x ≡ Some Hot) hot s lists.each stands; alike = both.1 })
    (λ s like. (subst (λ xs. Contains xs s) (sym (take_all i hot past)) (lists.every s like.side), like.alike))
    h
