-- The walk over the statements: the branches that were made carry a valuation, and the lines so far are passed.
use Rattle.network_audit.proofs.ItemLemmas.{flat_map-same, found-behind, found-front, found-nothing, passed-item}
use Rattle.network_audit.proofs.Words.{All-enumerated, All-head, All-tail, BranchValue, Case, Decides-is_below}
use Rattle.network_audit.proofs.Words.{Exchanger, Finding, HasShape, IsComplete, IsFinding, IsLineOf, IsValuation}
use Rattle.network_audit.proofs.Words.{IsWholeValuation, LeavesRoom, Line, Network, Place, Valuation, all_made}
use Rattle.network_audit.proofs.Words.{branch_side, duty_at, end_items, enumerate_from, first_finding, first_value}
use Rattle.network_audit.proofs.Words.{get_or_from_slice_get, is_latent_branch, items, items-more, items_before}
use Rattle.network_audit.proofs.Words.{items_behind, line_items, line_of, line_read, made_before, made_by, made_fewer}
use Rattle.network_audit.proofs.Words.{made_no_more, made_values, mix_items, pass_items, slice_get-take}
use Rattle.network_audit.proofs.Words.{slice_get_within, split_items, statement_items, stream_at, uses, value_at}
use Rattle.network_values.proofs.ValuationLemmas.{AgreeBelow, agree-append, length-made_values, valuation_more}
use Rattle.network_values.proofs.ValuationLemmas.{valuation_start}
use Rattle.std.proofs.Common.{All, List, None, Some, [], add-one, ap, arith, get_or, if◌then◌else◌, length}
use Rattle.std.proofs.Common.{length-take, map, refl, slice_get, subst, suc, sym, take, take_all, ℕ, ◌++◌, ◌+◌, ◌<◌}
use Rattle.std.proofs.Common.{◌==◌, ◌∙◌, ◌∷◌, ◌≡◌, ◌≤◌}
use Rattle.network_audit.specs.declared.findings.Place.TheVariants as place
use Rattle.networks.specs.declared.network.Line.TheVariants as line

-- ---- items depend on the branches that lines use

module _ (case : Case) (network : Network) where
  pub line_items-same : (values other : Valuation) (m : ℕ) (at : Place) (l : Line) → AgreeBelow values other m
      → All (λ b. b < m) (uses l) → line_items case network values at l ≡ line_items case network other at l
  line_items-same values other m at (line.Exchanger name hot cold duty) agree used = refl
  line_items-same values other m at (line.Split from first size second) agree used = ap (λ v. split_items at v size)
      (agree.same from (All-head (λ b. b < m) from [] used))
  line_items-same values other m at (line.Pass from exchanger to) agree used =
      ap (λ v. pass_items at (branch_side case network from) (is_latent_branch case network from) v (duty_at network exchanger))
      (agree.same from (All-head (λ b. b < m) from [] used))
  line_items-same values other m at (line.Mix first second to) agree used =
      ap (λ v. mix_items at v (value_at values second)) (agree.same first (All-head (λ b. b < m) first (second ∷ []) used))
      ∙ ap (λ v. mix_items at (value_at other first) v) (agree.same second (All-head (λ b. b < m) second [] (All-tail (λ b. b < m) first (second ∷ []) used)))
  line_items-same values other m at (line.End branch) agree used =
      ap (λ v. end_items at v (slice_get case.streams (stream_at network.branches branch))) (agree.same branch (All-head (λ b. b < m) branch [] used))

  -- the first n lines use branches that were made before the n-th is over
  pub items_before-same : (values other : Valuation) (n m : ℕ) → HasShape case network
      → ((k : ℕ) (l : Line) → k < n → slice_get network.lines k ≡ Some l → All (λ b. b < m) (uses l))
      → AgreeBelow values other m
      → items_before case network values n ≡ items_before case network other n
  unfolding items_before
  items_before-same values other n m shape used agree =
      flat_map-same (statement_items case network values) (statement_items case network other) (enumerate_from 0 (take n network.lines))
      (All-enumerated (λ p. statement_items case network values p ≡ statement_items case network other p) (take n network.lines) each)
    where
      each : (k : ℕ) (l : Line) → slice_get (take n network.lines) k ≡ Some l
          → statement_items case network values (k, l) ≡ statement_items case network other (k, l)
      each k l at =
          let inside = slice_get_within (take n network.lines) k l at in
          let early : k < n = omega (arith, inside, length-take n network.lines) in
          line_items-same values other m (place.Line (k + 1)) l agree (used k l early (sym (slice_get-take n network.lines k early) ∙ at))

  -- what the first lines use was made before line n
  pub used_early : (n : ℕ) → HasShape case network → (k : ℕ) (l : Line) → k < n + 1 → slice_get network.lines k ≡ Some l
      → All (λ b. b < made_before case network n) (uses l)
  used_early n shape k l early at j d inside =
      omega (arith, shape.made_first k l at j d inside, made_fewer case network k n (omega (arith, early)))

  -- one line more
  pub items_before-more : (values : Valuation) (n : ℕ) (l : Line) → slice_get network.lines n ≡ Some l
      → items_before case network values (n + 1)
      ≡ items_before case network values n ++ line_items case network values (place.Line (n + 1)) l
  unfolding items_before
  items_before-more values n l at =
      items-more (statement_items case network values) network.lines n l (slice_get_within network.lines n l at)
      ∙ ap (λ m. items_before case network values n ++ line_items case network values (place.Line (n + 1)) m) (get_or_from_slice_get network.lines n l l at)

  pub items_before-none : (values : Valuation) → items_before case network values 0 ≡ []
  unfolding items_before
  items_before-none values = refl

  -- ---- the state of the walk

  -- so many branches are made by the first n lines: they carry a valuation, and these lines are passed
  pub record IsWalked (n made : ℕ) (values : Valuation) : Type 0 where
    pub made_is : made ≡ made_before case network n
    pub room : length values ≡ length network.branches
    pub valuation : IsValuation case network n (take made values)
    pub passed : first_finding (items_before case network (take made values) n) ≡ None

  pub walked-start : (values : Valuation) → IsComplete case → length values ≡ length network.branches
      → take (length case.streams) values ≡ map first_value case.streams → IsWalked 0 (length case.streams) values
  unfolding made_by
  walked-start values complete room start = record {
    made_is = omega arith;
    room = room;
    valuation = subst (IsValuation case network 0) (sym start) (valuation_start case network complete);
    passed = ap first_finding (items_before-none (take (length case.streams) values)) ∙ found-nothing;
  }

  -- a line that is passed leaves room
  pub room-passed : (values : Valuation) (at : Place) (l : Line)
      → first_finding (line_items case network values at l) ≡ None → LeavesRoom values l
  room-passed values at (line.Split from first size second) none =
      (Decides-is_below size (value_at values from).cp).0 (passed-item _ _ none)
  room-passed values at other none = tt

  -- the walk goes on behind a line that is passed
  pub walked-more : (n made : ℕ) (values next : Valuation) (after : ℕ) (l : Line) → HasShape case network
      → slice_get network.lines n ≡ Some l
      → IsWalked n made values
      → first_finding (line_items case network (take made values) (place.Line (n + 1)) l) ≡ None
      → length next ≡ length values
      → after ≡ made + length (made_values case network (take made values) l)
      → take after next ≡ take made values ++ made_values case network (take made values) l
      → IsWalked (n + 1) after next
  walked-more n made values next after l shape at walked none long after_is kept =
      let old = take made values in
      let new = old ++ made_values case network old l in
      let is = line_of shape n l at in
      let made_next = is.numbers.next in
      let wide : length old ≡ made
      = omega (arith, length-take made values, walked.room, walked.made_is, made_no_more shape.made_once n) in
      let agree : AgreeBelow old new made
      = subst (AgreeBelow old new) wide (agree-append old (made_values case network old l)) in
      let early : (k : ℕ) (m : Line) → k < n + 1 → slice_get network.lines k ≡ Some m → All (λ b. b < made) (uses m) =
      subst (λ b. (k : ℕ) (m : Line) → k < n + 1 → slice_get network.lines k ≡ Some m → All (λ c. c < b) (uses m)) (sym walked.made_is) (used_early n shape) in
      let same : items_before case network new (n + 1) ≡ items_before case network old (n + 1) = sym
      (items_before-same old new (n + 1) made shape early agree) in
      let valuation : IsValuation case network (suc n) new
      = valuation_more case network n old l shape at walked.valuation
      (room-passed old (place.Line (n + 1)) l none) in
      let front_is : take after next ≡ new = kept in
      record {
        made_is =
            omega (arith, after_is, made_next, walked.made_is, length-made_values case network old l, ap (made_before case network) (add-one n));
        room = long ∙ walked.room;
        valuation =
            subst (IsValuation case network (n + 1)) (sym front_is) (subst (λ k. IsValuation case network k new) (sym (add-one n)) valuation);
        passed = ap (λ vs. first_finding (items_before case network vs (n + 1))) front_is ∙ ap first_finding same
            ∙ ap first_finding (items_before-more old n l at)
            ∙ found-behind (items_before case network old n) (line_items case network old (place.Line (n + 1)) l) walked.passed ∙ none;
      }

  -- the finding at a line is the finding
  pub walked-found : (n made : ℕ) (values : Valuation) (l : Line) (found : Finding)
      → slice_get network.lines n ≡ Some l → IsWalked n made values
      → first_finding (line_items case network (take made values) (place.Line (n + 1)) l) ≡ Some found
      → IsFinding case network found
  unfolding items
  walked-found n made values l found at walked some = let old = take made values in record {
    n = n;
    values = old;
    valuation = walked.valuation;
    first =
        found-front (items_before case network old (n + 1)) (if n == length network.lines then items_behind case network old else []) found
        (ap first_finding (items_before-more old n l at) ∙ found-behind (items_before case network old n)
        (line_items case network old (place.Line (n + 1)) l) walked.passed ∙ some);
  }

  -- behind the last line all branches are made
  pub walked-all : (made : ℕ) (values : Valuation) → HasShape case network → IsWalked (length network.lines) made values
      → IsWholeValuation case network values × (first_finding (items_before case network values (length network.lines)) ≡ None)
  unfolding made_by
  walked-all made values shape walked =
      let lines : take (length network.lines) network.lines ≡ network.lines
      = take_all (length network.lines) network.lines (omega arith) in
      let many : made_before case network (length network.lines) ≡ length network.branches
      = ap (λ ls. length case.streams + length (made_by ls)) lines
      ∙ all_made shape.made_once in
      let all : take made values ≡ values = take_all made values (omega (arith, walked.made_is, walked.room, many)) in
      let same = ap (λ vs. first_finding (items_before case network vs (length network.lines))) (sym all) in
      (subst (IsValuation case network (length network.lines)) all walked.valuation, same ∙ walked.passed)

  -- ---- what the walk reads

  pub line_here : (lines : List Line) (index : ℕ) (l : Line) → HasShape case network → lines ≡ network.lines
      → index < length lines → l ≡ get_or lines index l → IsLineOf case network index l
  line_here lines index l shape same within read =
      line_read shape index l (omega (arith, within, ap length same)) (read ∙ ap (λ ls. get_or ls index l) same)

  pub walked-wide : (n made : ℕ) (values : Valuation) → HasShape case network → IsWalked n made values
      → length (take made values) ≡ made_before case network n
  walked-wide n made values shape walked =
      omega (arith, length-take made values, walked.room, walked.made_is, made_no_more shape.made_once n)

  -- there is room for what the next line makes
  pub walked-room : (n made : ℕ) (values : Valuation) (l : Line) (next : List BranchValue) → IsLineOf case network n l
      → IsWalked n made values → next ≡ made_values case network (take made values) l
      → made + length next ≤ length values
  walked-room n made values l next is walked made_are =
      omega (arith, ap length made_are, length-made_values case network (take made values) l, is.numbers.next, is.numbers.within, walked.made_is, walked.room)
