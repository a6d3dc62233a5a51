-- The reports of a certified heat flow and of a cut have undotted names, and numbers within their ranges.
use Rattle.certify.proofs.PartSums.{heats_within, needing-within, of_side, side_cost_within}
use Rattle.certify.proofs.Words.{All, All-append, All-cons, All-contains, All-map, All-nil, All-slice_get, All-weaker, AllPairs, AllPairs-head, AllPairs-tail}
use Rattle.certify.proofs.Words.{AreCaseParts, AreParts, AreStreams-IsComplete, Case, Cold, Contains, CutKind, Demand, HasCost-flow, HaveParts, Hot, IsBounded}
use Rattle.certify.proofs.Words.{IsComplete, IsGrid, IsName-source_name, IsOnPlaces, IsPartPrice, IsPlaced, IsPlaced-IsComplete, IsShifted, IsSourceOf-side}
use Rattle.certify.proofs.Words.{IsUtility, IsWithin, KeepsRanges, MOST_AMOUNT, MOST_LEVEL, Part, Side, StaysValid-IsComplete, Supply, Transfer, Utility, blank}
use Rattle.certify.proofs.Words.{cases_Bool, cut_side, heat_at, heat_of_utility, if_between, if_one-times, if◌then◌else◌, int_sum_by, int_sum_by-same}
use Rattle.certify.proofs.Words.{int_sum_by-zero, int_sum_from-grouped, interval_ends, ints, is_of_utility, least_at, meets, nat_tests, need_of, offer_of}
use Rattle.certify.proofs.Words.{opposite, option_map_or, own_parts, part_index, parts_of, places_of, pos, price_at, reach_between, shifted_level}
use Rattle.certify.proofs.Words.{slice_get-get_or, slice_get_within, span_of, stream_ends, stream_ends-between, use_of, utility_heat, ℤ, ◌*ℤ◌, ◌<ℤ◌}
use Rattle.certify.specs.Printed.{IsMove, IsPrice, IsSpan, IsUse}
use Rattle.certify.specs.Said.{CertifiedFlowsAreReadable, CutsAreReadable, made_from, move_of, named_at, priced_by}
use Rattle.grid.proofs.OnGridLemmas.{parts_on_grid}
use Rattle.std.proofs.Common.{Bool, List, Some, [], add-zero, ap, arith, false, get_or, inl, inr, is_some, length, map, refl, slice_get, subst, suc, sym}
use Rattle.std.proofs.Common.{zero-add, ℕ, ⊎_elim, ◌+◌, ◌<◌, ◌==◌, ◌∙◌, ◌∷◌, ◌≡◌, ◌⊎◌}
use Rattle.heat_flow.proofs.CostLemmas.{heats_within as transfers_within}

-- what holds of all that is made of a list
All-made_from : {X Y : Type 0} (P : Y → Type 0) (f : ℕ → X → Y) (n : ℕ) (xs : List X)
    → ((i : ℕ) (x : X) → slice_get xs i ≡ Some x → P (f (n + i) x)) → All P (made_from f n xs)
All-made_from P f n [] each = All-nil P
All-made_from P f n (x ∷ xs) each =
    All-cons P (f n x) (made_from f (suc n) xs) (subst (λ k. P (f k x)) (add-zero n) (each 0 x refl))
    (All-made_from P f (suc n) xs (λ i y at. subst (λ k. P (f k y)) {x = n + suc i} {y = suc n + i} (omega arith) (each (suc i) y at)))

-- ---- the parts

module _ (c : Case) (complete : IsComplete c) where
  places_shifted : All IsShifted (places_of c.streams c.utilities)
  places_shifted =
      All-append IsShifted (stream_ends c.streams) (map shifted_level c.utilities) (stream_ends-between c.streams (AreStreams-IsComplete c complete).each)
      (All-map IsShifted shifted_level c.utilities
      (All-weaker IsPlaced (λ u. IsShifted (shifted_level u)) (λ u h. h.level) c.utilities (IsPlaced-IsComplete c complete)))

  level_within : (grid : List ℤ) → IsGrid c grid → (g : ℤ) → Contains grid g → IsWithin MOST_LEVEL g
  level_within grid is_grid g found =
      let place = All-contains (Contains (places_of c.streams c.utilities)) grid g is_grid.each found in
      let shifted = All-contains IsShifted (places_of c.streams c.utilities) g places_shifted place in
      let from = shifted.from in
      let upto = shifted.upto in
      omega (arith, ints)

  part_span : (grid : List ℤ) → IsGrid c grid → (side : Side) (p : Part) → IsOnPlaces c grid side p
      → IsSpan (span_of c p)
  part_span grid is_grid side p on = record {
    name =
        IsName-source_name c (StaysValid-IsComplete c complete).names p.source (IsSourceOf-side c p.source (ap is_some on.source));
    high = ⊎_elim (λ level. level_within grid is_grid p.high level.1)
        (λ interval. level_within grid is_grid p.high (interval_ends grid p.high p.low interval).0) on.ends;
    low = ⊎_elim (λ level. subst (IsWithin MOST_LEVEL) level.0 (level_within grid is_grid p.high level.1))
        (λ interval. level_within grid is_grid p.low (interval_ends grid p.high p.low interval).1) on.ends;
  }

  named_span : (grid : List ℤ) → IsGrid c grid → (side : Side) (parts : List Part) → All (IsOnPlaces c grid side) parts
      → (i : ℕ) → i < length parts → IsSpan (named_at c parts i)
  named_span grid is_grid side parts on i within =
      rw (slice_get-get_or parts i blank within) (part_span grid is_grid side (get_or parts i blank) (on i blank within))

  prices_readable : (grid : List ℤ) → IsGrid c grid → (side : Side) (parts : List Part)
      → All (IsOnPlaces c grid side) parts → (prices : List ℤ)
      → length prices ≡ length parts → All IsPartPrice prices → All IsPrice (made_from (priced_by c prices) 0 parts)
  prices_readable grid is_grid side parts on prices same within =
      All-made_from IsPrice (priced_by c prices) 0 parts (λ i p at. record {
        part = part_span grid is_grid side p (All-slice_get (IsOnPlaces c grid side) parts i p on at);
        price =
            subst (λ k. IsWithin MOST_AMOUNT (price_at prices k)) (sym (zero-add i)) (priced i (omega (arith, same, slice_get_within parts i p at)));
      })
    where
      priced : (i : ℕ) → i < length prices → IsWithin MOST_AMOUNT (price_at prices i)
      priced i inside =
          let own = within i (pos 0) inside in
          let from = own.from in
          let upto = own.upto in
          omega (arith, ints)

-- ---- the heat of a utility

module _ (c : Case) (complete : IsComplete c) (grid : List ℤ) (is_grid : IsGrid c grid) (side : Side) (parts : List Part)
    (are : AreParts c.streams c.utilities grid side parts) where
  utility_within : (number : ℕ) (ts : List Transfer) → HaveParts side parts ts → KeepsRanges side parts ts
      → IsWithin MOST_AMOUNT (utility_heat number side parts ts)
  utility_within number ts indexes ranges =
      let own = λ (a : ℕ). if is_of_utility number parts a then pos 1 else pos 0 in
      let grouped = int_sum_from-grouped (part_index side) (λ t. t.heat) own parts ts indexes in
      let same = int_sum_by-same (λ t. own (part_index side t) *ℤ t.heat) (heat_of_utility number side parts) ts
      (λ k d within. if_one-times (is_of_utility number parts (part_index side (get_or ts k d))) (get_or ts k d).heat) in
      subst (IsWithin MOST_AMOUNT) (grouped ∙ same) (heats_within c complete grid is_grid side parts are (λ a p. own a *ℤ heat_at side ts a) (λ i p at.
      let range = ranges i p at in
      let bounded = All-slice_get IsBounded parts i p (of_side c complete grid is_grid side parts are).bounded at in
      let term = if_one-times (is_of_utility number parts i) (heat_at side ts i) in
      let between = if_between (is_of_utility number parts i) (heat_at side ts i) (omega (arith, ints)) in
      (omega (arith, ints), omega (arith, ints))))

  -- ---- what members of a cut need

  need_within : (members : List ℕ) → AllPairs (λ i j. i < j) members → All (λ i. pos 0 <ℤ least_at parts i) members
      → IsWithin MOST_AMOUNT (need_of parts members)
  need_within members rising needing =
      let inside : All (λ m. m < length parts) members
      = λ k d within. needing-within parts (get_or members k d) (needing k d within) in
      let grouped = int_sum_from-grouped (λ (m : ℕ). m) (λ m. pos 1) (least_at parts) parts members inside in
      let same = int_sum_by-same (λ m. least_at parts m *ℤ pos 1) (least_at parts) members (λ k d within. omega (arith, ints)) in
      subst (IsWithin MOST_AMOUNT) (grouped ∙ same) (heats_within c complete grid is_grid side parts are
      (λ a p. least_at parts a *ℤ int_sum_by (λ m. if m == a then pos 1 else pos 0) members) (λ i p at.
      let bounded = All-slice_get IsBounded parts i p (of_side c complete grid is_grid side parts are).bounded at in
      let least : least_at parts i ≡ p.least = ap (λ o. option_map_or (λ (q : Part). q.least) o (pos 0)) at in
      let from = bounded.least.from in
      let most = bounded.most.from in
      ⊎_elim (λ none. let term = ap (λ n. least_at parts i *ℤ n) none in
      let zero_term : least_at parts i *ℤ pos 0 ≡ pos 0 = omega (arith, ints) in
      (omega (arith, ints), omega (arith, ints)))
      (λ one. let term = ap (λ n. least_at parts i *ℤ n) one in
      let own_term : least_at parts i *ℤ pos 1 ≡ least_at parts i = omega (arith, ints) in
      (omega (arith, ints), omega (arith, ints))) (once i members rising)))
    where
      one_more : (a m : ℕ) (ms : List ℕ) → All (λ n. m < n) ms → m ≡ a
          → int_sum_by (λ n. if n == a then pos 1 else pos 0) ms ≡ pos 0
      one_more a m ms later here = int_sum_by-zero (λ n. if n == a then pos 1 else pos 0) ms (λ k d within.
          let past = later k d within in
          let other : (get_or ms k d == a) ≡ false = grind (arith, nat_tests, past, here) in
          ap (λ b. if b then pos 1 else pos 0) other)

      once : (a : ℕ) (ms : List ℕ) → AllPairs (λ i j. i < j) ms
          → (int_sum_by (λ n. if n == a then pos 1 else pos 0) ms ≡ pos 0) ⊎ (int_sum_by (λ n. if n == a then pos 1 else pos 0) ms ≡ pos 1)
      once a [] rises = inl refl
      once a (m ∷ ms) rises =
          let rest = once a ms (AllPairs-tail (λ i j. i < j) m ms rises) in
          ⊎_elim (λ same.
          let here : m ≡ a = grind (arith, nat_tests, same) in
          let later = one_more a m ms (AllPairs-head (λ i j. i < j) m ms rises) here in
          let first : (if m == a then pos 1 else pos 0) ≡ pos 1 = ap (λ b. if b then pos 1 else pos 0) same in
          inr (omega (arith, ints))) (λ other.
          let first : (if m == a then pos 1 else pos 0) ≡ pos 0 = ap (λ b. if b then pos 1 else pos 0) other in
          ⊎_elim (λ none. inl (omega (arith, ints))) (λ one. inr (omega (arith, ints))) rest) (cases_Bool (m == a))

  offer_within : (of : Side) (reach : ℕ → ℕ → Bool) (members : List ℕ)
      → IsWithin MOST_AMOUNT (offer_of of reach parts members)
  offer_within of reach members =
      heats_within c complete grid is_grid side parts are (λ j p. if meets of reach members j then p.most else pos 0) (λ i p at.
      let bounded = All-slice_get IsBounded parts i p (of_side c complete grid is_grid side parts are).bounded at in
      if_between (meets of reach members i) p.most (omega (arith, ints)))

-- ---- the reports

module _ (c : Case) (complete : IsComplete c) (hot cold : List Part) (are : AreCaseParts c hot cold) where
  use_within : (side : Side) (number : ℕ) (ts : List Transfer) → HaveParts Hot hot ts → HaveParts Cold cold ts
      → KeepsRanges Hot hot ts → KeepsRanges Cold cold ts
      → IsWithin MOST_AMOUNT (utility_heat number side (parts_of side hot cold) ts)
  use_within Hot number ts hots colds hot_ranges cold_ranges =
      utility_within c complete are.grid are.is_grid Hot hot are.hot_parts number ts hots hot_ranges
  use_within Cold number ts hots colds hot_ranges cold_ranges =
      utility_within c complete are.grid are.is_grid Cold cold are.cold_parts number ts colds cold_ranges

  utility_name : (i : ℕ) (u : Utility) → slice_get c.utilities i ≡ Some u
      → IsUse (record { name = u.name; heat = pos 0 })
  utility_name i u at =
      record { name = (All-slice_get IsUtility c.utilities i u (StaysValid-IsComplete c complete).utilities at).name; heat = omega (arith, ints) }

  needs : (kind : CutKind) (members : List ℕ) → AllPairs (λ i j. i < j) members
      → All (λ i. pos 0 <ℤ least_at (parts_of (cut_side kind) hot cold) i) members
      → IsWithin MOST_AMOUNT (need_of (parts_of (cut_side kind) hot cold) members)
  needs Demand members = need_within c complete are.grid are.is_grid Cold cold are.cold_parts members
  needs Supply members = need_within c complete are.grid are.is_grid Hot hot are.hot_parts members

  offers : (kind : CutKind) (reach : ℕ → ℕ → Bool) (members : List ℕ)
      → IsWithin MOST_AMOUNT (offer_of (cut_side kind) reach (parts_of (opposite (cut_side kind)) hot cold) members)
  offers Demand reach members = offer_within c complete are.grid are.is_grid Hot hot are.hot_parts Cold reach members
  offers Supply reach members = offer_within c complete are.grid are.is_grid Cold cold are.cold_parts Hot reach members

  member_span : (kind : CutKind) (i : ℕ) → pos 0 <ℤ least_at (parts_of (cut_side kind) hot cold) i
      → IsSpan (named_at c (own_parts c hot cold kind) i)
  member_span kind i some = by kind (needing-within (parts_of (cut_side kind) hot cold) i some)
    where
      by : (kind : CutKind) → i < length (parts_of (cut_side kind) hot cold)
          → IsSpan (named_at c (own_parts c hot cold kind) i)
      by Demand within =
          let on = parts_on_grid c hot cold are in
          named_span c complete on.grid on.is_grid Cold cold on.cold_parts i within
      by Supply within =
          let on = parts_on_grid c hot cold are in
          named_span c complete on.grid on.is_grid Hot hot on.hot_parts i within

pub flows-readable : CertifiedFlowsAreReadable
flows-readable c hot cold ts y z cost complete are h =
    let flow = h.flow in
    let on = parts_on_grid c hot cold are in
    let hot_cost = side_cost_within c complete are.grid are.is_grid Hot hot are.hot_parts ts flow.hot_ranges in
    let cold_cost = side_cost_within c complete are.grid are.is_grid Cold cold are.cold_parts ts flow.cold_ranges in
    let heats = transfers_within hot cold ts (of_side c complete are.grid are.is_grid Hot hot are.hot_parts).bounded
    (HasCost-flow (reach_between c hot cold) hot cold ts flow) in (
      omega (arith, ints),
      All-made_from IsUse (use_of hot cold ts) 0 c.utilities (λ i u at. record {
        name = (utility_name c complete hot cold are i u at).name;
        heat =
            subst (λ n. IsWithin MOST_AMOUNT (utility_heat n u.side (parts_of u.side hot cold) ts)) (sym (zero-add i))
            (use_within c complete hot cold are u.side i ts flow.hot_indexes flow.cold_indexes flow.hot_ranges flow.cold_ranges);
      }),
      All-map IsMove (move_of c hot cold) ts (λ k d within.
          let t = get_or ts k d in
          let heat = heats k d within in
          let from = heat.from in
          let upto = heat.upto in
          record {
            hot = named_span c complete on.grid on.is_grid Hot hot on.hot_parts t.hot (flow.hot_indexes k d within);
            cold =
                named_span c complete on.grid on.is_grid Cold cold on.cold_parts t.cold (flow.cold_indexes k d within);
            heat = omega (arith, ints);
          }),
      prices_readable c complete on.grid on.is_grid Hot hot on.hot_parts y h.hot_prices.one_each h.hot_prices.within,
      prices_readable c complete on.grid on.is_grid Cold cold on.cold_parts z h.cold_prices.one_each h.cold_prices.within,
    )

pub cuts-readable : CutsAreReadable
cuts-readable c hot cold cut complete are h = (
  subst (IsWithin MOST_AMOUNT) (sym h.need) (needs c complete hot cold are cut.kind cut.parts h.parts.ordered h.parts.needing),
  subst (IsWithin MOST_AMOUNT) (sym h.offer) (offers c complete hot cold are cut.kind (reach_between c hot cold) cut.parts),
  All-map IsSpan (named_at c (own_parts c hot cold cut.kind)) cut.parts
      (λ k d within. member_span c complete hot cold are cut.kind (get_or cut.parts k d) (h.parts.needing k d within)),
)
