-- How large sums over the parts of a side are: there is one part for each utility, and the parts of streams are small or free.
use Rattle.certify.proofs.Words.{ALL_UTILITIES, All-slice_get, AreParts, AreParts-made, AreStreams-IsComplete, Case, Contains, HoldsPlaces-IsGrid, IsBounded}
use Rattle.certify.proofs.Words.{IsComplete, IsGrid, IsLength-covered, IsPartOf, IsPiece, IsPlaced-IsComplete, IsSide, IsSide-made, IsValidStream, IsWithin}
use Rattle.certify.proofs.Words.{KeepsRanges, Part, Side, Stream, Transfer, Utility, cases_Bool, cases_lt, covers, heat-between, heat_at, holds_levels, if_zero}
use Rattle.certify.proofs.Words.{if◌then◌else◌, int_sum_by, int_sum_by-at_most, int_sum_by-zero, int_sum_from, interval_falls, ints, is_stream, latent_run}
use Rattle.certify.proofs.Words.{least_at, length-grid, length-utilities, level_run, level_run-is, load-between, made_parts, pos, product_within, same_side}
use Rattle.certify.proofs.Words.{shifted_level, side_cost, slice_get_past, stands_at, stream_run, sum-made, zero_times, ℤ, ◌*ℤ◌, ◌+ℤ◌, ◌-ℤ◌, ◌<ℤ◌, ◌≤ℤ◌}
use Rattle.std.proofs.Common.{Bool, List, Some, [], add-zero, ap, arith, get_or, inl, inr, length, refl, slice_get, subst, suc, sym, true, false, zero-add, ℕ}
use Rattle.std.proofs.Common.{⊎_elim, ◌*◌, ◌+◌, ◌<◌, ◌∷◌, ◌≡◌, ◌≤◌}

-- ---- sums of weights

-- so much for the part of a stream, and so much for that of a utility
abbrev pub weight : ℕ → ℕ → Part → ℤ
weight a b p = if is_stream p.source then pos a else pos b

abbrev pub utility_parts : List Part → ℕ
utility_parts [] = 0
utility_parts (p ∷ ps) = (if is_stream p.source then 0 else 1) + utility_parts ps

-- one part more
more_within : (stream : Bool) (a b n u : ℕ) (x y : ℤ) → IsWithin (if stream then pos a else pos b) x
    → IsWithin (pos (a * n + b * u)) y
    → IsWithin (pos (a * suc n + b * ((if stream then 0 else 1) + u))) (x +ℤ y)
more_within true a b n u x y one rest =
    let product : a * suc n + b * (0 + u) ≡ a + (a * n + b * u) = omega arith in
    omega (arith, ints)
more_within false a b n u x y one rest =
    let product : a * suc n + b * (1 + u) ≡ a + (b + (a * n + b * u)) = omega arith in
    omega (arith, ints)

pub sum_within : (f : ℕ → Part → ℤ) (a b n : ℕ) (parts : List Part)
    → ((i : ℕ) (p : Part) → slice_get parts i ≡ Some p → IsWithin (weight a b p) (f (n + i) p))
    → IsWithin (pos (a * length parts + b * utility_parts parts)) (int_sum_from f n parts)
sum_within f a b n [] each = omega (arith, ints)
sum_within f a b n (p ∷ ps) each =
    more_within (is_stream p.source) a b (length ps) (utility_parts ps) (f n p) (int_sum_from f (suc n) ps)
    (subst (λ k. IsWithin (weight a b p) (f k p)) (add-zero n) (each 0 p refl)) (sum_within f a b (suc n) ps (λ i q at.
    subst (λ k. IsWithin (weight a b q) (f k q)) {x = n + suc i} {y = suc n + i} (omega arith) (each (suc i) q at)))

-- a part that has to have some heat is there
pub needing-within : (parts : List Part) (i : ℕ) → pos 0 <ℤ least_at parts i → i < length parts
needing-within parts i some =
    ⊎_elim (λ within. within) (λ past. let none = slice_get_past parts i past in absurd (omega (arith, ints, rw none at some))) (cases_lt i (length parts))

-- ---- how many parts there are

count_is : (ps : List Part) → int_sum_by (weight 0 1) ps ≡ pos (utility_parts ps)
count_is [] = refl
count_is (p ∷ ps) = by (is_stream p.source) (count_is ps)
  where
    by : (stream : Bool) → int_sum_by (weight 0 1) ps ≡ pos (utility_parts ps)
        → (if stream then pos 0 else pos 1) +ℤ int_sum_by (weight 0 1) ps
        ≡ pos ((if stream then 0 else 1) + utility_parts ps)
    by true rest = omega (arith, ints)
    by false rest = omega (arith, ints)

-- streams count for nothing
abbrev nothing : ℤ → ℤ → Stream → ℤ
nothing high low s = pos 0

no_levels : (side : Side) (s : Stream) (places : List ℤ) → latent_run nothing side s places ≡ pos 0
no_levels side s [] = refl
no_levels side s (g ∷ places) =
    let rest = no_levels side s places in
    let first = if_zero (stands_at side g s) (pos 0) refl in
    omega (arith, ints)

no_intervals : (side : Side) (s : Stream) (places : List ℤ) → stream_run nothing side s places ≡ pos 0
no_intervals side s [] = refl
no_intervals side s (g ∷ []) = refl
no_intervals side s (g ∷ low ∷ places) =
    let rest = no_intervals side s (low ∷ places) in
    let first = if_zero (covers side g low s) (pos 0) refl in
    omega (arith, ints)

-- ---- the parts of a side of a completed case

-- no part can give or take more, in W
abbrev pub most_of_stream : ℕ
most_of_stream = 20000000000

abbrev pub most_of_utility : ℕ
most_of_utility = 1000000000000

abbrev most_cost_of_utility : ℕ
most_cost_of_utility = 1000000 * 1000000000000

module _ (c : Case) (complete : IsComplete c) (grid : List ℤ) (is_grid : IsGrid c grid) (side : Side) (parts : List Part)
    (are : AreParts c.streams c.utilities grid side parts) where
  made : parts ≡ made_parts c.streams c.utilities side grid
  made = AreParts-made c.streams c.utilities side grid parts (HoldsPlaces-IsGrid c grid is_grid) are

  pub of_side : IsSide c.streams c.utilities side grid parts
  of_side =
      IsSide-made c.streams c.utilities side grid parts (AreStreams-IsComplete c complete) (IsPlaced-IsComplete c complete) (length-utilities c complete)
      (HoldsPlaces-IsGrid c grid is_grid) (length-grid c grid complete is_grid) made

  pub few_utility_parts : utility_parts parts ≤ ALL_UTILITIES
  few_utility_parts =
      let holds = HoldsPlaces-IsGrid c grid is_grid in
      let count = count_is (made_parts c.streams c.utilities side grid) in
      let exchanged = sum-made (weight 0 1) nothing (λ u. pos 1) (λ high low i s. refl) (λ i u. refl) c.streams c.utilities side grid in
      let levels = int_sum_by-at_most (λ u. level_run (λ v. pos 1) side u grid) 1 c.utilities
      (λ k d within. one_level (get_or c.utilities k d) (holds_levels c.streams c.utilities grid holds k d within)) in
      let runs = int_sum_by-zero (λ s. latent_run nothing side s grid +ℤ stream_run nothing side s grid) c.streams
      (λ k d within. let a = no_levels side (get_or c.streams k d) grid in let b = no_intervals side (get_or c.streams k d) grid in omega (arith, ints)) in
      let few = length-utilities c complete in
      let same : utility_parts parts ≡ utility_parts (made_parts c.streams c.utilities side grid)
      = ap utility_parts made in
      omega (arith, ints)
    where
      one_level : (u : Utility) → Contains grid (shifted_level u) → level_run (λ v. pos 1) side u grid ≤ℤ pos 1
      one_level u found =
          let is = level_run-is (λ v. pos 1) side u grid (HoldsPlaces-IsGrid c grid is_grid).falls found in
          ⊎_elim (λ same. let here = ap (λ b. if b then pos 1 else pos 0) same in omega (arith, ints))
          (λ other. let here = ap (λ b. if b then pos 1 else pos 0) other in omega (arith, ints)) (cases_Bool (same_side u.side side))

  -- ---- sums of heats

  most_within : (p : Part) → IsBounded p → IsPartOf c.streams c.utilities grid side p
      → p.most ≤ℤ weight most_of_stream most_of_utility p
  most_within p bounded (inl (i, s, h)) =
      let valid = (AreStreams-IsComplete c complete).each in
      let own = All-slice_get IsValidStream c.streams i s valid h.stream in
      let length = IsLength-covered s p.high p.low own (order h.piece) h.from h.upto in
      let product = heat-between s (p.high -ℤ p.low) own length in
      let load = load-between s own.heat in
      let most = load.upto in
      let is = ap (λ (q : Part). q.most) h.is in
      let stream = ap (λ (q : Part). weight most_of_stream most_of_utility q) h.is in
      omega (arith, ints)
    where
      order : IsPiece grid s p.high p.low → p.low ≤ℤ p.high
      order (inl interval) =
          let falls = interval_falls grid p.high p.low (HoldsPlaces-IsGrid c grid is_grid).falls interval in
          omega (arith, ints)
      order (inr (latent, same)) = omega (arith, ints)
  most_within p bounded (inr (i, u, h)) =
      let most = bounded.most.upto in
      let utility = ap (λ (q : Part). weight most_of_stream most_of_utility q) h.is in
      omega (arith, ints)

  -- amounts that are each at most what their part can give or take
  pub heats_within : (f : ℕ → Part → ℤ)
      → ((i : ℕ) (p : Part) → slice_get parts i ≡ Some p → (pos 0 ≤ℤ f i p) × (f i p ≤ℤ p.most))
      → IsWithin (pos 1000000000000000) (int_sum_from f 0 parts)
  heats_within f each =
      let sum = sum_within f most_of_stream most_of_utility 0 parts (λ i p at.
      let own = each i p at in
      let most = most_within p (All-slice_get IsBounded parts i p of_side.bounded at)
      (All-slice_get (IsPartOf c.streams c.utilities grid side) parts i p are.each at) in
      let bound : IsWithin (weight most_of_stream most_of_utility p) (f i p) =
      let from = own.0 in
      let upto = own.1 in
      omega (arith, ints) in
      subst (λ k. IsWithin (weight most_of_stream most_of_utility p) (f k p)) (sym (zero-add i)) bound) in
      let few = of_side.few in
      let few_utilities = few_utility_parts in
      omega (arith, ints, sum)

  -- ---- costs

  cost_within : (ts : List Transfer) → KeepsRanges side parts ts → (i : ℕ) (p : Part) → slice_get parts i ≡ Some p
      → IsWithin (weight 0 most_cost_of_utility p) (p.price *ℤ heat_at side ts i)
  cost_within ts ranges i p at =
      let own = All-slice_get IsBounded parts i p of_side.bounded at in
      let heat = ranges i p at in
      by (All-slice_get (IsPartOf c.streams c.utilities grid side) parts i p are.each at) own heat.from heat.upto
    where
      by : IsPartOf c.streams c.utilities grid side p → IsBounded p → p.least ≤ℤ heat_at side ts i
          → heat_at side ts i ≤ℤ p.most
          → IsWithin (weight 0 most_cost_of_utility p) (p.price *ℤ heat_at side ts i)
      by (inl (j, s, h)) own from upto =
          let free = zero_times p.price (heat_at side ts i) (ap (λ (q : Part). q.price) h.is) in
          let stream = ap (λ (q : Part). weight 0 most_cost_of_utility q) h.is in
          omega (arith, ints)
      by (inr (j, u, h)) own from upto =
          let bound = product_within p.price (heat_at side ts i) 1000000 1000000000000 own.price.from own.price.upto
          (omega (arith, ints)) (omega (arith, ints)) in
          let utility = ap (λ (q : Part). weight 0 most_cost_of_utility q) h.is in
          omega (arith, ints)

  pub side_cost_within : (ts : List Transfer) → KeepsRanges side parts ts
      → IsWithin (pos 13000000000000000000) (side_cost side parts ts)
  side_cost_within ts ranges =
      let sum = sum_within (λ a p. p.price *ℤ heat_at side ts a) 0 most_cost_of_utility 0 parts (λ i p at.
      subst (λ k. IsWithin (weight 0 most_cost_of_utility p) (p.price *ℤ heat_at side ts k)) (sym (zero-add i)) (cost_within ts ranges i p at)) in
      let few_utilities = few_utility_parts in omega (arith, ints, sum)
