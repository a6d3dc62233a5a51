-- How large the cost of a heat flow can be, and what parts keep where they are priced anew.
use Rattle.study.proofs.Words.{All, All-cons, All-head, All-nil, All-set, All-slice_get, All-tail, Bool, Case, Cold, Hot, IsBounded, IsComplete}
use Rattle.study.proofs.Words.{IsCost, IsLeastCost, IsPrice, IsWithin, KeepsRanges, MOST_PARTS, Part, Side, Source}
use Rattle.study.proofs.Words.{Transfer, case_prices, cases_lt, get_or_past, heat_at, int_sum_from, ints, pos, price_of, priced, priced_part}
use Rattle.study.proofs.Words.{prices_with, product_within, side_cost, ℤ, ◌*ℤ◌}
use Rattle.study_text.proofs.Accepted.{case_prices-within}
use Rattle.std.proofs.Common.{List, Some, [], add-zero, ap, arith, length, refl, slice_get, subst, suc, sym, zero-add, ℕ, ⊎_elim, ◌*◌, ◌+◌, ◌∙◌, ◌∷◌, ◌≡◌}
use Rattle.std.proofs.Common.{◌≤◌}
use Rattle.stream_case.specs.declared.source.Source.TheVariants.{Stream as of_stream, Utility as of_utility}

-- a sum of terms that are each within a bound
sum_within : {X : Type 0} (f : ℕ → X → ℤ) (most : ℕ) (n : ℕ) (xs : List X)
    → ((a : ℕ) (x : X) → slice_get xs a ≡ Some x → IsWithin (pos most) (f (n + a) x))
    → IsWithin (pos (length xs * most)) (int_sum_from f n xs)
sum_within f most n [] each = omega (arith, ints)
sum_within f most n (x ∷ xs) each =
    let first : IsWithin (pos most) (f n x) = rw add-zero at (each 0 x refl) in
    let rest =
    sum_within f most (suc n) xs (λ a y at. subst (λ k. IsWithin (pos most) (f k y)) {x = n + suc a} {y = suc n + a} (omega arith) (each (suc a) y at)) in
    let product : length (x ∷ xs) * most ≡ most + length xs * most = omega arith in
    let from = first.from in
    let upto = first.upto in
    omega (arith, ints)

side_within : (side : Side) (parts : List Part) (ts : List Transfer) → All IsBounded parts → KeepsRanges side parts ts
    → IsWithin (pos (length parts * (1000000 * 1000000000000))) (side_cost side parts ts)
side_within side parts ts bounded ranges =
    sum_within (λ a p. p.price *ℤ heat_at side ts a) (1000000 * 1000000000000) 0 parts (λ a p at.
    let own = All-slice_get IsBounded parts a p bounded at in
    let heat = ranges a p at in
    let from = heat.from in
    let upto = heat.upto in
    let bound = product_within p.price (heat_at side ts a) 1000000 1000000000000 own.price.from own.price.upto
    (omega (arith, ints)) (omega (arith, ints)) in
    let within : IsWithin (pos (1000000 * 1000000000000)) (p.price *ℤ heat_at side ts a)
    = record { from = bound.0; upto = bound.1 } in
    rw zero-add within)

pub least_within : (reach : ℕ → ℕ → Bool) (hot cold : List Part) (cost : ℤ) → length hot ≤ MOST_PARTS
    → length cold ≤ MOST_PARTS → All IsBounded hot
    → All IsBounded cold → IsLeastCost reach hot cold cost → IsCost cost
least_within reach hot cold cost few_hot few_cold hot_bounded cold_bounded least =
    let h = side_within Hot hot least.transfers hot_bounded least.flow.hot_ranges in
    let k = side_within Cold cold least.transfers cold_bounded least.flow.cold_ranges in
    omega (arith, ints)

-- What parts keep where they are priced anew.

all_priced : (P : Part → Type 0) (prices : List ℤ) → ((p : Part) → P p → P (priced_part prices p))
    → (parts : List Part) → All P parts
    → All P (priced prices parts)
all_priced P prices step [] h = All-nil P
all_priced P prices step (p ∷ ps) h =
    All-cons P (priced_part prices p) (priced prices ps) (step p (All-head P p ps h)) (all_priced P prices step ps (All-tail P p ps h))

price_within : (prices : List ℤ) → All IsPrice prices → (source : Source) (own : ℤ) → IsPrice own
    → IsPrice (price_of prices source own)
price_within prices all (of_stream i) own h = h
price_within prices all (of_utility i) own h =
    ⊎_elim (λ there. all i (pos 0) there) (λ past. subst IsPrice (sym (get_or_past prices i (pos 0) past)) (omega (arith, ints))) (cases_lt i (length prices))

pub bounded-priced : (prices : List ℤ) → All IsPrice prices → (parts : List Part) → All IsBounded parts
    → All IsBounded (priced prices parts)
bounded-priced prices all parts h = all_priced IsBounded prices (λ p b. record {
  least = b.least;
  most = b.most;
  price = price_within prices all p.source p.price b.price;
  free = λ i e. ap (λ s. price_of prices s p.price) e ∙ b.free i e;
}) parts h

-- ---- the prices of a case, with another price of one utility

pub prices-within : (c : Case) → IsComplete c → (i : ℕ) (p : ℤ) → IsPrice p → All IsPrice (prices_with c i p)
prices-within c complete i p is = All-set IsPrice (case_prices c) i p is (case_prices-within c complete)
