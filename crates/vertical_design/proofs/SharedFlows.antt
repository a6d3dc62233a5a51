-- The pairs of one source of an interval share out its flow times that of the other side.
use Rattle.vertical_design.proofs.Words.{*ℤ_comm, +ℤ-*ℤ, AreBands, Band, IsOverlap, NotNegative, Pair, Side, amounts_in, filter, flow_in, flows_in}
use Rattle.vertical_design.proofs.Words.{get_or-map, get_or_from_slice_get, int_sum_by, ints, length-map, pairs_of, side_flow, slice_get_within}
use Rattle.vertical_design.proofs.Words.{zero_times}
use Rattle.std.proofs.Common.{Bool, List, Some, [], ap, arith, cond, false, get_or, if◌then◌else◌, length, map, pos, refl, slice_get, subst, sym}
use Rattle.std.proofs.Common.{true, ℕ, ℤ, ◌*ℤ◌, ◌+ℤ◌, ◌<◌, ◌==◌, ◌∙◌, ◌∷◌, ◌≡◌, ◌≤ℤ◌}
use Rattle.sums.proofs.WalkLemmas.{overlaps_first, overlaps_second}
use Rattle.vertical_design.proofs.OverlapLists.{ListsOverlaps-pairs_of, overlap-within}
use Rattle.vertical_design.proofs.FlowLimits.{amounts-positive, length-amounts}
use Rattle.stream_case.specs.declared.source.Side.TheVariants as side

abbrev pub other : Side → Side
other side.Hot = side.Cold
other side.Cold = side.Hot

abbrev pub index_on : Side → Pair → ℕ
index_on side.Hot p = p.first
index_on side.Cold p = p.second

-- ---- sums

sum-filter : {X : Type 0} (p : X → Bool) (f : X → ℤ) (xs : List X)
    → int_sum_by f (filter p xs) ≡ int_sum_by (λ x. if p x then f x else pos 0) xs
sum-filter p f [] = refl
sum-filter {X} p f (x ∷ xs) = by (p x) ∙ ap (λ z. (if p x then f x else pos 0) +ℤ z) (sum-filter p f xs)
  where
    by : (b : Bool) → int_sum_by f (cond b (x ∷ filter p xs) (filter p xs))
        ≡ (if b then f x else pos 0) +ℤ int_sum_by f (filter p xs)
    by true = refl
    by false = none (int_sum_by f (filter p xs))
      where
        none : (z : ℤ) → z ≡ pos 0 +ℤ z
        none z = omega (arith, ints)

sum-scaled : (c : ℤ) (xs : List ℤ) → int_sum_by (λ x. x) (map (λ x. x *ℤ c) xs) ≡ int_sum_by (λ x. x) xs *ℤ c
sum-scaled c [] = sym (zero_times (pos 0) c refl)
sum-scaled c (x ∷ xs) = ap (λ z. x *ℤ c +ℤ z) (sum-scaled c xs) ∙ sym (+ℤ-*ℤ x (int_sum_by (λ y. y) xs) c)

-- what a source offers or asks for
own_amount : (low high : ℤ) (bands others : List Band) (k : ℕ) (a : Band) → slice_get bands k ≡ Some a
    → get_or (amounts_in low high bands others) k (pos 0) ≡ flow_in low high a *ℤ side_flow low high others
own_amount low high bands others k a there =
    let within = slice_get_within bands k a there in
    let scaled = λ (f : ℤ). f *ℤ side_flow low high others in
    let band_is = get_or_from_slice_get bands k a a there in
    let flow_is = get_or-map (flow_in low high) bands k a (pos 0) within ∙ ap (flow_in low high) band_is in
    get_or-map scaled (flows_in low high bands) k (pos 0) (pos 0)
    (omega (arith, within, length-map bands (flow_in low high)))
    ∙ ap scaled flow_is

module _ (low high : ℤ) (bands : Side → List Band) where
  abbrev amounts : Side → List ℤ
  amounts of = amounts_in low high (bands of) (bands (other of))

  -- both sides offer and ask for as much
  amounts-balanced : int_sum_by (λ x. x) (amounts side.Hot) ≡ int_sum_by (λ x. x) (amounts side.Cold)
  amounts-balanced =
      sum-scaled (side_flow low high (bands side.Cold)) (flows_in low high (bands side.Hot))
      ∙ *ℤ_comm (side_flow low high (bands side.Hot)) (side_flow low high (bands side.Cold))
      ∙ sym (sum-scaled (side_flow low high (bands side.Hot)) (flows_in low high (bands side.Cold)))

  module _ (of : Side) (k : ℕ) (a : Band) (there : slice_get (bands of) k ≡ Some a) where
    -- the pairs of a source add up to what it offers or asks for
    pub own_amounts : ((d : Side) → AreBands (bands d))
        → int_sum_by (λ p. p.amount)
        (filter (λ p. index_on of p == k) (pairs_of (amounts side.Hot) (amounts side.Cold)))
        ≡ flow_in low high a *ℤ side_flow low high (bands (other of))
    own_amounts are =
        sum-filter (λ p. index_on of p == k) (λ p. p.amount) (pairs_of (amounts side.Hot) (amounts side.Cold))
        ∙ by of
        (omega (arith, slice_get_within (bands of) k a there, length-amounts low high (bands of) (bands (other of))))
        ∙ own_amount low high (bands of) (bands (other of)) k a there
      where
        some : (d : Side) → NotNegative (amounts d)
        some d = amounts-positive low high (bands d) (bands (other d)) (are d) (are (other d))

        by : (d : Side) → k < length (amounts d)
            → int_sum_by (λ p. if index_on d p == k then p.amount else pos 0)
            (pairs_of (amounts side.Hot) (amounts side.Cold))
            ≡ get_or (amounts d) k (pos 0)
        by side.Hot inside =
            let listed = ListsOverlaps-pairs_of (amounts side.Hot) (amounts side.Cold) in
            overlaps_first (amounts side.Hot) (amounts side.Cold) (pairs_of (amounts side.Hot) (amounts side.Cold))
            (some side.Hot) (some side.Cold) amounts-balanced listed k inside
        by side.Cold inside =
            let listed = ListsOverlaps-pairs_of (amounts side.Hot) (amounts side.Cold) in
            overlaps_second (amounts side.Hot) (amounts side.Cold) (pairs_of (amounts side.Hot) (amounts side.Cold))
            (some side.Hot) (some side.Cold) amounts-balanced listed k inside

    -- a share is no more than that
    pub own_share : (p : Pair) → IsOverlap (amounts side.Hot) (amounts side.Cold) p → index_on of p ≡ k
        → p.amount ≤ℤ (flow_in low high a *ℤ side_flow low high (bands (other of)))
    own_share p is own =
        subst (λ z. p.amount ≤ℤ z) (own_amount low high (bands of) (bands (other of)) k a there) (by of own)
      where
        by : (d : Side) → index_on d p ≡ k → p.amount ≤ℤ get_or (amounts d) k (pos 0)
        by side.Hot at =
            let upto = (overlap-within (amounts side.Hot) (amounts side.Cold) p.first p.second).0 in
            rw (← at) (omega (arith, ints, is.amount, upto))
        by side.Cold at =
            let upto = (overlap-within (amounts side.Hot) (amounts side.Cold) p.first p.second).1 in
            rw (← at) (omega (arith, ints, is.amount, upto))
