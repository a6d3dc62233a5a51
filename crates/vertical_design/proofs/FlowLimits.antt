-- Flows between two cuts, shares of them, and matches are within the limits.
use Rattle.vertical_design.proofs.Words.{*ℤ-zero, All-map, All-take, All-weaker, AreBands, AreCuts, IsBetween, IsFlow, IsGap, IsOverlap, IsPlace}
use Rattle.vertical_design.proofs.Words.{Band, IsBand, IsSideFlow, MOST_BANDS, MOST_CP, MOST_FLOW, NotNegative, Pair, amounts_in, ends_of, flow_in}
use Rattle.vertical_design.proofs.Words.{flows_in, get_or-map, int_le, int_lt_cases, int_sum_by, int_sum_by-at_most, int_sum_by-not_negative, ints}
use Rattle.vertical_design.proofs.Words.{length-le_falling, length-map, length-take, lower_cut, map-append, match_of, matches_in, mul-le-mul_right}
use Rattle.vertical_design.proofs.Words.{pairs_of, product_between, product_positive, side_flow, take_more, upper_cut, ◌&&◌, ◌-ℤ◌}
use Rattle.std.proofs.Common.{All, Bool, List, [], ap, arith, false, get_or, if◌then◌else◌, length, length-append, map, pos, refl, sym, take, true, ℕ}
use Rattle.std.proofs.Common.{ℤ, ⊎_elim, ◌*ℤ◌, ◌*◌, ◌++◌, ◌+◌, ◌-◌, ◌<ℤ◌, ◌<◌, ◌^◌, ◌∙◌, ◌∷◌, ◌≡◌, ◌≤ℤ◌, ◌≤◌}
use Rattle.vertical_design.proofs.BandSources.{cuts_hold}
use Rattle.vertical_design.proofs.OverlapLists.{overlap-within, few_pairs}
use Rattle.stream_case.specs.declared.source.Side.TheVariants as side

-- one item more of a list that is made item by item
pub map_more : {X Y : Type 0} (f : X → Y) (xs : List X) (i : ℕ) (x : X) → i < length xs → x ≡ get_or xs i x
    → map f (take (i + 1) xs)
    ≡ map f (take i xs) ++ f x ∷ []
map_more f xs i x within is =
    ap (map f) (take_more xs i x within ∙ ap (λ y. take i xs ++ y ∷ []) (sym is)) ∙ map-append f (take i xs) (x ∷ [])

flow-either : (b : Bool) (cp : ℤ) → IsFlow cp → IsFlow (if b then cp else pos 0)
flow-either true cp is = is
flow-either false cp is = record { from = omega (arith, ints); upto = omega (arith, ints) }

pub flows-within : (low high : ℤ) (bands : List Band) → All IsBand bands → All IsFlow (flows_in low high bands)
flows-within low high bands each =
    let each_flow = All-weaker IsBand (λ s. IsFlow (flow_in low high s)) (λ s is.
    flow-either (int_le s.from low && int_le high s.to) s.cp is.flow) bands each in
    All-map IsFlow (flow_in low high) bands each_flow

-- of few flows
sum-between : {m n : ℕ} (flows : List ℤ) → All (IsBetween (pos 0) (pos m)) flows → length flows ≤ n
    → IsBetween (pos 0) (pos (n * m)) (int_sum_by (λ f. f) flows)
sum-between {m} flows each few =
    let P : ℤ → Type 0 = IsBetween (pos 0) (pos m) in
    let not_negative = All-weaker P (λ f. pos 0 ≤ℤ f) (λ f is. is.from) flows each in
    let least = int_sum_by-not_negative (λ (f : ℤ). f) flows not_negative in
    let bounded = All-weaker P (λ f. f ≤ℤ pos m) (λ f is. is.upto) flows each in
    let most = int_sum_by-at_most (λ (f : ℤ). f) m flows bounded in
    record { from = least; upto = omega (arith, ints, most, mul-le-mul_right m few) }

pub sum-within : (flows : List ℤ) → All IsFlow flows → length flows ≤ MOST_BANDS
    → IsSideFlow (int_sum_by (λ f. f) flows)
sum-within flows each few = sum-between flows each few

pub sum-so_far : (flows : List ℤ) (i : ℕ) → All IsFlow flows → length flows ≤ MOST_BANDS
    → IsSideFlow (int_sum_by (λ f. f) (take i flows))
sum-so_far flows i each few =
    sum-within (take i flows) (All-take IsFlow i flows each) (omega (arith, few, length-take i flows))

pub side-within : (low high : ℤ) (bands : List Band) → AreBands bands → IsSideFlow (side_flow low high bands)
side-within low high bands are = sum-within (flows_in low high bands) (flows-within low high bands are.each)
    (omega (arith, are.few, length-map bands (flow_in low high)))

-- ---- shares

product-between : {m n : ℕ} (a b : ℤ) → IsBetween (pos 0) (pos m) a → IsBetween (pos 0) (pos n) b
    → IsBetween (pos 0) (pos (m * n)) (a *ℤ b)
product-between {m} {n} a b is_a is_b =
    let product = product_between a b m n is_a.from is_a.upto is_b.from is_b.upto in
    record { from = product.0; upto = product.1 }

-- what a source offers or asks for
abbrev pub IsAmount : ℤ → Type 0
IsAmount amount = IsBetween (pos 0) (MOST_CP *ℤ MOST_FLOW) amount

pub scaled-positive : (flows : List ℤ) (side : ℤ) → All IsFlow flows → IsSideFlow side
    → NotNegative (map (λ f. f *ℤ side) flows)
scaled-positive flows side each is_side =
    All-map (λ a. pos 0 ≤ℤ a) (λ f. f *ℤ side) flows
    (All-weaker IsFlow (λ f. pos 0 ≤ℤ (f *ℤ side)) (λ f is. (product-between f side is is_side).from) flows each)

-- a factor of a product above 0
factor-above : (flow side : ℤ) → pos 0 ≤ℤ side → pos 0 <ℤ (flow *ℤ side) → pos 0 <ℤ side
factor-above flow side from above =
    ⊎_elim (λ less. less) (λ most.
    let none : side ≡ pos 0 = omega (arith, ints, from, most) in
    absurd (omega (arith, ints, ap (λ z. flow *ℤ z) none ∙ *ℤ-zero flow, above)))
    (int_lt_cases (pos 0) side)

-- a share of what an index offers
record IsPartly (low high : ℤ) (bands others : List Band) (index : ℕ) (share : ℤ) : Type 0 where
  within : index < length bands
  flow : pos 0 <ℤ side_flow low high others
  upto : share ≤ℤ (MOST_CP *ℤ MOST_FLOW)

partly : (low high : ℤ) (bands others : List Band) (index : ℕ) (share : ℤ) → AreBands bands → AreBands others
    → index < length (amounts_in low high bands others) → pos 0 <ℤ share
    → share ≤ℤ get_or (amounts_in low high bands others) index (pos 0) → IsPartly low high bands others index share
partly low high bands others index share are are_others inside above upto =
    let flows = flows_in low high bands in
    let side = side_flow low high others in
    let within : index < length flows = omega (arith, inside, length-map flows (λ f. f *ℤ side)) in
    let item = get_or-map (λ f. f *ℤ side) flows index (pos 0) (pos 0) within in
    let is_side = side-within low high others are_others in
    let flow = flows-within low high bands are.each index (pos 0) within in
    let amount : IsAmount (get_or flows index (pos 0) *ℤ side) =
    product-between (get_or flows index (pos 0)) side flow is_side in
    record {
      within = omega (arith, within, length-map bands (flow_in low high));
      flow = factor-above (get_or flows index (pos 0)) side is_side.from (omega (arith, ints));
      upto = omega (arith, ints);
    }

-- a pair of an interval is a share of the flows of both sides, within the limits
pub record IsShare (low high : ℤ) (hot cold : List Band) (p : Pair) : Type 0 where
  pub first : p.first < length hot
  pub second : p.second < length cold
  pub hot_flow : IsBetween (pos 1) MOST_FLOW (side_flow low high hot)
  pub cold_flow : IsBetween (pos 1) MOST_FLOW (side_flow low high cold)
  pub above : pos 0 <ℤ p.amount
  pub upto : p.amount ≤ℤ (MOST_CP *ℤ MOST_FLOW)

pub share-within : (low high : ℤ) (hot cold : List Band) (p : Pair) → AreBands hot → AreBands cold
    → IsOverlap (amounts_in low high hot cold) (amounts_in low high cold hot) p → IsShare low high hot cold p
share-within low high hot cold p are_hot are_cold is =
    let upto = overlap-within (amounts_in low high hot cold) (amounts_in low high cold hot) p.first p.second in
    let one = partly low high hot cold p.first p.amount are_hot are_cold is.first_within is.positive
    (omega (arith, ints, is.amount, upto.0)) in
    let other = partly low high cold hot p.second p.amount are_cold are_hot is.second_within is.positive
    (omega (arith, ints, is.amount, upto.1)) in
    record {
      first = one.within;
      second = other.within;
      hot_flow = record { from = omega (arith, ints, other.flow); upto = (side-within low high hot are_hot).upto };
      cold_flow = record { from = omega (arith, ints, one.flow); upto = (side-within low high cold are_cold).upto };
      above = is.positive;
      upto = one.upto;
    }

-- the numbers of a match are within the limits of a fraction
pub record IsFraction (num den : ℤ) : Type 0 where
  pub num_above : pos 0 <ℤ num
  pub num_upto : num ≤ℤ pos (2 ^ 76)
  pub den_from : pos 0 <ℤ den
  pub den_upto : den ≤ℤ pos (2 ^ 48)

pub duty-within : (low high share one other : ℤ) → IsGap low high → pos 0 <ℤ share
    → share ≤ℤ (MOST_CP *ℤ MOST_FLOW) → IsBetween (pos 1) MOST_FLOW one
    → IsBetween (pos 1) MOST_FLOW other → IsFraction ((high -ℤ low) *ℤ share) (one *ℤ other)
duty-within low high share one other gap above upto is_one is_other =
    let wide : IsPlace (high -ℤ low) = record { from = omega (arith, ints); upto = omega (arith, ints) } in
    let some : IsAmount share = record { from = omega (arith, ints); upto = upto } in
    let first : IsSideFlow one = record { from = omega (arith, ints); upto = is_one.upto } in
    let second : IsSideFlow other = record { from = omega (arith, ints); upto = is_other.upto } in
    record {
      num_above = product_positive (high -ℤ low) share (omega (arith, ints)) above;
      num_upto = omega (arith, ints, (product-between (high -ℤ low) share wide some).upto);
      den_from = product_positive one other (omega (arith, ints)) (omega (arith, ints));
      den_upto = omega (arith, ints, (product-between one other first second).upto);
    }

length-ends_of : (bands : List Band) → length (ends_of bands) ≡ 2 * length bands
length-ends_of [] = refl
length-ends_of (s ∷ bands) = omega (arith, length-ends_of bands)

module _ (hot cold : List Band) (cuts : List ℤ) (are_hot : AreBands hot) (are_cold : AreBands cold)
    (are : AreCuts hot cold cuts) where
  pub cuts-places : All IsPlace cuts
  cuts-places =
      let places = λ (bands : List Band) (is : AreBands bands). All-weaker IsBand (λ a. IsPlace a.from × IsPlace a.to)
      (λ a s. (s.from, s.to)) bands is.each in
      cuts_hold hot cold cuts are IsPlace (places hot are_hot) (places cold are_cold)

  pub few_cuts : length cuts ≤ 4 * MOST_BANDS
  few_cuts =
      let few = length-le_falling cuts (ends_of hot ++ ends_of cold) are.ordered are.each in
      omega (
        arith,
        few,
        length-append (ends_of hot) (ends_of cold),
        length-ends_of hot,
        length-ends_of cold,
        are_hot.few,
        are_cold.few,
      )

  pub gap_at : (number : ℕ) → number < length cuts - 1 → IsGap (lower_cut cuts number) (upper_cut cuts number)
  gap_at number within = record {
    low_place = cuts-places (number + 1) (pos 0) (omega (arith, within));
    high_place = cuts-places number (pos 0) (omega (arith, within));
    falls = are.ordered number (number + 1) (pos 0) (omega arith) (omega (arith, within));
  }

-- ---- few matches

pub amounts-positive : (low high : ℤ) (bands others : List Band) → AreBands bands → AreBands others
    → NotNegative (amounts_in low high bands others)
amounts-positive low high bands others are are_others =
    let flows = flows-within low high bands are.each in
    let is_side = side-within low high others are_others in
    scaled-positive (flows_in low high bands) (side_flow low high others) flows is_side

pub length-amounts : (low high : ℤ) (bands others : List Band)
    → length (amounts_in low high bands others) ≡ length bands
length-amounts low high bands others =
    length-map (flows_in low high bands) (λ f. f *ℤ side_flow low high others) ∙ length-map bands (flow_in low high)

pub few_matches : (number : ℕ) (low high : ℤ) (hot cold : List Band) → AreBands hot → AreBands cold
    → length (matches_in number low high hot cold) ≤ 2 * MOST_BANDS
unfolding matches_in
few_matches number low high hot cold are_hot are_cold =
    let us = amounts_in low high hot cold in
    let vs = amounts_in low high cold hot in
    let hot_positive = amounts-positive low high hot cold are_hot are_cold in
    let cold_positive = amounts-positive low high cold hot are_cold are_hot in
    let few = few_pairs us vs hot_positive cold_positive in
    let made = length-map (pairs_of us vs) (match_of number low high hot cold) in
    omega (
      arith,
      few,
      made,
      length-amounts low high hot cold,
      length-amounts low high cold hot,
      are_hot.few,
      are_cold.few,
    )
