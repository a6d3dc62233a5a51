-- The prices of the corner flow support every heat flow, and their value is the hot target.
use Rattle.corner_flow.proofs.HeatLemmas.{above, above_falls, from_stream, from_utility, price_at-map, supports_down}
use Rattle.corner_flow.proofs.SideLemmas.{AreStandardParts, IsStandardPart, unit_price}
use Rattle.corner_flow.proofs.Words.{*ℤ-zero, All, All-map, Case, Cold, Contains, CountsFromItself, Decides-int_eq, Hot, IsBetween, IsPartPrice, zero_times}
use Rattle.corner_flow.proofs.Words.{IsReferencePlace, IsSupporting, IsTightOver, IsValidStream, Part, Side, Stream, and_cases, by_lt_z, cases_Bool, clamps}
use Rattle.corner_flow.proofs.Words.{corner_price, counts_above, counts_low, deficit_above, deficit_from, excess_price, excess_price-*ℤ, false≢true, has_level_at}
use Rattle.corner_flow.proofs.Words.{heat_over, high_end, hot_target, if_zero, if◌then◌else◌, int_eq, int_le-false, int_le-from, int_lt, int_lt-false}
use Rattle.corner_flow.proofs.Words.{int_lt-from, int_min, int_sum_by, int_sum_by-zero, int_sum_from-by, int_sum_from-excess, int_sum_from-same_each}
use Rattle.corner_flow.proofs.Words.{int_sum_from-zero, ints, is_level_at, is_stream, least_product, load-between, load_over, none_any, part_over, parts_of}
use Rattle.corner_flow.proofs.Words.{pos, price_at, product_not_negative, reach_between, sensible_above, side_value, stands_above, stream_ends, strictly}
use Rattle.corner_flow.proofs.Words.{IsValueBetween, some_tight, sum_side-same, value_of, ℤ, ◌*ℤ◌, ◌+ℤ◌, ◌-ℤ◌, ◌||◌, ◌↔◌, ◌≤ℤ◌}
use Rattle.std.proofs.Common.{Bool, List, ap, ap₂, arith, false, get_or, inl, inr, length, map, not, refl, subst, sym, true, ℕ, ⊎_elim, ◌<◌, ◌∙◌, ◌≡◌, ◌≢◌, ◌⊎◌}

-- the price of a part, where `none` says that no heat is needed
abbrev priced : Bool → Bool → ℤ → Part → ℤ
priced none low place p = if none then pos 0 else above low place p

priced_falls : (none low : Bool) (place : ℤ) (p q : Part) → q.high ≤ℤ p.high → q.low ≤ℤ p.low
    → priced none low place q ≤ℤ priced none low place p
priced_falls true low place p q high less = omega (arith, ints)
priced_falls false low place p q high less = above_falls low place p q high less

priced_range : (none low : Bool) (place : ℤ) (p : Part) → IsBetween (pos 0) (pos 1) (priced none low place p)
priced_range none low place p = either none (stands_above low place p)
  where
    either : (b c : Bool) → IsBetween (pos 0) (pos 1) (if b then pos 0 else if c then pos 1 else pos 0)
    either true c = omega (arith, ints)
    either false true = omega (arith, ints)
    either false false = omega (arith, ints)

pub prices_within : (target : ℤ) (low : Bool) (place : ℤ) (parts : List Part)
    → All IsPartPrice (map (corner_price target low place) parts)
prices_within target low place parts =
    All-map IsPartPrice (corner_price target low place) parts (λ k d within. let range = priced_range (int_eq target (pos 0)) low place (get_or parts k d) in
    record { from = omega (arith, ints, range.from); upto = omega (arith, ints, range.upto) })

-- ---- the value of a side

fixed_product : (x low high : ℤ) → low ≡ high → least_product x low high ≡ x *ℤ low
fixed_product x low high e = ap (λ h. int_min (x *ℤ low) (x *ℤ h)) (sym e) ∙ omega (arith, ints, clamps)

free_product : (x low high : ℤ) → pos 0 ≤ℤ x → low ≡ pos 0 → pos 0 ≤ℤ high → least_product x low high ≡ pos 0
free_product x low high h e k =
    let none = ap (λ z. x *ℤ z) e ∙ *ℤ-zero x in
    let more = product_not_negative x high h k in
    omega (arith, ints, clamps)

free_excess : (side : Side) (price y : ℤ) → price ≡ unit_price side → IsBetween (pos 0) (pos 1) y
    → pos 0 ≤ℤ excess_price side price y
free_excess Hot price y e h = omega (arith, ints, h.upto)
free_excess Cold price y e h = omega (arith, ints, h.from)

no_excess : (side : Side) → excess_price side (pos 0) (pos 0) ≡ pos 0
no_excess Hot = refl
no_excess Cold = refl

-- the heat of a stream that has a price
abbrev priced_heat : Bool → Bool → ℤ → Part → ℤ
priced_heat none low place p = if none then pos 0 else part_over low place (pos 0) p

priced-stream : (none low : Bool) (place : ℤ) (p : Part) → is_stream p.source ≡ true
    → priced none low place p *ℤ p.least ≡ priced_heat none low place p
priced-stream true low place p e = zero_times (pos 0) p.least refl
priced-stream false low place p e = sym (from_stream low place (pos 0) p e)

priced-utility : (none low : Bool) (place : ℤ) (p : Part) → is_stream p.source ≡ false
    → priced_heat none low place p ≡ pos 0
priced-utility true low place p e = refl
priced-utility false low place p e = from_utility low place (pos 0) p e

module _ {c : Case} {hot cold : List Part} (s : AreStandardParts c hot cold) (low : Bool) (place : ℤ) where
  module _ (side : Side) (none : Bool) where
    -- a stream is worth that, and a utility nothing
    worth : (p : Part) → IsStandardPart c s.grid side p
        → least_product (excess_price side p.price (priced none low place p)) p.least p.most
        ≡ excess_price side (pos 0) (priced_heat none low place p)
    worth p h =
        let excess = excess_price side p.price (priced none low place p) in
        ⊎_elim (λ k. fixed_product excess p.least p.most k.fixed ∙ excess_price-*ℤ side p.price (priced none low place p) p.least
        ∙ ap₂ (excess_price side) (zero_times p.price p.least k.price) (priced-stream none low place p k.source_is)) (λ k.
        free_product excess p.least p.most (free_excess side p.price (priced none low place p) k.price (priced_range none low place p)) k.least
        (omega (arith, ints, k.most))
        ∙ sym (ap (excess_price side (pos 0)) (priced-utility none low place p k.source_is) ∙ no_excess side))
        h.kind

    side_value-priced : side_value side (parts_of side hot cold) (map (priced none low place) (parts_of side hot cold))
        ≡ excess_price side (pos 0) (int_sum_by (priced_heat none low place) (parts_of side hot cold))
    side_value-priced =
        let f = priced none low place in
        let parts = parts_of side hot cold in
        int_sum_from-same_each (λ a p. least_product (excess_price side p.price (price_at (map f parts) a)) p.least p.most)
        (λ a p. excess_price side (pos 0) (priced_heat none low place p)) parts
        (λ a p at. ap (λ y. least_product (excess_price side p.price y) p.least p.most) (price_at-map f parts a p at) ∙ worth p ((s.sides side).each a p at))
        ∙ int_sum_from-excess side (λ a p. pos 0) (λ a p. priced_heat none low place p) parts
        ∙ ap₂ (excess_price side) (int_sum_from-zero (λ a p. pos 0) 0 parts (λ a p le. refl)) (int_sum_from-by (priced_heat none low place) 0 parts)

  pub corner-supports : IsSupporting (reach_between c hot cold) (map (corner_price (hot_target c.streams) low place) hot)
      (map (corner_price (hot_target c.streams) low place) cold)
  corner-supports =
      supports_down s (corner_price (hot_target c.streams) low place) (priced_falls (int_eq (hot_target c.streams) (pos 0)) low place)

  value-priced : (none : Bool) → int_eq (hot_target c.streams) (pos 0) ≡ none
      → Contains (stream_ends c.streams) place → IsTightOver low c.streams place
      → value_of hot cold (map (priced none low place) hot) (map (priced none low place) cold) ≡ hot_target c.streams
  value-priced true e end tight =
      let zero = (Decides-int_eq (hot_target c.streams) (pos 0)).0 e in
      let hots = side_value-priced Hot true
      ∙ ap (excess_price Hot (pos 0)) (int_sum_by-zero (λ p. pos 0) hot (λ k d within. refl)) in
      let colds = side_value-priced Cold true
      ∙ ap (excess_price Cold (pos 0)) (int_sum_by-zero (λ p. pos 0) cold (λ k d within. refl)) in
      omega (arith, ints)
  value-priced false e end tight =
      let on = s.stream_end place end in
      let hots = side_value-priced Hot false ∙ ap (excess_price Hot (pos 0)) ((s.sides Hot).sum low place (pos 0) on) in
      let colds = side_value-priced Cold false
      ∙ ap (excess_price Cold (pos 0)) ((s.sides Cold).sum low place (pos 0) on) in
      omega (arith, ints)

  pub corner-value : Contains (stream_ends c.streams) place → IsTightOver low c.streams place
      → value_of hot cold (map (corner_price (hot_target c.streams) low place) hot) (map (corner_price (hot_target c.streams) low place) cold)
      ≡ hot_target c.streams
  corner-value = value-priced (int_eq (hot_target c.streams) (pos 0)) refl

-- ---- the deficit that the prices go by

-- a stream that has no level at a place has the same heat above it and from it on
same_heat : (place : ℤ) (s : Stream) → IsValidStream s → is_level_at place s ≡ false
    → heat_over true place s ≡ heat_over false place s
same_heat place s h e =
    ap (λ load. sensible_above place s +ℤ load) (by_parts (and_cases (int_lt (pos 0) s.load) (int_eq (high_end s) place) e))
  where
    by_parts : (int_lt (pos 0) s.load ≡ false) ⊎ (int_eq (high_end s) place ≡ false)
        → load_over true place s ≡ load_over false place s
    by_parts (inl none) =
        let load = load-between s h.heat in
        let zero : s.load ≡ pos 0 =
        by_lt_z (pos 0) s.load (λ more. absurd (false≢true (sym none ∙ int_lt-from (pos 0) s.load more))) (λ most. omega (arith, ints, load)) in
        if_zero (counts_above true place (high_end s)) s.load zero
        ∙ sym (if_zero (counts_above false place (high_end s)) s.load zero)
    by_parts (inr other) =
        let differ : high_end s ≢ place = λ same. false≢true (sym other ∙ (Decides-int_eq (high_end s) place).1 same) in
        let same : counts_above true place (high_end s) ≡ counts_above false place (high_end s) =
        by_lt_z place (high_end s) (λ less. int_le-from place (high_end s) (omega (arith, ints)) ∙ sym (int_lt-from place (high_end s) less))
        (λ most. let less = strictly (high_end s) place most differ in int_le-false place (high_end s) less ∙ sym (int_lt-false place (high_end s) most)) in
        ap (λ b. if b then s.load else pos 0) same

same_deficit : (place : ℤ) (streams : List Stream) → All IsValidStream streams → has_level_at place streams ≡ false
    → deficit_from streams place ≡ deficit_above streams place
same_deficit place streams valid none =
    let others = none_any (is_level_at place) streams none in
    let same = λ (k : ℕ) (d : Stream) (within : k < length streams). same_heat place (get_or streams k d) (valid k d within) (others k d within) in
    ap₂ ◌-ℤ◌ (sum_side-same Cold (heat_over true place) (heat_over false place) streams same)
    (sum_side-same Hot (heat_over true place) (heat_over false place) streams same)

-- the deficit over the reference place, as its prices count, is the hot target
pub tight_counted : (streams : List Stream) (place : ℤ) (from_itself : Bool) → All IsValidStream streams
    → IsReferencePlace streams place
    → from_itself ≡ true ↔ CountsFromItself streams place
    → IsTightOver (counts_low streams from_itself place) streams place
tight_counted streams place true valid reference counts =
    ⊎_elim (λ e. absurd (counts.0 refl e)) (λ e. e) reference.at.tight
tight_counted streams place false valid reference counts = by_level (has_level_at place streams) refl
  where
    above_is : deficit_above streams place ≡ hot_target streams
    above_is = ⊎_elim (λ e. (Decides-int_eq (deficit_above streams place) (hot_target streams)).0 e)
        (λ e. absurd (false≢true (counts.1 (λ same. false≢true (sym e ∙ (Decides-int_eq (deficit_above streams place) (hot_target streams)).1 same)))))
        (cases_Bool (int_eq (deficit_above streams place) (hot_target streams)))

    by_level : (b : Bool) → has_level_at place streams ≡ b
        → IsTightOver (false || not (has_level_at place streams)) streams place
    by_level true e = subst (λ (x : Bool). IsTightOver (not x) streams place) (sym e) above_is
    by_level false e =
        subst (λ (x : Bool). IsTightOver (not x) streams place) (sym e) (same_deficit place streams valid e ∙ above_is)

-- ---- the value of some prices

module _ {c : Case} {hot cold : List Part} (s : AreStandardParts c hot cold) where
  -- it is the hot target
  pub target-value : IsValueBetween (reach_between c hot cold) hot cold (hot_target c.streams)
  target-value =
      let (place, at) = some_tight c.streams s.valid in
      ⊎_elim (over false place at.end) (over true place at.end) at.tight
    where
      over : (low : Bool) (place : ℤ) → Contains (stream_ends c.streams) place → IsTightOver low c.streams place
          → IsValueBetween (reach_between c hot cold) hot cold (hot_target c.streams)
      over low place end tight = record {
        prices = record {
          hot = map (corner_price (hot_target c.streams) low place) hot;
          cold = map (corner_price (hot_target c.streams) low place) cold;
        };
        supporting = corner-supports s low place;
        is = corner-value s low place end tight;
      }
