-- What a network uses of the parts of its case is ordered at prices that support the heat flows.
use Rattle.fractions.proofs.Comparisons.{at_most-plus_plus, at_most-times, at_most-whole, at_most_refl, at_most_trans}
use Rattle.price_floor.proofs.Words.{All-contains, All-slice_get, All-weaker, AreParts, AreParts-made}
use Rattle.price_floor.proofs.Words.{AreStreams-IsComplete, Case, HasShape, HoldsPlaces, HoldsPlaces-IsGrid, IsAtMost}
use Rattle.price_floor.proofs.Words.{IsBounded-part, IsComplete, IsGrid, IsOnPlaces, IsPartOf, IsPlaced}
use Rattle.price_floor.proofs.Words.{IsPlaced-IsComplete, IsSourceOf, IsSourceOf-side, IsSupporting, IsValidNetwork}
use Rattle.price_floor.proofs.Words.{IsValidStream, ListsFalling-unique, Network, Part, Rational, Side, Source}
use Rattle.price_floor.proofs.Words.{StepPrices, Stream, Tariff, UsesAreOrdered, Utility, View, at_most-enumerated}
use Rattle.price_floor.proofs.Words.{both_reach, branch_worth, clamps, cold_worth, enumerate_from, exchangers_of}
use Rattle.price_floor.proofs.Words.{heat_with, high_end, holds_ends, hot_worth, int_min, ints, low_end, minus}
use Rattle.price_floor.proofs.Words.{parts_on_grid, places_of, plus, plus-minus, plus_assoc, plus_comm, pos, price_at}
use Rattle.price_floor.proofs.Words.{price_steps, rational_sum_by, rational_sum_by-minus, rational_zero, reach_between}
use Rattle.price_floor.proofs.Words.{side_of_part, stream_loss, sum-enumerated, sum-items, tariff_of, times, use_worth}
use Rattle.price_floor.proofs.Words.{used_by, used_heat, views_of, whole, worth_of_uses, ℤ, ◌<ℤ◌, ◌≤ℤ◌}
use Rattle.price_floor.proofs.UtilityWorth.{duties_of, duty_worth, duty_worth-by, utility_worth-is}
use Rattle.price_floor.proofs.StreamWorth.{stream_worth-is}
use Rattle.price_floor.proofs.NetworkWorth.{worths_ordered}
use Rattle.price_floor.proofs.ViewLemmas.{HasEnds, leaves_own, own_view, some_lowest, views-fall}
use Rattle.price_floor.proofs.PriceSteps.{cold_price, hot_price, steps_are_ordered, steps_fall}
use Rattle.price_floor.proofs.SourceSums.{own_worth, part_worth, sum-by_source}
use Rattle.price_floor.proofs.StepLemmas.{step-part}
use Rattle.std.proofs.Common.{All, AllPairs, Contains, List, Some, [], ap, ap₂, arith, inl, inr, is_some, refl}
use Rattle.std.proofs.Common.{slice_get, subst, suc, sym, zero, ℕ, ◌∙◌, ◌∷◌, ◌≡◌}
use Rattle.stream_case.specs.declared.source.Side.TheVariants as side
use Rattle.stream_case.specs.declared.source.Source.TheVariants as source

-- ---- the least price

-- the least of some prices, and no more than 0
abbrev least_price : List ℤ → ℤ
least_price [] = pos 0
least_price (x ∷ xs) = int_min x (least_price xs)

least_price-least : (xs : List ℤ) (a : ℕ) → least_price xs ≤ℤ price_at xs a
least_price-least [] a = omega (arith, ints)
least_price-least (x ∷ xs) zero = omega (arith, ints, clamps)
least_price-least (x ∷ xs) (suc a) =
    let rest = least_price-least xs a in
    omega (arith, ints, clamps)

-- ---- the parts on a grid

module _ (case : Case) (network : Network) (hot cold : List Part) (y z : List ℤ) (complete : IsComplete case)
    (shape : HasShape case network) (valid : IsValidNetwork case network) (grid : List ℤ) (is_grid : IsGrid case grid)
    (hot_parts : AreParts case.streams case.utilities grid side.Hot hot)
    (cold_parts : AreParts case.streams case.utilities grid side.Cold cold) (hot_ends : All (HasEnds grid) hot)
    (cold_ends : All (HasEnds grid) cold) where
  abbrev least : ℤ
  least = least_price y

  abbrev views : List View
  views = views_of grid

  abbrev prices : Side → Source → StepPrices
  prices = price_steps case (least_price y) z cold

  abbrev tariff : Tariff
  tariff = tariff_of case (least_price y) z cold grid

  abbrev worth : Side → Part → Rational
  worth = part_worth tariff network

  falls : AllPairs (λ a b. b <ℤ a) grid
  falls = is_grid.ordered

  holds : HoldsPlaces case.streams case.utilities grid
  holds = HoldsPlaces-IsGrid case grid is_grid

  -- ---- uses are not negative

  not_negative-used : (on : Side) (p : Part) → IsPartOf case.streams case.utilities grid on p
      → IsAtMost rational_zero (used_heat network p)
  not_negative-used on p (inl (i, s, h)) =
      let from : source.Stream i ≡ p.source = sym (ap (λ (r : Part). r.source) h.is) in
      let streams = (AreStreams-IsComplete case complete).each in
      let placed = IsPlaced-IsComplete case complete in
      let bounded = IsBounded-part case.streams case.utilities on grid streams placed holds p (inl (i, s, h)) in
      subst (λ r. IsAtMost rational_zero (used_by network p.least r)) from
      (at_most-whole (pos 0) p.least bounded.least.from)
  not_negative-used on p (inr (k, u, h)) =
      let from : source.Utility k ≡ p.source = sym (ap (λ (r : Part). r.source) h.is) in
      let placed = All-slice_get IsPlaced case.utilities k u (IsPlaced-IsComplete case complete) h.utility in
      subst (λ r. IsAtMost rational_zero (used_by network p.least r)) from
      (at_most_trans rational_zero (whole u.least) (heat_with network k) (at_most-whole (pos 0) u.least placed.least.from)
      (valid.ranges k u h.utility).least)

  -- ---- one part

  -- it is worth one price of its source, that where it lies
  worth-is : (on : Side) (p : Part) (own : HasEnds grid p)
      → worth on p ≡ times (whole ((prices on p.source).below (own_view grid p own))) (used_heat network p)
  worth-is on p own = step-part least views (prices on p.source) p (own_view grid p own) (used_heat network p)
      (steps_fall case least z cold grid falls cold_ends on p.source).last (leaves_own grid p falls own)

  cold_part : (b : ℕ) (p : Part) → slice_get cold b ≡ Some p → IsAtMost (use_worth network z (b, p)) (worth side.Cold p)
  cold_part b p at =
      let own = All-slice_get (HasEnds grid) cold b p cold_ends at in
      let price = (prices side.Cold p.source).below (own_view grid p own) in
      let is = All-slice_get (IsPartOf case.streams case.utilities grid side.Cold) cold b p cold_parts.each at in
      let dearer = at_most-whole (price_at z b) price (cold_price case least z cold grid falls cold_ends b p at own) in
      subst (IsAtMost (use_worth network z (b, p))) (sym (worth-is side.Cold p own))
      (at_most-times (whole (price_at z b)) (whole price) (used_heat network p) (not_negative-used side.Cold p is) dearer)

  hot_part : IsSupporting (reach_between case hot cold) y z → (a : ℕ) (p : Part) → slice_get hot a ≡ Some p
      → IsAtMost (worth side.Hot p) (use_worth network y (a, p))
  hot_part supporting a p at =
      let own = All-slice_get (HasEnds grid) hot a p hot_ends at in
      let price = (prices side.Hot p.source).below (own_view grid p own) in
      let is = All-slice_get (IsPartOf case.streams case.utilities grid side.Hot) hot a p hot_parts.each at in
      let cheaper = hot_price case least z cold grid falls cold_ends p own (price_at y a) (least_price-least y a)
      (λ b q here reaches. supporting a b (ap₂ (both_reach case) at here ∙ reaches)) in
      subst (λ w. IsAtMost w (use_worth network y (a, p))) (sym (worth-is side.Hot p own))
      (at_most-times (whole price) (whole (price_at y a)) (used_heat network p) (not_negative-used side.Hot p is)
      (at_most-whole price (price_at y a) cheaper))

  -- ---- all parts of a side

  -- the parts of the streams, and the duties of the utilities
  abbrev of_streams : Side → List Part → Rational
  of_streams on parts =
      rational_sum_by (λ (e : ℕ × Stream). rational_sum_by (own_worth tariff network on (source.Stream e.0)) parts)
      (enumerate_from 0 case.streams)

  abbrev of_utilities : Side → Rational
  of_utilities on =
      rational_sum_by (duty_worth case network valid.values tariff on) (enumerate_from 0 (exchangers_of network.lines))

  -- by streams and by utilities
  side_sum : (on : Side) (parts : List Part) → AreParts case.streams case.utilities grid on parts
      → rational_sum_by (worth on) parts ≡ plus (of_streams on parts) (of_utilities on)
  side_sum on parts are =
      let sources = All-weaker (IsPartOf case.streams case.utilities grid on) (λ p. IsSourceOf case p.source)
      (λ p is. IsSourceOf-side case p.source (ap is_some (side_of_part case grid on p is))) parts are.each in
      sum-by_source case (λ (p : Part). p.source) (worth on) parts sources
      ∙ ap (plus (of_streams on parts))
      (sum-enumerated (λ (e : ℕ × Utility). rational_sum_by (own_worth tariff network on (source.Utility e.0)) parts)
      (λ e. duties_of case network valid.values tariff on e.0) case.utilities
      (λ k u at. utility_worth-is case network valid.values tariff on k u at shape grid parts are)
      ∙ sym (duty_worth-by case network valid.values tariff on shape))

  -- the streams lose what the parts of the hot ones are worth, less what those of the cold ones are worth
  streams_lose : rational_sum_by (stream_loss (branch_worth case tariff)) (enumerate_from 0 case.streams)
      ≡ minus (of_streams side.Hot hot) (of_streams side.Cold cold)
  streams_lose =
      let hots = λ (e : ℕ × Stream). rational_sum_by (own_worth tariff network side.Hot (source.Stream e.0)) hot in
      let colds = λ (e : ℕ × Stream). rational_sum_by (own_worth tariff network side.Cold (source.Stream e.0)) cold in
      sum-enumerated (stream_loss (branch_worth case tariff)) (λ e. minus (hots e) (colds e)) case.streams one
      ∙ rational_sum_by-minus hots colds (enumerate_from 0 case.streams)
    where
      one : (i : ℕ) (s : Stream) → slice_get case.streams i ≡ Some s
          → stream_loss (branch_worth case tariff) (i, s)
          ≡ minus (rational_sum_by (own_worth tariff network side.Hot (source.Stream i)) hot)
          (rational_sum_by (own_worth tariff network side.Cold (source.Stream i)) cold)
      one i s at =
          let ends =
          All-slice_get (λ (r : Stream). Contains grid (high_end r) × Contains grid (low_end r)) case.streams i s
          (holds_ends case.streams case.utilities grid holds) at in
          let (lowest, low) = some_lowest grid (low_end s) falls ends.1 in
          let under = All-contains (λ x. lowest ≤ℤ x) grid (low_end s) low.each ends.1 in
          stream_worth-is case network least grid prices holds lowest low i s at
          (All-slice_get IsValidStream case.streams i s (AreStreams-IsComplete case complete).each at) under hot cold
          (AreParts-made case.streams case.utilities side.Hot grid hot holds hot_parts) hot_ends
          (AreParts-made case.streams case.utilities side.Cold grid cold holds cold_parts) cold_ends

  -- ---- both sides

  -- what is taken away on one side is added on the other
  moved_over : (a b c e : Rational) → IsAtMost c (plus (minus a b) e) → IsAtMost (plus b c) (plus a e)
  moved_over a b c e h =
      let back = ap (λ w. plus w b) (plus_comm (minus a b) e) ∙ plus_assoc e (minus a b) b
      ∙ ap (plus e) (plus-minus a b) ∙ plus_comm e a in
      subst (λ w. IsAtMost w (plus a e)) (plus_comm c b)
      (subst (IsAtMost (plus c b)) back (at_most-plus_plus c (plus (minus a b) e) b b h (at_most_refl b)))

  sides_ordered : IsAtMost (rational_sum_by (worth side.Cold) cold) (rational_sum_by (worth side.Hot) hot)
  sides_ordered =
      let es = exchangers_of network.lines in
      let takes = sum-enumerated (cold_worth case network valid.values tariff)
      (duty_worth case network valid.values tariff side.Cold) es (λ n e at. refl) in
      let gives =
      sum-enumerated (hot_worth case network valid.values tariff)
      (duty_worth case network valid.values tariff side.Hot) es (λ n e at. refl) in
      let h =
      worths_ordered case network valid.values tariff shape valid.valuation valid.ended valid.approaches valid.permitted
      (views-fall grid falls) (steps_are_ordered case least z cold grid falls cold_ends) in
      let bought = rational_sum_by (cold_worth case network valid.values tariff) (enumerate_from 0 es) in
      let sold = plus (minus (of_streams side.Hot hot) (of_streams side.Cold cold)) (of_utilities side.Hot) in
      let both = subst (λ c. IsAtMost c sold) takes (subst (IsAtMost bought) (ap₂ plus streams_lose gives) h) in
      subst (λ w. IsAtMost w (rational_sum_by (worth side.Hot) hot)) (sym (side_sum side.Cold cold cold_parts))
      (subst (IsAtMost (plus (of_streams side.Cold cold) (of_utilities side.Cold))) (sym (side_sum side.Hot hot hot_parts))
      (moved_over (of_streams side.Hot hot) (of_streams side.Cold cold) (of_utilities side.Cold) (of_utilities side.Hot) both))

  uses_on_grid : IsSupporting (reach_between case hot cold) y z
      → IsAtMost (worth_of_uses network z cold) (worth_of_uses network y hot)
  unfolding worth_of_uses
  uses_on_grid supporting =
      let colds = rational_sum_by (worth side.Cold) cold in
      let hots = rational_sum_by (worth side.Hot) hot in
      let cold_sum = sum-items (λ (e : ℕ × Part). worth side.Cold e.1) (worth side.Cold) cold (λ i p at. refl) in
      let hot_sum = sum-items (λ (e : ℕ × Part). worth side.Hot e.1) (worth side.Hot) hot (λ i p at. refl) in
      let taken = subst (IsAtMost (rational_sum_by (use_worth network z) (enumerate_from 0 cold))) cold_sum
      (at_most-enumerated (use_worth network z) (λ (e : ℕ × Part). worth side.Cold e.1) cold cold_part) in
      let given = subst (λ w. IsAtMost w (rational_sum_by (use_worth network y) (enumerate_from 0 hot))) hot_sum
      (at_most-enumerated (λ (e : ℕ × Part). worth side.Hot e.1) (use_worth network y) hot (hot_part supporting)) in
      let cold_uses = rational_sum_by (use_worth network z) (enumerate_from 0 cold) in
      let hot_uses = rational_sum_by (use_worth network y) (enumerate_from 0 hot) in
      at_most_trans cold_uses colds hot_uses taken (at_most_trans colds hots hot_uses sides_ordered given)

pub uses_ordered : UsesAreOrdered
uses_ordered case network hot cold y z complete shape valid parts supporting =
    let on = parts_on_grid case hot cold parts in
    let same =
    ListsFalling-unique (Contains (places_of case.streams case.utilities)) parts.grid on.grid parts.is_grid on.is_grid in
    uses_on_grid case network hot cold y z complete shape valid on.grid on.is_grid
    (subst (λ g. AreParts case.streams case.utilities g side.Hot hot) same parts.hot_parts)
    (subst (λ g. AreParts case.streams case.utilities g side.Cold cold) same parts.cold_parts)
    (All-weaker (IsOnPlaces case on.grid side.Hot) (HasEnds on.grid) (λ p h. h.ends) hot on.hot_parts)
    (All-weaker (IsOnPlaces case on.grid side.Cold) (HasEnds on.grid) (λ p h. h.ends) cold on.cold_parts) supporting
