-- No heat crosses a pinch: what is needed above it is all that the hot parts above it give.
use Rattle.corner_flow.proofs.HeatLemmas.{above, counts_higher, counts_lower, heat, is_missed, is_reached, price_at-map, reached, taken-le, utility_heat}
use Rattle.corner_flow.proofs.HeatLemmas.{worth_above}
use Rattle.corner_flow.proofs.SideLemmas.{AreStandardParts}
use Rattle.corner_flow.proofs.StandardLemmas.{end_of}
use Rattle.corner_flow.proofs.Words.{All, All-cons, All-head, All-nil, All-tail, Case, Cold, Contains, Hot, IsFlowOf, IsPinch, IsTightOver, NoHeatCrosses}
use Rattle.corner_flow.proofs.Words.{one_times, zero_times, NoHeatCrossesPinch, Part, Transfer, UtilityHeat, hot_target, if◌then◌else◌, int_sum_by}
use Rattle.corner_flow.proofs.Words.{int_sum_by-le, ints, not-true, pos, price_at, stands_above, ℤ, ◌*ℤ◌, ◌<ℤ◌, ◌≤ℤ◌}
use Rattle.std.proofs.Common.{Bool, List, [], ap, arith, get_or, map, ◌∙◌, ◌∷◌, ◌≡◌}

-- where two sums are equal and no term of the one is greater, the terms are equal
equal_terms : {X : Type 0} (f g : X → ℤ) (xs : List X) → All (λ x. f x ≤ℤ g x) xs
    → int_sum_by f xs ≡ int_sum_by g xs → All (λ x. f x ≡ g x) xs
equal_terms f g [] le e = All-nil (λ x. f x ≡ g x)
equal_terms f g (x ∷ xs) le e =
    let first = All-head (λ y. f y ≤ℤ g y) x xs le in
    let others = All-tail (λ y. f y ≤ℤ g y) x xs le in
    let rest = int_sum_by-le f g xs others in
    let is : f x ≡ g x = omega (arith, ints) in
    All-cons (λ y. f y ≡ g y) x xs is (equal_terms f g xs others (omega (arith, ints)))

module _ {c : Case} {hot cold : List Part} (s : AreStandardParts c hot cold) (place : ℤ)
    (pinch : IsPinch c.streams place) (from_itself : Bool)
    (tight : IsTightOver from_itself c.streams place) (ts : List Transfer) (flow : IsFlowOf c hot cold ts)
    (given : UtilityHeat Hot hot ts (hot_target c.streams)) where
  -- the hot utility stands above the pinch, and the cold one below it
  top_above : place <ℤ end_of c Hot
  top_above =
      let (k, x, within, is, less) = pinch.inside.below_some in
      let highest = s.within Hot x (s.stream_end x (k, within, is)) in
      omega (arith, ints)

  bottom_below : end_of c Cold <ℤ place
  bottom_below =
      let (k, x, within, is, less) = pinch.inside.above_some in
      let lowest = s.within Cold x (s.stream_end x (k, within, is)) in
      omega (arith, ints)

  -- all that is given above the pinch is taken above it
  same_above : All (λ t. price_at (map (above from_itself place) cold) t.cold *ℤ t.heat
      ≡ price_at (map (above from_itself place) hot) t.hot *ℤ t.heat) ts
  same_above =
      let on : Contains s.grid place = s.stream_end place pinch.at.end in
      let target = hot_target c.streams in
      let hots = worth_above s ts flow Hot from_itself place target on given in
      let colds = worth_above s ts flow Cold from_itself place (heat s Cold ts) on (utility_heat s Cold ts) in
      let all =
      one_times (reached from_itself place (end_of c Hot)) target
      (is_reached from_itself place (end_of c Hot) (counts_higher from_itself place (end_of c Hot) top_above)) in
      let none = zero_times (reached from_itself place (end_of c Cold)) (heat s Cold ts)
      (is_missed from_itself place (end_of c Cold) (counts_lower from_itself place (end_of c Cold) bottom_below)) in
      equal_terms (λ t. price_at (map (above from_itself place) cold) t.cold *ℤ t.heat)
      (λ t. price_at (map (above from_itself place) hot) t.hot *ℤ t.heat) ts
      (taken-le s ts flow from_itself place) (omega (arith, ints))

  -- so nothing is left to give below it
  none_crosses : NoHeatCrosses from_itself hot cold place ts
  none_crosses k d within crossing =
      let t = get_or ts k d in
      let p = crossing.hot_part in
      let q = crossing.cold_part in
      let gives = one_times (price_at (map (above from_itself place) hot) t.hot) t.heat
      (price_at-map (above from_itself place) hot t.hot p crossing.hot_at
      ∙ ap (λ b. if b then pos 1 else pos 0) crossing.above) in
      let takes = zero_times (price_at (map (above from_itself place) cold) t.cold) t.heat
      (price_at-map (above from_itself place) cold t.cold q crossing.cold_at
      ∙ ap (λ b. if b then pos 1 else pos 0) (not-true (stands_above from_itself place q) crossing.not_above)) in
      let same = same_above k d within in omega (arith, ints, flow.positive k d within)

pub no_heat_crosses_pinch : {c : Case} {hot cold : List Part} → AreStandardParts c hot cold
    → NoHeatCrossesPinch c hot cold
no_heat_crosses_pinch s = none_crosses s
