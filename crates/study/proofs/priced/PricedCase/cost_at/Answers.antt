use Rattle.study.proofs.Words.{Bool, Case, HasNoFlow, HoldsOfParts-some, IsCaseNet, IsCaseNet-alike, IsCost}
use Rattle.study.proofs.Words.{IsLeastCost, IsLeastCostAt, Part, length-map, priced, priced_part, reach_between}
use Rattle.study.proofs.Words.{to_z-of_z, w128, ℤ}
use Rattle.std.proofs.Common.{FitsSigned, List, rules, subst, subst₂, sym, ℕ, ◌≡◌}
use Rattle.study.proofs.PartBounds.{least_within}
use Rattle.study.proofs.PricedFlows.{reach-priced}
use Rattle.study.proofs.priced.PricedCase.cost_at.Goals as goal

pub answer-requires : goal.answer-requires
answer-requires c =
    let self = c.args.self.now in
    let case = self.case.now in
    let hot = self.parts.now.hot in
    let cold = self.parts.now.cold in
    let prices = c.args.prices.now in
    subst₂ (λ h k. IsCaseNet case h k self.net.now) (sym c.in_ok-priced.ensures.hot) (sym c.in_ok-priced.ensures.cold)
    (IsCaseNet-alike case hot cold (priced prices hot) (priced prices cold) self.net.now (length-map hot (priced_part prices))
    (length-map cold (priced_part prices)) (reach-priced case prices hot cold) c.requires.priced.net)

-- what holds of the priced parts by their own table holds by that of the case
by_case : (P : (ℕ → ℕ → Bool) → List Part → List Part → Type 0) (case : Case) (prices : List ℤ) (hot cold h k : List Part)
    → h ≡ priced prices hot
    → k ≡ priced prices cold → P (reach_between case h k) h k
    → P (reach_between case hot cold) (priced prices hot) (priced prices cold)
by_case P case prices hot cold h k hots colds holds =
    subst (λ r. P r (priced prices hot) (priced prices cold)) (reach-priced case prices hot cold)
    (subst₂ (λ x y. P (reach_between case x y) x y) hots colds holds)

pub returns-in-Least-clause-cost : goal.returns-in-Least-clause-cost
returns-in-Least-clause-cost c =
    let case = c.args.self.now.case.now in
    let parts = c.args.self.now.parts.now in
    let prices = c.args.prices.now in
    let cost = c.in-Least.cost in
    let fits : FitsSigned w128 cost = search rules in
    let found = rw c.in-Least.is at c.in_ok-cost.ensures in
    let made = c.in_ok-priced.priced in
    let is = c.in_ok-priced.ensures in
    let costs = λ (hot cold : List Part).
    IsLeastCost (reach_between case hot cold) (priced prices hot) (priced prices cold) cost in
    let least = by_case (λ r hot cold. IsLeastCost r hot cold cost) case prices parts.hot parts.cold made.hot made.cold
    is.hot is.cold found.least in
    subst (IsLeastCostAt case prices) (sym (to_z-of_z w128 cost fits))
    (HoldsOfParts-some case costs parts.hot parts.cold c.requires.priced.parts least)

pub returns-in-Least-clause-range : goal.returns-in-Least-clause-range
returns-in-Least-clause-range c =
    let cost = c.in-Least.cost in
    let fits : FitsSigned w128 cost = search rules in
    let found = rw c.in-Least.is at c.in_ok-cost.ensures in
    let parts = c.in_ok-priced.priced in
    let reach = reach_between c.args.self.now.case.now parts.hot parts.cold in
    subst IsCost (sym (to_z-of_z w128 cost fits)) (least_within reach parts.hot parts.cold cost parts.few_hot parts.few_cold
    parts.hot_bounded parts.cold_bounded found.least)

pub returns-clause-cost : goal.returns-clause-cost
returns-clause-cost c =
    let case = c.args.self.now.case.now in
    let parts = c.args.self.now.parts.now in
    let prices = c.args.prices.now in
    let found = rw c.in-Stuck.is at c.in_ok-cost.ensures in
    let made = c.in_ok-priced.priced in
    let is = c.in_ok-priced.ensures in
    let none = λ (hot cold : List Part). HasNoFlow (reach_between case hot cold) (priced prices hot) (priced prices cold) in
    HoldsOfParts-some case none parts.hot parts.cold c.requires.priced.parts
    (by_case HasNoFlow case prices parts.hot parts.cold made.hot made.cold is.hot is.cold found.stuck_only)
