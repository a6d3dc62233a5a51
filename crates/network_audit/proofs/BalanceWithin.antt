-- The numbers of the balance of a network without a finding are within the limits of fractions.
use Rattle.network_audit.proofs.Words.{Balance, Case, Decides-is_within_limits, HasNoFinding, HasShape, IsWithinLimits, Item, Network, Place, Rational, Step}
use Rattle.network_audit.proofs.Words.{balance_items, balance_of, cost_of, cost_steps, enumerate_from, excess_of, first_finding, heat_price, heats_on, plus}
use Rattle.network_audit.proofs.Words.{rational_sum_by-map, rational_zero, sum_steps}
use Rattle.network_audit.proofs.ItemLemmas.{passed-back, passed-front, passed-item, passed-rest}
use Rattle.network_audit.proofs.PartLemmas.{passed-each}
use Rattle.network_audit.proofs.HeatLemmas.{cold_heat-is, hot_heat-is}
use Rattle.network_audit.proofs.LineSteps.{within-zero}
use Rattle.network_audit.proofs.SumSteps.{added, added-zero}
use Rattle.std.proofs.Common.{List, None, [], length, map, subst, ℕ, ◌++◌, ◌+◌, ◌∙◌, ◌∷◌, ◌≡◌}
use Rattle.network_audit.specs.declared.findings.Place.TheVariants as place
use Rattle.stream_case.specs.declared.source.Side.TheVariants as side

-- a step that is passed forms a number within the limits
step-within : (at : Place) (number : ℕ) (value : Rational) (items : List Item)
    → first_finding (Step at number value ∷ items) ≡ None → IsWithinLimits value
step-within at number value items none =
    (Decides-is_within_limits value).0 (passed-item (Step at number value) items none)

-- and so the last of a sum's steps does
sum-within : (at : Place) (before : ℕ) (total : Rational) (numbers : List Rational) → IsWithinLimits total
    → first_finding (sum_steps at before total numbers) ≡ None → IsWithinLimits (added total numbers)
sum-within at before total [] within none = within
sum-within at before total (a ∷ numbers) within none =
    sum-within at (before + 1) (plus total a) numbers (step-within _ _ _ _ none) (passed-rest _ _ none)

-- and of a cost's
cost-within : (at : Place) (before : ℕ) (cost : Rational) (prices : List Rational) → IsWithinLimits cost
    → first_finding (cost_steps at before cost prices) ≡ None → IsWithinLimits (added cost prices)
cost-within at before cost [] within none = within
cost-within at before cost (a ∷ prices) within none =
    let added_up = passed-rest _ _ none in
    cost-within at (before + 2) (plus cost a) prices
    (step-within _ _ _ _ added_up) (passed-rest _ _ added_up)

-- each number of a balance is within the limits
pub record HasFractions (balance : Balance) : Type 0 where
  pub hot : IsWithinLimits balance.hot
  pub cold : IsWithinLimits balance.cold
  pub excess : IsWithinLimits balance.excess
  pub cost : IsWithinLimits balance.cost

pub balance-within : (case : Case) (network : Network) → HasShape case network → HasNoFinding case network
    → HasFractions (balance_of case network)
unfolding balance_items cost_of
balance-within case network shape none =
    let hot = heats_on side.Hot case network in
    let cold = heats_on side.Cold case network in
    let prices = map (heat_price network) (enumerate_from 0 case.utilities) in
    let before = length hot + length cold + 1 in
    let hots = sum_steps place.Balance 0 rational_zero hot in
    let colds = sum_steps place.Balance (length hot) rational_zero cold in
    let last : List Item
    = Step place.Balance before (excess_of case network) ∷ cost_steps place.Balance before rational_zero prices in
    let all : first_finding (hots ++ (colds ++ last)) ≡ None
    = (passed-each case network none.values none.none).balance in
    let behind = passed-back hots (colds ++ last) all in
    let rest = passed-back colds last behind in
    record {
      hot = subst IsWithinLimits (added-zero hot ∙ hot_heat-is case network shape)
          (sum-within place.Balance 0 rational_zero hot within-zero (passed-front hots (colds ++ last) all));
      cold = subst IsWithinLimits (added-zero cold ∙ cold_heat-is case network shape)
          (sum-within place.Balance (length hot) rational_zero cold within-zero (passed-front colds last behind));
      excess = step-within _ _ _ _ rest;
      cost =
          subst IsWithinLimits (added-zero prices ∙ rational_sum_by-map (λ a. a) (heat_price network) (enumerate_from 0 case.utilities))
          (cost-within place.Balance before rational_zero prices within-zero (passed-rest _ _ rest));
    }
