use Rattle.network_audit.proofs.Words.{Gives, Item, Place, Rational, Sum, cost_steps, enumerate_from, err_from_is_err_and, first_finding, heat_on_in}
use Rattle.network_audit.proofs.Words.{heats_on_in, length-enumerate_from, minus, prices_in, rational_sum, rational_zero, sum_steps, value_formed}
use Rattle.network_audit.proofs.ItemLemmas.{found-behind, found-formed, found-front, found-not_formed}
use Rattle.network_audit.proofs.SumSteps.{length-numbers}
use Rattle.network_audit.proofs.balance.balance_of.Goals.{After-minus, In_ok-cold, In_ok-hot}
use Rattle.std.proofs.Common.{List, Some, ap, arith, length, subst, sym, zero-add, ◌*◌, ◌++◌, ◌+◌, ◌∙◌, ◌≡◌, ◌≤◌}
use Rattle.network_audit.proofs.balance.balance_of.Goals as goal
use Rattle.network_audit.specs.declared.findings.Finding.TheVariants as finding
use Rattle.stream_case.specs.declared.source.Side.TheVariants as side

pub returns-in_err-hot : goal.returns-in_err-hot
returns-in_err-hot c =
    let p = err_from_is_err_and c.from_residual.result c.from_residual.ensures.1 in
    rw (p.1, p.2) (λ at. found-front _ _ _ (c.in_err-hot.ensures at))

pub heat_on-requires-2-clause-few : goal.heat_on-requires-2-clause-few
unfolding heats_on_in
heat_on-requires-2-clause-few c =
    let hot = length-numbers (heat_on_in side.Hot c.args.heats.now) (enumerate_from 0 c.args.utilities.now) in
    omega (arith, ap (λ (s : Sum). s.steps) c.in_ok-hot.ensures.1, hot, length-enumerate_from 0 c.args.utilities.now, c.requires.few)

-- the steps of the hot utilities
hot_steps : (c : In_ok-hot)
    → c.in_ok-hot.hot.steps ≡ length (heats_on_in side.Hot c.args.utilities.now c.args.heats.now)
hot_steps c =
    ap (λ (s : Sum). s.steps) c.in_ok-hot.ensures.1
    ∙ zero-add (length (heats_on_in side.Hot c.args.utilities.now c.args.heats.now))

pub returns-in_err-cold : goal.returns-in_err-cold
returns-in_err-cold c =
    let cold = heats_on_in side.Cold c.args.utilities.now c.args.heats.now in
    let steps = hot_steps (goal.at.returns-in_err-cold c).In_ok-hot in
    let p = err_from_is_err_and c.from_residual-in_err-cold.result c.from_residual-in_err-cold.ensures.1 in
    rw (p.1, p.2) (λ at. found-behind _ _ (c.in_ok-hot.ensures.0 at)
    ∙ found-front _ _ _ (ap (λ n. first_finding (sum_steps at n rational_zero cold)) (sym steps) ∙ c.in_err-cold.ensures at))

-- the steps of all utilities are few
few_steps : (c : In_ok-cold) → c.in_ok-cold.cold.steps ≤ 2 * length c.args.utilities.now
unfolding heats_on_in
few_steps c =
    let steps = ap (λ (s : Sum). s.steps) c.in_ok-hot.ensures.1 in
    let more = ap (λ (s : Sum). s.steps) c.in_ok-cold.ensures.1 in
    let us = enumerate_from 0 c.args.utilities.now in
    let hot = length-numbers (heat_on_in side.Hot c.args.heats.now) us in
    let cold = length-numbers (heat_on_in side.Cold c.args.heats.now) us in
    omega (arith, steps, more, hot, cold, length-enumerate_from 0 c.args.utilities.now)

pub overflow_add-steps : goal.overflow_add-steps
overflow_add-steps c =
    let few = few_steps (goal.at.overflow_add-steps c).In_ok-cold in
    record { fits = omega (arith, few, c.requires.few) }

pub cost_of-requires-clause-few : goal.cost_of-requires-clause-few
cost_of-requires-clause-few c =
    let few = few_steps (goal.at.cost_of-requires-clause-few c).In_ok-cold in
    omega (arith, few, c.requires.few)

-- both sums are passed, so many steps were taken, and the excess is that of the hot one
record IsSummed (hot cold : List Rational) (c : After-minus) : Type 0 where
  steps : c.in_ok-cold.cold.steps ≡ length hot + length cold
  gives : Gives c.minus.result (minus (rational_sum hot) c.args.target.now)
  passed : (at : Place) (items : List Item)
      → first_finding (sum_steps at 0 rational_zero hot ++ (sum_steps at (length hot) rational_zero cold ++ items))
      ≡ first_finding items

summed : (c : After-minus) → IsSummed (heats_on_in side.Hot c.args.utilities.now c.args.heats.now)
    (heats_on_in side.Cold c.args.utilities.now c.args.heats.now) c
summed c =
    let cold = heats_on_in side.Cold c.args.utilities.now c.args.heats.now in
    let steps = hot_steps (goal.at.After-minus c).In_ok-hot in
    record {
      steps = ap (λ (s : Sum). s.steps) c.in_ok-cold.ensures.1 ∙ ap (λ n. n + length cold) steps;
      gives =
          subst (λ h. Gives c.minus.result (minus h c.args.target.now)) (ap (λ (s : Sum). s.total) c.in_ok-hot.ensures.1) c.minus.ensures;
      passed = λ at items. found-behind _ _ (c.in_ok-hot.ensures.0 at)
          ∙ found-behind _ items (ap (λ n. first_finding (sum_steps at n rational_zero cold)) (sym steps) ∙ c.in_ok-cold.ensures.0 at);
    }

pub returns-in_default : goal.returns-in_default
returns-in_default c = let s = summed (goal.at.returns-in_default c).After-minus in
    λ at. s.passed at _ ∙ found-not_formed _ _ _ _ _ c.in_default.is s.gives
    ∙ ap (λ n. Some (finding.TooFine at (n + 1))) (sym s.steps)

pub returns-in_err-cost : goal.returns-in_err-cost
returns-in_err-cost c =
    let s = summed (goal.at.returns-in_err-cost c).After-minus in
    let prices = prices_in c.args.utilities.now c.args.heats.now in
    let p = err_from_is_err_and c.from_residual-in_err-cost.result c.from_residual-in_err-cost.ensures.1 in
    rw (p.1, p.2) (λ at. s.passed at _ ∙ found-formed _ _ _ _ _ _ c.in-Some.is s.gives ∙ ap (λ n. first_finding (cost_steps at (n + 1) rational_zero prices))
    (sym s.steps) ∙ c.in_err-cost.ensures at)

pub returns : goal.returns
returns c =
    let s = summed (goal.at.returns c).After-minus in
    let prices = prices_in c.args.utilities.now c.args.heats.now in (
      λ at. s.passed at _ ∙ found-formed _ _ _ _ _ _ c.in-Some.is s.gives
          ∙ ap (λ n. first_finding (cost_steps at (n + 1) rational_zero prices)) (sym s.steps)
          ∙ c.in_ok-cost.ensures.0 at,
      λ i. record {
        hot = (ap (λ (s : Sum). s.total) c.in_ok-hot.ensures.1) i;
        cold = (ap (λ (s : Sum). s.total) c.in_ok-cold.ensures.1) i;
        excess = value_formed _ _ _ c.in-Some.is s.gives i;
        cost = c.in_ok-cost.ensures.1 i;
      },
    )
