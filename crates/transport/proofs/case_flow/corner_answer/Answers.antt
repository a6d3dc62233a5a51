use Rattle.corner_flow.specs.Corner.{NeedsHeat, UtilityHeat, corner_price, counts_low}
use Rattle.transport.proofs.Words.{Cold, Hot, Least, ints, reach_between, to_z-of_z, weak_duality}
use Rattle.std.proofs.lemmas.List.{length-map}
use Rattle.std.proofs.Common.{FitsSigned, ap, ap₂, arith, length, map, rules, subst, w32, ◌∙◌}
use Rattle.transport.proofs.case_flow.corner_answer.Goals as goal

pub returns-clause-answer : goal.returns-clause-answer
returns-clause-answer c =
    let case = c.args.case.now in
    let parts = c.args.parts.now in
    let flow = c.in_ok-flow in
    let prices = c.in_ok-prices in
    let cost = c.from.ensures in
    record {
      certified = record {
        flow = flow.ensures.flow;
        supporting = prices.ensures.supporting;
        hot_prices =
            record { one_each = ap length prices.ensures.hot ∙ length-map parts.hot _; within = prices.ensures.hot_range };
        cold_prices =
            record { one_each = ap length prices.ensures.cold ∙ length-map parts.cold _; within = prices.ensures.cold_range };
        costs = omega (arith, ints, flow.ensures.cost, cost);
        value = omega (arith, ints, prices.ensures.value, cost);
      };
      least = record {
        transfers = flow.flow.transfers;
        flow = flow.ensures.flow;
        costs = omega (arith, ints, flow.ensures.cost, cost);
        least = λ others is.
            let value = weak_duality
            (reach_between case parts.hot parts.cold) parts.hot parts.cold prices.prices.hot prices.prices.cold prices.ensures.supporting others is in
            omega (arith, ints, value, prices.ensures.value, cost);
      };
      cut = tt;
      stuck_only = tt;
    }

pub returns-clause-corner : goal.returns-clause-corner
returns-clause-corner c =
    let case = c.args.case.now in
    let parts = c.args.parts.now in
    let flow = c.in_ok-flow in
    let prices = c.in_ok-prices in
    let hot = c.targets-targets.ensures.hot in
    let cold = c.targets-targets.ensures.cold in
    let reference = c.reference_of-reference in
    let fits : FitsSigned w32 reference.result.place = search rules in
    let counts = counts_low case.streams reference.result.from_itself in
    let price = ap₂ (λ t p. corner_price t (counts p) p) hot (to_z-of_z w32 reference.result.place fits) in
    record {
      flow = flow.flow;
      prices = prices.prices;
      is = ap (Least flow.flow prices.prices) (omega (arith, ints, c.from.ensures, hot));
      corner = flow.ensures.spans;
      few = flow.ensures.few;
      hot_heat = subst (UtilityHeat Hot parts.hot flow.flow.transfers) hot flow.ensures.hot_heat;
      cold_heat = subst (UtilityHeat Cold parts.cold flow.flow.transfers) cold flow.ensures.cold_heat;
      least_hot = subst (NeedsHeat case parts.hot parts.cold Hot) hot flow.ensures.least_hot;
      least_cold = subst (NeedsHeat case parts.hot parts.cold Cold) cold flow.ensures.least_cold;
      corner_prices = record {
        place = reference.result.place;
        from_itself = reference.result.from_itself;
        reference = reference.ensures.place;
        counts = reference.ensures.from_itself;
        hot_prices = prices.ensures.hot ∙ ap (λ f. map f parts.hot) price;
        cold_prices = prices.ensures.cold ∙ ap (λ f. map f parts.cold) price;
      };
    }
