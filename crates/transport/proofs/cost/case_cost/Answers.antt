use Rattle.heat_flow.proofs.PartLemmas.{HoldsOfParts-some}
use Rattle.transport.proofs.Words.{IsCaseCost, IsCutOf, IsLeastCost, IsValueBetween, Part, parts_on_grid, reach_between, to_z-of_z, w128}
use Rattle.std.proofs.Common.{FitsSigned, List, rules, subst, sym}
use Rattle.transport.proofs.cost.case_cost.Goals as goal

pub least_case-requires-clause-parts : goal.least_case-requires-clause-parts
least_case-requires-clause-parts c =
    parts_on_grid c.args.case.now c.in_ok-parts.parts.hot c.in_ok-parts.parts.cold c.in_ok-parts.ensures

pub returns-in-Least : goal.returns-in-Least
returns-in-Least c =
    let case = c.args.case.now in
    let parts = c.in_ok-parts.parts in
    let cost = c.in-Least.cost in
    let fits : FitsSigned w128 cost = search rules in
    let found = rw c.in-Least.is at c.in_ok-cost.ensures in
    let least = λ (hot cold : List Part). IsLeastCost (reach_between case hot cold) hot cold cost in
    let value = λ (hot cold : List Part). IsValueBetween (reach_between case hot cold) hot cold cost in
    subst (IsCaseCost case) (sym (to_z-of_z w128 cost fits)) (record {
      least = HoldsOfParts-some case least parts.hot parts.cold c.in_ok-parts.ensures found.least;
      value = HoldsOfParts-some case value parts.hot parts.cold c.in_ok-parts.ensures (record {
        prices = c.in-Least.prices;
        supporting = found.certified.supporting;
        is = found.certified.value;
      });
    })

pub returns : goal.returns
returns c =
    let case = c.args.case.now in
    let parts = c.in_ok-parts.parts in
    let found = rw c.in-Stuck.is at c.in_ok-cost.ensures in
    let cut = λ (hot cold : List Part). IsCutOf (reach_between case hot cold) hot cold c.in-Stuck.cut in
    HoldsOfParts-some case cut parts.hot parts.cold c.in_ok-parts.ensures found.cut
