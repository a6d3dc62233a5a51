use Rattle.corner_flow.proofs.FlowLemmas.{least_cost}
use Rattle.corner_flow.proofs.HeatLemmas.{needs_heat}
use Rattle.corner_flow.proofs.PriceLemmas.{target-value}
use Rattle.corner_flow.proofs.SideLemmas.{AreStandardParts, AreStandardParts-parts}
use Rattle.corner_flow.proofs.Words.{AreCaseParts, Cold, Hot, IsLeastCost, IsValueBetween, NeedsHeat, Part, ints, reach_between, some_parts, w128}
use Rattle.std.proofs.Common.{FitsSigned, List, arith, of_z, rules, subst, sym, to_z, w64, ◌∙◌, ◌≡◌}
use Rattle.corner_flow.proofs.least.standard_cost.Goals as goal

standard : (c : goal.After-from) (hot cold : List Part) → AreCaseParts c.args.case.now hot cold
    → AreStandardParts c.args.case.now hot cold
standard c hot cold = AreStandardParts-parts c.requires.complete c.requires.standard

target_is : (c : goal.After-from) → to_z w128 (of_z w128 c.from.result) ≡ c.args.targets.hot
target_is c = let fits : FitsSigned w64 c.args.targets.hot = search rules in omega (arith, ints)

pub returns-clause-least : goal.returns-clause-least
returns-clause-least c = record {
  some = some_parts c.args.case.now;
  each =
      λ hot cold parts. subst (IsLeastCost (reach_between c.args.case.now hot cold) hot cold) (sym c.requires.hot_target ∙ sym (target_is c))
      (least_cost (standard c hot cold parts));
}

pub returns-clause-priced : goal.returns-clause-priced
returns-clause-priced c = record {
  some = some_parts c.args.case.now;
  each = λ hot cold parts.
      subst (IsValueBetween (reach_between c.args.case.now hot cold) hot cold) (sym c.requires.hot_target ∙ sym (target_is c))
      (target-value (standard c hot cold parts));
}

pub returns-clause-hot_heat : goal.returns-clause-hot_heat
returns-clause-hot_heat c = record {
  some = some_parts c.args.case.now;
  each =
      λ hot cold parts. subst (NeedsHeat c.args.case.now hot cold Hot) (sym c.requires.hot_target) (needs_heat (standard c hot cold parts) Hot);
}

pub returns-clause-cold_heat : goal.returns-clause-cold_heat
returns-clause-cold_heat c =
    record { some = some_parts c.args.case.now; each = λ hot cold parts. needs_heat (standard c hot cold parts) Cold }
