use Rattle.heat_flow.proofs.CostLemmas.{heats_within}
use Rattle.std.proofs.Common.{subst, sym}
use Rattle.heat_flow.proofs.Words.{All, IsHeat}
use Rattle.heat_flow.proofs.cost.cost_of.Goals as goal

pub side_cost-requires-clause-heats : goal.side_cost-requires-clause-heats
side_cost-requires-clause-heats c = subst (All (λ t. IsHeat t.heat)) (sym c.as_slice-transfers.ensures)
    (heats_within c.args.parts.now.hot c.args.parts.now.cold c.args.flow.now.transfers c.args.parts.now.hot_bounded c.requires)

pub side_cost-requires-2-clause-heats : goal.side_cost-requires-2-clause-heats
side_cost-requires-2-clause-heats c = subst (All (λ t. IsHeat t.heat)) (sym c.as_slice-transfers.ensures)
    (heats_within c.args.parts.now.hot c.args.parts.now.cold c.args.flow.now.transfers c.args.parts.now.hot_bounded c.requires)
