use Rattle.certify.proofs.Firsts.{flow_first}
use Rattle.certify.proofs.Words.{All-map, HoldsOfTransfers, IsFirstOf, IsPartPrice, Priced, cold_parts, hot_parts, to_z-of_z, transfer_causes, w128}
use Rattle.std.proofs.Common.{FitsSigned, refl, rules, subst, ℤ, ◌∙◌}
use Rattle.certify.proofs.check.check_flow.Goals as goal

pub check_transfers-requires-clause-hot_range : goal.check_transfers-requires-clause-hot_range
check_transfers-requires-clause-hot_range c =
    rw (c.from_vec.ensures, c.in_ok-prices_of.ensures) (All-map IsPartPrice (λ (g : Priced). g.price) c.args.gives.now c.requires.gives)

pub check_transfers-requires-clause-cold_range : goal.check_transfers-requires-clause-cold_range
check_transfers-requires-clause-cold_range c =
    rw (c.from_vec-2.ensures, c.in_ok-prices_of-2.ensures) (All-map IsPartPrice (λ (g : Priced). g.price) c.args.takes.now c.requires.takes)

pub returns-clause-first : goal.returns-clause-first
returns-clause-first c =
    let s = c.args.setting.now in
    let hot = rw c.as_slice-hot.ensures at (c.if-not-are_prices_of.ensures.0 refl) in
    let cold = rw c.as_slice-cold.ensures at (c.if-not-are_prices_of-2.ensures.0 refl) in
    let known = c.in_ok-flow.ensures.some.0 (rw c.in-Some.is refl) in
    let transfers = rw c.in-Some.is at c.in_ok-flow.ensures.transfers in
    let fits : FitsSigned w128 c.args.cost = search rules in
    let rest = subst (λ (n : ℤ). IsFirstOf transfer_causes (HoldsOfTransfers s.case.now (hot_parts s) (cold_parts s) n c.args.uses.now c.in-Some.flow.transfers
    c.from_vec.result c.from_vec-2.result) c.check_transfers.result) (to_z-of_z w128 c.args.cost fits) c.check_transfers.ensures in
    flow_first s.case.now (hot_parts s) (cold_parts s) c.args.cost c.args.uses.now c.args.moves.now c.args.gives.now c.args.takes.now
    c.in-Some.flow.transfers c.from_vec.result c.from_vec-2.result c.check_transfers.result transfers
    (c.from_vec.ensures ∙ c.in_ok-prices_of.ensures) (c.from_vec-2.ensures ∙ c.in_ok-prices_of-2.ensures) (hot, cold) known rest
