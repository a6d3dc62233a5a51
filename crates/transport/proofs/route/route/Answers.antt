use Rattle.transport.proofs.Words.{AreInitialPotentials, IsWithinLimits}
use Rattle.std.proofs.Common.{subst, subst₂, sym}
use Rattle.transport.proofs.AroundLimits.{IsAround, IsAround-parts, limits_around, start_around}
use Rattle.transport.proofs.route.route.Goals as goal

around : (c : goal.After-start-2-1) → IsAround c.args.parts.now.hot c.args.parts.now.cold c.args.inner.now
around c = IsAround-parts c.args.parts.now c.args.inner.now c.requires.inner c.requires.few_nodes c.requires.few_links

pub solve-requires-clause-net : goal.solve-requires-clause-net
solve-requires-clause-net c =
    subst IsWithinLimits (sym c.in_ok-net.ensures) (limits_around c.args.parts.now.hot c.args.parts.now.cold c.args.inner.now (around c))

pub solve-requires-clause-start : goal.solve-requires-clause-start
solve-requires-clause-start c =
    subst₂ AreInitialPotentials (sym c.in_ok-net.ensures) (sym c.in_ok-start.ensures)
    (start_around c.args.parts.now.hot c.args.parts.now.cold c.args.inner.now (around c))
