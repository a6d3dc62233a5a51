use Rattle.flow_net.proofs.StuckSearch.{IsCutBelow-stuck}
use Rattle.flow_net.proofs.Duality.{least_from_potentials, none_past_cut}
use Rattle.flow_net.proofs.Words.{IsCutBelow, IsLeastRouting, IsRouting, ints, to_z-of_z}
use Rattle.std.proofs.Common.{arith, subst, sym, w64, ◌≡◌}
use Rattle.flow_net.proofs.least_cost.solve.Goals as goal

pub returns-then-not-branch-clause-blocked : goal.returns-then-not-branch-clause-blocked
returns-then-not-branch-clause-blocked c =
    let whole = to_z-of_z w64 c.args.amount c.ranges.amount in
    let cut = IsCutBelow-stuck _ c.loop-routing.routing c.run.new.self c.loop-routing.invariant.standing
    (rw c.if-not-branch.true at c.in_ok-run.ensures)
    (omega (
      arith,
      ints,
      c.loop-routing-test.true,
      c.loop-routing.invariant.standing.routed_from,
      c.loop-routing.invariant.standing.routed_upto,
      whole,
    )) in
    subst (IsCutBelow c.args.net.now c.args.source c.args.sink c.args.amount) (sym c.from_vec.ensures)
    (subst (λ z. IsCutBelow c.args.net.now c.args.source c.args.sink z c.run.new.self.settled.items) whole cut)

pub returns-then-not-branch-clause-blocked_only : goal.returns-then-not-branch-clause-blocked_only
returns-then-not-branch-clause-blocked_only c = λ routable. let whole = to_z-of_z w64 c.args.amount c.ranges.amount in
    let cut = IsCutBelow-stuck _ c.loop-routing.routing c.run.new.self c.loop-routing.invariant.standing
    (rw c.if-not-branch.true at c.in_ok-run.ensures)
    (omega (
      arith,
      ints,
      c.loop-routing-test.true,
      c.loop-routing.invariant.standing.routed_from,
      c.loop-routing.invariant.standing.routed_upto,
      whole,
    )) in
    none_past_cut c.args.net.now c.requires.net c.args.source c.args.sink c.requires.ends _ routable.0
    c.run.new.self.settled.items cut
    (subst (λ z. IsRouting c.args.net.now c.args.source c.args.sink z routable.0) (sym whole) routable.1)

pub returns-clause-routed : goal.returns-clause-routed
returns-clause-routed c =
    let r = c.loop-routing.routing in
    let standing = c.loop-routing.invariant.standing in
    let whole : r.routed ≡ c.args.amount = omega (arith, ints) in
    let routes = subst (λ z. IsRouting c.args.net.now c.args.source c.args.sink z r.flow.items) whole standing.routes in
    subst (IsLeastRouting c.args.net.now c.args.source c.args.sink c.args.amount) (sym c.from_vec-2.ensures) (record {
      routing = routes;
      least =
          λ other.
          least_from_potentials c.args.net.now c.requires.net c.args.source c.args.sink c.requires.ends c.args.amount
          r.flow.items routes r.potentials.items other standing.proof;
    })
