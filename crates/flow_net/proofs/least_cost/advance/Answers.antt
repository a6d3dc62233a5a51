use Rattle.flow_net.proofs.RisingWalks.{IsFreePath-tree, IsTree-arrived}
use Rattle.flow_net.proofs.Sizes.{less_left}
use Rattle.flow_net.proofs.Words.{IsFreePath, ints, strictly}
use Rattle.std.proofs.Common.{ap, arith, of_z, subst, sym, w64}
use Rattle.flow_net.proofs.least_cost.advance.Goals as goal

pub path-requires : goal.path-requires
path-requires c = IsTree-arrived c.args.problem.now c.args.routing.now c.args.search.now c.requires.arrived

pub augment-requires-clause-path : goal.augment-requires-clause-path
augment-requires-clause-path c =
    let tree = IsTree-arrived c.args.problem.now c.args.routing.now c.args.search.now c.requires.arrived in
    let free_path = IsFreePath-tree c.args.problem.now c.raise.new.routing c.args.search.now c.in_ok-path.path.items
    tree c.raise.ensures.free c.in_ok-path.ensures in
    subst (IsFreePath c.args.problem.now c.raise.new.routing) (sym c.deref.ensures.value) free_path

pub returns-then-rises-clause-rises : goal.returns-then-rises-clause-rises
returns-then-rises-clause-rises c = omega (arith, ints)

pub loop-routing-smaller : goal.loop-routing-smaller
loop-routing-smaller c =
    let more = strictly c.loop-routing.routing.routed c.augment_by_levels.new.routing.routed
    c.in_ok-augment_by_levels.ensures.no_less (λ e. c.if-routing-before.false (ap (of_z w64) (sym e))) in
    less_left c.args.problem.now.amount c.loop-routing.routing.routed c.augment_by_levels.new.routing.routed more
    c.in_ok-augment_by_levels.ensures.standing.routed_upto

pub loop-routing-preserved : goal.loop-routing-preserved
loop-routing-preserved c =
    let after = c.in_ok-augment_by_levels.ensures in
    record { standing = after.standing; graph = after.graph; no_less = omega (arith, ints) }

pub returns-then-routing-before-clause-rises : goal.returns-then-routing-before-clause-rises
returns-then-routing-before-clause-rises c = omega (arith, ints)

pub returns-clause-rises : goal.returns-clause-rises
returns-clause-rises c = omega (arith, ints)
