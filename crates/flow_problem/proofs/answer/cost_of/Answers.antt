use Rattle.flow_problem.proofs.SumLemmas.{cost_small, link_cost_small}
use Rattle.flow_problem.proofs.answer.cost_of.Goals.{After-from-in-loop-index}
use Rattle.flow_problem.proofs.Words.{add-one, flow_on, ints, link_at, sizes, to_z-of_z, w128}
use Rattle.std.proofs.Common.{FitsSigned, ap, ap₂, arith, length, of_z, refl, subst, to_z, ◌*ℤ◌, ◌+ℤ◌, ◌+◌, ◌<◌, ◌∙◌, ◌≡◌}
use Rattle.flow_problem.proofs.answer.cost_of.Goals as goal

-- what the flow on the link costs, as the code has it
record IsTerm (c : After-from-in-loop-index) : Type 0 where
  below : c.loop-index.index < length c.args.net.now.links
  is : to_z w128 (of_z w128 (to_z w128 (of_z w128 c.from.result) *ℤ to_z w128 (of_z w128 c.from-in-loop-index.result)))
      ≡ (link_at c.args.net.now.links c.loop-index.index).cost *ℤ flow_on c.args.flow.now c.loop-index.index

term : (c : After-from-in-loop-index) → IsTerm c
term c =
    let k = c.loop-index.index in
    let links = c.loop-index.invariant.links in
    let below = subst (λ xs. k < length xs) links c.loop-index-test.true in
    let link = ap (λ xs. (link_at xs k).cost) links in
    let cost : to_z w128 (of_z w128 c.from.result) ≡ (link_at c.args.net.now.links k).cost = omega (arith, ints) in
    let carried : to_z w128 (of_z w128 c.from-in-loop-index.result) ≡ flow_on c.args.flow.now k = omega (arith, ints) in
    let small = link_cost_small c.args.net.now c.args.flow.now c.requires.net c.requires.rooms k below in
    let fits : FitsSigned w128 ((link_at c.args.net.now.links k).cost *ℤ flow_on c.args.flow.now k)
    = omega (arith, sizes, small) in
    record { below = below; is = rw (cost, carried) (to_z-of_z w128 _ fits) }

-- the sum fits
sum_fits : (c : After-from-in-loop-index) → FitsSigned w128
    (to_z w128 c.loop-index.cost-bits +ℤ to_z w128 (of_z w128 (to_z w128 (of_z w128 c.from.result) *ℤ to_z w128 (of_z w128 c.from-in-loop-index.result))))
sum_fits c =
    let t = term c in
    let below = t.below in
    let small = link_cost_small c.args.net.now c.args.flow.now c.requires.net c.requires.rooms c.loop-index.index below in
    let sum = cost_small c.args.net.now c.args.flow.now c.requires.net c.requires.rooms c.loop-index.index (omega (arith, below)) in
    let so_far = c.loop-index.invariant.cost in
    rw t.is (omega (arith, sizes, small, sum, so_far))

pub overflow_add-cost : goal.overflow_add-cost
overflow_add-cost c = sum_fits c

pub loop-index-preserved : goal.loop-index-preserved
loop-index-preserved c = record {
  links = c.loop-index.invariant.links;
  cost = to_z-of_z w128 _ (sum_fits c) ∙ (ap₂ ◌+ℤ◌ c.loop-index.invariant.cost (term c).is ∙ rw add-one refl);
}
