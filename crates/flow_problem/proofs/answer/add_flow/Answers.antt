use Rattle.flow_problem.proofs.SumLemmas.{carried, first_fits, second_fits, surplus_below, surplus_below-more}
use Rattle.flow_problem.proofs.answer.add_flow.Goals.{In-loop-index}
use Rattle.flow_problem.proofs.Words.{flow_on, ints, length-set, link_at, w128}
use Rattle.std.proofs.Common.{ap, arith, length, of_z, pos, subst, to_z, ◌-ℤ◌, ◌<◌, ◌∙◌, ◌≡◌}
use Rattle.flow_problem.proofs.answer.add_flow.Goals as goal

-- the link is one of the net
record IsAt (c : In-loop-index) : Type 0 where
  below : c.loop-index.index < length c.args.net.now.links
  link : link_at c.as_slice-link-items.result.now c.loop-index.index ≡ link_at c.args.net.now.links c.loop-index.index

at : (c : In-loop-index) → IsAt c
at c =
    let links = c.loop-index.invariant.links in
    record { below = subst (λ xs. c.loop-index.index < length xs) links c.loop-index-test.true; link = ap (λ xs. link_at xs c.loop-index.index) links }

pub add-requires-clause-fits : goal.add-requires-clause-fits
add-requires-clause-fits c =
    let a = at (goal.at.add-requires-clause-fits c).In-loop-index in
    let inv = c.loop-index.invariant in
    let amount : to_z w128 (of_z w128 c.from-carried.result) ≡ flow_on c.args.flow.now c.loop-index.index
    = omega (arith, ints) in
    rw (amount, a.link) (first_fits c.args.net.now c.args.flow.now c.loop-index.surpluses c.requires.net c.requires.rooms c.loop-index.index a.below
    inv.one_each inv.surplus)

pub add-requires-in-loop-index-clause-fits : goal.add-requires-in-loop-index-clause-fits
add-requires-in-loop-index-clause-fits c =
    let a = at (goal.at.add-requires-in-loop-index-clause-fits c).In-loop-index in
    let inv = c.loop-index.invariant in
    let amount : to_z w128 (of_z w128 c.from-carried.result) ≡ flow_on c.args.flow.now c.loop-index.index
    = omega (arith, ints) in
    let back : to_z w128 (of_z w128 (pos 0 -ℤ to_z w128 (of_z w128 c.from-carried.result)))
    ≡ pos 0 -ℤ flow_on c.args.flow.now c.loop-index.index = omega (arith, ints) in
    rw (back, c.add.ensures, amount, a.link) (second_fits c.args.net.now c.args.flow.now c.loop-index.surpluses c.requires.net c.requires.rooms
    c.loop-index.index a.below inv.one_each inv.surplus)

pub loop-index-preserved : goal.loop-index-preserved
loop-index-preserved c =
    let net = c.args.net.now in
    let flow = c.args.flow.now in
    let k = c.loop-index.index in
    let a = at (goal.at.loop-index-preserved c).In-loop-index in
    let inv = c.loop-index.invariant in
    let amount : to_z w128 (of_z w128 c.from-carried.result) ≡ flow_on flow k = omega (arith, ints) in
    let back : to_z w128 (of_z w128 (pos 0 -ℤ to_z w128 (of_z w128 c.from-carried.result))) ≡ pos 0 -ℤ flow_on flow k
    = omega (arith, ints) in
    let within = c.requires.net.links k a.below in
    record {
      links = inv.links;
      one_each =
          ap length c.add-in-loop-index.ensures
          ∙ (length-set _ _ _ ∙ (ap length c.add.ensures ∙ (length-set _ _ _ ∙ inv.one_each)));
      surplus = λ v v_in.
          let before = inv.surplus v v_in in
          let step = carried c.loop-index.surpluses (link_at net.links k).from (link_at net.links k).to v (flow_on flow k)
          (let w = within.from_in in let e = inv.one_each in omega arith) (let w = within.to_in in let e = inv.one_each in omega arith) in
          let more = surplus_below-more net.links flow k v in
          rw (c.add-in-loop-index.ensures, back, c.add.ensures, amount, a.link) (omega (arith, ints, before, step, more));
    }

pub returns : goal.returns
returns c =
    let end : c.loop-index.index ≡ length c.args.net.now.links
    = (let same = ap length c.loop-index.invariant.links in omega arith) in
    record {
      one_each = c.loop-index.invariant.one_each;
      surplus =
          λ v within. c.loop-index.invariant.surplus v within
          ∙ ap (λ n. surplus_below c.args.net.now.links c.args.flow.now n v) end;
    }
