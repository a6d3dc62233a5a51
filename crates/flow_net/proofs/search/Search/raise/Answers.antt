use Rattle.flow_net.proofs.Lists.{set_cases}
use Rattle.flow_net.proofs.RaisedPotentials.{Stands-raised, rise_fits, tree_free, tree_reduced}
use Rattle.flow_net.proofs.Sizes.{sizes}
use Rattle.flow_net.proofs.StandingLemmas.{IsPotential-standing, Stands-same}
use Rattle.flow_net.proofs.search.Search.raise.Goals.{After-index_mut}
use Rattle.flow_net.proofs.Words.{Stands, get_or_read, ints, length-set, potential_at, residual_of, rise_of, to_z-of_z}
use Rattle.std.proofs.Common.{FitsSigned, ap, ap₂, arith, length, of_z, pos, refl, rules, subst, sym, to_z, w64, ◌+ℤ◌, ◌+◌, ◌<ℤ◌, ◌<◌, ◌∙◌, ◌≡◌, ◌≤◌}
use Rattle.flow_net.proofs.search.Search.raise.Goals as goal

pub returns-then-self-eq0-clause-free : goal.returns-then-self-eq0-clause-free
returns-then-self-eq0-clause-free c =
    tree_free c.args.problem.now c.args.routing.now c.args.self.now c.requires.standing c.requires.arrived
    (omega (arith, ints))

-- the potential that is raised, and the sum, as the code has them
record IsSum (c : After-index_mut) : Type 0 where
  within : c.loop-node.node < length c.args.routing.now.potentials.items
  is : to_z w64 (of_z w64 c.index_mut.result.now) +ℤ to_z w64 (of_z w64 c.rise.result)
      ≡ potential_at c.args.routing.now.potentials.items c.loop-node.node +ℤ rise_of c.args.self.now c.loop-node.node
  fits : FitsSigned w64 (to_z w64 (of_z w64 c.index_mut.result.now) +ℤ to_z w64 (of_z w64 c.rise.result))

sum : (c : After-index_mut) → IsSum c
sum c =
    let p = c.args.problem.now in
    let r = c.args.routing.now in
    let v = c.loop-node.node in
    let within : v < length r.potentials.items = omega arith in
    let v_in : v < p.net.now.nodes = omega arith in
    let read = get_or_read c.loop-node.routing.potentials.items v c.index_mut.result.now (omega arith)
    c.index_mut.ensures.value (pos 0) in
    let left = c.loop-node.invariant.left v (omega arith) in
    let small = IsPotential-standing p r c.requires.standing v v_in in
    let first : to_z w64 (of_z w64 c.index_mut.result.now) ≡ potential_at r.potentials.items v
    = omega (arith, sizes, read, left, small) in
    let second = to_z-of_z w64 c.rise.result (search rules) in
    let is = ap₂ ◌+ℤ◌ first (second ∙ c.rise.ensures) in
    let fits = rise_fits p r c.args.self.now c.requires.standing c.requires.arrived v v_in in
    record { within = within; is = is; fits = rw is fits }

pub overflow_add-index_mut : goal.overflow_add-index_mut
overflow_add-index_mut c = (sum (goal.at.overflow_add-index_mut c).After-index_mut).fits

pub loop-node-preserved : goal.loop-node-preserved
loop-node-preserved c =
    let r = c.args.routing.now in
    let v = c.loop-node.node in
    let inv = c.loop-node.invariant in
    let at = sum (goal.at.loop-node-preserved c).After-index_mut in
    let value = to_z-of_z w64 _ at.fits ∙ at.is in
    let potentials = c.loop-node.routing.potentials.items in
    let within : v < length potentials = omega arith in
    record {
      flow = inv.flow;
      residuals = inv.residuals;
      routed = inv.routed;
      one_each = length-set potentials v _ ∙ inv.one_each;
      raised =
          set_cases potentials v _ (pos 0) within
          (λ u z. u < v + 1 → z ≡ potential_at r.potentials.items u +ℤ rise_of c.args.self.now u) (λ _. value)
          (λ u ne l. inv.raised u (omega (arith, ne, l)));
      left =
          set_cases potentials v _ (pos 0) within (λ u z. v + 1 ≤ u → z ≡ potential_at r.potentials.items u)
          (λ l. absurd (omega (arith, l))) (λ u ne l. inv.left u (omega (arith, l)));
    }

pub returns-clause-standing : goal.returns-clause-standing
returns-clause-standing c =
    let inv = c.loop-node.invariant in
    let raised = Stands-raised c.args.problem.now c.args.routing.now c.args.self.now c.requires.standing
    c.requires.arrived c.loop-node.routing.potentials.items inv.one_each (λ v within. inv.raised v (omega arith)) in
    subst (λ v.
    Stands c.args.problem.now c.loop-node.routing.flow.items c.loop-node.routing.potentials.items
    c.loop-node.routing.routed v.items)
    (sym inv.residuals) (Stands-same c.args.problem.now _ _ _ _ _ _ _
    (ap (λ v. v.items) inv.flow) refl inv.routed raised)

pub returns-clause-free : goal.returns-clause-free
returns-clause-free c = λ a last.
    let inv = c.loop-node.invariant in
    let tree = tree_reduced c.args.problem.now c.args.routing.now c.args.self.now c.requires.standing c.requires.arrived
    c.loop-node.routing.potentials.items inv.one_each (λ v within. inv.raised v (omega arith)) a last in
    record {
      residual = record {
        arc = tree.0.arc;
        residual =
            subst (λ v. pos 0 <ℤ residual_of c.args.problem.now.net.now.links v.items a) (sym inv.flow) tree.0.residual;
      };
      free = tree.1;
    }
