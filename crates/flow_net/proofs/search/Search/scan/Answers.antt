use Rattle.flow_net.proofs.LabelLemmas.{Improves-refl, Improves-trans, IsAt-improves, IsClosedAt-improves}
use Rattle.flow_net.proofs.Words.{IsAt, IsClosedAt, arc_by_index, cases_eq, is_in}
use Rattle.std.proofs.Common.{ap, arith, inl, inr, subst, sym, ◌∙◌}
use Rattle.flow_net.proofs.search.Search.scan.Goals as goal

pub loop-index-init : goal.loop-index-init
loop-index-init c =
    record {
      search = c.requires.search;
      improves = Improves-refl c.args.self.now;
      closed = λ k low high. absurd (omega (arith, low, high));
    }

pub relax-requires-clause-tail : goal.relax-requires-clause-tail
relax-requires-clause-tail c = c.range_from-first.ensures.tails c.loop-index.index (omega arith) (omega arith)

pub relax-requires-clause-at : goal.relax-requires-clause-at
relax-requires-clause-at c =
    let tail_is = c.range_from-first.ensures.tails c.loop-index.index (omega arith) (omega arith) in
    let still = IsAt-improves c.args.self.now c.loop-index.self c.args.node c.args.label.now
    c.loop-index.invariant.improves c.requires.at in
    subst (λ v. IsAt c.loop-index.self v c.args.label.now) (sym tail_is) still

pub loop-index-preserved : goal.loop-index-preserved
loop-index-preserved c =
    let p = c.args.problem.now in
    let r = c.args.routing.now in
    let s = c.loop-index.self in
    let t = c.relax.new.self in
    let inv = c.loop-index.invariant in
    let after = c.in_ok-relax.ensures in
    let at = IsAt-improves c.args.self.now s c.args.node c.args.label.now inv.improves c.requires.at in
    record {
      search = after.search;
      improves = Improves-trans c.args.self.now s t inv.improves after.improves;
      closed = λ k low high. elim (cases_eq k c.loop-index.index) [
        | inl same ↦ subst (λ i. IsClosedAt p r t (arc_by_index p i)) (sym same) after.closed
        | inr ne ↦
            let tail = c.range_from-first.ensures.tails k low (omega (arith, high)) in
            IsClosedAt-improves p r s t (arc_by_index p k) after.improves (ap (is_in s.settled.items) tail ∙ at.settled)
            (inv.closed k low (omega (arith, high, ne)))
      ];
    }

pub returns-clause-closed : goal.returns-clause-closed
returns-clause-closed c = λ a is tail. let (k, low, high, at) = c.range_from-first.ensures.complete a is tail in
    let closed = c.loop-index.invariant.closed k low (omega (arith, high)) in
    subst (IsClosedAt c.args.problem.now c.args.routing.now c.loop-index.self) at closed
