use Rattle.flow_net.proofs.QueueLemmas.{all_settled-drained}
use Rattle.flow_net.proofs.SettledNodes.{IsAt-settling, IsSearch-settling, miss-settling}
use Rattle.flow_net.proofs.LabelLemmas.{IsClosedAt-improves}
use Rattle.flow_net.proofs.FreshSearch.{IsSearch-fresh}
use Rattle.flow_net.proofs.SettledNodes.{settled_cases}
use Rattle.flow_net.proofs.FreshSearch.{none_settled}
use Rattle.flow_net.proofs.search.Search.run.Goals.{In-Some}
use Rattle.flow_net.proofs.Words.{Arc, IsArc, IsClosed, IsClosedAt, cases_eq, false≢true, is_in, distance_at, distance_of_label}
use Rattle.std.proofs.Common.{ap, inl, inr, refl, subst, sym, true, ◌∙◌, ◌≡◌, ◌≢◌}
use Rattle.flow_net.proofs.search.Search.run.Goals as goal

pub loop-node-init : goal.loop-node-init
loop-node-init c =
    let p = c.args.problem.now in
    let r = c.args.routing.now in
    let s = c.args.self.now in
    let none = none_settled p r c.requires.standing s c.requires.fresh in
    record {
      search = IsSearch-fresh p r c.requires.standing s c.requires.fresh;
      closed = λ a is hit. absurd (false≢true (sym (none a.tail) ∙ hit));
      sink_out = none p.sink;
    }

-- the arcs from the nodes that were settled before are closed still
closed_before : (c : In-Some) (a : Arc) → IsArc c.args.problem.now.net.now.links a → a.tail ≢ c.in-Some.node
    → is_in c.nearest.new.self.settled.items a.tail ≡ true
    → IsClosedAt c.args.problem.now c.args.routing.now c.nearest.new.self a
closed_before c a is ne hit residual =
    let inv = c.loop-node.invariant in
    let before = settled_cases c.args.problem.now c.args.routing.now c.loop-node.self c.nearest.new.self c.in-Some.node
    c.in-Some.label c.in-Some.ensures inv.search
    (λ u. u ≢ c.in-Some.node → is_in c.loop-node.self.settled.items u ≡ true) (λ no. absurd (no refl)) (λ u h _. h)
    a.tail hit ne in
    subst (λ labels. IsClosed c.args.routing.now labels a) (sym c.in-Some.ensures.labels)
    (inv.closed a is before residual)

pub scan-requires-clause-search : goal.scan-requires-clause-search
scan-requires-clause-search c =
    IsSearch-settling c.args.problem.now c.args.routing.now c.loop-node.self c.nearest.new.self c.in-Some.node
    c.in-Some.label c.in-Some.ensures c.loop-node.invariant.search

pub scan-requires-clause-at : goal.scan-requires-clause-at
scan-requires-clause-at c =
    IsAt-settling c.args.problem.now c.args.routing.now c.loop-node.self c.nearest.new.self c.in-Some.node
    c.in-Some.label c.in-Some.ensures c.loop-node.invariant.search

pub returns-then-node-problem : goal.returns-then-node-problem
returns-then-node-problem c =
    let t = c.nearest.new.self in
    let at_sink = c.if-node-problem.true in
    let search = IsSearch-settling c.args.problem.now c.args.routing.now c.loop-node.self t c.in-Some.node
    c.in-Some.label c.in-Some.ensures c.loop-node.invariant.search in
    let at = IsAt-settling c.args.problem.now c.args.routing.now c.loop-node.self t c.in-Some.node c.in-Some.label
    c.in-Some.ensures c.loop-node.invariant.search in
    record {
      search = search;
      sink_settled = subst (λ v. is_in t.settled.items v ≡ true) at_sink at.settled;
      level =
          subst (λ v. distance_at t.labels.items v ≡ t.queue.level) at_sink (ap distance_of_label at.label ∙ at.level);
      closed =
          λ a is hit ne. closed_before (goal.at.returns-then-node-problem c).In-Some a is (λ e. ne (e ∙ at_sink)) hit;
    }

pub loop-node-preserved : goal.loop-node-preserved
loop-node-preserved c =
    let p = c.args.problem.now in
    let r = c.args.routing.now in
    let t = c.nearest.new.self in
    let v = c.in-Some.node in
    let inv = c.loop-node.invariant in
    let scan = c.in_ok-scan.ensures in
    record {
      search = scan.search;
      closed = λ a is hit. elim (cases_eq a.tail v) [
        | inl e ↦ scan.closed a is e
        | inr ne ↦
            let before = ap (λ xs. is_in xs a.tail) (sym scan.improves.settled) ∙ hit in
            let closed = closed_before (goal.at.loop-node-preserved c).In-Some a is ne before in
            IsClosedAt-improves p r t c.scan.new.self a scan.improves before closed
      ];
      sink_out =
          ap (λ xs. is_in xs p.sink) scan.improves.settled
          ∙ miss-settling p r c.loop-node.self t v c.in-Some.label c.in-Some.ensures inv.search p.sink (λ e.
          c.if-node-problem.false (sym e)) inv.sink_out;
    }

pub returns : goal.returns
returns c =
    let drained = c.in_default.ensures in
    let inv = c.loop-node.invariant in
    record {
      labels = rw (drained.labels, drained.settled) inv.search.labels;
      all_settled = all_settled-drained c.loop-node.self c.nearest.new.self drained;
      closed = λ a is hit residual. subst (λ labels. IsClosed c.args.routing.now labels a) (sym drained.labels)
          (inv.closed a is (ap (λ xs. is_in xs a.tail) (sym drained.settled) ∙ hit) residual);
      sink_out = ap (λ xs. is_in xs c.args.problem.now.sink) drained.settled ∙ inv.sink_out;
    }
