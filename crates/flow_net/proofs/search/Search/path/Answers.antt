use Rattle.flow_net.proofs.RisingWalks.{walk-push}
use Rattle.flow_net.proofs.QueueLemmas.{settled_within}
use Rattle.flow_net.proofs.Words.{All, All-push, IsTreeArc, IsWalk, arc_at, is_in}
use Rattle.std.proofs.Common.{Some, ap, arith, reverse, subst, sym, ◌∙◌, ◌≡◌}
use Rattle.flow_net.proofs.search.Search.path.Goals as goal

pub last_arc-requires-clause-node : goal.last_arc-requires-clause-node
last_arc-requires-clause-node c =
    let within = settled_within c.args.self.now.settled.items c.loop-arc.node c.loop-arc.invariant.settled in
    omega arith

pub loop-arc-smaller : goal.loop-arc-smaller
loop-arc-smaller c =
    let last : arc_at c.args.problem.now c.args.self.now.labels.items c.loop-arc.node ≡ Some c.in-Some.arc
    = sym c.last_arc.ensures ∙ c.in-Some.is in
    let deep = c.requires.depth c.loop-arc.node c.in-Some.arc last in omega (arith, deep)

pub loop-arc-preserved : goal.loop-arc-preserved
loop-arc-preserved c =
    let p = c.args.problem.now in
    let s = c.args.self.now in
    let a = c.in-Some.arc in
    let inv = c.loop-arc.invariant in
    let last : arc_at p s.labels.items c.loop-arc.node ≡ Some a = sym c.last_arc.ensures ∙ c.in-Some.is in
    let head = c.requires.head c.loop-arc.node a last in
    let grown = c.in_ok-push.ensures.items in record {
      settled = c.requires.tail_settled c.loop-arc.node a last;
      walk = subst (λ xs. IsWalk (reverse xs) a.tail p.sink) (sym grown) (walk-push c.loop-arc.path.items a p.sink
          (subst (λ v. IsWalk (reverse c.loop-arc.path.items) v p.sink) (sym head) inv.walk));
      arcs =
          let longer = All-push (IsTreeArc p s) c.loop-arc.path.items a inv.arcs (record {
            is_last = ap (arc_at p s.labels.items) head ∙ last;
            head_settled = ap (is_in s.settled.items) head ∙ inv.settled;
          }) in
          subst (All (IsTreeArc p s)) (sym grown) longer;
    }
