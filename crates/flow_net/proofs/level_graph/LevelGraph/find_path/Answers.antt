use Rattle.flow_net.proofs.ArcLemmas.{arc-nodes}
use Rattle.flow_net.proofs.RisingWalks.{IsFreePath-rising}
use Rattle.flow_net.proofs.LevelPaths.{IsStep, IsStep-closed, IsStep-up, fewer_levels, height_kept, heights-set, level_count}
use Rattle.flow_net.proofs.RisingWalks.{walk-pop, walk-push}
use Rattle.flow_net.proofs.level_graph.LevelGraph.find_path.Goals.{In-Some-pop}
use Rattle.flow_net.proofs.Words.{All, All-permutation, All-pop, All-push, All-weaker, IsFreeArc, IsFreePath, IsPermutation-reverse, IsWalk, StepsUp}
use Rattle.flow_net.proofs.Words.{height_at, length-set}
use Rattle.std.proofs.Common.{None, Some, ap, arith, length, reverse, set, subst, sym, ◌*◌, ◌+◌, ◌<◌, ◌∙◌, ◌≡◌, ◌≤◌, ℕ}
use Rattle.flow_net.proofs.level_graph.LevelGraph.find_path.Goals as goal

pub loop-node-preserved-in-Some : goal.loop-node-preserved-in-Some
loop-node-preserved-in-Some c =
    let p = c.args.problem.now in
    let r = c.args.routing.now in
    let levels = c.last_arc.new.self.levels.items in
    let a = c.in-Some.arc in
    let inv = c.loop-node.invariant in
    let last = c.in-Some.ensures in
    let grown = c.in_ok-push.ensures.items in
    let steps = subst (λ t. All (IsStep p r t.items) c.loop-node.path.items) (sym last.levels) inv.steps in
    let step =
    IsStep-up p r levels a last.free (subst (λ t. StepsUp t.items a.tail a.head) (sym last.levels) last.steps_up) in
    record {
      graph = record {
        one_level_each = ap (λ t. length t.items) last.levels ∙ inv.graph.one_level_each;
        one_cursor_each = last.cursors ∙ inv.graph.one_cursor_each;
        entered = subst (λ t. All (λ v. v < p.net.now.nodes) t.items) (sym last.entered) inv.graph.entered;
        upto = subst (λ t. (v : ℕ) → height_at t.items v ≤ p.net.now.nodes) (sym last.levels) inv.graph.upto;
      };
      node_in = (arc-nodes p.net.now c.requires.standing.problem.net a last.free.residual.arc).0;
      walk =
          let longer = walk-push c.loop-node.path.items a p.sink
          (subst (λ v. IsWalk (reverse c.loop-node.path.items) v p.sink) (sym last.head) inv.walk) in
          subst (λ xs. IsWalk (reverse xs) a.tail p.sink) (sym grown) longer;
      steps =
          let longer = All-push (IsStep p r levels) c.loop-node.path.items a steps step in
          subst (All (IsStep p r levels)) (sym grown) longer;
    }

-- the arc that is taken off again leads from the node that is closed
record IsPopped (c : In-Some-pop) : Type 0 where
  tail : c.in-Some-pop.arc.tail ≡ c.loop-node.node
  walk : IsWalk (reverse c.pop.new.self.items) c.in-Some-pop.arc.head c.args.problem.now.sink
  step : IsStep c.args.problem.now c.args.routing.now c.last_arc.new.self.levels.items c.in-Some-pop.arc
  steps : All (IsStep c.args.problem.now c.args.routing.now c.last_arc.new.self.levels.items) c.pop.new.self.items

popped : (c : In-Some-pop) → IsPopped c
popped c =
    let p = c.args.problem.now in
    let r = c.args.routing.now in
    let items = c.in-Some-pop.ensures.items in
    let steps = subst (λ t. All (IsStep p r t.items) c.loop-node.path.items) (sym c.in_default.ensures.levels)
    c.loop-node.invariant.steps in
    let parts = All-pop (IsStep p r c.last_arc.new.self.levels.items) c.loop-node.path.items c.pop.new.self.items
    (Some c.in-Some-pop.arc) items steps in
    let walk = walk-pop c.pop.new.self.items c.in-Some-pop.arc c.loop-node.node p.sink
    (subst (λ xs. IsWalk (reverse xs) c.loop-node.node p.sink) items c.loop-node.invariant.walk) in
    record { tail = walk.0; walk = walk.1; step = parts.1; steps = parts.0 }

pub loop-node-smaller : goal.loop-node-smaller
loop-node-smaller c =
    let levels = c.last_arc.new.self.levels.items in
    let a = c.in-Some-pop.arc in
    let at = popped c in
    let fewer_below =
    fewer_levels c.args.problem.now c.args.routing.now levels c.pop.new.self.items a c.args.problem.now.sink at.step in
    let fewer = subst (λ v. level_count (set levels v None) + 1 ≡ level_count levels) at.tail fewer_below in
    let kept = subst (λ v. height_at (set levels v None) a.head ≡ height_at levels a.head) at.tail
    (height_kept c.args.problem.now c.args.routing.now levels c.pop.new.self.items a c.args.problem.now.sink at.step) in
    let n = c.args.problem.now.net.now.nodes in
    let same =
    ap (λ t. (n + 1) * level_count t.items + height_at t.items c.loop-node.node) c.in_default.ensures.levels in
    let upto = subst (λ t. height_at t.items a.head ≤ n) (sym c.in_default.ensures.levels)
    (c.loop-node.invariant.graph.upto a.head) in
    let times = ap (λ k. (n + 1) * k) fewer in
    omega (arith, times, kept, same, upto)

pub loop-node-preserved : goal.loop-node-preserved
loop-node-preserved c =
    let p = c.args.problem.now in
    let r = c.args.routing.now in
    let levels = c.last_arc.new.self.levels.items in
    let a = c.in-Some-pop.arc in
    let inv = c.loop-node.invariant in
    let last = c.in_default.ensures in
    let at = popped c in
    let node = inv.node_in in
    let each = ap (λ t. length t.items) last.levels ∙ inv.graph.one_level_each in
    let within : c.loop-node.node < length levels = omega (arith, node, each) in record {
      graph = record {
        one_level_each =
            length-set levels c.loop-node.node None ∙ (ap (λ t. length t.items) last.levels ∙ inv.graph.one_level_each);
        one_cursor_each = last.cursors ∙ inv.graph.one_cursor_each;
        entered = subst (λ t. All (λ v. v < p.net.now.nodes) t.items) (sym last.entered) inv.graph.entered;
        upto = heights-set levels c.loop-node.node p.net.now.nodes None within (omega arith)
            (subst (λ t. (v : ℕ) → height_at t.items v ≤ p.net.now.nodes) (sym last.levels) inv.graph.upto);
      };
      node_in = (arc-nodes p.net.now c.requires.standing.problem.net a at.step.free.residual.arc).1;
      walk = at.walk;
      steps = subst (λ v. All (IsStep p r (set levels v None)) c.pop.new.self.items) at.tail
          (IsStep-closed p r levels c.pop.new.self.items a p.sink at.step at.walk at.steps);
    }

pub returns-clause-path : goal.returns-clause-path
returns-clause-path c =
    let p = c.args.problem.now in
    let r = c.args.routing.now in
    let levels = c.loop-node.self.levels.items in
    let inv = c.loop-node.invariant in
    let path = c.loop-node.path.items in
    let turned = All-permutation (IsStep p r levels) _ _ (IsPermutation-reverse path) inv.steps in
    let free_rising = All-weaker (IsStep p r levels)
    (λ a. IsFreeArc p r a × (height_at levels a.tail < height_at levels a.head)) (λ a h. (h.free, (omega arith)))
    (reverse path) turned in
    let free_path = IsFreePath-rising p r (height_at levels) (reverse path)
    (subst (λ v. IsWalk (reverse path) v p.sink) c.loop-node-test.false inv.walk) free_rising in
    subst (IsFreePath p r) (sym c.reverse.ensures.items) free_path
