-- One node more.
use Rattle.flow_problem.proofs.Words.{map-range_with_len_more, range_with_len, start_at, to_z-of_z}
use Rattle.std.proofs.Common.{FitsSigned, [], ap, ap₂, arith, map, rules, sym, w64, ◌++◌, ◌∙◌, ◌∷◌, ◌≡◌}
use Rattle.flow_problem.proofs.problem.Problem.start.Goals as goal

pub loop-node-preserved : goal.loop-node-preserved
loop-node-preserved c =
    let n = c.loop-node.node in
    let one_more = map-range_with_len_more (start_at c.args.self.now) 0 n n (omega arith) in
    let fits : FitsSigned w64 c.start_at.result = search rules in
    let next = to_z-of_z w64 c.start_at.result fits ∙ c.start_at.ensures in
    c.in_ok-push.ensures.ok ∙ ap₂ (λ xs x. xs ++ x ∷ []) c.loop-node.invariant next ∙ sym one_more

pub returns : goal.returns
returns c =
    let whole : c.loop-node.node ≡ c.args.self.now.net.nodes
    = omega (arith, c.loop-node-test.false, c.loop-node.auto.node-end) in
    c.loop-node.invariant ∙ ap (λ n. map (start_at c.args.self.now) (range_with_len 0 n)) whole
