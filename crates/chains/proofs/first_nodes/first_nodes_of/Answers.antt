-- One source more.
use Rattle.chains.proofs.Words.{AreStreams-IsComplete, first_node_of, length-AreStreams, length-utilities, map-range_with_len_more, range_with_len, source_at}
use Rattle.std.proofs.Common.{[], ap, ap₂, arith, length, map, sym, ℕ, ◌++◌, ◌+◌, ◌∙◌, ◌∷◌, ◌≡◌}
use Rattle.chains.proofs.first_nodes.first_nodes_of.Goals as goal

pub overflow_add-count : goal.overflow_add-count
overflow_add-count c = let case = c.args.case.now in
    omega (
      arith,
      c.len.ensures,
      c.len-2.ensures,
      length-AreStreams case.streams (AreStreams-IsComplete case c.requires),
      length-utilities case c.requires,
    )

pub loop-index-preserved : goal.loop-index-preserved
loop-index-preserved c =
    let node = λ (index : ℕ). first_node_of c.args.groups.now (source_at c.args.case.now index) in
    let n = c.loop-index.index in
    let next_node = c.first_node_of.ensures ∙ ap (first_node_of c.args.groups.now) c.source_at.ensures in
    let one_more = map-range_with_len_more node 0 n n (omega arith) in
    c.in_ok-push.ensures.items ∙ ap₂ (λ xs x. xs ++ x ∷ []) c.loop-index.invariant next_node ∙ sym one_more

pub returns : goal.returns
returns c =
    let node = λ (index : ℕ). first_node_of c.args.groups.now (source_at c.args.case.now index) in
    let case = c.args.case.now in
    let whole : c.loop-index.index ≡ length case.streams + length case.utilities
    = omega (arith, c.loop-index-test.false, c.loop-index.auto.index-end, c.len.ensures, c.len-2.ensures) in
    c.loop-index.invariant ∙ ap (λ n. map node (range_with_len 0 n)) whole
