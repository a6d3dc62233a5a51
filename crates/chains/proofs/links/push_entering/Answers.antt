-- One hot part more.
use Rattle.chains.proofs.FlatMaps.{enumerated-step}
use Rattle.chains.proofs.ChainLinks.{node_at_most}
use Rattle.chains.proofs.links.push_entering.Goals.{In-loop-index, in-Some+in_ok-push, in_default}
use Rattle.chains.proofs.PartnerLemmas.{first_nodes-at, source_on}
use Rattle.chains.proofs.Words.{Hot, IsSourceOf, Part, first_node_of, side_of, source_at, source_index}
use Rattle.std.proofs.Common.{List, None, Some}
use Rattle.std.proofs.lemmas.List.FromFn.{length-map-range_with_len}
use Rattle.chains.proofs.Words.{MOST_INNER_NODES, append-nil, blank, depth_of, entering_at, get_or-map, get_or_default, length-map, open_link}
use Rattle.std.proofs.Common.{Option, [], ap, arith, get_or, length, option_map, option_to_list, subst, sym, ℕ, ◌++◌, ◌+◌, ◌<◌, ◌∙◌, ◌∷◌, ◌≡◌}
use Rattle.chains.proofs.links.push_entering.Goals as goal

-- a part at an index, and its source
module _ (c : In-loop-index) where
  abbrev part : Part
  part = get_or c.as_slice-part-items.result.now c.loop-index.index blank

  there : IsSourceOf c.args.case.now part.source
  there =
      let case = c.args.case.now in
      let slice = c.as_slice-part-items in
      let i = c.loop-index.index in
      let within = subst (λ xs. i < length xs) slice.ensures c.loop-index-test.true in
      let is = get_or_default slice.result.now i blank part c.loop-index-test.true
      ∙ ap (λ xs. get_or xs i part) slice.ensures in
      source_on case Hot part.source
      (subst (λ q. side_of case q.source ≡ Some Hot) (sym is) (c.requires.hot i part within))

  nodes_are : (nodes : List (Option ℕ)) → nodes ≡ c.in_ok-first_nodes.first_nodes.items
      → get_or nodes (source_index c.args.case.now part.source) None ≡ first_node_of c.args.groups.now part.source
  nodes_are nodes are =
      first_nodes-at c.args.case.now c.args.groups.now nodes (are ∙ c.in_ok-first_nodes.ensures) part.source there

pub node_of-requires : goal.node_of-requires
node_of-requires c =
    let case = c.args.case.now in
    record {
      complete = c.requires.complete;
      source = there (goal.at.node_of-requires c).In-loop-index;
      count =
          let nodes = c.deref.ensures.value ∙ c.in_ok-first_nodes.ensures in
          ap length nodes
          ∙ length-map-range_with_len (λ index. first_node_of c.args.groups.now (source_at case index)) 0
          (length case.streams + length case.utilities);
    }

pub overflow_add-node : goal.overflow_add-node
overflow_add-node c =
    let hot = c.args.parts.now.hot in
    let source = (get_or c.as_slice-part-items.result.now c.loop-index.index blank).source in
    let most = node_at_most c.args.groups.now source c.in-Some.first_node MOST_INNER_NODES c.requires.nodes
    (sym (c.in-Some.ensures ∙ nodes_are (goal.at.overflow_add-node c).In-loop-index _ c.deref.ensures.value)) in
    let each = ap length c.requires.depths ∙ length-map hot (depth_of c.args.places.now hot c.args.parts.now.cold) in
    let within = subst (λ xs. c.loop-index.index < length xs) c.as_slice-part-items.ensures c.loop-index-test.true in
    let small = c.requires.small c.loop-index.index 0 (omega (arith, each, within)) in
    omega (arith, most, small)

pub loop-index-preserved : goal.loop-index-preserved
loop-index-preserved c =
    let hot = c.args.parts.now.hot in
    let groups = c.args.groups.now in
    let depth = depth_of c.args.places.now hot c.args.parts.now.cold in
    let i = c.loop-index.index in
    let slice = c.as_slice-part-items in
    let within = subst (λ xs. i < length xs) slice.ensures c.loop-index-test.true in
    let p = get_or slice.result.now i blank in
    let is = get_or_default slice.result.now i blank p c.loop-index-test.true
    ∙ ap (λ xs. get_or xs i p) slice.ensures in
    let after = c.loop-index.links.items in
    let found = nodes_are (goal.at.loop-index-preserved c).In-loop-index _ c.deref.ensures.value in
    let deep : get_or c.args.depths.now i 0 ≡ depth p = ap (λ xs. get_or xs i 0) c.requires.depths
    ∙ (get_or-map depth hot i p 0 within ∙ ap depth (sym is)) in
    let into = λ (node : ℕ). open_link i (node + depth p) in
    let pushes = λ (o : Option ℕ). after ++ option_to_list (option_map into o) in
    elim c.match-node_of.branch [
      | in-Some+in_ok-push w ↦
          let node = w.in-Some.first_node in
          let link = w.open_link.ensures ∙ ap (λ d. open_link i (node + d)) deep in
          let pushed = ap (λ v. v.items) w.links-is ∙ w.in_ok-push.ensures.items ∙ ap (λ l. after ++ l ∷ []) link
          ∙ ap pushes (w.in-Some.ensures ∙ found) in
          enumerated-step hot i p _ after _ within is (entering_at depth groups) c.loop-index.invariant pushed
      | in_default w ↦
          enumerated-step hot i p _ after _ within is (entering_at depth groups) c.loop-index.invariant
          (ap (λ v. v.items) w.links-is ∙ sym (append-nil after) ∙ ap pushes (w.in_default.ensures ∙ found))
    ]
