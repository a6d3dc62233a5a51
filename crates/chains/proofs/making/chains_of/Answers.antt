-- The net of the chains of a case, group by group.
use Rattle.chains.proofs.FlatMaps.{flat_map-step}
use Rattle.chains.proofs.GroupLemmas.{few_chain_nodes}
use Rattle.chains.proofs.DepthLemmas.{chain_length-le, chain_length-some}
use Rattle.chains.proofs.RankLemmas.{places_some, rank_within}
use Rattle.chains.proofs.ChainPaths.{AreForChains}
use Rattle.chains.proofs.NetLemmas.{AreChains, AreChains-made, first_nodes_few, on_places}
use Rattle.chains.proofs.PartnerLemmas.{IsGroup-AreGroups}
use Rattle.chains.proofs.making.chains_of.Goals.{After-as_slice-places, After-drop-grid-2, After-len-2, After-len-3, In-loop-group}
use Rattle.chains.proofs.making.chains_of.Goals.{In_ok-depths, In_ok-groups}
use Rattle.chains.proofs.Words.{All, All-weaker, AreGroups, Cold, Group, Hot, IsOnPlaces, chain_length, depth_of, IsGrid, MOST_INNER_NODES, MOST_PARTS, MOST_PLACES, StandInLine, append-nil, chain_links, entering}
use Rattle.chains.proofs.Words.{flat_map, leaving, length-grid, links_of_group, onward, rank_count, rank_of, slice_get_read, take_all}
use Rattle.std.proofs.Common.{List, ap, append_assoc, ap₂, arith, get_or, length, refl, subst, subst₂, sym, ℕ, ◌*◌, ◌++◌, ◌+◌, ◌<◌, ◌∙◌, ◌≡◌, ◌≤◌}
use Rattle.chains.proofs.making.chains_of.Goals as goal

grid : (c : After-as_slice-places) → IsGrid c.args.case.now c.as_slice-places.result.now
grid c = subst (IsGrid c.args.case.now) (sym c.as_slice-places.ensures) c.in_ok-grid.ensures

few_places : (c : After-as_slice-places) → length c.as_slice-places.result.now ≤ MOST_PLACES
few_places c = length-grid c.args.case.now c.as_slice-places.result.now c.requires.complete (grid c)

some_place : (c : After-as_slice-places) → 0 < length c.as_slice-places.result.now
some_place c = places_some c.args.case.now c.as_slice-places.result.now c.requires.complete (grid c)

-- the places of the hot parts and of the cold parts
on : (c : After-as_slice-places)
    → All (IsOnPlaces c.args.case.now c.as_slice-places.result.now Hot) c.args.parts.now.hot
    × All (IsOnPlaces c.args.case.now c.as_slice-places.result.now Cold) c.args.parts.now.cold
on c =
    on_places c.args.case.now c.as_slice-places.result.now c.args.parts.now.hot c.args.parts.now.cold (grid c)
    c.requires.parts

few_nodes_each : (c : In_ok-depths) → c.in_ok-depths.depths.nodes ≤ 2 * MOST_PLACES
few_nodes_each c =
    let p = (goal.at.In_ok-depths c).After-as_slice-places in
    let places = c.as_slice-places.result.now in
    let few = chain_length-le places c.args.parts.now.hot c.args.parts.now.cold (some_place p) in
    omega (arith, few, few_places p, c.in_ok-depths.ensures.nodes)

-- no depth is above the limit
shallow : (c : In_ok-depths) (depths : List ℕ) → All (λ depth. depth < c.in_ok-depths.depths.nodes) depths
    → All (λ depth. depth ≤ 2 * MOST_PLACES) depths
shallow c depths within =
    All-weaker (λ depth. depth < c.in_ok-depths.depths.nodes) (λ depth. depth ≤ 2 * MOST_PLACES)
    (λ depth less. omega (arith, less, few_nodes_each c)) depths within

few_parts : (c : After-len-2) → c.len.result + c.len-2.result ≤ 2 * MOST_PARTS
few_parts c = omega (arith, c.len.ensures, c.len-2.ensures, c.args.parts.now.few_hot, c.args.parts.now.few_cold)

pub depths_of-requires : goal.depths_of-requires
depths_of-requires c =
    let p = (goal.at.depths_of-requires c).After-as_slice-places in
    let case = c.args.case.now in
    let places = c.as_slice-places.result.now in
    let falls = (grid p).ordered in
    record {
      few = few_places p;
      falls = falls;
      hot =
          All-weaker (IsOnPlaces case places Hot) (λ q. rank_of places q < rank_count places) (λ q stands.
          rank_within case places falls Hot q stands) c.args.parts.now.hot (on p).0;
      cold =
          All-weaker (IsOnPlaces case places Cold) (λ q. rank_of places q < rank_count places) (λ q stands.
          rank_within case places falls Cold q stands) c.args.parts.now.cold (on p).1;
    }

pub groups_of-requires-clause-nodes : goal.groups_of-requires-clause-nodes
groups_of-requires-clause-nodes c = few_nodes_each (goal.at.groups_of-requires-clause-nodes c).In_ok-depths

-- each chain begins within the limits
first_nodes : (c : In_ok-groups) → All (λ (g : Group). g.first_node ≤ MOST_INNER_NODES) c.in_ok-groups.groups.items
first_nodes c =
    let few = few_parts (goal.at.In_ok-groups c).After-len-2 in
    let few_nodes = few_nodes_each (goal.at.In_ok-groups c).In_ok-depths in
    first_nodes_few (c.len.result + c.len-2.result) c.in_ok-depths.depths.nodes c.in_ok-groups.groups.items
    c.in_ok-groups.ensures.chains c.in_ok-groups.ensures.few few few_nodes

pub overflow_cast-room : goal.overflow_cast-room
overflow_cast-room c =
    let few = few_places (goal.at.overflow_cast-room c).After-as_slice-places in
    omega (arith, few)

pub overflow_mul-room : goal.overflow_mul-room
overflow_mul-room c =
    let few = few_places (goal.at.overflow_mul-room c).After-as_slice-places in
    omega (arith, few)

pub push_entering-requires-clause-hot : goal.push_entering-requires-clause-hot
push_entering-requires-clause-hot c = λ k d within. (c.requires.parts.hot_parts k d within).source

pub push_entering-requires-clause-depths : goal.push_entering-requires-clause-depths
push_entering-requires-clause-depths c = c.deref.ensures.value ∙ c.in_ok-depths.ensures.hot_depths

pub push_entering-requires-clause-small : goal.push_entering-requires-clause-small
push_entering-requires-clause-small c =
    let small = shallow (goal.at.push_entering-requires-clause-small c).In_ok-depths c.in_ok-depths.depths.hot.items
    c.in_ok-depths.ensures.hot_within in
    subst (All (λ depth. depth ≤ 2 * MOST_PLACES)) (sym c.deref.ensures.value) small

pub push_entering-requires-clause-nodes : goal.push_entering-requires-clause-nodes
push_entering-requires-clause-nodes c =
    subst (All (λ (g : Group). g.first_node ≤ MOST_INNER_NODES)) (sym c.as_slice.ensures.value)
    (first_nodes (goal.at.push_entering-requires-clause-nodes c).In_ok-groups)

pub loop-group-init : goal.loop-group-init
loop-group-init c =
    let hot = c.args.parts.now.hot in
    let groups = c.deref-group-items.result.now in
    let depth = depth_of c.as_slice-places.result.now hot c.args.parts.now.cold in
    let whole = ap (λ gs. entering depth gs hot) (c.as_slice.ensures.value ∙ sym c.deref-group-items.ensures.value) in
    c.in_ok-push_entering.ensures ∙ ap₂ ◌++◌ c.new-links.ensures.items whole
    ∙ sym (append-nil (entering depth groups hot))

-- and so does the one of this group
first_node : (c : In-loop-group) (g : Group)
    → g ≡ get_or c.deref-group-items.result.now c.loop-group.group-index g → g.first_node ≤ MOST_INNER_NODES
first_node c g is =
    let here = subst (All (λ (h : Group). h.first_node ≤ MOST_INNER_NODES)) (sym c.deref-group-items.ensures.value)
    (first_nodes (goal.at.In-loop-group c).In_ok-groups) c.loop-group.group-index g c.loop-group-test.true in
    subst (λ (h : Group). h.first_node ≤ MOST_INNER_NODES) (sym is) here

pub push_onward-requires : goal.push_onward-requires
push_onward-requires c =
    let p = goal.at.push_onward-requires c in
    let node = first_node p.In-loop-group c.group-item.result c.group-item.is in
    let some = chain_length-some c.as_slice-places.result.now c.args.parts.now.hot c.args.parts.now.cold in
    record {
      node = node;
      some = omega (arith, some, c.in_ok-depths.ensures.nodes);
      nodes = few_nodes_each p.In_ok-depths;
    }

pub push_leaving-requires-clause-depths : goal.push_leaving-requires-clause-depths
push_leaving-requires-clause-depths c = c.deref-in-loop-group.ensures.value ∙ c.in_ok-depths.ensures.cold_depths

pub push_leaving-requires-clause-small : goal.push_leaving-requires-clause-small
push_leaving-requires-clause-small c =
    let small = shallow (goal.at.push_leaving-requires-clause-small c).In_ok-depths c.in_ok-depths.depths.cold.items
    c.in_ok-depths.ensures.cold_within in
    subst (All (λ depth. depth ≤ 2 * MOST_PLACES)) (sym c.deref-in-loop-group.ensures.value) small

pub push_leaving-requires-clause-node : goal.push_leaving-requires-clause-node
push_leaving-requires-clause-node c =
    first_node (goal.at.push_leaving-requires-clause-node c).In-loop-group c.group-item.result c.group-item.is

pub push_leaving-requires-clause-cold : goal.push_leaving-requires-clause-cold
push_leaving-requires-clause-cold c = λ k d within. (c.requires.parts.cold_parts k d within).source

pub push_leaving-requires-clause-group : goal.push_leaving-requires-clause-group
push_leaving-requires-clause-group c =
    let case = c.args.case.now in
    let groups = c.deref-group-items.result.now in
    let i = c.loop-group.group-index in
    let within = c.loop-group-test.true in
    let g = c.group-item.result in
    let are = subst (AreGroups case) (sym c.deref-group-items.ensures.value) c.in_ok-groups.ensures.groups in
    IsGroup-AreGroups case groups are i g within (slice_get_read groups (length groups) i g refl within c.group-item.is)

pub loop-group-preserved : goal.loop-group-preserved
loop-group-preserved c =
    let case = c.args.case.now in
    let places = c.as_slice-places.result.now in
    let hot = c.args.parts.now.hot in
    let cold = c.args.parts.now.cold in
    let groups = c.deref-group-items.result.now in
    let g = c.group-item.result in
    let after = c.loop-group.links.items in
    let depth = depth_of places hot cold in
    let out = leaving case depth (length hot) g cold in
    let room = 2 * length places in
    let sizes = ap (λ n. after ++ (onward g.first_node n room ++ out)) c.in_ok-depths.ensures.nodes in
    let pushed = c.in_ok-push_leaving.ensures ∙ ap (λ links. links ++ out) c.in_ok-push_onward.ensures
    ∙ append_assoc after (onward g.first_node c.in_ok-depths.depths.nodes room) out ∙ sizes in
    flat_map-step groups c.loop-group.group-index g (entering depth groups hot) after _ c.loop-group-test.true
    c.group-item.is (links_of_group case places hot cold) c.loop-group.invariant pushed

few_nodes : (c : After-len-3) → 2 * MOST_PARTS + c.len-3.result * c.in_ok-depths.depths.nodes < MOST_INNER_NODES
few_nodes c =
    let few_nodes = few_nodes_each (goal.at.After-len-3 c).In_ok-depths in
    few_chain_nodes c.len-3.result c.in_ok-depths.depths.nodes
    (omega (arith, c.len-3.ensures, c.in_ok-groups.ensures.few)) few_nodes

pub overflow_mul-result : goal.overflow_mul-result
overflow_mul-result c =
    let most = few_nodes (goal.at.overflow_mul-result c).After-len-3 in
    omega (arith, most)

pub overflow_add-result : goal.overflow_add-result
overflow_add-result c =
    let most = few_nodes (goal.at.overflow_add-result c).After-len-3 in
    let parts = few_parts (goal.at.overflow_add-result c).After-len-2 in
    omega (arith, most, parts)

made : (c : After-drop-grid-2)
    → AreChains c.args.case.now c.args.parts.now.hot c.args.parts.now.cold
    (record {
      groups = c.from_vec-2.result;
      net =
          record {
            nodes = (c.len.result + c.len-2.result) + c.len-3.result * c.in_ok-depths.depths.nodes;
            links = c.from_vec.result;
          };
    })
made c =
    let case = c.args.case.now in
    let places = c.as_slice-places.result.now in
    let hot = c.args.parts.now.hot in
    let cold = c.args.parts.now.cold in
    let answer = c.in_ok-groups.ensures in
    let same = sym c.from_vec-2.ensures in
    let first : c.len.result + c.len-2.result ≡ length hot + length cold = ap₂ ◌+◌ c.len.ensures c.len-2.ensures in
    let in_line = subst₂ (λ n ranks. StandInLine n ranks c.from_vec-2.result) first c.in_ok-depths.ensures.nodes
    (subst (StandInLine (c.len.result + c.len-2.result) c.in_ok-depths.depths.nodes) same answer.chains) in
    let all = take_all c.loop-group.group-index c.deref-group-items.result.now c.loop-group-test.false in
    let same_groups = c.deref-group-items.ensures.value ∙ same in
    let links =
    c.from_vec.ensures ∙ c.loop-group.invariant
    ∙ ap (λ gs.
    entering (depth_of places hot cold) c.deref-group-items.result.now hot
    ++ flat_map (links_of_group case places hot cold) gs)
    all
    ∙ ap (chain_links case places hot cold) same_groups in
    let count : c.len-3.result ≡ length c.from_vec-2.result
    = omega (arith, c.len-3.ensures, ap length c.from_vec-2.ensures) in
    let nodes : (c.len.result + c.len-2.result) + c.len-3.result * c.in_ok-depths.depths.nodes
    ≡ (length hot + length cold) + length c.from_vec-2.result * chain_length places hot cold =
    ap₂ ◌+◌ first (ap₂ ◌*◌ count c.in_ok-depths.ensures.nodes) in
    let p = (goal.at.After-drop-grid-2 c).After-as_slice-places in
    let is_grid = grid p in
    let for : AreForChains case places hot cold c.from_vec-2.result = record {
      complete = c.requires.complete;
      is_grid = is_grid;
      hot_on = (on p).0;
      cold_on = (on p).1;
      are = subst (AreGroups case) same answer.groups;
      in_line = in_line;
    } in
    AreChains-made case places hot cold _ for c.args.parts.now.few_hot c.args.parts.now.few_cold
    (omega (arith, answer.few, ap length c.from_vec-2.ensures)) links nodes

pub returns : goal.returns
returns c =
    let m = made c in
    record { groups = m.groups; first_nodes = m.first_nodes; inner = m.inner; paths = m.paths; small = m.small }
