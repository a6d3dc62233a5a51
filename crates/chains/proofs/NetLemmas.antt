-- The net of chains is small, and is what `chains_of` answers.
use Rattle.chains.proofs.Words.{ALL_UTILITIES, AreGroups, AreOnGrid, Case, Chains, Cold, Contains-get_or, Group, Hot, IsComplete, IsGrid, IsInner}
use Rattle.chains.proofs.Words.{IsOnPlaces, IsSmall, ListsFalling-unique, MOST_INNER_NODES, MOST_PARTS, MOST_PLACES, MOST_STREAMS, Part}
use Rattle.chains.proofs.Words.{PathsAreReaches, StandInLine, StartsChain, chain_links, length-grid, mul-le, places_of, reach_between}
use Rattle.chains.proofs.Words.{slice_get_within, chain_length}
use Rattle.std.proofs.Common.{All, Contains, List, ap, arith, get_or, length, subst, sym, ℕ, ℤ, ◌*◌, ◌+◌, ◌≡◌, ◌≤◌}
use Rattle.chains.proofs.DepthLemmas.{chain_length-le}
use Rattle.chains.proofs.GroupLemmas.{few_chain_nodes}
use Rattle.chains.proofs.RankLemmas.{places_some}
use Rattle.chains.proofs.ChainLinks.{few_chain_links}
use Rattle.chains.proofs.ChainPaths.{group_index, AreForChains, paths_are_reaches, starts_chain, IsInner-chains}

-- where the chains stand in line, all their first nodes are within the limit
pub first_nodes_few : (first nodes : ℕ) (groups : List Group) → StandInLine first nodes groups
    → length groups ≤ MOST_STREAMS + ALL_UTILITIES
    → first ≤ 2 * MOST_PARTS → nodes ≤ 2 * MOST_PLACES → All (λ g. g.first_node ≤ MOST_INNER_NODES) groups
first_nodes_few first nodes groups in_line few few_parts few_nodes k d within =
    let (i, at) = group_index groups (get_or groups k d) (Contains-get_or groups k d within) in
    let is = in_line i (get_or groups k d) at in
    let fewer = mul-le i nodes (length groups) nodes (omega (arith, slice_get_within groups i (get_or groups k d) at))
    (omega arith) in
    let most = few_chain_nodes (length groups) nodes few few_nodes in
    omega (arith, is, fewer, most, few_parts)

-- ---- sizes

module _ (c : Case) (places : List ℤ) (hot cold : List Part) (complete : IsComplete c)
    (is_grid : IsGrid c places) (few_hot : length hot ≤ MOST_PARTS) (few_cold : length cold ≤ MOST_PARTS) where
  pub IsSmall-chains : (chains : Chains) → length chains.groups ≤ MOST_STREAMS + ALL_UTILITIES
      → length chains.net.links ≤ length hot + length chains.groups * (length cold + 2 * length places)
      → chains.net.nodes ≡ (length hot + length cold) + length chains.groups * chain_length places hot cold
      → IsSmall c (length hot) (length cold) chains
  IsSmall-chains chains few links nodes =
      let few_places = length-grid c places complete is_grid in
      let same = λ (other : List ℤ) (grid : IsGrid c other). ListsFalling-unique
      (Contains (places_of c.streams c.utilities)) places other is_grid grid in
      let few_in_chain = chain_length-le places hot cold (places_some c places complete is_grid) in
      let most_nodes = mul-le (length chains.groups) (chain_length places hot cold) (length chains.groups)
      (2 * length places) (omega arith) (omega (arith, few_in_chain)) in
      let all_nodes = few_chain_nodes (length chains.groups) (chain_length places hot cold) few
      (omega (arith, few_places, few_in_chain)) in
      let most_links = mul-le (length chains.groups) (length cold + 2 * length places) (MOST_STREAMS + ALL_UTILITIES)
      (MOST_PARTS + 2 * MOST_PLACES) few (omega (arith, few_cold, few_places)) in
      record {
        some = (places, is_grid);
        links =
            λ other grid.
            subst (λ ps. length chains.net.links ≤ length hot + length chains.groups * (length cold + 2 * length ps))
            (same other grid) links;
        nodes =
            λ other grid.
            subst (λ ps. chains.net.nodes ≤ (length hot + length cold) + 2 * length chains.groups * length ps)
            (same other grid) (omega (arith, nodes, most_nodes));
        few_links = omega (arith, links, most_links, few_hot);
        few_nodes = omega (arith, nodes, all_nodes, few_hot, few_cold);
      }

-- ---- the whole

-- what `chains_of` answers
pub record AreChains (c : Case) (hot cold : List Part) (chains : Chains) : Type 0 where
  pub groups : AreGroups c chains.groups
  pub first_nodes : All (StartsChain c hot cold chains.net) chains.groups
  pub inner : IsInner (length hot) (length cold) chains.net
  pub paths : PathsAreReaches (length hot) (length cold) chains.net.links (reach_between c hot cold)
  pub small : IsSmall c (length hot) (length cold) chains

-- the parts stand on the one grid of the case
pub on_places : (c : Case) (places : List ℤ) (hot cold : List Part) → IsGrid c places → AreOnGrid c hot cold
    → All (IsOnPlaces c places Hot) hot × All (IsOnPlaces c places Cold) cold
on_places c places hot cold is_grid on =
    let same = ListsFalling-unique (Contains (places_of c.streams c.utilities)) on.grid places on.is_grid is_grid in (
      subst (λ ps. All (IsOnPlaces c ps Hot) hot) same on.hot_parts,
      subst (λ ps. All (IsOnPlaces c ps Cold) cold) same on.cold_parts,
    )

module _ (c : Case) (places : List ℤ) (hot cold : List Part) (chains : Chains)
    (for : AreForChains c places hot cold chains.groups) where
  pub AreChains-made : length hot ≤ MOST_PARTS → length cold ≤ MOST_PARTS
      → length chains.groups ≤ MOST_STREAMS + ALL_UTILITIES
      → chains.net.links ≡ chain_links c places hot cold chains.groups
      → chains.net.nodes ≡ (length hot + length cold) + length chains.groups * chain_length places hot cold
      → AreChains c hot cold chains
  AreChains-made few_hot few_cold few links nodes =
      let few_links = few_chain_links c places hot cold chains.groups in
      record {
        groups = for.are;
        first_nodes = λ k d within. starts_chain c places hot cold chains.groups for chains.net links nodes
            _ (Contains-get_or chains.groups k d within);
        inner = IsInner-chains c places hot cold chains.groups for chains.net links nodes;
        paths = subst (λ ls. PathsAreReaches (length hot) (length cold) ls (reach_between c hot cold)) (sym links)
            (paths_are_reaches c places hot cold chains.groups for);
        small =
            IsSmall-chains c places hot cold for.complete for.is_grid few_hot few_cold chains few
            (omega (arith, few_links, ap length links)) nodes;
      }
