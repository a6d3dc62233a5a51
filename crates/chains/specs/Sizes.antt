-- How large a net of chains is.
use Rattle.std.specs.Prelude.{ℕ, ◌+◌, ◌*◌, ◌<◌, ◌≤◌, ℤ, List, length}
use Rattle.stream_case.specs.declared.case.Case.{Case}
use Rattle.grid.specs.Grid.{IsGrid}
use Rattle.chains.specs.declared.net.Chains.{Chains}
use Rattle.chains.specs.declared.net.TheConstants.{MOST_INNER_LINKS, MOST_INNER_NODES}

-- for so many hot and cold parts: the case has a grid, and for each place of it a group adds two nodes and two links at
-- most, and for each cold part one link
pub record IsSmall (c : Case) (hots colds : ℕ) (chains : Chains) : Type 0 where
  pub some : (places : List ℤ) × IsGrid c places
  pub links : (places : List ℤ) → IsGrid c places
      → length chains.net.links ≤ hots + length chains.groups * (colds + 2 * length places)
  pub nodes : (places : List ℤ) → IsGrid c places
      → chains.net.nodes ≤ (hots + colds) + 2 * length chains.groups * length places
  pub few_links : length chains.net.links ≤ MOST_INNER_LINKS
  pub few_nodes : chains.net.nodes < MOST_INNER_NODES
