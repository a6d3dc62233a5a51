-- The net of chains of the parts of a case.
use Rattle.std.specs.Prelude.{◌≤◌, List, length}
use Rattle.stream_case.specs.declared.case.Case.{Case}
use Rattle.grid.specs.declared.part.Part.{Part}
use Rattle.heat_flow.specs.Reach.{reach_between}
use Rattle.chains.specs.declared.net.TheConstants.{MOST_INNER_LINKS, MOST_INNER_NODES}
use Rattle.chains.specs.Inner.{IsInner}
use Rattle.chains.specs.Path.{PathsAreReaches}
use Rattle.transport.specs.declared.case_net.CaseNet.{CaseNet}

-- an inner net for so many hot and cold parts, within the limits, whose paths are the pairs of these parts of the
-- case that reach;
-- the ranges and the prices of the parts do not matter
pub record IsCaseNet (c : Case) (hot cold : List Part) (net : CaseNet) : Type 0 where
  pub inner : IsInner (length hot) (length cold) net.chains.net
  pub few_nodes : net.chains.net.nodes ≤ MOST_INNER_NODES
  pub few_links : length net.chains.net.links ≤ MOST_INNER_LINKS
  pub paths : PathsAreReaches (length hot) (length cold) net.chains.net.links (reach_between c hot cold)
