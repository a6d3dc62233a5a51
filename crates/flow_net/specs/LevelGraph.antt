-- Level graphs: nodes by how many free arcs lead to them from the source, and the sink above them.
use Rattle.std.specs.Prelude.{◌≡◌, ℕ, ◌<◌, ◌≤◌, length, slice_index_or, List, Option, Some, None, All}
use Rattle.flow_net.specs.declared.level_graph.LevelGraph.{LevelGraph}
use Rattle.flow_net.specs.declared.problem.Problem.{Problem}

-- the level of a node, where it has one, and as a number: 0 where it has none
abbrev pub level_at : List (Option ℕ) → ℕ → Option ℕ
level_at levels v = slice_index_or levels v None

abbrev pub height_of : Option ℕ → ℕ
height_of (Some n) = n
height_of None = 0

abbrev pub height_at : List (Option ℕ) → ℕ → ℕ
height_at levels v = height_of (level_at levels v)

-- node v stands on a higher level than node u
pub record StepsUp (levels : List (Option ℕ)) (u v : ℕ) : Type 0 where
  pub low : ℕ
  pub high : ℕ
  pub tail : level_at levels u ≡ Some low
  pub head : level_at levels v ≡ Some high
  pub up : low < high

-- each node may have a level, up to the number of nodes, and has a cursor, and nodes were entered
pub record IsLevelGraph (p : Problem) (g : LevelGraph) : Type 0 where
  pub one_level_each : length g.levels.items ≡ p.net.now.nodes
  pub one_cursor_each : length g.cursors.items ≡ p.net.now.nodes
  pub entered : All (λ v. v < p.net.now.nodes) g.entered.items
  pub upto : (v : ℕ) → height_at g.levels.items v ≤ p.net.now.nodes
