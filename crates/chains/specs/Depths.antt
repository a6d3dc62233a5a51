-- The depths of parts: a chain has a node for each rank at which a part stands, from the highest down.
use Rattle.std.specs.Prelude.{◌≡◌, ◌<◌, ◌==◌, ℕ, max, ℤ, List, ◌++◌, map, All, count_by}
use Rattle.std.specs.List.{list_any, range_with_len}
use Rattle.grid.specs.declared.part.Part.{Part}
use Rattle.chains.specs.declared.depths.Depths.{Depths}
use Rattle.chains.specs.Ranks.{rank_of, rank_count}

-- how many of the first n ranks stand in a list
unfoldable pub used_among : List ℕ → ℕ → ℕ
used_among ranks n = count_by (λ rank. list_any (λ r. r == rank) ranks) (range_with_len 0 n)

-- the ranks at which parts stand
abbrev pub ranks_used : List ℤ → List Part → List Part → List ℕ
ranks_used places hot cold = map (rank_of places) (hot ++ cold)

-- at how many ranks above its own parts stand
abbrev pub depth_of : List ℤ → List Part → List Part → Part → ℕ
depth_of places hot cold p = used_among (ranks_used places hot cold) (rank_of places p)

-- a node for each rank at which a part stands, and one at least
abbrev pub chain_length : List ℤ → List Part → List Part → ℕ
chain_length places hot cold = max (used_among (ranks_used places hot cold) (rank_count places)) 1

-- the depths of hot and of cold parts, and how many nodes a chain has
pub record AreDepths (places : List ℤ) (hot cold : List Part) (d : Depths) : Type 0 where
  pub hot_depths : d.hot.items ≡ map (depth_of places hot cold) hot
  pub cold_depths : d.cold.items ≡ map (depth_of places hot cold) cold
  pub nodes : d.nodes ≡ chain_length places hot cold
  pub hot_within : All (λ depth. depth < d.nodes) d.hot.items
  pub cold_within : All (λ depth. depth < d.nodes) d.cold.items
