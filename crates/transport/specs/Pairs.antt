-- The inner net with a link for each pair of parts that reach.
use Rattle.std.specs.Prelude.{ℕ, ◌+◌, pos, List, []}
use Rattle.std.specs.List.{flat_map, range_with_len}
use Rattle.sums.specs.Pairing.{cons_if}
use Rattle.flow_net.specs.declared.limits.TheConstants.{MOST_ROOM}
use Rattle.flow_net.specs.declared.net.Link.{Link}
use Rattle.flow_net.specs.declared.net.Net.{Net}
use Rattle.heat_flow.specs.declared.reach.Reach.{Reach}
use Rattle.heat_flow.specs.Table.{reaches}

-- the link from hot part a to cold part b
abbrev pub pair_link : Reach → ℕ → ℕ → Link
pair_link r a b = record { from = a; to = r.hots + b; room = MOST_ROOM; cost = pos 0 }

-- it, if the one reaches the other
abbrev pub link_between : Reach → ℕ → ℕ → List Link
link_between r a b = cons_if (reaches r a b) (pair_link r a b) []

-- the links of a hot part to the cold parts that it reaches, in order
abbrev pub row_links : Reach → ℕ → List Link
row_links r a = flat_map (link_between r a) (range_with_len 0 r.colds)

-- a node for each part, and a link for each pair that reaches, row by row
abbrev pub pair_links : Reach → List Link
pair_links r = flat_map (row_links r) (range_with_len 0 r.hots)

abbrev pub pair_net : Reach → Net
pair_net r = record { nodes = r.hots + r.colds; links = pair_links r }
