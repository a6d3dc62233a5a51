-- The links of a net of chains, as one list. The chain of a group has a node for each rank at which a part stands, in
-- order.
use Rattle.std.specs.Prelude.{◌≡◌, ℕ, ◌+◌, ◌-◌, ◌*◌, ◌/◌, nat_le, nat_lt, Bool, not, ℤ, pos, List, [], ◌∷◌, ◌++◌, length, map, if◌then◌else◌, Option, Some, option_map, option_to_list, slice_get}
use Rattle.std.specs.List.{enumerate_from, find, flat_map, list_all, list_any, range_with_len}
use Rattle.stream_case.specs.declared.source.Source.{Source}
use Rattle.stream_case.specs.declared.source.Source.TheVariants.{Stream as of_stream, Utility as of_utility}
use Rattle.stream_case.specs.declared.case.Case.{Case}
use Rattle.stream_case.specs.Case.{is_forbidden}
use Rattle.stream_case.specs.Source.{same_source}
use Rattle.sums.specs.Pairing.{cons_if}
use Rattle.grid.specs.declared.part.Part.{Part}
use Rattle.flow_net.specs.declared.limits.TheConstants.{MOST_ROOM}
use Rattle.flow_net.specs.declared.net.Link.{Link}
use Rattle.chains.specs.declared.net.Group.{Group}
use Rattle.chains.specs.declared.links.TheConstants.{STRIDES}
use Rattle.chains.specs.Depths.{chain_length, depth_of}

-- a link with room for all heat, at no cost
abbrev pub open_link : ℕ → ℕ → Link
open_link from to = record { from = from; to = to; room = MOST_ROOM; cost = pos 0 }

-- the chains stand one after the other, the first one from this node, each with so many nodes
abbrev pub StandInLine : ℕ → ℕ → List Group → Type 0
StandInLine first nodes groups = (i : ℕ) (g : Group) → slice_get groups i ≡ Some g → g.first_node ≡ first + i * nodes

-- ---- from hot parts into the chains

abbrev pub has_source : Source → Group → Bool
has_source source g = list_any (λ other. same_source other source) g.sources

-- the first node of the first group in which a source stands
abbrev pub first_node_of : List Group → Source → Option ℕ
first_node_of groups source = option_map (λ g. g.first_node) (find (has_source source) groups)

-- the source at an index among the streams of the case and then its utilities
abbrev pub source_at : Case → ℕ → Source
source_at c index = if nat_lt index (length c.streams) then of_stream index else of_utility (index - length c.streams)

-- from a hot part, which stands beside its index, into the chain of its source's group, at the depth of the part
abbrev pub entering_at : (Part → ℕ) → List Group → ℕ × Part → List Link
entering_at depth groups p =
    option_to_list (option_map (λ node. open_link p.0 (node + depth p.1)) (first_node_of groups p.1.source))

abbrev pub entering : (Part → ℕ) → List Group → List Part → List Link
entering depth groups hot = flat_map (entering_at depth groups) (enumerate_from 0 hot)

-- ---- down the chain that begins at a node, with so many nodes

-- the link from a multiple of the stride to the next one
abbrev pub stride_link : ℕ → ℕ → ℕ → Link
stride_link first stride step = open_link (first + step * stride) (first + step * stride + stride)

abbrev pub stride_links : ℕ → ℕ → ℕ → List Link
stride_links first nodes stride = map (stride_link first stride) (range_with_len 0 ((nodes - 1) / stride))

-- of these strides, each whose links fit into the room that those before it leave
unfoldable pub strides_within : ℕ → ℕ → List ℕ → List ℕ
strides_within nodes room [] = []
strides_within nodes room (stride ∷ strides) =
    if nat_le ((nodes - 1) / stride) room then stride ∷ strides_within nodes (room - (nodes - 1) / stride) strides
    else strides_within nodes room strides

-- no more links in all than the room
unfoldable pub onward : ℕ → ℕ → ℕ → List Link
onward first nodes room = flat_map (stride_links first nodes) (strides_within nodes room STRIDES)

-- ---- from the chain of a group to cold parts

-- whether a cold source is permitted to each source of the group
abbrev pub is_permitted : Case → Group → Source → Bool
is_permitted c g cold = list_all (λ hot. not (is_forbidden c.forbids hot cold)) g.sources

-- to a cold part, which stands beside its index, behind so many hot parts, at the depth of the part
abbrev pub leaving_at : Case → (Part → ℕ) → ℕ → Group → ℕ × Part → List Link
leaving_at c depth hots g p =
    cons_if (is_permitted c g p.1.source) (open_link (g.first_node + depth p.1) (hots + p.0)) []

abbrev pub leaving : Case → (Part → ℕ) → ℕ → Group → List Part → List Link
leaving c depth hots g cold = flat_map (leaving_at c depth hots g) (enumerate_from 0 cold)

-- ---- all of them

-- down a chain two for each place at most
abbrev pub links_of_group : Case → List ℤ → List Part → List Part → Group → List Link
links_of_group c places hot cold g =
    onward g.first_node (chain_length places hot cold) (2 * length places)
    ++ leaving c (depth_of places hot cold) (length hot) g cold

abbrev pub chain_links : Case → List ℤ → List Part → List Part → List Group → List Link
chain_links c places hot cold groups =
    entering (depth_of places hot cold) groups hot ++ flat_map (links_of_group c places hot cold) groups
