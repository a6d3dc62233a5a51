-- A net around an inner net, in which heat passes from hot parts to cold parts. The node of hot part a is a, that of
-- cold part b is the number of hot parts plus b.
use Rattle.std.specs.Prelude.{ℕ, suc, ◌+◌, ℤ, pos, neg_ℤ, ◌+ℤ◌, ◌-ℤ◌, List, [], ◌∷◌, ◌++◌, length, map, replicate, Bool}
use Rattle.std.specs.List.{range_with_len}
use Rattle.stream_case.specs.declared.limits.TheConstants.{MOST_PRICE}
use Rattle.stream_case.specs.declared.source.Side.{Side}
use Rattle.stream_case.specs.declared.source.Side.TheVariants.{Hot, Cold}
use Rattle.stream_case.specs.Limits.{IsPartPrice}
use Rattle.sums.specs.Sum.{int_sum_by}
use Rattle.grid.specs.declared.part.Part.{Part}
use Rattle.flow_net.specs.declared.limits.TheConstants.{MOST_ROOM}
use Rattle.flow_net.specs.declared.net.Link.{Link}
use Rattle.flow_net.specs.declared.net.Net.{Net}
use Rattle.flow_net.specs.Net.{potential_at, IsRouting, AreProofOfLeast, AreBounded, IsCutBelow}
use Rattle.transport.specs.declared.net.Ends.{Ends}

-- the nodes behind those of an inner net
abbrev pub ends_behind : ℕ → Ends
ends_behind nodes = record { source = nodes; sink = nodes + 1; filler = nodes + 2; spill = nodes + 3 }

-- the link of the most of a part: from the source to a hot part, from a cold part to the sink
abbrev pub whole_link : Side → Ends → ℕ → Part → Link
whole_link Hot ends node p = record { from = ends.source; to = node; room = p.most; cost = pos 0 }
whole_link Cold ends node p = record { from = node; to = ends.sink; room = p.most; cost = pos 0 }

-- the link of what a part does not exchange: from a hot part to the spill, from the filler to a cold part
abbrev pub spare_link : Side → Ends → ℕ → Part → Link
spare_link Hot ends node p = record { from = node; to = ends.spill; room = p.most -ℤ p.least; cost = neg_ℤ p.price }
spare_link Cold ends node p = record { from = ends.filler; to = node; room = p.most -ℤ p.least; cost = neg_ℤ p.price }

-- both links of each part, whose nodes begin with this one
abbrev pub links_of_parts : Side → Ends → ℕ → List Part → List Link
links_of_parts side ends node [] = []
links_of_parts side ends node (p ∷ parts) =
    whole_link side ends node p ∷ spare_link side ends node p ∷ links_of_parts side ends (suc node) parts

-- the links between the further nodes, where so much can be given and taken at most
abbrev pub links_between : Ends → ℤ → ℤ → List Link
links_between ends given taken =
    record { from = ends.source; to = ends.filler; room = taken; cost = pos 0 }
    ∷ record { from = ends.spill; to = ends.sink; room = given; cost = pos 0 }
    ∷ record { from = ends.filler; to = ends.spill; room = MOST_ROOM; cost = pos 0 }
    ∷ []

abbrev pub most_of : List Part → ℤ
most_of parts = int_sum_by (λ p. p.most) parts

abbrev pub net_around : List Part → List Part → Net → Net
net_around hot cold inner = record {
  nodes = inner.nodes + 4;
  links =
      inner.links
      ++ (links_of_parts Hot (ends_behind inner.nodes) 0 hot
      ++ (links_of_parts Cold (ends_behind inner.nodes) (length hot) cold
      ++ links_between (ends_behind inner.nodes) (most_of hot) (most_of cold)));
}

-- the initial potentials: the greatest price at the source and the filler, its negative at the sink and the spill
abbrev pub start_of : ℕ → List ℤ
start_of nodes = replicate nodes (pos 0) ++ (MOST_PRICE ∷ neg_ℤ MOST_PRICE ∷ MOST_PRICE ∷ neg_ℤ MOST_PRICE ∷ [])

-- the most of all parts, routed with potentials that prove it to cost least
pub record RoutesMost (hot cold : List Part) (inner : Net) (flow potentials : List ℤ) : Type 0 where
  pub routing :
      IsRouting (net_around hot cold inner) (ends_behind inner.nodes).source (ends_behind inner.nodes).sink (most_of hot +ℤ most_of cold) flow
  pub proof : AreProofOfLeast (net_around hot cold inner).links flow potentials
  pub bounded : AreBounded (net_around hot cold inner) (start_of inner.nodes) potentials

-- a cut of the net that the most of all parts cannot pass
abbrev pub BlocksMost : List Part → List Part → Net → List Bool → Type 0
BlocksMost hot cold inner set =
    IsCutBelow (net_around hot cold inner) (ends_behind inner.nodes).source (ends_behind inner.nodes).sink (most_of hot +ℤ most_of cold) set

-- twice the potential of a node is within the limits of a price, and so the difference of two
abbrev pub IsNodePotential : ℤ → Type 0
IsNodePotential z = IsPartPrice (z +ℤ z)

-- how far the potential falls from so many nodes, of which this is the first, to another one
abbrev pub prices_of : List ℤ → ℕ → ℕ → ℕ → List ℤ
prices_of potentials first parts end =
    map (λ v. potential_at potentials v -ℤ potential_at potentials end) (range_with_len first parts)
