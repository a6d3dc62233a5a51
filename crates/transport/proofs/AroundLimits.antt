-- A net around an inner net is within the limits of nets, and so are what is routed and the initial potentials.
use Rattle.transport.proofs.Words.{All, All-slice_get, All-weaker, AreBounded, AreEnds, AreInitialPotentials, Cold, Hot, IsBetween, IsBounded}
use Rattle.transport.proofs.Words.{IsInner, IsInnerLink, IsLinkWithin, IsNodePotential, IsPrice, IsRoom, IsRouting, IsWithinLimits, Link, MOST_HEAT}
use Rattle.transport.proofs.Words.{MOST_PARTS, MOST_PRICE, MOST_ROOM, Net, Part, Parts, Side, Some, cases_lt, get_or-append-add, get_or-replicate}
use Rattle.transport.proofs.Words.{get_or_append_left, get_or_default, greatest-le, int_sum_by-at_most, int_sum_by-not_negative, ints, largest_cost}
use Rattle.transport.proofs.Words.{length-replicate, links_between, most_of, mul-le, neg_ℤ, net_around, parts_of, pos, potential_at, reduced_cost}
use Rattle.transport.proofs.Words.{sizes, slice_get, slice_get_within, spare_link, start_of, unsigned_abs, whole_link, ℤ, ◌*ℤ◌, ◌+ℤ◌, ◌-ℤ◌, ◌<ℤ◌}
use Rattle.transport.proofs.Words.{◌≤ℤ◌}
use Rattle.std.proofs.Common.{List, [], ap, arith, get_or, length, length-append, replicate, subst, suc, sym, zero, ℕ, ⊎_elim, ◌*◌, ◌+◌, ◌-◌, ◌<◌}
use Rattle.std.proofs.Common.{◌∙◌, ◌∷◌, ◌≡◌, ◌≤◌}
use Rattle.chains.specs.declared.net.TheConstants.{MOST_INNER_LINKS, MOST_INNER_NODES}
use Rattle.transport.proofs.NetAround.{ends, first_node, no_link, length-net_around, All-between, All-net_around}

-- parts within the limits, and an inner net for them
pub record IsAround (hot cold : List Part) (inner : Net) : Type 0 where
  pub inner_net : IsInner (length hot) (length cold) inner
  pub few_nodes : inner.nodes ≤ MOST_INNER_NODES
  pub few_links : length inner.links ≤ MOST_INNER_LINKS
  pub few_hot : length hot ≤ MOST_PARTS
  pub few_cold : length cold ≤ MOST_PARTS
  pub hot_bounded : All IsBounded hot
  pub cold_bounded : All IsBounded cold

pub IsAround-parts : (parts : Parts) (inner : Net) → IsInner (length parts.hot) (length parts.cold) inner
    → inner.nodes ≤ MOST_INNER_NODES
    → length inner.links ≤ MOST_INNER_LINKS → IsAround parts.hot parts.cold inner
IsAround-parts parts inner inner_net few_nodes few_links = record {
  inner_net = inner_net;
  few_nodes = few_nodes;
  few_links = few_links;
  few_hot = parts.few_hot;
  few_cold = parts.few_cold;
  hot_bounded = parts.hot_bounded;
  cold_bounded = parts.cold_bounded;
}

pub most_within : (parts : List Part) → length parts ≤ MOST_PARTS → All IsBounded parts
    → IsBetween (pos 0) (pos MOST_PARTS *ℤ MOST_HEAT) (most_of parts)
most_within parts few bounded =
    let upto = int_sum_by-at_most (λ (p : Part). p.most) (unsigned_abs MOST_HEAT) parts
    (λ k d within. (bounded k d within).most.upto) in
    let from = int_sum_by-not_negative (λ (p : Part). p.most) parts (λ k d within.
    let b = bounded k d within in
    omega (arith, ints, b.least.from, b.most.from)) in
    record { from = from; upto = omega (arith, ints) }

-- the most of all parts, routed through the net around their inner net
pub record IsFullRouting (hot cold : List Part) (inner : Net) (flow : List ℤ) : Type 0 where
  pub around : IsAround hot cold inner
  pub routing : IsRouting (net_around hot cold inner) (ends inner).source (ends inner).sink
      (most_of hot +ℤ most_of cold) flow

-- a link between two of n nodes, within the limits of nets and with the cost of a price
record IsNear (n : ℕ) (l : Link) : Type 0 where
  limits : IsLinkWithin n l
  price : IsBetween (neg_ℤ MOST_PRICE) MOST_PRICE l.cost

-- no cost, and the rooms and costs of the links of a part, are within the limits
no_cost : IsPrice (pos 0)
no_cost = record { from = omega (arith, ints); upto = omega (arith, ints) }

whole_room : (p : Part) → IsBounded p → IsRoom p.most
whole_room p b =
    record { from = omega (arith, ints, b.least.from, b.most.from); upto = omega (arith, ints, b.most.upto) }

spare_room : (p : Part) → IsBounded p → IsRoom (p.most -ℤ p.least)
spare_room p b =
    record { from = omega (arith, ints, b.most.from); upto = omega (arith, ints, b.least.from, b.most.upto) }

spare_cost : (p : Part) → IsBounded p → IsPrice (neg_ℤ p.price)
spare_cost p b =
    let from = b.price.from in
    let upto = b.price.upto in
    record { from = omega (arith, ints); upto = omega (arith, ints) }

module _ (hot cold : List Part) (inner : Net) (g : IsAround hot cold inner) where
  bounded_at : (side : Side) (i : ℕ) (p : Part) → slice_get (parts_of side hot cold) i ≡ Some p → IsBounded p
  bounded_at Hot i p at = All-slice_get IsBounded hot i p g.hot_bounded at
  bounded_at Cold i p at = All-slice_get IsBounded cold i p g.cold_bounded at

  node_within : (side : Side) (i : ℕ) (p : Part) → slice_get (parts_of side hot cold) i ≡ Some p
      → (first_node hot cold inner side + i) < inner.nodes
  node_within Hot i p at = omega (arith, g.inner_net.nodes, slice_get_within hot i p at)
  node_within Cold i p at = omega (arith, g.inner_net.nodes, slice_get_within cold i p at)

  near : (l : Link) → l.from < inner.nodes + 4 → l.to < inner.nodes + 4 → IsRoom l.room → IsPrice l.cost
      → IsNear (inner.nodes + 4) l
  near l from to room price =
      record {
        limits =
            record { from_in = from; to_in = to; room = room; cost = omega (arith, sizes, price.from, price.upto) };
        price = price;
      }

  near_inner : (l : Link) → IsInnerLink (length hot) (length cold) inner.nodes l → IsNear (inner.nodes + 4) l
  near_inner l h =
      let room = h.room in
      let cost = h.cost in
      near l (omega (arith, h.from_in)) (omega (arith, h.to_in)) (record {
        from = omega (arith, ints, room);
        upto = omega (arith, ints, room);
      }) (record { from = omega (arith, ints, cost); upto = omega (arith, ints, cost) })

  near_whole : (side : Side) (node : ℕ) (p : Part) → node < inner.nodes → IsBounded p
      → IsNear (inner.nodes + 4) (whole_link side (ends inner) node p)
  near_whole Hot node p within b =
      near (whole_link Hot (ends inner) node p) (omega arith) (omega (arith, within)) (whole_room p b) no_cost
  near_whole Cold node p within b =
      near (whole_link Cold (ends inner) node p) (omega (arith, within)) (omega arith) (whole_room p b) no_cost

  near_spare : (side : Side) (node : ℕ) (p : Part) → node < inner.nodes → IsBounded p
      → IsNear (inner.nodes + 4) (spare_link side (ends inner) node p)
  near_spare Hot node p within b =
      near (spare_link Hot (ends inner) node p) (omega (arith, within)) (omega arith) (spare_room p b) (spare_cost p b)
  near_spare Cold node p within b =
      near (spare_link Cold (ends inner) node p) (omega arith) (omega (arith, within)) (spare_room p b) (spare_cost p b)

  near_between : All (IsNear (inner.nodes + 4)) (links_between (ends inner) (most_of hot) (most_of cold))
  near_between =
      let given = most_within hot g.few_hot g.hot_bounded in
      let taken = most_within cold g.few_cold g.cold_bounded in
      All-between hot cold inner (IsNear (inner.nodes + 4)) (near _ (omega arith) (omega arith) (record {
        from = omega (arith, ints, taken.from);
        upto = omega (arith, ints, taken.upto);
      }) no_cost) (near _ (omega arith) (omega arith) (record {
        from = omega (arith, ints, given.from);
        upto = omega (arith, ints, given.upto);
      }) no_cost) (near _ (omega arith) (omega arith) (record {
        from = omega (arith, ints);
        upto = omega (arith, ints);
      }) no_cost)

  near_all : All (IsNear (inner.nodes + 4)) (net_around hot cold inner).links
  near_all =
      let near_inside = All-weaker (IsInnerLink (length hot) (length cold) inner.nodes) (IsNear (inner.nodes + 4))
      near_inner inner.links g.inner_net.links in
      All-net_around hot cold inner (IsNear (inner.nodes + 4)) near_inside (λ side i p at.
      let node = first_node hot cold inner side + i in
      let bounded = bounded_at side i p at in (
        near_whole side node p (node_within side i p at) bounded,
        near_spare side node p (node_within side i p at) bounded,
      ))
      near_between

  pub limits_around : IsWithinLimits (net_around hot cold inner)
  limits_around =
      let links = g.few_links in record {
        few_nodes = omega (arith, g.few_nodes);
        few_links = omega (arith, links, g.few_hot, g.few_cold, length-net_around hot cold inner);
        links = λ k within. (near_all k no_link within).limits;
      }

  pub ends_around : AreEnds (net_around hot cold inner) (ends inner).source (ends inner).sink
  ends_around = record { source_in = omega arith; sink_in = omega arith; apart = λ e. omega (arith, e) }

  pub room_around : IsRoom (most_of hot +ℤ most_of cold)
  room_around =
      let given = most_within hot g.few_hot g.hot_bounded in
      let taken = most_within cold g.few_cold g.cold_bounded in
      record { from = omega (arith, ints, given.from, taken.from); upto = omega (arith, ints, given.upto, taken.upto) }

  pub small_cold : most_of cold <ℤ MOST_ROOM
  small_cold = omega (arith, ints, (most_within cold g.few_cold g.cold_bounded).upto)

  -- ---- the initial potentials

  abbrev further : List ℤ
  further = MOST_PRICE ∷ neg_ℤ MOST_PRICE ∷ MOST_PRICE ∷ neg_ℤ MOST_PRICE ∷ []

  start_inner : (v : ℕ) → v < inner.nodes → potential_at (start_of inner.nodes) v ≡ pos 0
  start_inner v within =
      get_or_append_left (replicate inner.nodes (pos 0)) further (pos 0) v
      (omega (arith, within, length-replicate {A = ℤ} inner.nodes (pos 0)))
      ∙ get_or-replicate inner.nodes v (pos 0) (pos 0) within

  start_further : (j : ℕ) → potential_at (start_of inner.nodes) (inner.nodes + j) ≡ get_or further j (pos 0)
  start_further j =
      ap (λ n. potential_at (start_of inner.nodes) n)
      {x = inner.nodes + j} {y = length (replicate inner.nodes (pos 0)) + j}
      (omega (arith, length-replicate {A = ℤ} inner.nodes (pos 0)))
      ∙ get_or-append-add (replicate inner.nodes (pos 0)) further j (pos 0)

  at_source : potential_at (start_of inner.nodes) inner.nodes ≡ MOST_PRICE
  at_source =
      ap (potential_at (start_of inner.nodes)) {x = inner.nodes} {y = inner.nodes + 0} (omega arith) ∙ start_further 0

  -- the initial potential of each node is a price
  start_within : (v : ℕ) → v < inner.nodes + 4
      → IsBetween (neg_ℤ MOST_PRICE) MOST_PRICE (potential_at (start_of inner.nodes) v)
  start_within v within =
      ⊎_elim (λ early. subst (IsBetween (neg_ℤ MOST_PRICE) MOST_PRICE) (sym (start_inner v early))
      (record { from = omega (arith, ints); upto = omega (arith, ints) }))
      (λ late. let is : inner.nodes + (v - inner.nodes) ≡ v = omega (arith, late) in
      let near_end = four (v - inner.nodes) (omega (arith, within, late)) in
      subst (λ u. IsBetween (neg_ℤ MOST_PRICE) MOST_PRICE (potential_at (start_of inner.nodes) u)) is
      (subst (IsBetween (neg_ℤ MOST_PRICE) MOST_PRICE) (sym (start_further (v - inner.nodes))) near_end))
      (cases_lt v inner.nodes)
    where
      four : (j : ℕ) → j < 4 → IsBetween (neg_ℤ MOST_PRICE) MOST_PRICE (get_or further j (pos 0))
      four zero h = record { from = omega (arith, ints); upto = omega (arith, ints) }
      four (suc zero) h = record { from = omega (arith, ints); upto = omega (arith, ints) }
      four (suc (suc zero)) h = record { from = omega (arith, ints); upto = omega (arith, ints) }
      four (suc (suc (suc zero))) h = record { from = omega (arith, ints); upto = omega (arith, ints) }
      four (suc (suc (suc (suc j)))) h = absurd (omega (arith, h))

  -- no link has a reduced cost below 0
  abbrev Fits : Link → Type 0
  Fits l = pos 0 ≤ℤ reduced_cost l (start_of inner.nodes)

  fits_whole : (side : Side) (node : ℕ) (p : Part) → node < inner.nodes → Fits (whole_link side (ends inner) node p)
  fits_whole Hot node p within = rw (at_source, start_inner node within) (omega (arith, ints))
  fits_whole Cold node p within = rw (start_further 1, start_inner node within) (omega (arith, ints))

  fits_spare : (side : Side) (node : ℕ) (p : Part) → node < inner.nodes → IsBounded p
      → Fits (spare_link side (ends inner) node p)
  fits_spare Hot node p within b = rw (start_further 3, start_inner node within) (omega (arith, ints, b.price.upto))
  fits_spare Cold node p within b = rw (start_further 2, start_inner node within) (omega (arith, ints, b.price.upto))

  fits_between : All Fits (links_between (ends inner) (most_of hot) (most_of cold))
  fits_between =
      All-between hot cold inner Fits (rw (at_source, start_further 2) (omega (arith, ints)))
      (rw (start_further 3, start_further 1) (omega (arith, ints)))
      (rw (start_further 2, start_further 3) (omega (arith, ints)))

  fits_inner : (l : Link) → IsInnerLink (length hot) (length cold) inner.nodes l → Fits l
  fits_inner l h = rw (start_inner l.from h.from_in, start_inner l.to h.to_in) (omega (arith, ints, h.cost))

  pub start_around : AreInitialPotentials (net_around hot cold inner) (start_of inner.nodes)
  start_around = record {
    one_each =
        length-append (replicate inner.nodes (pos 0)) further
        ∙ ap (λ n. n + 4) (length-replicate {A = ℤ} inner.nodes (pos 0));
    within = λ v within. let bound = start_within v within in
        omega (arith, sizes, bound.from, bound.upto);
    fits =
        let fit_inside =
        All-weaker (IsInnerLink (length hot) (length cold) inner.nodes) Fits fits_inner inner.links g.inner_net.links in
        λ k within some.
        All-net_around hot cold inner Fits fit_inside (λ side i p at.
        let node = first_node hot cold inner side + i in (
          fits_whole side node p (node_within side i p at),
          fits_spare side node p (node_within side i p at) (bounded_at side i p at),
        ))
        fits_between k no_link within;
  }

  -- ---- the size of the potentials

  pub potentials_within : (potentials : List ℤ)
      → AreBounded (net_around hot cold inner) (start_of inner.nodes) potentials → All IsNodePotential potentials
  potentials_within potentials bounded k d within =
      let most_price = unsigned_abs MOST_PRICE in
      let most_nodes = MOST_INNER_NODES + 4 in
      let net = net_around hot cold inner in
      let bound = bounded.bounded k (omega (arith, bounded.one_each, within)) in
      let starts = greatest-le (λ (s : ℤ). s) (start_of inner.nodes) most_price (pos 0) (λ j early.
      let h = start_within j (omega (arith, start_around.one_each, early)) in
      omega (arith, sizes, h.from, h.upto)) in
      let costs = greatest-le (λ (l : Link). l.cost) net.links most_price no_link
      (λ j early. let h = (near_all j no_link early).price in omega (arith, sizes, h.from, h.upto)) in
      let times : net.nodes * largest_cost net ≤ most_nodes * most_price =
      mul-le net.nodes (largest_cost net) most_nodes most_price (omega (arith, g.few_nodes)) costs in
      let same = get_or_default potentials k d (pos 0) within in
      let small : unsigned_abs (get_or potentials k d) ≤ 3 * most_price + most_nodes * most_price
      = rw same (omega (arith, bound, starts, times)) in
      record { from = omega (arith, sizes, small); upto = omega (arith, sizes, small) }
