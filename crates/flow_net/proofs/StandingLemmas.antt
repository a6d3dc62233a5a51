-- What stands while a part of the amount is routed, before the first step and after each.
use Rattle.flow_net.proofs.Words.{All-weaker, Arc, AreResiduals, CanCarry, IsArc, IsBottleneck, IsFreeArc, IsFreePath, IsPotential, IsPriced}
use Rattle.flow_net.proofs.Words.{IsPricedBetween, IsProblem, IsResidualArc, IsStanding, IsWithinLimits, Link, MOST_COST, MOST_INITIAL_POTENTIAL}
use Rattle.flow_net.proofs.Words.{MOST_NODES, Net, Problem, Residual, Routing, Stands, cases_lt, flow_on, get_or-replicate, get_or_past, inflow, ints}
use Rattle.flow_net.proofs.Words.{largest_cost, length-replicate, link_at, mul-le, outflow, potential_at, reduced_cost_of, sent_along_path}
use Rattle.std.proofs.Common.{Bool, List, arith, false, inl, inr, length, pos, refl, replicate, subst, sym, true, ℕ, ℤ, ◌*◌, ◌+ℤ◌, ◌<◌, ◌==◌, ◌∙◌}
use Rattle.std.proofs.Common.{◌≡◌, ◌≤ℤ◌, ◌≤◌}
use Rattle.flow_net.proofs.Duality.{routing_from_surplus, surplus_is, when}
use Rattle.flow_net.proofs.Sizes.{greatest-le, size-le-greatest}
use Rattle.flow_net.proofs.Sums.{sum_below-zero}
use Rattle.flow_net.proofs.ArcLemmas.{arc-nodes, arc-cost, reduced-not_negative}
use Rattle.flow_net.proofs.SentFlow.{path-rooms, path-proof, path-surplus}

-- the largest cost of a net within the limits
pub largest_cost-small : (net : Net) → IsWithinLimits net → largest_cost net ≤ MOST_COST
largest_cost-small net limits =
    greatest-le (λ (l : Link). l.cost) net.links MOST_COST (record { from = 0; to = 0; room = pos 0; cost = pos 0 })
    (λ k l. (limits.links k l).cost)

-- the same lists and the same amount stand alike
pub Stands-same : (p : Problem) (flow flow' potentials potentials' : List ℤ) (routed routed' : ℤ)
    (residuals : List Residual)
    → flow' ≡ flow
    → potentials' ≡ potentials → routed' ≡ routed → Stands p flow potentials routed residuals
    → Stands p flow' potentials' routed' residuals
Stands-same p flow flow' potentials potentials' routed routed' residuals e f g h =
    subst (λ x. Stands p x potentials' routed' residuals) (sym e)
    (subst (λ x. Stands p flow x routed' residuals) (sym f)
    (subst (λ x. Stands p flow potentials x residuals) (sym g) h))

module _ (p : Problem) (r : Routing) (standing : IsStanding p r) where
  pub IsPotential-standing : (v : ℕ) → v < p.net.now.nodes → IsPotential (potential_at r.potentials.items v)
  IsPotential-standing v within =
      let net = p.net.now in
      let bound = standing.bounded.bounded v within in
      let largest = greatest-le (λ (s : ℤ). s) p.start.now MOST_INITIAL_POTENTIAL (pos 0) (λ k b.
      standing.problem.start.within k (omega arith)) in
      let small = largest_cost-small net standing.problem.net in
      let times : net.nodes * largest_cost net ≤ MOST_NODES * MOST_COST =
      mul-le net.nodes (largest_cost net) MOST_NODES MOST_COST standing.problem.net.few_nodes small in
      omega (arith, bound, largest, times)

  pub IsPriced-arc : (a : Arc) → IsArc p.net.now.links a → IsPriced r.potentials.items a
  IsPriced-arc a is =
      let nodes = arc-nodes p.net.now standing.problem.net a is in record {
        tail_in = omega arith;
        head_in = omega arith;
        cost = (arc-cost p.net.now standing.problem.net a is).1;
        at_tail = IsPotential-standing a.tail nodes.0;
        at_head = IsPotential-standing a.head nodes.1;
      }

  -- the same where its ends and its cost are read elsewhere
  pub IsPriced-between : (a : Arc) → IsArc p.net.now.links a → (tail head : ℕ) (cost : ℤ) → a.tail ≡ tail
      → head ≡ a.head → cost ≡ a.cost
      → IsPricedBetween r.potentials.items tail head cost
  IsPriced-between a is tail head cost from to at = rw (sym from, to, at) (IsPriced-arc a is)

  pub reduced-residual : (a : Arc) → IsResidualArc p r a → pos 0 ≤ℤ reduced_cost_of r.potentials.items a
  reduced-residual a is =
      reduced-not_negative p.net.now.links r.flow.items r.potentials.items standing.proof a is.arc is.residual

  -- what a path can carry is sent along it
  module _ (path : List Arc) (free : IsFreePath p r path) (m : ℤ) (most : IsBottleneck p r path m) where
    pub path_carries : CanCarry p.net.now.links r.flow.items path m
    path_carries = record {
      arcs = All-weaker (IsFreeArc p r) (IsArc p.net.now.links) (λ a h. h.residual.arc) path free.arcs;
      apart = free.apart;
      residual = most.residual;
    }

    pub Stands-augmented : (residuals : List Residual)
        → AreResiduals p.net.now.links (sent_along_path r.flow.items path m) p.adjacency.arcs.items residuals
        → Stands p (sent_along_path r.flow.items path m) r.potentials.items (r.routed +ℤ m) residuals
    Stands-augmented residuals are =
        let net = p.net.now in
        let from : pos 0 ≤ℤ m = omega (arith, ints) in
        let rooms = standing.routes.rooms in
        record {
          problem = standing.problem;
          routed_from = omega (arith, ints);
          routed_upto = omega (arith, ints);
          opened = are;
          routes =
              let sent = sent_along_path r.flow.items path m in
              let rooms_kept = path-rooms net.links r.flow.items path m from rooms path_carries in
              routing_from_surplus net standing.problem.net p.source p.sink standing.problem.ends (r.routed +ℤ m) sent
              rooms_kept (λ v within.
              let before = surplus_is net standing.problem.net p.source p.sink standing.problem.ends r.routed
              r.flow.items standing.routes v within in
              let change =
              path-surplus net.links r.flow.items path m p.source p.sink v from rooms path_carries free.walk in
              let split_source = when-sum (p.source == v) r.routed in
              let split_sink = when-sum (p.sink == v) r.routed in
              omega (arith, ints, before, change, split_source, split_sink));
          proof =
              let free_arcs = All-weaker (IsFreeArc p r) (λ a. reduced_cost_of r.potentials.items a ≡ pos 0)
              (λ a h. h.free) path free.arcs in
              path-proof net.links r.flow.items r.potentials.items path m from rooms path_carries free_arcs
              standing.proof;
          bounded = standing.bounded;
          at_source = standing.at_source;
          risen = standing.risen;
          sink_most = standing.sink_most;
        }
      where
        when-sum : (b : Bool) (x : ℤ) → when b (x +ℤ m) ≡ when b x +ℤ when b m
        when-sum true x = refl
        when-sum false x = refl

-- nothing is routed yet
pub Stands-none : (p : Problem) (residuals : List Residual) → IsProblem p
    → AreResiduals p.net.now.links (replicate (length p.net.now.links) (pos 0)) p.adjacency.arcs.items residuals
    → Stands p (replicate (length p.net.now.links) (pos 0)) p.start.now (pos 0) residuals
Stands-none p residuals h are = record {
  problem = h;
  routed_from = omega (arith, ints);
  routed_upto = h.amount.from;
  opened = are;
  routes = record {
    rooms = record {
      one_each = length-replicate {A = ℤ} (length p.net.now.links) (pos 0);
      not_negative = λ k b. rw (nothing k) (omega (arith, ints));
      upto_room = λ k b. rw (nothing k) (h.net.links k b).room.from;
    };
    balances = λ v _ _ _. no_inflow v ∙ sym (no_outflow v);
    source_gives = (let a = no_inflow p.source in let b = no_outflow p.source in omega (arith, ints, a, b));
    sink_takes = (let a = no_inflow p.sink in let b = no_outflow p.sink in omega (arith, ints, a, b));
  };
  proof = record {
    left_to_add = λ k b left. h.start.fits k b (let none = nothing k in omega (arith, ints, none, left));
    flowing = λ k b some. absurd (let none = nothing k in omega (arith, ints, none, some));
  };
  bounded = record {
    one_each = h.start.one_each;
    bounded = λ v within. let size = size-le-greatest (λ (x : ℤ). x) p.start.now v (pos 0) (omega (arith, within)) in
        omega (arith, size);
  };
  at_source = refl;
  risen = λ v within. omega (arith, ints);
  sink_most = λ v within. omega (arith, ints);
}
  where
    nothing : (k : ℕ) → flow_on (replicate (length p.net.now.links) (pos 0)) k ≡ pos 0
    nothing k = elim (cases_lt k (length p.net.now.links)) [
      | inl lt ↦ get_or-replicate (length p.net.now.links) k (pos 0) (pos 0) lt
      | inr le ↦ get_or_past (replicate (length p.net.now.links) (pos 0)) k (pos 0)
          (let e = length-replicate {A = ℤ} (length p.net.now.links) (pos 0) in omega (arith, e, le))
    ]

    none_when : (b : Bool) (x : ℤ) → x ≡ pos 0 → when b x ≡ pos 0
    none_when true x e = e
    none_when false x e = refl

    no_outflow : (v : ℕ) → outflow p.net.now.links (replicate (length p.net.now.links) (pos 0)) v ≡ pos 0
    no_outflow v =
        sum_below-zero (length p.net.now.links) _ (λ k b.
        none_when ((link_at p.net.now.links k).from == v) _ (nothing k))

    no_inflow : (v : ℕ) → inflow p.net.now.links (replicate (length p.net.now.links) (pos 0)) v ≡ pos 0
    no_inflow v =
        sum_below-zero (length p.net.now.links) _ (λ k b. none_when ((link_at p.net.now.links k).to == v) _ (nothing k))
