-- Where the search is stuck, the nodes settled are a cut that the amount cannot pass.
use Rattle.flow_net.proofs.Words.{Arc, IsCutBelow, IsResidualArc, IsStanding, IsStuck, Problem, Routing, Search, arc_of, by_lt_z, false≢true, flow_on}
use Rattle.flow_net.proofs.Words.{ints, is_in, link_at}
use Rattle.std.proofs.Common.{ap, arith, false, is_some, length, pos, refl, subst, sym, true, ℕ, ◌<ℤ◌, ◌<◌, ◌∙◌, ◌≡◌}
use Rattle.flow_net.proofs.Duality.{rooms_of_closed}

module _ (p : Problem) (r : Routing) (s : Search) (standing : IsStanding p r) (stuck : IsStuck p r s) where
  source_settled : is_in s.settled.items p.source ≡ true
  source_settled = stuck.all_settled p.source (ap is_some stuck.labels.source)

  -- no residual arc leads out of the settled nodes
  crosses : (a : Arc) → IsResidualArc p r a → is_in s.settled.items a.tail ≡ true
      → is_in s.settled.items a.head ≡ false → ⊥
  crosses a residual hit miss =
      false≢true (sym miss ∙ stuck.all_settled a.head (stuck.closed a residual.arc hit residual).labelled)

  -- so each link that leaves them is full, and each that enters them is empty
  full : (k : ℕ) → k < length p.net.now.links → is_in s.settled.items (link_at p.net.now.links k).from ≡ true
      → is_in s.settled.items (link_at p.net.now.links k).to ≡ false
      → flow_on r.flow.items k ≡ (link_at p.net.now.links k).room
  full k below hit miss =
      let along = arc_of (link_at p.net.now.links k) k true in
      by_lt_z (flow_on r.flow.items k) (link_at p.net.now.links k).room (λ left. absurd (crosses along (record {
        arc = record { below = below; is = refl };
        residual = omega (arith, ints, left);
      }) hit miss)) (λ over. let upto = standing.routes.rooms.upto_room k below in omega (arith, ints, over, upto))

  empty : (k : ℕ) → k < length p.net.now.links → is_in s.settled.items (link_at p.net.now.links k).from ≡ false
      → is_in s.settled.items (link_at p.net.now.links k).to ≡ true → flow_on r.flow.items k ≡ pos 0
  empty k below miss hit =
      let back = arc_of (link_at p.net.now.links k) k false in
      by_lt_z (pos 0) (flow_on r.flow.items k)
      (λ some. absurd (crosses back (record { arc = record { below = below; is = refl }; residual = some }) hit miss))
      (λ over. let from = standing.routes.rooms.not_negative k below in omega (arith, ints, over, from))

  pub IsCutBelow-stuck : r.routed <ℤ p.amount → IsCutBelow p.net.now p.source p.sink p.amount s.settled.items
  IsCutBelow-stuck short = record {
    one_each = stuck.labels.one_mark_each;
    source_in = source_settled;
    sink_out = stuck.sink_out;
    short =
        let closed_rooms = rooms_of_closed p.net.now standing.problem.net p.source p.sink standing.problem.ends r.routed
        r.flow.items standing.routes s.settled.items source_settled stuck.sink_out full empty in
        subst (λ x. x <ℤ p.amount) (sym closed_rooms) short;
  }
