-- What stands after the potentials are raised by the distances of a search.
use Rattle.flow_net.proofs.Words.{All-contains, Arc, AreBounded, AreProofOfLeast, HasArrived, IsArc, IsFreeArc, IsResidualArc, IsStanding, IsTreeArc}
use Rattle.flow_net.proofs.Words.{Label, Problem, Reverse, Routing, Search, Stands, arc_of, cases_Bool, cases_eq, count_by-le-length, depth_at}
use Rattle.flow_net.proofs.Words.{entries_of, entry, false≢true, ints, is_in, is_labelled, label_at, largest_cost, link_at, mul-le, potential_at}
use Rattle.flow_net.proofs.Words.{reduced_cost_of, distance_at, rise_of, distance_of_label, rise_or}
use Rattle.std.proofs.Common.{Bool, FitsSigned, List, None, Option, Some, ap, arith, false, inl, inr, is_some, length, pos, refl, sym, true, w64, ℕ}
use Rattle.std.proofs.Common.{ℤ, ◌*◌, ◌+ℤ◌, ◌-ℤ◌, ◌<◌, ◌∙◌, ◌≡◌, ◌≤ℤ◌, ◌≤◌}
use Rattle.flow_net.proofs.ArcLemmas.{arc-nodes}
use Rattle.flow_net.proofs.StandingLemmas.{IsPotential-standing, reduced-residual}
use Rattle.flow_net.proofs.Sizes.{size-le-greatest, sizes}
use Rattle.flow_net.proofs.QueueLemmas.{above-entries}
use Rattle.flow_net.proofs.LabelLemmas.{IsSmall-settled}

settled_rise : (o : Option Label) (b : Bool) (level : ℤ) → is_some o ≡ true → b ≡ true
    → rise_or o b level ≡ distance_of_label o
settled_rise (Some l) true level h k = refl
settled_rise (Some l) false level h k = absurd (false≢true k)
settled_rise None b level h k = absurd (false≢true h)

other_rise : (o : Option Label) (b : Bool) (level : ℤ) → b ≡ false → rise_or o b level ≡ level
other_rise (Some l) true level k = absurd (false≢true (sym k))
other_rise (Some l) false level k = refl
other_rise None b level k = refl

module _ (p : Problem) (r : Routing) (s : Search) (standing : IsStanding p r) (arrived : HasArrived p r s) where
  -- no node rises more than the sink, or than its label says
  pub record Rises (v : ℕ) : Type 0 where
    pub from : pos 0 ≤ℤ rise_of s v
    pub upto : rise_of s v ≤ℤ s.queue.level
    pub low : is_labelled s.labels.items v ≡ true → rise_of s v ≤ℤ distance_at s.labels.items v

  pub rises : (v : ℕ) → Rises v
  rises v =
      let labels = arrived.search.labels in
      let risen = labels.risen v in
      elim (cases_Bool (is_in s.settled.items v)) [
        | inl hit ↦
            let same = settled_rise (label_at s.labels.items v) (is_in s.settled.items v) s.queue.level
            (labels.settled_labelled v hit) hit in
            let upto = arrived.search.queue.upto_level v hit in
            record {
              from = omega (arith, ints, same, risen);
              upto = omega (arith, ints, same, upto);
              low = λ _. omega (arith, ints, same);
            }
        | inr miss ↦
            let same = other_rise (label_at s.labels.items v) (is_in s.settled.items v) s.queue.level miss in
            let sink = labels.risen p.sink in
            record {
              from = omega (arith, ints, same, sink);
              upto = omega (arith, ints, same);
              low =
                  λ labelled.
                  let queued = arrived.search.queue.queued v labelled miss in
                  (let above = All-contains (λ (e : Reverse ℤ × ℕ). s.queue.level ≤ℤ e.0.0) (entries_of s.queue)
                  (entry (distance_at s.labels.items v) v) (above-entries s.queue) queued in
                  omega (arith, ints, same, above));
            }
      ]

  -- a settled node rises as its label says
  as_labelled : (v : ℕ) → is_in s.settled.items v ≡ true → rise_of s v ≡ distance_at s.labels.items v
  as_labelled v hit =
      let labelled = arrived.search.labels.settled_labelled v hit in
      settled_rise (label_at s.labels.items v) (is_in s.settled.items v) s.queue.level labelled hit

  sink_rise : rise_of s p.sink ≡ s.queue.level
  sink_rise = as_labelled p.sink arrived.sink_settled ∙ arrived.level

  -- the raised potential fits 64 bits
  pub rise_fits : (v : ℕ) → v < p.net.now.nodes → FitsSigned w64 (potential_at r.potentials.items v +ℤ rise_of s v)
  rise_fits v within =
      let potential = IsPotential-standing p r standing v within in
      let from = (rises v).from in
      let upto = (rises v).upto in
      let labels = arrived.search.labels in
      let small = IsSmall-settled p r standing s.labels.items s.settled.items labels p.sink arrived.sink_settled in
      let sink = small.distance in
      omega (arith, sizes)

  module _ (potentials : List ℤ) (one_each : length potentials ≡ length r.potentials.items)
      (raised : (v : ℕ) → v < length r.potentials.items
      → potential_at potentials v ≡ potential_at r.potentials.items v +ℤ rise_of s v)
    where
      raised_at : (v : ℕ) → v < p.net.now.nodes
          → potential_at potentials v ≡ potential_at r.potentials.items v +ℤ rise_of s v
      raised_at v within = raised v (omega arith)

      raised_ends : (a : Arc) → IsArc p.net.now.links a
          → reduced_cost_of potentials a ≡ (reduced_cost_of r.potentials.items a +ℤ rise_of s a.tail) -ℤ rise_of s a.head
      raised_ends a is =
          let nodes = arc-nodes p.net.now standing.problem.net a is in
          let tail = raised_at a.tail nodes.0 in
          let head = raised_at a.head nodes.1 in
          omega (arith, ints, tail, head)

      -- no residual arc has a reduced cost below 0
      raised_residual : (a : Arc) → IsResidualArc p r a → pos 0 ≤ℤ reduced_cost_of potentials a
      raised_residual a residual =
          let ends = raised_ends a residual.arc in
          let was = reduced-residual p r standing a residual in
          let head = (rises a.head).upto in
          elim (cases_Bool (is_in s.settled.items a.tail)) [
            | inr miss ↦
                let tail =
                other_rise (label_at s.labels.items a.tail) (is_in s.settled.items a.tail) s.queue.level miss in
                omega (arith, ints, ends, was, head, tail)
            | inl hit ↦ elim (cases_eq a.tail p.sink) [
              | inl same ↦
                  let tail = ap (rise_of s) same ∙ sink_rise in
                  omega (arith, ints, ends, was, head, tail)
              | inr ne ↦
                  let closed = arrived.closed a residual.arc hit ne residual in
                  let low = (rises a.head).low closed.labelled in
                  let tail = as_labelled a.tail hit in omega (arith, ints, ends, low, tail)
            ]
          ]

      -- an arc of the tree has none any more
      pub tree_reduced : (a : Arc) → IsTreeArc p s a → IsResidualArc p r a × (reduced_cost_of potentials a ≡ pos 0)
      tree_reduced a last =
          let by = arrived.search.labels.by_arc a.head a last.is_last in
          let ends = raised_ends a by.residual.arc in
          let head = as_labelled a.head last.head_settled in
          let tail = as_labelled a.tail by.tail_settled in
          (by.residual, omega (arith, ints, ends, head, tail))

      raised_proof : AreProofOfLeast p.net.now.links r.flow.items potentials
      raised_proof = record {
        left_to_add = λ k b left. let h = raised_residual (arc_of (link_at p.net.now.links k) k true)
            (record { arc = record { below = b; is = refl }; residual = omega (arith, ints, left) }) in
            omega (arith, ints, h);
        flowing = λ k b some.
            let back = arc_of (link_at p.net.now.links k) k false in
            let h = raised_residual back (record { arc = record { below = b; is = refl }; residual = some }) in
            omega (arith, ints, h);
      }

      source_stays : potential_at potentials p.source ≡ potential_at r.potentials.items p.source
      source_stays =
          let at = raised_at p.source standing.problem.ends.source_in in
          let distance = rises p.source in
          let low = distance.low (ap is_some arrived.search.labels.source) in
          let none = ap distance_of_label arrived.search.labels.source in
          omega (arith, ints, at, low, none)

      -- the sink's potential is not far above the source's
      sink_near : potential_at potentials p.sink
          ≤ℤ (potential_at r.potentials.items p.source +ℤ pos (p.net.now.nodes * largest_cost p.net.now))
      sink_near =
          let n = p.net.now.nodes in
          let labels = arrived.search.labels in
          let near = (labels.near p.sink (labels.settled_labelled p.sink arrived.sink_settled)).upto in
          let deep = labels.depths p.sink arrived.sink_settled in
          let count = count_by-le-length (λ b. b) s.settled.items in
          let depth = depth_at s.labels.items p.sink in
          let times : depth * largest_cost p.net.now ≤ n * largest_cost p.net.now =
          mul-le depth (largest_cost p.net.now) n (largest_cost p.net.now) (omega (arith, deep, count)) (omega arith) in
          let at = raised_at p.sink standing.problem.ends.sink_in in
          let distance = as_labelled p.sink arrived.sink_settled in
          omega (arith, ints, near, times, at, distance)

      raised_bounded : AreBounded p.net.now p.start.now potentials
      raised_bounded = record {
        one_each = one_each ∙ standing.bounded.one_each;
        bounded =
            λ v within.
            let size = λ (u : ℕ) (b : u < p.net.now.nodes). size-le-greatest (λ (x : ℤ). x) p.start.now u (pos 0)
            (omega (arith, b)) in
            let at_v = size v within in
            let at_sink = size p.sink standing.problem.ends.sink_in in
            let at_source = size p.source standing.problem.ends.source_in in
            let v_at = raised_at v within in
            let sink_at = raised_at p.sink standing.problem.ends.sink_in in
            let from = (rises v).from in
            let upto = (rises v).upto in
            let sink_up = sink_rise in
            let risen = standing.risen v within in
            let most = standing.sink_most v within in
            let near = sink_near in omega (arith, sizes);
      }

      pub Stands-raised : Stands p r.flow.items potentials r.routed r.residuals.items
      Stands-raised = record {
        problem = standing.problem;
        routed_from = standing.routed_from;
        routed_upto = standing.routed_upto;
        opened = standing.opened;
        routes = standing.routes;
        proof = raised_proof;
        bounded = raised_bounded;
        at_source = source_stays ∙ standing.at_source;
        risen =
            λ v within.
            (let at = raised_at v within in
            let from = (rises v).from in
            let was = standing.risen v within in
            omega (arith, ints, at, from, was));
        sink_most =
            λ v within.
            (let at = raised_at v within in
            let sink = raised_at p.sink standing.problem.ends.sink_in in
            let upto = (rises v).upto in
            let up = sink_rise in
            let was = standing.sink_most v within in
            omega (arith, ints, at, sink, upto, up, was));
      }

-- where the sink rises by nothing, the tree's arcs have no reduced cost as it is
pub tree_free : (p : Problem) (r : Routing) (s : Search) (standing : IsStanding p r) (arrived : HasArrived p r s)
    → s.queue.level ≡ pos 0 → (a : Arc)
    → IsTreeArc p s a → IsFreeArc p r a
tree_free p r s standing arrived level a last =
    let tree = tree_reduced p r s standing arrived r.potentials.items refl (λ v _.
    let h = rises p r s standing arrived v in
    omega (arith, ints, level)) a last in
    record { residual = tree.0; free = tree.1 }
