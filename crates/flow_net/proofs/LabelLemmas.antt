-- A label given along an arc from the node that was settled last, and what one label after another keeps.
use Rattle.flow_net.proofs.Words.{All-cons, All-permutation, All-weaker, Arc, Contains, Contains-append_right, Contains-permutation, HasQueue}
use Rattle.flow_net.proofs.Words.{Improves, IsAt, IsClosedAt, IsResidualArc, IsSearch, IsStanding, Label, MOST_COST, MOST_NODES, Problem, Routing}
use Rattle.flow_net.proofs.Words.{Search, arc_by_index, arc_of_label, count_by-le-length, depth_at, entries_of, entry, false≢true, get_or-set_other}
use Rattle.flow_net.proofs.Words.{get_or-set_same, index_of_label, ints, is_in, is_labelled, label_at, largest_cost, length-set, most_path_cost}
use Rattle.flow_net.proofs.Words.{most_distance, mul-le, none-some, reduced_cost_of, distance_at, distance_of_label, same_Some}
use Rattle.std.proofs.Common.{Bool, List, None, Option, Some, [], ap, arith, false, is_some, length, pos, refl, subst, sym, true, ℕ, ℤ, ◌*◌, ◌+ℤ◌}
use Rattle.std.proofs.Common.{◌+◌, ◌<ℤ◌, ◌<◌, ◌∙◌, ◌∷◌, ◌≡◌, ◌≢◌, ◌≤ℤ◌, ◌≤◌}
use Rattle.flow_net.proofs.ArcLemmas.{arc-cost, arc-nodes}
use Rattle.flow_net.proofs.StandingLemmas.{IsPotential-standing, largest_cost-small, reduced-residual}
use Rattle.flow_net.proofs.Lists.{set_cases}
use Rattle.flow_net.proofs.Sizes.{sizes}
use Rattle.flow_net.specs.Search.{AreLabels, IsEntered, IsEntry, IsLabelledBy, IsNear, IsRelaxed, depth_of_label, source_label}
use Rattle.flow_net.proofs.QueueLemmas.{settled_within}

-- the distance of a settled node is no more than a potential can rise, and few arcs lead to it
pub record IsSmall (l : Option Label) : Type 0 where
  pub distance : distance_of_label l ≤ℤ pos most_distance
  pub depth : depth_of_label l < MOST_NODES

pub IsSmall-settled : (p : Problem) (r : Routing) → IsStanding p r
    → (labels : List (Option Label)) (settled : List Bool) → AreLabels p r labels settled
    → (v : ℕ) → is_in settled v ≡ true → IsSmall (label_at labels v)
IsSmall-settled p r standing labels settled h v hit =
    let net = p.net.now in
    let deep = h.depths v hit in
    let count = count_by-le-length (λ b. b) settled in
    let cost = largest_cost-small net standing.problem.net in
    let shallow : depth_at labels v < MOST_NODES = omega (arith, deep, count) in
    let times : depth_at labels v * largest_cost net ≤ most_path_cost =
    mul-le (depth_at labels v) (largest_cost net) MOST_NODES MOST_COST (omega (arith, shallow)) cost in
    let within = settled_within settled v hit in
    let here = IsPotential-standing p r standing v (omega (arith, within)) in
    let source = IsPotential-standing p r standing p.source standing.problem.ends.source_in in
    let upto = (h.near v (h.settled_labelled v hit)).upto in
    record { distance = omega (arith, sizes, times, here, source, upto); depth = shallow }

pub Improves-refl : (s : Search) → Improves s s
Improves-refl s =
    record { settled = refl; level = refl; kept = λ v _. refl; labelled = λ v h. h; fell = λ v _. omega (arith, ints) }

-- an arc leads from the node that was settled last
module _ (p : Problem) (r : Routing) (standing : IsStanding p r) (s : Search) (search : IsSearch p r s) (a : Arc)
    (l : Label) (at : IsAt s a.tail l) where
  tail_distance : distance_at s.labels.items a.tail ≡ l.distance
  tail_distance = ap distance_of_label at.label

  pub IsSmall-tail : IsSmall (Some l)
  IsSmall-tail =
      let small = IsSmall-settled p r standing s.labels.items s.settled.items search.labels a.tail at.settled in
      subst IsSmall at.label small

  pub IsRelaxed-same : IsClosedAt p r s a → IsRelaxed p r s s a
  IsRelaxed-same closed = record { search = search; improves = Improves-refl s; closed = closed }

  -- it is closed where its head is settled, since that is no farther than its tail, and where the head's distance is
  -- low
  pub IsRelaxed-settled : is_in s.settled.items a.head ≡ true → IsRelaxed p r s s a
  IsRelaxed-settled hit =
      IsRelaxed-same (λ residual. let low = search.queue.upto_level a.head hit in let tail = tail_distance in
      let more = reduced-residual p r standing a residual in
      record { labelled = search.labels.settled_labelled a.head hit; low = omega (arith, ints, low, tail, more) })

  -- its head gets a label
  module _ (distance : ℤ) (distance_is : distance ≡ l.distance +ℤ reduced_cost_of r.potentials.items a) where
    pub IsRelaxed-low : (is_labelled s.labels.items a.head ≡ true) × (distance_at s.labels.items a.head ≤ℤ distance)
        → IsRelaxed p r s s a
    IsRelaxed-low low =
        IsRelaxed-same (λ _. let tail = tail_distance in record {
          labelled = low.0;
          low = omega (arith, ints, distance_is, tail);
        })

    pub above-level : IsResidualArc p r a → s.queue.level ≤ℤ distance
    above-level residual =
        let more = reduced-residual p r standing a residual in
        omega (arith, ints, distance_is, more)

    module _ (residual : IsResidualArc p r a) (free : is_in s.settled.items a.head ≡ false)
        (better : is_labelled s.labels.items a.head ≡ true → distance <ℤ distance_at s.labels.items a.head) (k : ℕ)
        (within : k < length p.adjacency.arcs.items) (numbered : a ≡ arc_by_index p k) (t : Search)
        (entered : IsEntered s t a.head (record { distance = distance; depth = l.depth + 1; arc = Some k })) where
      abbrev label_by : Label
      label_by = record { distance = distance; depth = l.depth + 1; arc = Some k }

      head_in : a.head < length s.labels.items
      head_in = let nodes = arc-nodes p.net.now standing.problem.net a residual.arc in omega arith

      by_node : (P : ℕ → Option Label → Type 0) → P a.head (Some label_by)
          → ((v : ℕ) → v ≢ a.head → P v (label_at s.labels.items v)) → (v : ℕ)
          → P v (label_at t.labels.items v)
      by_node P here there =
          rw entered.labels (set_cases s.labels.items a.head (Some label_by) None head_in P here there)

      at_head : label_at t.labels.items a.head ≡ Some label_by
      at_head =
          ap (λ xs. label_at xs a.head) entered.labels
          ∙ get_or-set_same s.labels.items a.head (Some label_by) None head_in

      kept : (v : ℕ) → is_in s.settled.items v ≡ true → label_at t.labels.items v ≡ label_at s.labels.items v
      kept v hit =
          ap (λ xs. label_at xs v) entered.labels
          ∙ get_or-set_other s.labels.items a.head v (Some label_by) None (λ e.
          false≢true (sym free ∙ (ap (is_in s.settled.items) (sym e) ∙ hit)))

      mark : (v : ℕ) → is_in t.settled.items v ≡ is_in s.settled.items v
      mark v = ap (λ xs. is_in xs v) entered.settled

      distance_from : pos 0 ≤ℤ distance
      distance_from =
          let more = reduced-residual p r standing a residual in
          let from = search.labels.risen a.tail in
          let tail = tail_distance in
          omega (arith, ints, distance_is, more, from, tail)

      -- other labels only fell
      labelled : (v : ℕ) → is_labelled s.labels.items v ≡ true → is_labelled t.labels.items v ≡ true
      labelled = by_node (λ v o. is_labelled s.labels.items v ≡ true → is_some o ≡ true) (λ _. refl) (λ v _ h. h)

      fell : (v : ℕ) → is_labelled s.labels.items v ≡ true
          → distance_at t.labels.items v ≤ℤ distance_at s.labels.items v
      fell = by_node (λ v o. is_labelled s.labels.items v ≡ true → distance_of_label o ≤ℤ distance_at s.labels.items v)
          (λ h. let less = better h in omega (arith, ints, less)) (λ v _ _. omega (arith, ints))

      by_arc_now : IsLabelledBy p r t.labels.items t.settled.items a.head (Some label_by) a
      by_arc_now = record {
        residual = residual;
        head = refl;
        tail_settled = mark a.tail ∙ at.settled;
        distance = rw (kept a.tail at.settled) (let tail = tail_distance in omega (arith, ints, distance_is, tail));
        depth = rw (kept a.tail at.settled) (ap (λ o. depth_of_label o + 1) (sym at.label));
      }

      near : IsNear p r a.head distance (l.depth + 1)
      near =
          let at_tail = search.labels.near a.tail (search.labels.settled_labelled a.tail at.settled) in
          let cost = (arc-cost p.net.now standing.problem.net a residual.arc).0 in
          let times = ap (λ o. depth_of_label o * largest_cost p.net.now) at.label in
          let tail = tail_distance in
          record {
            from = omega (arith, sizes, cost, times, tail, distance_is);
            upto = omega (arith, sizes, cost, times, tail, distance_is);
          }

      not_source : a.head ≡ p.source → ⊥
      not_source e =
          let source = ap (label_at s.labels.items) e ∙ search.labels.source in
          let at_source = ap distance_of_label source in
          let less = better (ap is_some source) in
          let from = distance_from in
          omega (arith, ints, at_source, less, from)

      relaxed-labels : AreLabels p r t.labels.items t.settled.items
      relaxed-labels = record {
        one_each =
            ap length entered.labels ∙ (length-set s.labels.items a.head (Some label_by) ∙ search.labels.one_each);
        one_mark_each = ap length entered.settled ∙ search.labels.one_mark_each;
        source = by_node (λ v o. v ≡ p.source → o ≡ Some source_label) (λ e. absurd (not_source e))
            (λ v _ e. ap (label_at s.labels.items) e ∙ search.labels.source) p.source refl;
        settled_labelled = λ v hit. labelled v (search.labels.settled_labelled v (sym (mark v) ∙ hit));
        indices =
            by_node (λ v o. (i : ℕ) → index_of_label o ≡ Some i → i < length p.adjacency.arcs.items)
            (λ i e. subst (λ j. j < length p.adjacency.arcs.items) (same_Some k i e) within)
            (λ v _. search.labels.indices v);
        root =
            by_node (λ v o. is_some o ≡ true → arc_of_label p o ≡ None → v ≡ p.source)
            (λ _ none. absurd (none-some (arc_by_index p k) (sym none))) (λ v _. search.labels.root v);
        by_arc =
            by_node (λ v o.
            (b : Arc) → arc_of_label p o ≡ Some b → IsLabelledBy p r t.labels.items t.settled.items v o b)
            (λ b e.
            subst (IsLabelledBy p r t.labels.items t.settled.items a.head (Some label_by))
            (numbered ∙ same_Some (arc_by_index p k) b e) by_arc_now)
            (λ v _ b e. let by = search.labels.by_arc v b e in record {
              residual = by.residual;
              head = by.head;
              tail_settled = mark b.tail ∙ by.tail_settled;
              distance = rw (kept b.tail by.tail_settled) by.distance;
              depth = rw (kept b.tail by.tail_settled) by.depth;
            });
        risen = by_node (λ v o. pos 0 ≤ℤ distance_of_label o) distance_from (λ v _. search.labels.risen v);
        near =
            by_node (λ v o. is_some o ≡ true → IsNear p r v (distance_of_label o) (depth_of_label o)) (λ _. near)
            (λ v _. search.labels.near v);
        depths =
            λ v hit. rw (kept v (sym (mark v) ∙ hit), entered.settled) (search.labels.depths v (sym (mark v) ∙ hit));
      }

      relaxed-queue : HasQueue t
      relaxed-queue = record {
        upto_level =
            λ v hit. rw (kept v (sym (mark v) ∙ hit), entered.level) (search.queue.upto_level v (sym (mark v) ∙ hit));
        queued =
            by_node (λ v o.
            is_some o ≡ true → is_in t.settled.items v ≡ false
            → Contains (entries_of t.queue) (entry (distance_of_label o) v))
            (λ _ _. Contains-permutation _ _ (entry distance a.head) entered.entries (0, omega arith, refl))
            (λ v _ h miss.
            let queued = search.queue.queued v h (sym (mark v) ∙ miss) in
            Contains-permutation _ _ (entry (distance_at s.labels.items v) v) entered.entries
            (Contains-append_right (entry distance a.head ∷ []) (entries_of s.queue) _ queued));
        distances =
            All-permutation (IsEntry t.labels.items) _ _ entered.entries
            (All-cons (IsEntry t.labels.items) (entry distance a.head) (entries_of s.queue) (record {
              labelled = ap is_some at_head;
              no_less = rw at_head (omega (arith, ints));
            }) (All-weaker (IsEntry s.labels.items) (IsEntry t.labels.items) (λ e old. record {
              labelled = labelled e.1 old.labelled;
              no_less = (let less = fell e.1 old.labelled in omega (arith, ints, less));
            }) (entries_of s.queue) search.queue.distances));
      }

      pub IsRelaxed-entered : IsRelaxed p r s t a
      IsRelaxed-entered = record {
        search = record { labels = relaxed-labels; queue = relaxed-queue };
        improves =
            record { settled = entered.settled; level = entered.level; kept = kept; labelled = labelled; fell = fell };
        closed = λ _. record {
          labelled = ap is_some at_head;
          low =
              rw (at_head, kept a.tail at.settled) (let tail = tail_distance in omega (arith, ints, distance_is, tail));
        };
      }

-- what a label more keeps, one label after another
pub Improves-trans : (s t u : Search) → Improves s t → Improves t u → Improves s u
Improves-trans s t u h k = record {
  settled = k.settled ∙ h.settled;
  level = k.level ∙ h.level;
  kept = λ v hit. k.kept v (ap (λ xs. is_in xs v) h.settled ∙ hit) ∙ h.kept v hit;
  labelled = λ v l. k.labelled v (h.labelled v l);
  fell = λ v l. let first = h.fell v l in
      let second = k.fell v (h.labelled v l) in
      omega (arith, ints);
}

-- the node that was settled last still is, with its label
pub IsAt-improves : (s t : Search) (v : ℕ) (l : Label) → Improves s t → IsAt s v l → IsAt t v l
IsAt-improves s t v l h at = record {
  label = h.kept v at.settled ∙ at.label;
  settled = ap (λ xs. is_in xs v) h.settled ∙ at.settled;
  level = at.level ∙ sym h.level;
}

-- a closed arc stays closed
pub IsClosedAt-improves : (p : Problem) (r : Routing) (s t : Search) (a : Arc) → Improves s t
    → is_in s.settled.items a.tail ≡ true → IsClosedAt p r s a
    → IsClosedAt p r t a
IsClosedAt-improves p r s t a h hit closed residual =
    let was = closed residual in
    let fell = h.fell a.head was.labelled in
    let tail = ap distance_of_label (h.kept a.tail hit) in
    record { labelled = h.labelled a.head was.labelled; low = omega (arith, ints) }
