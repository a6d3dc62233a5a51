-- A labelled node more is settled: what the labels and the search keep.
use Rattle.flow_net.proofs.Words.{Arc, IsAt, IsSearch, Label, Problem, Routing, Search, arc_at, depth_at, get_or-set_other, get_or-set_same, is_in}
use Rattle.flow_net.proofs.Words.{is_labelled, label_at, length-set, sum_by-set}
use Rattle.std.proofs.Common.{Bool, List, None, Option, Some, ap, arith, cond, false, is_some, length, refl, set, true, ℕ, ◌+◌, ◌<◌, ◌∙◌, ◌≡◌, ◌≢◌}
use Rattle.flow_net.proofs.Lists.{set_cases}
use Rattle.flow_net.specs.Search.{AreLabels, IsSettling, depth_of_label, settled_count}
use Rattle.flow_net.proofs.QueueLemmas.{labelled_within}

-- a labelled node more is settled
pub AreLabels-settled : (p : Problem) (r : Routing) (labels : List (Option Label)) (settled : List Bool) (v : ℕ)
    → is_labelled labels v ≡ true
    → is_in settled v ≡ false → AreLabels p r labels settled → AreLabels p r labels (set settled v true)
AreLabels-settled p r labels settled v labelled free h = record {
  one_each = h.one_each;
  one_mark_each = length-set settled v true ∙ h.one_mark_each;
  source = h.source;
  settled_labelled =
      set_cases settled v true false within (λ u b. b ≡ true → is_labelled labels u ≡ true) (λ _. labelled)
      (λ u ne. h.settled_labelled u);
  indices = h.indices;
  root = h.root;
  by_arc = λ u a e. let by = h.by_arc u a e in
      record {
        residual = by.residual;
        head = by.head;
        tail_settled = still a.tail by.tail_settled;
        distance = by.distance;
        depth = by.depth;
      };
  risen = h.risen;
  near = h.near;
  depths =
      set_cases settled v true false within (λ u b. b ≡ true → depth_at labels u < settled_count (set settled v true))
      (λ _. deep (arc_at p labels v) refl)
      (λ u ne hit. let below = h.depths u hit in let more = one_more in omega arith);
}
  where
    within : v < length settled
    within = let b = labelled_within labels v labelled in omega arith

    still : (u : ℕ) → is_in settled u ≡ true → is_in (set settled v true) u ≡ true
    still =
        set_cases settled v true false within (λ u b. is_in settled u ≡ true → b ≡ true) (λ _. refl) (λ u ne hit. hit)

    one_more : settled_count (set settled v true) ≡ settled_count settled + 1
    one_more =
        let change = sum_by-set (λ (b : Bool). cond b 1 0) settled v true false within in
        let was = ap {B = ℕ} (λ b. cond b 1 0) free in
        omega (arith, change, was)

    deep : (o : Option Arc) → arc_at p labels v ≡ o → depth_at labels v < settled_count (set settled v true)
    deep None none =
        let root = ap (depth_at labels) (h.root v labelled none) in
        let depth = ap depth_of_label h.source in
        let more = one_more in
        omega arith
    deep (Some a) some =
        let by = h.by_arc v a some in
        let below = h.depths a.tail by.tail_settled in
        let more = one_more in
        omega arith

-- node v is settled next
module _ (p : Problem) (r : Routing) (s t : Search) (v : ℕ) (l : Label) (settling : IsSettling s t v l)
    (search : IsSearch p r s) where
  v_labelled : is_labelled s.labels.items v ≡ true
  v_labelled = ap is_some settling.label

  v_in : v < length s.settled.items
  v_in = let within = labelled_within s.labels.items v v_labelled in omega arith

  -- what holds of v, and of each node settled before, holds of each node settled
  pub settled_cases : (P : ℕ → Type 0) → P v → ((u : ℕ) → is_in s.settled.items u ≡ true → P u) → (u : ℕ)
      → is_in t.settled.items u ≡ true → P u
  settled_cases P here before u hit =
      set_cases s.settled.items v true false v_in (λ w b. b ≡ true → P w) (λ _. here) (λ w _. before w) u
      (rw settling.settled at hit)

  pub IsSearch-settling : IsSearch p r t
  IsSearch-settling = record {
    labels =
        let labels =
        AreLabels-settled p r s.labels.items s.settled.items v v_labelled settling.not_before search.labels in
        rw (settling.labels, settling.settled) labels;
    queue = settling.queue;
  }

  pub IsAt-settling : IsAt t v l
  IsAt-settling = record {
    label = ap (λ xs. label_at xs v) settling.labels ∙ settling.label;
    settled = ap (λ xs. is_in xs v) settling.settled ∙ get_or-set_same s.settled.items v true false v_in;
    level = settling.level;
  }

  pub miss-settling : (u : ℕ) → u ≢ v → is_in s.settled.items u ≡ false → is_in t.settled.items u ≡ false
  miss-settling u ne miss =
      ap (λ xs. is_in xs u) settling.settled ∙ (get_or-set_other s.settled.items v u true false ne ∙ miss)
