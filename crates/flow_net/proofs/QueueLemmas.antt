-- The queue of a search: its entries, a node that enters or leaves it, and a queue that is drained.
use Rattle.flow_net.proofs.Words.{All, All-append, All-cons, All-contains, All-head, All-map, All-permutation, All-tail, Contains, Contains-cons}
use Rattle.flow_net.proofs.Words.{Contains-permutation, IsNext, IsPermutation, IsPermutation-append_right, IsPermutation-middle, IsPermutation-refl}
use Rattle.flow_net.proofs.Words.{IsPermutation-sym, IsPermutation-trans, IsQueued, Label, Queue, Reverse, Search, append_assoc, cases_Bool}
use Rattle.flow_net.proofs.Words.{entries_of, entry, false≢true, heap_items, ints, is_in, is_labelled, map-append, distance_at}
use Rattle.std.proofs.Common.{Bool, List, None, Option, [], ap, arith, false, inl, inr, is_some, length, map, refl, set, sym, true, ℕ, ℤ, ◌++◌, ◌<◌}
use Rattle.std.proofs.Common.{◌∙◌, ◌∷◌, ◌≡◌, ◌≢◌, ◌≤ℤ◌}
use Rattle.flow_net.proofs.Lists.{set_cases, within_from}
use Rattle.flow_net.specs.Search.{IsDrained, IsEntry}

pub labelled_within : (labels : List (Option Label)) (v : ℕ) → is_labelled labels v ≡ true → v < length labels
labelled_within labels v labelled = within_from labels v None (λ none. false≢true (sym (ap is_some none) ∙ labelled))

pub settled_within : (settled : List Bool) (v : ℕ) → is_in settled v ≡ true → v < length settled
settled_within settled v hit = within_from settled v false (λ miss. false≢true (sym miss ∙ hit))

-- node v leaves the queue
module _ (labels : List (Option Label)) (settled : List Bool) (old new : Queue) (v : ℕ) (next : IsNext old new v)
    (queued : IsQueued labels settled old.level (entries_of old)) where
  entries_now : All (IsEntry labels) (entry new.level v ∷ entries_of new)
  entries_now = All-permutation (IsEntry labels) _ _ next.taken queued.distances

  pub next-entry : IsEntry labels (entry new.level v)
  next-entry = All-head (IsEntry labels) (entry new.level v) (entries_of new) entries_now

  still_queued : (u : ℕ) → u ≢ v → is_labelled labels u ≡ true → is_in settled u ≡ false
      → Contains (entries_of new) (entry (distance_at labels u) u)
  still_queued u ne labelled free =
      elim (Contains-cons (entry new.level v) (entries_of new) (entry (distance_at labels u) u)
      (Contains-permutation _ _ (entry (distance_at labels u) u) next.taken (queued.queued u labelled free))) [
        | inl e ↦ absurd (ne (sym (ap (λ x. x.1) e)))
        | inr left ↦ left
      ]

  -- it was settled before
  pub IsQueued-stale : is_in settled v ≡ true → IsQueued labels settled new.level (entries_of new)
  IsQueued-stale stale = record {
    upto_level = λ u hit. let upto = queued.upto_level u hit in omega (arith, ints);
    queued =
        λ u labelled free. still_queued u (λ e. false≢true (sym free ∙ (ap (is_in settled) e ∙ stale))) labelled free;
    distances = All-tail (IsEntry labels) (entry new.level v) (entries_of new) entries_now;
  }

  -- it is settled now, at the level
  module _ (free : is_in settled v ≡ false) (within : v < length settled) where
    pub IsQueued-settled : IsQueued labels (set settled v true) new.level (entries_of new)
    IsQueued-settled = record {
      upto_level =
          set_cases settled v true false within (λ u b. b ≡ true → distance_at labels u ≤ℤ new.level)
          (λ _. next-entry.no_less) (λ u ne hit. let upto = queued.upto_level u hit in omega (arith, ints));
      queued =
          λ u labelled.
          set_cases settled v true false within
          (λ w b. w ≡ u → b ≡ false → Contains (entries_of new) (entry (distance_at labels u) u))
          (λ _ e. absurd (false≢true (sym e)))
          (λ w ne e miss. still_queued u (λ d. ne (e ∙ d)) labelled (sym (ap (is_in settled) e) ∙ miss)) u refl;
      distances = All-tail (IsEntry labels) (entry new.level v) (entries_of new) entries_now;
    }

    pub settled-level : distance_at labels v ≡ new.level
    settled-level =
        let no_less = next-entry.no_less in
        let is_queued = queued.queued v next-entry.labelled free in
        let among = Contains-permutation _ _ (entry (distance_at labels v) v) next.taken is_queued in
        let entries = entry new.level v ∷ entries_of new in
        let none_below = All-cons (λ (e : Reverse ℤ × ℕ). new.level ≤ℤ e.0.0) (entry new.level v) (entries_of new)
        (omega (arith, ints)) next.least in
        let least = All-contains (λ (e : Reverse ℤ × ℕ). new.level ≤ℤ e.0.0) entries (entry (distance_at labels v) v)
        none_below among in
        omega (arith, ints)

-- no labelled node is left to reach
pub all_settled-drained : (s t : Search) → IsDrained s t → (v : ℕ) → is_labelled t.labels.items v ≡ true
    → is_in t.settled.items v ≡ true
all_settled-drained s t drained v labelled = elim (cases_Bool (is_in t.settled.items v)) [
  | inl hit ↦ hit
  | inr miss ↦
      let (k, within, _) = drained.queue.queued v labelled miss in
      let none = ap length drained.entries in
      absurd (omega (arith, within, none))
]

-- no entry has a distance below the level
pub above-entries : (q : Queue) → All (λ e. q.level ≤ℤ e.0.0) (entries_of q)
above-entries q =
    let near_above =
    All-map (λ (e : Reverse ℤ × ℕ). q.level ≤ℤ e.0.0) (entry q.level) q.near.items (λ k d l. omega (arith, ints)) in
    All-append (λ (e : Reverse ℤ × ℕ). q.level ≤ℤ e.0.0) (map (entry q.level) q.near.items) (heap_items q.far)
    near_above q.above

-- a node more at the level, and one above it
pub pushed-near : (level distance : ℤ) (near near' : List ℕ) (far : List (Reverse ℤ × ℕ)) (v : ℕ)
    → distance ≡ level → near' ≡ near ++ v ∷ []
    → IsPermutation (entry distance v ∷ (map (entry level) near ++ far)) (map (entry level) near' ++ far)
pushed-near level distance near near' far v same e =
    rw (same, e, map-append (entry level) near (v ∷ []), append_assoc (map (entry level) near) (entry level v ∷ []) far)
    (IsPermutation-sym _ _ (IsPermutation-middle (map (entry level) near) (entry level v) far))

pub pushed-far : (distance distance' : ℤ) (v : ℕ) (near far far' : List (Reverse ℤ × ℕ))
    → distance ≡ distance' → IsPermutation (entry distance' v ∷ far) far'
    → IsPermutation (entry distance v ∷ (near ++ far)) (near ++ far')
pushed-far distance distance' v near far far' same h =
    let moved = IsPermutation-middle near (entry distance' v) far in
    let further = IsPermutation-append_right near (entry distance' v ∷ far) far' h in
    rw same (IsPermutation-trans _ (near ++ entry distance' v ∷ far) _ (IsPermutation-sym _ _ moved) further)

-- a node at the level leaves
pub next-near : (old new : Queue) (v : ℕ) → old.near.items ≡ v ∷ new.near.items → new.level ≡ old.level
    → heap_items new.far ≡ heap_items old.far
    → IsNext old new v
next-near old new v near level far = record {
  taken = rw (near, level, far) (IsPermutation-refl _);
  level = rw level (omega (arith, ints));
  least = above-entries new;
}
