-- What any number given to the nodes of a full routing falls along the links, times their flows: the one law from
-- which all sums over it follow.
use Rattle.transport.proofs.Words.{All-slice_get, Cold, Hot, IsInnerLink, Link, Net, Part, Side, eq-eqb, falls_of_routing, flow_on, if◌then◌else◌}
use Rattle.transport.proofs.Words.{int_sum_from, int_sum_from-same_each, int_sum_from-zero, ints, most_of, ne_eqb, net_around, pos, slice_get_within}
use Rattle.transport.proofs.Words.{ℤ, ◌*ℤ◌, ◌+ℤ◌, ◌-ℤ◌, ◌==◌}
use Rattle.std.proofs.Common.{List, ap, ap₂, arith, length, refl, suc, sym, ℕ, ◌+◌, ◌<◌, ◌∙◌, ◌≡◌}
use Rattle.transport.proofs.NetAround.{between_at, ends, parts_sum, spare_at, sum_around, whole_at}
use Rattle.transport.proofs.AroundLimits.{IsFullRouting, ends_around, limits_around}
use Rattle.transport.proofs.IndexedSums.{sum_over_links}

-- a number for each node: one for each of the four further nodes, and those of an inner net
abbrev pub given_to : ℕ → (ℕ → ℤ) → ℤ → ℤ → ℤ → ℤ → ℕ → ℤ
given_to nodes inside source sink filler spill v =
    if v == nodes then source else if v == nodes + 1 then sink else if v == nodes + 2 then filler else if v == nodes
    + 3 then spill else inside v

module _ (nodes : ℕ) (inside : ℕ → ℤ) (s t f p : ℤ) where
  at_inner : (v : ℕ) → v < nodes → given_to nodes inside s t f p v ≡ inside v
  at_inner v within =
      let other = λ (k : ℕ) (later : v < k). ne_eqb v k (λ e. omega (arith, e, later)) in
      rw (
        other nodes within,
        other (nodes + 1) (omega arith),
        other (nodes + 2) (omega arith),
        other (nodes + 3) (omega arith),
      )
      refl

  at_source : given_to nodes inside s t f p nodes ≡ s
  at_source = rw (eq-eqb nodes nodes refl) refl

  at_sink : given_to nodes inside s t f p (nodes + 1) ≡ t
  at_sink = rw (ne_eqb (nodes + 1) nodes (λ e. omega (arith, e)), eq-eqb (nodes + 1) (nodes + 1) refl) refl

  at_filler : given_to nodes inside s t f p (nodes + 2) ≡ f
  at_filler =
      let later = λ (k : ℕ) (less : k < nodes + 2). ne_eqb (nodes + 2) k (λ e. omega (arith, e, less)) in
      rw (later nodes (omega arith), later (nodes + 1) (omega arith), eq-eqb (nodes + 2) (nodes + 2) refl) refl

  at_spill : given_to nodes inside s t f p (nodes + 3) ≡ p
  at_spill =
      let later = λ (k : ℕ) (less : k < nodes + 3). ne_eqb (nodes + 3) k (λ e. omega (arith, e, less)) in
      rw (
        later nodes (omega arith),
        later (nodes + 1) (omega arith),
        later (nodes + 2) (omega arith),
        eq-eqb (nodes + 3) (nodes + 3) refl,
      )
      refl

-- the fall from a to b, times a flow
abbrev pub term : ℤ → ℤ → ℤ → ℤ
term a b x = (a -ℤ b) *ℤ x

-- six sums, each equal to another one
sum_up : (a a' b b' c c' d d' e e' f f' g : ℤ) → a +ℤ (b +ℤ (c +ℤ (d +ℤ (e +ℤ (f +ℤ pos 0))))) ≡ g → a ≡ a'
    → b ≡ b' → c ≡ c' → d ≡ d' → e ≡ e' → f ≡ f'
    → a' +ℤ (b' +ℤ (c' +ℤ (d' +ℤ (e' +ℤ f')))) ≡ g
sum_up a a' b b' c c' d d' e e' f f' g all ha hb hc hd he hf = omega (arith, ints)

module _ {hot cold : List Part} {inner : Net} {flow : List ℤ} (r : IsFullRouting hot cold inner flow) where
  -- what the two links of the part at an index carry, and the links between the further nodes
  abbrev pub whole : Side → ℕ → ℤ
  whole side i = flow_on flow (whole_at hot cold inner side i)

  abbrev pub spare : Side → ℕ → ℤ
  spare side i = flow_on flow (spare_at hot cold inner side i)

  abbrev pub between : ℕ → ℤ
  between j = flow_on flow (between_at hot cold inner + j)

  -- what numbers at the nodes fall along the two links of the part at an index
  abbrev pub hot_fall : (ℕ → ℤ) → ℤ → ℤ → ℕ → ℤ
  hot_fall inside s p i = term s (inside (0 + i)) (whole Hot i) +ℤ term (inside (0 + i)) p (spare Hot i)

  abbrev pub cold_fall : (ℕ → ℤ) → ℤ → ℤ → ℕ → ℤ
  cold_fall inside t f i =
      term (inside (length hot + i)) t (whole Cold i) +ℤ term f (inside (length hot + i)) (spare Cold i)

  pub falls_around : (inside : ℕ → ℤ) (s t f p : ℤ) →
      int_sum_from (λ k l. term (inside l.from) (inside l.to) (flow_on flow k)) 0 inner.links
      +ℤ (int_sum_from (λ i (q : Part). hot_fall inside s p i) 0 hot
      +ℤ (int_sum_from (λ i (q : Part). cold_fall inside t f i) 0 cold
      +ℤ (term s f (between 0) +ℤ (term p t (between 1) +ℤ term f p (between 2)))))
      ≡ s *ℤ (most_of hot +ℤ most_of cold) -ℤ t *ℤ (most_of hot +ℤ most_of cold)
  falls_around inside s t f p =
      let n = inner.nodes in
      let net = net_around hot cold inner in
      let amount = most_of hot +ℤ most_of cold in
      let c = given_to n inside s t f p in
      let x = flow_on flow in
      let k = between_at hot cold inner in
      let along = λ (k : ℕ) (l : Link). term (c l.from) (c l.to) (x k) in
      let room = r.around.inner_net.nodes in
      let source = at_source n inside s t f p in
      let sink = at_sink n inside s t f p in
      let filler = at_filler n inside s t f p in
      let spill = at_spill n inside s t f p in
      let same = λ (a a' b b' y : ℤ) (from : a ≡ a') (to : b ≡ b'). ap₂ (λ u v. term u v y) from to in
      let limits = limits_around hot cold inner r.around in
      let around = ends_around hot cold inner r.around in
      let all = sym (sum_over_links along net.links)
      ∙ falls_of_routing net limits (ends inner).source (ends inner).sink around amount flow r.routing c in
      let split = sum_around hot cold inner along in
      let within = int_sum_from-same_each along (λ k l. term (inside l.from) (inside l.to) (x k)) inner.links (λ k l at.
      let h = All-slice_get (IsInnerLink (length hot) (length cold) n) inner.links k l r.around.inner_net.links at in
      same _ _ _ _ (x k) (at_inner n inside s t f p l.from h.from_in) (at_inner n inside s t f p l.to h.to_in)) in
      let hots = int_sum_from-same_each (λ i (q : Part). hot_fall c (c n) (c (n + 3)) i) (λ i q. hot_fall inside s p i)
      hot (λ i q at.
      let here = at_inner n inside s t f p (0 + i) (omega (arith, room, slice_get_within hot i q at)) in
      ap₂ ◌+ℤ◌ (same _ _ _ _ (whole Hot i) source here) (same _ _ _ _ (spare Hot i) here spill)) in
      let colds = int_sum_from-same_each (λ i (q : Part). cold_fall c (c (n + 1)) (c (n + 2)) i)
      (λ i q. cold_fall inside t f i) cold
      (λ i q at.
      let here = at_inner n inside s t f p (length hot + i) (omega (arith, room, slice_get_within cold i q at)) in
      ap₂ ◌+ℤ◌ (same _ _ _ _ (whole Cold i) here sink) (same _ _ _ _ (spare Cold i) filler here)) in
      let first = ap (λ j. term (c n) (c (n + 2)) (x j)) {x = k} {y = k + 0} (omega arith) in
      let second = ap (λ j. term (c (n + 3)) (c (n + 1)) (x j)) {x = suc k} {y = k + 1} (omega arith) in
      let third = ap (λ j. term (c (n + 2)) (c (n + 3)) (x j)) {x = suc (suc k)} {y = k + 2} (omega arith) in
      let in_all = sym split ∙ all ∙ ap₂ (λ a b. a *ℤ amount -ℤ b *ℤ amount) source sink in
      sum_up (int_sum_from along 0 inner.links) _ (parts_sum hot cold inner Hot along hot) _
      (parts_sum hot cold inner Cold along cold) _ (term (c n) (c (n + 2)) (x k)) _
      (term (c (n + 3)) (c (n + 1)) (x (suc k))) _ (term (c (n + 2)) (c (n + 3)) (x (suc (suc k)))) _ _ in_all within
      hots colds (first ∙ same _ _ _ _ (between 0) source filler) (second ∙ same _ _ _ _ (between 1) spill sink)
      (third ∙ same _ _ _ _ (between 2) filler spill)

  -- where the numbers at the parts of a side are 0, nothing falls
  none : (a b c d x y : ℤ) → a ≡ pos 0 → b ≡ pos 0 → c ≡ pos 0 → d ≡ pos 0 → term a b x +ℤ term c d y ≡ pos 0
  none a b c d x y ha hb hc hd = rw (ha, hb, hc, hd) (omega (arith, ints))

  pub hot_none : (inside : ℕ → ℤ) → ((i : ℕ) → i < length hot → inside (0 + i) ≡ pos 0)
      → int_sum_from (λ i (q : Part). hot_fall inside (pos 0) (pos 0) i) 0 hot ≡ pos 0
  hot_none inside each =
      int_sum_from-same_each (λ i (q : Part). hot_fall inside (pos 0) (pos 0) i) (λ i q. pos 0) hot (λ i q at.
      let here = each i (slice_get_within hot i q at) in
      none _ _ _ _ (whole Hot i) (spare Hot i) refl here here refl)
      ∙ int_sum_from-zero (λ i (q : Part). pos 0) 0 hot (λ i q le. refl)

  pub cold_none : (inside : ℕ → ℤ) → ((i : ℕ) → i < length cold → inside (length hot + i) ≡ pos 0)
      → int_sum_from (λ i (q : Part). cold_fall inside (pos 0) (pos 0) i) 0 cold ≡ pos 0
  cold_none inside each =
      int_sum_from-same_each (λ i (q : Part). cold_fall inside (pos 0) (pos 0) i) (λ i q. pos 0) cold (λ i q at.
      let here = each i (slice_get_within cold i q at) in
      none _ _ _ _ (whole Cold i) (spare Cold i) here refl refl here)
      ∙ int_sum_from-zero (λ i (q : Part). pos 0) 0 cold (λ i q le. refl)
