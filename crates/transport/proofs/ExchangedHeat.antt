-- What the parts exchange: the links of the mosts are full, and each part exchanges its most less what passes it by.
use Rattle.transport.proofs.Words.{All-slice_get, AreProofOfLeast, Cold, Hot, IsBetween, IsInnerLink, IsWithinRooms, Link, Net, Part, Side, Some}
use Rattle.transport.proofs.Words.{blank, eq-eqb, flow_on, if◌then◌else◌, inflow, int_sum_from, int_sum_from-same, int_sum_from-same_each}
use Rattle.transport.proofs.Words.{int_sum_from-single, int_sum_from-zero, ints, most_of, ne_eqb, neg_ℤ, net_around, outflow, parts_of, pos}
use Rattle.transport.proofs.Words.{reduced_cost, slice_get, slice_get_within, ℤ, ◌+ℤ◌, ◌-ℤ◌, ◌<ℤ◌, ◌==◌, ◌≤ℤ◌}
use Rattle.std.proofs.Common.{Bool, List, ap, arith, false, length, refl, subst, sym, true, zero-add, ℕ, ⊎_elim, ◌+◌, ◌∙◌, ◌≡◌, ◌≢◌}
use Rattle.transport.proofs.IndexedSums.{int_sum_from-equal, int_sum_from-not_negative, mosts, sum_over_links}
use Rattle.transport.proofs.NetAround.{IsLinkAt, between_is, spare_is, whole_is}
use Rattle.transport.proofs.AroundLimits.{IsFullRouting}
use Rattle.transport.proofs.RoutingFalls.{term, whole, spare, between, hot_fall, cold_fall, falls_around, hot_none, cold_none}

module _ (net : Net) (flow : List ℤ) (k : ℕ) (l : Link) (at : IsLinkAt net k l) where
  pub carried : IsWithinRooms net.links flow → IsBetween (pos 0) l.room (flow_on flow k)
  carried rooms =
      record {
        from = rooms.not_negative k at.within;
        upto = subst (λ m. flow_on flow k ≤ℤ m.room) at.is (rooms.upto_room k at.within);
      }

  pub reduced_left : (potentials : List ℤ) → AreProofOfLeast net.links flow potentials
      → flow_on flow k <ℤ l.room → pos 0 ≤ℤ reduced_cost l potentials
  reduced_left potentials proof left =
      let not_negative = proof.left_to_add k at.within (subst (λ m. flow_on flow k <ℤ m.room) (sym at.is) left) in
      subst (λ m. pos 0 ≤ℤ reduced_cost m potentials) at.is not_negative

  pub reduced_flowing : (potentials : List ℤ) → AreProofOfLeast net.links flow potentials
      → pos 0 <ℤ flow_on flow k → reduced_cost l potentials ≤ℤ pos 0
  reduced_flowing potentials proof some =
      subst (λ m. reduced_cost m potentials ≤ℤ pos 0) at.is (proof.flowing k at.within some)

-- ---- a number at one node, and 0 at the others

abbrev pub mark : ℤ → ℕ → ℕ → ℤ
mark m n v = if v == n then m else pos 0

mark_here : (m : ℤ) (n v : ℕ) → v ≡ n → mark m n v ≡ m
mark_here m n v same = rw (eq-eqb v n same) refl

pub mark_other : (m : ℤ) (n v : ℕ) → v ≢ n → mark m n v ≡ pos 0
mark_other m n v other = rw (ne_eqb v n other) refl

term_from : (b : Bool) (z x : ℤ) → z ≡ pos 0 → term (if b then pos 1 else pos 0) z x ≡ (if b then x else pos 0)
term_from true z x e = rw e (omega (arith, ints))
term_from false z x e = rw e (omega (arith, ints))

term_to : (b : Bool) (z x : ℤ) → z ≡ pos 0 → term z (if b then neg_ℤ (pos 1) else pos 0) x ≡ (if b then x else pos 0)
term_to true z x e = rw e (omega (arith, ints))
term_to false z x e = rw e (omega (arith, ints))

module _ {hot cold : List Part} {inner : Net} {flow : List ℤ} (r : IsFullRouting hot cold inner flow) where
  none_inside : int_sum_from (λ k (l : Link). term (pos 0) (pos 0) (flow_on flow k)) 0 inner.links ≡ pos 0
  none_inside =
      int_sum_from-zero (λ k l. term (pos 0) (pos 0) (flow_on flow k)) 0 inner.links (λ k l le. omega (arith, ints))

  abbrev nowhere : ℕ → ℤ
  nowhere v = pos 0

  -- ---- what the source gives, what the sink takes and what the filler gives

  source_gives : int_sum_from (λ i (q : Part). whole r Hot i) 0 hot +ℤ between r 0 ≡ most_of hot +ℤ most_of cold
  source_gives =
      let all = falls_around r nowhere (pos 1) (pos 0) (pos 0) (pos 0) in
      let hots = int_sum_from-same (λ i (q : Part). hot_fall r nowhere (pos 1) (pos 0) i) (λ i q. whole r Hot i) 0 hot
      (λ i q. omega (arith, ints)) in
      omega (arith, ints, all, hots, cold_none r nowhere (λ i early. refl), none_inside)

  sink_takes : int_sum_from (λ i (q : Part). whole r Cold i) 0 cold +ℤ between r 1 ≡ most_of hot +ℤ most_of cold
  sink_takes =
      let all = falls_around r nowhere (pos 0) (neg_ℤ (pos 1)) (pos 0) (pos 0) in
      let colds = int_sum_from-same (λ i (q : Part). cold_fall r nowhere (neg_ℤ (pos 1)) (pos 0) i)
      (λ i q. whole r Cold i) 0 cold (λ i q. omega (arith, ints)) in
      omega (arith, ints, all, hot_none r nowhere (λ i early. refl), colds, none_inside)

  filler_gives : int_sum_from (λ i (q : Part). spare r Cold i) 0 cold +ℤ between r 2 ≡ between r 0
  filler_gives =
      let all = falls_around r nowhere (pos 0) (pos 0) (pos 1) (pos 0) in
      let colds = int_sum_from-same (λ i (q : Part). cold_fall r nowhere (pos 0) (pos 1) i) (λ i q. spare r Cold i) 0
      cold (λ i q. omega (arith, ints)) in
      omega (arith, ints, all, hot_none r nowhere (λ i early. refl), colds, none_inside)

  -- ---- the links of the mosts are full

  pub whole_within : (side : Side) (i : ℕ) (p : Part) → slice_get (parts_of side hot cold) i ≡ Some p
      → IsBetween (pos 0) p.most (whole r side i)
  whole_within Hot i p at =
      carried (net_around hot cold inner) flow _ _ (whole_is hot cold inner Hot i p at) r.routing.rooms
  whole_within Cold i p at =
      carried (net_around hot cold inner) flow _ _ (whole_is hot cold inner Cold i p at) r.routing.rooms

  pub spare_within : (side : Side) (i : ℕ) (p : Part) → slice_get (parts_of side hot cold) i ≡ Some p
      → IsBetween (pos 0) (p.most -ℤ p.least) (spare r side i)
  spare_within Hot i p at =
      carried (net_around hot cold inner) flow _ _ (spare_is hot cold inner Hot i p at) r.routing.rooms
  spare_within Cold i p at =
      carried (net_around hot cold inner) flow _ _ (spare_is hot cold inner Cold i p at) r.routing.rooms

  passed_within : IsBetween (pos 0) (most_of cold) (between r 0)
  passed_within =
      carried (net_around hot cold inner) flow _ _ (between_is hot cold inner 0 (omega arith)) r.routing.rooms

  drained_within : IsBetween (pos 0) (most_of hot) (between r 1)
  drained_within =
      carried (net_around hot cold inner) flow _ _ (between_is hot cold inner 1 (omega arith)) r.routing.rooms

  pub hot_full : (i : ℕ) (p : Part) → slice_get hot i ≡ Some p → whole r Hot i ≡ p.most
  hot_full =
      int_sum_from-equal (λ i p. whole r Hot i) (λ i p. p.most) hot (λ i p at. (whole_within Hot i p at).upto)
      (omega (arith, ints, source_gives, mosts hot, passed_within.upto))

  pub cold_full : (i : ℕ) (p : Part) → slice_get cold i ≡ Some p → whole r Cold i ≡ p.most
  cold_full =
      int_sum_from-equal (λ i p. whole r Cold i) (λ i p. p.most) cold (λ i p at. (whole_within Cold i p at).upto)
      (omega (arith, ints, sink_takes, mosts cold, drained_within.upto))

  pub passed : between r 0 ≡ most_of cold
  passed =
      let hots = int_sum_from-same_each (λ i (p : Part). whole r Hot i) (λ i p. p.most) hot hot_full in
      omega (arith, ints, source_gives, mosts hot, passed_within.upto, hots)

  pub drained : between r 1 ≡ most_of hot
  drained =
      let colds = int_sum_from-same_each (λ i (p : Part). whole r Cold i) (λ i p. p.most) cold cold_full in
      omega (arith, ints, sink_takes, mosts cold, drained_within.upto, colds)

  -- what the filler gives to the spill is at most what the cold parts can take
  pub exchanged_within : IsBetween (pos 0) (most_of cold) (between r 2)
  exchanged_within =
      let some =
      int_sum_from-not_negative (λ i (q : Part). spare r Cold i) cold (λ i q at. (spare_within Cold i q at).from) in
      record {
        from =
            let third = between_is hot cold inner 2 (omega arith) in
            (carried (net_around hot cold inner) flow _ _ third r.routing.rooms).from;
        upto = omega (arith, ints, filler_gives, passed, some);
      }

  -- ---- what leaves the node of a hot part, and what enters that of a cold part

  hot_given : (a : ℕ) (p : Part) → slice_get hot a ≡ Some p → outflow inner.links flow a ≡ p.most -ℤ spare r Hot a
  hot_given a p at =
      let row = slice_get_within hot a p at in
      let inside = mark (pos 1) a in
      let all = falls_around r inside (pos 0) (pos 0) (pos 0) (pos 0) in
      let links =
      int_sum_from-same_each (λ k l. term (inside l.from) (inside l.to) (flow_on flow k))
      (λ k l. if l.from == a then flow_on flow k else pos 0) inner.links
      (λ k l there.
      let h = All-slice_get (IsInnerLink (length hot) (length cold) inner.nodes) inner.links k l
      r.around.inner_net.links there in
      let outside = mark_other (pos 1) a l.to (λ e. omega (arith, row, e, h.enters)) in
      term_from (l.from == a) (inside l.to) (flow_on flow k) outside) in
      let out = sum_over_links (λ k l. if l.from == a then flow_on flow k else pos 0) inner.links in
      let own = hot_fall r inside (pos 0) (pos 0) in
      let hots = int_sum_from-single (λ i (q : Part). own i) a 0 hot blank (omega arith) (omega (arith, row))
      (λ i q other.
      let none = mark_other (pos 1) a (0 + i) (λ e. other (sym (zero-add i) ∙ e)) in
      rw none (omega (arith, ints))) in
      let here : own a ≡ spare r Hot a -ℤ whole r Hot a
      = rw (mark_here (pos 1) a (0 + a) (zero-add a)) (omega (arith, ints)) in
      let colds = cold_none r inside (λ i early. mark_other (pos 1) a (length hot + i) (λ e. omega (arith, row, e))) in
      omega (arith, ints, all, links, out, hots, here, colds, hot_full a p at)

  cold_taken : (b : ℕ) (p : Part) → slice_get cold b ≡ Some p
      → inflow inner.links flow (length hot + b) ≡ p.most -ℤ spare r Cold b
  cold_taken b p at =
      let column = slice_get_within cold b p at in
      let node = length hot + b in
      let inside = mark (neg_ℤ (pos 1)) node in
      let all = falls_around r inside (pos 0) (pos 0) (pos 0) (pos 0) in
      let links =
      int_sum_from-same_each (λ k l. term (inside l.from) (inside l.to) (flow_on flow k))
      (λ k l. if l.to == node then flow_on flow k else pos 0) inner.links
      (λ k l there.
      let h = All-slice_get (IsInnerLink (length hot) (length cold) inner.nodes) inner.links k l
      r.around.inner_net.links there in
      let other = λ (e : l.from ≡ node). ⊎_elim (λ before. omega (arith, column, e, before)) (λ behind.
      omega (arith, column, e, behind)) h.leaves in
      term_to (l.to == node) (inside l.from) (flow_on flow k) (mark_other (neg_ℤ (pos 1)) node l.from other)) in
      let taken = sum_over_links (λ k l. if l.to == node then flow_on flow k else pos 0) inner.links in
      let own = cold_fall r inside (pos 0) (pos 0) in
      let colds = int_sum_from-single (λ i (q : Part). own i) b 0 cold blank (omega arith) (omega (arith, column))
      (λ i q other.
      let none = mark_other (neg_ℤ (pos 1)) node (length hot + i) (λ e. other (omega (arith, e))) in
      rw none (omega (arith, ints))) in
      let here : own b ≡ spare r Cold b -ℤ whole r Cold b
      = rw (mark_here (neg_ℤ (pos 1)) node (length hot + b) refl) (omega (arith, ints)) in
      let hots =
      hot_none r inside (λ i early. mark_other (neg_ℤ (pos 1)) node (0 + i) (λ e. omega (arith, early, e))) in
      omega (arith, ints, all, links, taken, colds, here, hots, cold_full b p at)

  -- what the part at an index exchanges
  abbrev pub exchanged : Side → ℕ → ℤ
  exchanged Hot a = outflow inner.links flow (0 + a)
  exchanged Cold b = inflow inner.links flow (length hot + b)

  pub exchanged_is : (side : Side) (i : ℕ) (p : Part) → slice_get (parts_of side hot cold) i ≡ Some p
      → exchanged side i ≡ p.most -ℤ spare r side i
  exchanged_is Hot a p at = ap (outflow inner.links flow) (zero-add a) ∙ hot_given a p at
  exchanged_is Cold b p at = cold_taken b p at
