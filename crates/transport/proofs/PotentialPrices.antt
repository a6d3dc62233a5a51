-- The potentials as prices: no part could exchange its heat for less, and what the hot parts give is worth what the
-- cold parts take.
use Rattle.transport.proofs.Words.{*ℤ-+ℤ, *ℤ--ℤ, *ℤ-zero, -ℤ-*ℤ, AreProofOfLeast, Cold, Hot, Link, MOST_ROOM, Net, Part, Side, Some, by_lt_z}
use Rattle.transport.proofs.Words.{excess_price, flow_on, get_or_from_slice_get, int_sum_from, int_sum_from-add, int_sum_from-same_each}
use Rattle.transport.proofs.Words.{int_sum_from-sub, int_sum_from-zero, ints, link_at, most_of, net_around, parts_of, pos, potential_at, reduced_cost}
use Rattle.transport.proofs.Words.{slice_get, slice_get_within, spare_link, zero_times, ℤ, ◌*ℤ◌, ◌+ℤ◌, ◌-ℤ◌, ◌<ℤ◌, ◌≤ℤ◌}
use Rattle.std.proofs.Common.{List, ap, arith, length, refl, subst, sym, ℕ, ◌+◌, ◌<◌, ◌∙◌, ◌≡◌}
use Rattle.transport.proofs.NetAround.{IsLinkAt, between_is, ends, first_node, inner_at, no_link, spare_is}
use Rattle.transport.proofs.AroundLimits.{IsFullRouting}
use Rattle.transport.proofs.IndexedSums.{int_sum_from-mul, mosts}
use Rattle.transport.proofs.RoutingFalls.{term, spare, between, hot_fall, cold_fall, falls_around}
use Rattle.transport.proofs.ExchangedHeat.{reduced_left, reduced_flowing, hot_full, cold_full, passed, drained, exchanged_within, exchanged}
use Rattle.transport.proofs.ExchangedHeat.{exchanged_is}
use Rattle.transport.proofs.CertifiedCost.{IsSlack, slack_from_link}

-- the terms of the two links of a hot part that gives s of its most, and of a cold part that takes s
hot_terms : (source spill node most s x y : ℤ) → x ≡ most → s ≡ most -ℤ y
    → term source node x +ℤ term node spill y ≡ (source -ℤ spill) *ℤ most -ℤ (node -ℤ spill) *ℤ s
hot_terms source spill node most s x y full rest =
    let spared : y ≡ most -ℤ s = omega (arith, ints, rest) in
    let first = ap (λ w. term source node w) full ∙ -ℤ-*ℤ source node most in
    let second = ap (λ w. term node spill w) spared ∙ *ℤ--ℤ (node -ℤ spill) most s in
    let third = -ℤ-*ℤ node spill most in
    let whole = -ℤ-*ℤ source spill most in
    omega (arith, ints, first, second, third, whole)

cold_terms : (filler sink node most s x y : ℤ) → x ≡ most → s ≡ most -ℤ y
    → term node sink x +ℤ term filler node y ≡ (filler -ℤ sink) *ℤ most +ℤ (node -ℤ filler) *ℤ s
cold_terms filler sink node most s x y full rest =
    let spared : y ≡ most -ℤ s = omega (arith, ints, rest) in
    let first = ap (λ w. term node sink w) full ∙ -ℤ-*ℤ node sink most in
    let second = ap (λ w. term filler node w) spared ∙ *ℤ--ℤ (filler -ℤ node) most s in
    let third = -ℤ-*ℤ filler node most in
    let fourth = -ℤ-*ℤ filler node s in
    let fifth = -ℤ-*ℤ node filler s in
    let whole = -ℤ-*ℤ filler sink most in
    omega (arith, ints, first, second, third, fourth, fifth, whole)

-- what is left of the law of falls for the potentials
worth_left : (s t f p h c g k u v w x y between : ℤ)
    → u +ℤ (v +ℤ (w +ℤ (x +ℤ (y +ℤ between)))) ≡ s *ℤ (h +ℤ c) -ℤ t *ℤ (h +ℤ c) → u ≡ pos 0
    → v ≡ (s -ℤ p) *ℤ h -ℤ g → w ≡ (f -ℤ t) *ℤ c +ℤ k → x ≡ (s -ℤ f) *ℤ c → y ≡ (p -ℤ t) *ℤ h → between ≡ pos 0 → g ≡ k
worth_left s t f p h c g k u v w x y between all inside hots colds first second none =
    let one = -ℤ-*ℤ s p h in
    let two = -ℤ-*ℤ f t c in
    let three = -ℤ-*ℤ s f c in
    let four = -ℤ-*ℤ p t h in
    let five = *ℤ-+ℤ s h c in
    let six = *ℤ-+ℤ t h c in
    omega (arith, ints, one, two, three, four, five, six, all, inside, hots, colds, first, second, none)

module _ {hot cold : List Part} {inner : Net} {flow potentials : List ℤ} (r : IsFullRouting hot cold inner flow)
    (proof : AreProofOfLeast (net_around hot cold inner).links flow potentials) where
  -- the potential of a node
  abbrev pub at : ℕ → ℤ
  at v = potential_at potentials v

  abbrev spill : ℕ
  spill = (ends inner).spill

  abbrev filler : ℕ
  filler = (ends inner).filler

  -- the price of a part is how far the potential falls from its node to the spill or the filler
  abbrev pub end_of : Side → ℕ
  end_of Hot = spill
  end_of Cold = filler

  abbrev pub price_of : Side → ℕ → ℤ
  price_of side i = at (first_node hot cold inner side + i) -ℤ at (end_of side)

  -- what the heat of a part is worth at that price
  abbrev pub worth : Side → ℕ → ℤ
  worth side i = price_of side i *ℤ exchanged r side i

  -- ---- links with room for all that are not full

  module _ (k : ℕ) (l : Link) (place : IsLinkAt (net_around hot cold inner) k l) (wide : l.room ≡ MOST_ROOM)
      (free : l.cost ≡ pos 0) (left : flow_on flow k <ℤ MOST_ROOM) where
    -- the potential does not rise along one
    falls_along : at l.to ≤ℤ at l.from
    falls_along =
        let reduced =
        reduced_left (net_around hot cold inner) flow k l place potentials proof (omega (arith, ints, left, wide)) in
        omega (arith, ints, reduced, free)

    -- and stays where it carries some heat
    stays_along : term (at l.from) (at l.to) (flow_on flow k) ≡ pos 0
    stays_along =
        by_lt_z (pos 0) (flow_on flow k)
        (λ some. let reduced = reduced_flowing (net_around hot cold inner) flow k l place potentials proof some in
        zero_times (at l.from -ℤ at l.to) (flow_on flow k) (omega (arith, ints, reduced, free, falls_along))) (λ none.
        let nothing : flow_on flow k ≡ pos 0 = omega (arith, ints, none, r.routing.rooms.not_negative k place.within) in
        ap (λ x. term (at l.from) (at l.to) x) nothing ∙ *ℤ-zero (at l.from -ℤ at l.to))

  -- so are those of the inner net
  module _ (k : ℕ) (within : k < length inner.links) (left : flow_on flow k <ℤ MOST_ROOM) where
    pub falls : at (link_at inner.links k).to ≤ℤ at (link_at inner.links k).from
    falls =
        let h = r.around.inner_net.links k no_link within in
        falls_along k (link_at inner.links k) (inner_at hot cold inner k within) h.room h.cost left

    stays : term (at (link_at inner.links k).from) (at (link_at inner.links k).to) (flow_on flow k) ≡ pos 0
    stays =
        let h = r.around.inner_net.links k no_link within in
        stays_along k (link_at inner.links k) (inner_at hot cold inner k within) h.room h.cost left

  -- and the one from the filler to the spill
  module _ (small : most_of cold <ℤ MOST_ROOM) where
    between_left : between r 2 <ℤ MOST_ROOM
    between_left = omega (arith, ints, (exchanged_within r).upto, small)

    pub filler_falls : at spill ≤ℤ at filler
    filler_falls = falls_along _ _ (between_is hot cold inner 2 (omega arith)) refl refl between_left

    filler_stays : term (at filler) (at spill) (between r 2) ≡ pos 0
    filler_stays = stays_along _ _ (between_is hot cold inner 2 (omega arith)) refl refl between_left

    all_mosts : (c : ℤ) (parts : List Part) → int_sum_from (λ i (q : Part). c *ℤ q.most) 0 parts ≡ c *ℤ most_of parts
    all_mosts c parts = int_sum_from-mul c (λ i (q : Part). q.most) 0 parts ∙ ap (λ z. c *ℤ z) (mosts parts)

    -- ---- what the hot parts give is worth what the cold parts take

    pub worth_is : ((k : ℕ) → k < length inner.links → flow_on flow k <ℤ MOST_ROOM)
        → int_sum_from (λ i (q : Part). worth Hot i) 0 hot ≡ int_sum_from (λ i (q : Part). worth Cold i) 0 cold
    worth_is left =
        let source = (ends inner).source in
        let sink = (ends inner).sink in
        let all = falls_around r at (at source) (at sink) (at filler) (at spill) in
        let inside = int_sum_from-same_each (λ k l. term (at l.from) (at l.to) (flow_on flow k)) (λ k l. pos 0)
        inner.links (λ k l there.
        let within = slice_get_within inner.links k l there in
        let link_is = get_or_from_slice_get inner.links k l no_link there in
        subst (λ m. term (at m.from) (at m.to) (flow_on flow k) ≡ pos 0) link_is (stays k within (left k within)))
        ∙ int_sum_from-zero (λ k l. pos 0) 0 inner.links (λ k l le. refl) in
        let given = worth Hot in
        let taken = worth Cold in
        let mosts_fall = all_mosts (at source -ℤ at spill) hot in
        let hots = int_sum_from-same_each (λ i (q : Part). hot_fall r at (at source) (at spill) i)
        (λ i q. (at source -ℤ at spill) *ℤ q.most -ℤ given i) hot
        (λ i q there.
        hot_terms (at source) (at spill) (at (0 + i)) q.most (exchanged r Hot i) _ _ (hot_full r i q there)
        (exchanged_is r Hot i q there))
        ∙ int_sum_from-sub (λ i (q : Part). (at source -ℤ at spill) *ℤ q.most) (λ i q. given i) 0 hot
        ∙ ap (λ z. z -ℤ int_sum_from (λ i (q : Part). given i) 0 hot) mosts_fall in
        let mosts_fall = all_mosts (at filler -ℤ at sink) cold in
        let colds = int_sum_from-same_each (λ i (q : Part). cold_fall r at (at sink) (at filler) i)
        (λ i q. (at filler -ℤ at sink) *ℤ q.most +ℤ taken i) cold
        (λ i q there.
        cold_terms (at filler) (at sink) (at (length hot + i)) q.most (exchanged r Cold i) _ _ (cold_full r i q there)
        (exchanged_is r Cold i q there))
        ∙ int_sum_from-add (λ i (q : Part). (at filler -ℤ at sink) *ℤ q.most) (λ i q. taken i) 0 cold
        ∙ ap (λ z. z +ℤ int_sum_from (λ i (q : Part). taken i) 0 cold) mosts_fall in
        let first = ap (λ x. term (at source) (at filler) x) (passed r) in
        let second = ap (λ x. term (at spill) (at sink) x) (drained r) in
        worth_left (at source) (at sink) (at filler) (at spill) (most_of hot) (most_of cold)
        (int_sum_from (λ i (q : Part). given i) 0 hot) (int_sum_from (λ i (q : Part). taken i) 0 cold) _ _ _ _ _
        (term (at filler) (at spill) (between r 2)) all inside hots colds first second filler_stays

  -- ---- no part could exchange its heat for less

  -- the link of what a part does not exchange has the room that is missing there, and its reduced cost is what the price lacks
  spare_costs : (side : Side) (node : ℕ) (q : Part)
      → ((spare_link side (ends inner) node q).room ≡ q.most -ℤ q.least)
      × (reduced_cost (spare_link side (ends inner) node q) potentials
      +ℤ excess_price side q.price (at node -ℤ at (end_of side))
      ≡ pos 0)
  spare_costs Hot node q = (refl, omega (arith, ints))
  spare_costs Cold node q = (refl, omega (arith, ints))

  pub slack : (side : Side) (i : ℕ) (q : Part) → slice_get (parts_of side hot cold) i ≡ Some q
      → IsSlack (excess_price side q.price (price_of side i)) q.least q.most (exchanged r side i)
  slack side i q there =
      let net = net_around hot cold inner in
      let link = spare_is hot cold inner side i q there in
      let excess = excess_price side q.price (price_of side i) in
      let (room_is, cost_is) = spare_costs side (first_node hot cold inner side + i) q in
      subst (IsSlack excess q.least q.most) (sym (exchanged_is r side i q there))
      (slack_from_link excess q.least q.most (spare r side i) (λ room.
      let reduced =
      reduced_left net flow _ _ link potentials proof (subst (λ z. spare r side i <ℤ z) (sym room_is) room) in
      omega (arith, ints, reduced, cost_is)) (λ some.
      let reduced = reduced_flowing net flow _ _ link potentials proof some in
      omega (arith, ints, reduced, cost_is)))
