-- Why potentials prove a routing to cost least, and a cut that there is none.
use Rattle.flow_net.proofs.Sums.{sum_below-add, sum_below-exchange, sum_below-le, sum_below-same, sum_below-scale, sum_below-single, sum_below-sub}
use Rattle.flow_net.proofs.Words.{*ℤ--ℤ, *ℤ-zero, *ℤ-≤ℤ_left, +ℤ-*ℤ, -ℤ-*ℤ, AreEnds, AreProofOfLeast, IsCutBelow, IsRouting, IsWithinLimits, IsWithinRooms}
use Rattle.flow_net.proofs.Words.{Link, Net, by_lt_z, cases_eq, cost_of, eq-eqb, flow_on, inflow, ints, is_in, leaves, link_at, ne_eqb, outflow, potential_at}
use Rattle.flow_net.proofs.Words.{product_not_negative, reduced_cost, sum_below, zero-*ℤ}
use Rattle.std.proofs.Common.{Bool, List, ap, ap₂, arith, false, if◌then◌else◌, inl, inr, length, negsuc, not, pos, refl, subst, suc, sym, true, zero, ℕ, ℤ}
use Rattle.std.proofs.Common.{◌&&◌, ◌*ℤ◌, ◌+ℤ◌, ◌-ℤ◌, ◌<ℤ◌, ◌<◌, ◌==◌, ◌∙◌, ◌≡◌, ◌≢◌, ◌≤ℤ◌}

-- x where a test holds, and else 0
abbrev pub when : Bool → ℤ → ℤ
when b x = if b then x else pos 0

-- a factor of the node, times what the links at the node carry, is the factor of each link's node, times
-- what the link carries
module _ (n m : ℕ) (node : ℕ → ℕ) (within : (k : ℕ) → k < m → node k < n) (c : ℕ → ℤ) (x : ℕ → ℤ) where
  regrouped : sum_below n (λ v. c v *ℤ sum_below m (λ k. when (node k == v) (x k)))
      ≡ sum_below m (λ k. c (node k) *ℤ x k)
  regrouped =
      sum_below-same n _ _ (λ v l. sym (sum_below-scale m (c v) (λ k. when (node k == v) (x k))))
      ∙ (sum_below-exchange n m (λ v k. c v *ℤ when (node k == v) (x k))
      ∙ sum_below-same m _ _ (λ k l.
      sum_below-same n (λ v. c v *ℤ when (node k == v) (x k)) (λ v. when (node k == v) (c v *ℤ x k))
      (λ v b. inside (node k == v) (c v) (x k))
      ∙ sum_below-single n (λ v. c v *ℤ x k) (node k) (within k l)))
    where
      inside : (p : Bool) (a y : ℤ) → a *ℤ when p y ≡ when p (a *ℤ y)
      inside true a y = refl
      inside false a y = *ℤ-zero a

-- what leaves a node less what enters it
abbrev pub surplus : List Link → List ℤ → ℕ → ℤ
surplus links flow v = outflow links flow v -ℤ inflow links flow v

-- the surplus of each node in a routing: the amount at the source, its negative at the sink, 0 elsewhere
abbrev pub surplus_of_routing : ℕ → ℕ → ℤ → ℕ → ℤ
surplus_of_routing source sink amount v = when (source == v) amount -ℤ when (sink == v) amount

-- what a potential falls along link k, times the flow on it
abbrev pub fall : List Link → List ℤ → (ℕ → ℤ) → ℕ → ℤ
fall links flow c k = (c (link_at links k).from -ℤ c (link_at links k).to) *ℤ flow_on flow k

module _ (net : Net) (limits : IsWithinLimits net) where
  -- a factor of the node times its surplus
  surplus_by_links : (flow : List ℤ) (c : ℕ → ℤ)
      → sum_below net.nodes (λ v. c v *ℤ surplus net.links flow v)
      ≡ sum_below (length net.links) (fall net.links flow c)
  surplus_by_links flow c =
      let m = length net.links in
      let froms =
      regrouped net.nodes m (λ k. (link_at net.links k).from) (λ k l. (limits.links k l).from_in) c (flow_on flow) in
      let tos =
      regrouped net.nodes m (λ k. (link_at net.links k).to) (λ k l. (limits.links k l).to_in) c (flow_on flow) in
      sum_below-same net.nodes _ _ (λ v l. *ℤ--ℤ (c v) (outflow net.links flow v) (inflow net.links flow v))
      ∙ (sum_below-sub net.nodes (λ v. c v *ℤ outflow net.links flow v) (λ v. c v *ℤ inflow net.links flow v)
      ∙ (ap₂ ◌-ℤ◌ froms tos
      ∙ sym (sum_below-same m (fall net.links flow c) _ (λ k l.
      -ℤ-*ℤ (c (link_at net.links k).from) (c (link_at net.links k).to) (flow_on flow k))
      ∙ sum_below-sub m (λ k. c (link_at net.links k).from *ℤ flow_on flow k) (λ k.
      c (link_at net.links k).to *ℤ flow_on flow k))))

-- the reduced cost of a link times its flow
reduced_part : List Link → List ℤ → List ℤ → ℕ → ℤ
reduced_part links potentials flow k = reduced_cost (link_at links k) potentials *ℤ flow_on flow k

-- the reduced cost is the cost and the fall of the potential
cost_and_fall : (links : List Link) (flow potentials : List ℤ)
    → sum_below (length links) (reduced_part links potentials flow)
    ≡ cost_of links flow +ℤ sum_below (length links) (fall links flow (potential_at potentials))
unfolding reduced_part
cost_and_fall links flow potentials =
    sum_below-same (length links) (reduced_part links potentials flow)
    (λ k. (link_at links k).cost *ℤ flow_on flow k +ℤ fall links flow (potential_at potentials) k)
    (λ k l.
    split (link_at links k).cost (potential_at potentials (link_at links k).from)
    (potential_at potentials (link_at links k).to) (flow_on flow k))
    ∙ sum_below-add (length links) (λ k. (link_at links k).cost *ℤ flow_on flow k)
    (fall links flow (potential_at potentials))
  where
    split : (cost a b x : ℤ) → ((cost +ℤ a) -ℤ b) *ℤ x ≡ cost *ℤ x +ℤ (a -ℤ b) *ℤ x
    split cost a b x =
        let same : (cost +ℤ a) -ℤ b ≡ cost +ℤ (a -ℤ b) = omega (arith, ints) in
        ap (λ r. r *ℤ x) same ∙ +ℤ-*ℤ cost (a -ℤ b) x

-- a factor below 0 turns the order round
*ℤ-≤ℤ_turned : (a b c : ℤ) → a ≤ℤ pos 0 → c ≤ℤ b → (a *ℤ b) ≤ℤ (a *ℤ c)
*ℤ-≤ℤ_turned a b c h k =
    let gap = product_not_negative (pos 0 -ℤ a) (b -ℤ c) (omega (arith, ints)) (omega (arith, ints)) in
    let split = -ℤ-*ℤ (pos 0) a (b -ℤ c) in
    let parts = *ℤ--ℤ a b c in
    let none = zero-*ℤ (b -ℤ c) in
    omega (arith, ints)

-- no flow within the room of a link makes its reduced cost times the flow less
least_term : (r x y room : ℤ) → pos 0 ≤ℤ y → y ≤ℤ room → (x <ℤ room → pos 0 ≤ℤ r) → (pos 0 <ℤ x → r ≤ℤ pos 0)
    → x ≤ℤ room → (r *ℤ x) ≤ℤ (r *ℤ y)
least_term (pos zero) x y room from upto left flowing within = omega (arith, ints)
least_term (pos (suc n)) x y room from upto left flowing within =
    by_lt_z (pos 0) x (λ above. let at_most = flowing above in absurd (omega (arith, ints)))
    (λ empty. *ℤ-≤ℤ_left (pos (suc n)) x y (omega (arith, ints)) (omega (arith, ints)))
least_term (negsuc n) x y room from upto left flowing within =
    by_lt_z x room (λ below. let at_least = left below in absurd (omega (arith, ints)))
    (λ full. *ℤ-≤ℤ_turned (negsuc n) x y (omega (arith, ints)) (omega (arith, ints)))

-- 1 in a set, 0 outside
abbrev indicator : List Bool → ℕ → ℤ
indicator set v = when (is_in set v) (pos 1)

-- the room of link k, where it leaves a set
abbrev leaving_room : List Link → List Bool → ℕ → ℤ
leaving_room links set k = if leaves set (link_at links k) then (link_at links k).room else pos 0

-- what a link takes across a cut, against the room of the links that leave: at most as much, and just as much where
-- the links that leave are full and those that enter are empty
crossing_term : (p q : Bool) (x room : ℤ) → pos 0 ≤ℤ x → x ≤ℤ room
    → ((when p (pos 1) -ℤ when q (pos 1)) *ℤ x) ≤ℤ (if (p && not q) then room else pos 0)
crossing_term true true x room from upto = omega (arith, ints)
crossing_term true false x room from upto = omega (arith, ints)
crossing_term false true x room from upto = omega (arith, ints)
crossing_term false false x room from upto = omega (arith, ints)

full_term : (p q : Bool) (x room : ℤ) → (p ≡ true → q ≡ false → x ≡ room) → (p ≡ false → q ≡ true → x ≡ pos 0)
    → (when p (pos 1) -ℤ when q (pos 1)) *ℤ x ≡ (if (p && not q) then room else pos 0)
full_term true true x room full empty = omega (arith, ints)
full_term true false x room full empty = let e = full refl refl in omega (arith, ints)
full_term false true x room full empty = let e = empty refl refl in omega (arith, ints)
full_term false false x room full empty = omega (arith, ints)

module _ (net : Net) (limits : IsWithinLimits net) (source sink : ℕ) (ends : AreEnds net source sink) where
  -- a flow within the rooms is a routing just where its surpluses are those of one
  pub surplus_is : (amount : ℤ) (flow : List ℤ) → IsRouting net source sink amount flow → (v : ℕ) → v < net.nodes
      → surplus net.links flow v ≡ surplus_of_routing source sink amount v
  surplus_is amount flow routing v within = elim (cases_eq source v) [
    | inl e ↦
        let other : sink ≢ v = (λ d. ends.apart (e ∙ sym d)) in
        rw (eq-eqb source v e, ne_eqb sink v other)
        (subst (λ u. surplus net.links flow u ≡ amount -ℤ pos 0) e (omega (arith, ints)))
    | inr ne ↦ rw (ne_eqb source v ne) (elim (cases_eq sink v) [
      | inl e ↦ rw (eq-eqb sink v e) (subst (λ u. surplus net.links flow u ≡ pos 0 -ℤ amount) e (omega (arith, ints)))
      | inr other ↦
          rw (ne_eqb sink v other)
          (let same = routing.balances v within (λ d. ne (sym d)) (λ d. other (sym d)) in omega (arith, ints))
    ])
  ]

  pub routing_from_surplus : (amount : ℤ) (flow : List ℤ) → IsWithinRooms net.links flow
      → ((v : ℕ) → v < net.nodes → surplus net.links flow v ≡ surplus_of_routing source sink amount v)
      → IsRouting net source sink amount flow
  routing_from_surplus amount flow rooms is = record {
    rooms = rooms;
    balances = λ v within not_source not_sink. let here = is v within in
        let none : surplus_of_routing source sink amount v ≡ pos 0 =
        rw (ne_eqb source v (λ e. not_source (sym e)), ne_eqb sink v (λ e. not_sink (sym e))) (omega (arith, ints)) in
        omega (arith, ints);
    source_gives = (let here = is source ends.source_in in
        let whole : surplus_of_routing source sink amount source ≡ amount =
        rw (eq-eqb source source refl, ne_eqb sink source (λ e. ends.apart (sym e))) (omega (arith, ints)) in
        omega (arith, ints));
    sink_takes = (let here = is sink ends.sink_in in
        let whole : surplus_of_routing source sink amount sink ≡ pos 0 -ℤ amount =
        rw (ne_eqb source sink ends.apart, eq-eqb sink sink refl) (omega (arith, ints)) in
        omega (arith, ints));
  }

  module _ (amount : ℤ) (flow : List ℤ) (routing : IsRouting net source sink amount flow) where
    -- a routing with such potentials costs least
    pub least_from_potentials : (potentials other : List ℤ) → AreProofOfLeast net.links flow potentials
        → IsRouting net source sink amount other
        → cost_of net.links flow ≤ℤ cost_of net.links other
    unfolding reduced_part
    least_from_potentials potentials other proof other_routing =
        let terms = sum_below-le (length net.links) (reduced_part net.links potentials flow)
        (reduced_part net.links potentials other)
        (λ k l.
        least_term (reduced_cost (link_at net.links k) potentials) (flow_on flow k) (flow_on other k)
        (link_at net.links k).room (other_routing.rooms.not_negative k l) (other_routing.rooms.upto_room k l)
        (proof.left_to_add k l) (proof.flowing k l) (routing.rooms.upto_room k l)) in
        let same_nodes = sum_below-same net.nodes (λ v. potential_at potentials v *ℤ surplus net.links flow v)
        (λ v. potential_at potentials v *ℤ surplus net.links other v) (λ v b.
        let same_surplus = surplus_is amount flow routing v b ∙ sym (surplus_is amount other other_routing v b) in
        ap (λ s. potential_at potentials v *ℤ s) same_surplus) in
        let falls = sym (surplus_by_links net limits flow (potential_at potentials))
        ∙ (same_nodes ∙ surplus_by_links net limits other (potential_at potentials)) in
        let here = cost_and_fall net.links flow potentials in
        let there = cost_and_fall net.links other potentials in
        omega (arith, ints, terms, falls, here, there)

    -- what a potential falls along the links, times the flows on them, is in all its fall from the source to the sink,
    -- times the amount
    pub falls_of_routing : (c : ℕ → ℤ)
        → sum_below (length net.links) (fall net.links flow c) ≡ c source *ℤ amount -ℤ c sink *ℤ amount
    falls_of_routing c =
        let n = net.nodes in
        let at_source = sum_below-single n (λ v. c v *ℤ amount) source ends.source_in in
        let at_sink = sum_below-single n (λ v. c v *ℤ amount) sink ends.sink_in in
        sym (surplus_by_links net limits flow c)
        ∙ (sum_below-same n (λ v. c v *ℤ surplus net.links flow v)
        (λ v. when (source == v) (c v *ℤ amount) -ℤ when (sink == v) (c v *ℤ amount))
        (λ v b. ap (λ s. c v *ℤ s) (surplus_is amount flow routing v b) ∙ inside (c v) (source == v) (sink == v))
        ∙ (sum_below-sub n (λ v. when (source == v) (c v *ℤ amount)) (λ v. when (sink == v) (c v *ℤ amount))
        ∙ ap₂ ◌-ℤ◌ at_source at_sink))
      where
        inside : (c : ℤ) (p q : Bool)
            → c *ℤ (when p amount -ℤ when q amount) ≡ when p (c *ℤ amount) -ℤ when q (c *ℤ amount)
        inside c true true = *ℤ--ℤ c amount amount
        inside c true false = *ℤ--ℤ c amount (pos 0) ∙ ap (λ z. (c *ℤ amount) -ℤ z) (*ℤ-zero c)
        inside c false true = *ℤ--ℤ c (pos 0) amount ∙ ap (λ z. z -ℤ (c *ℤ amount)) (*ℤ-zero c)
        inside c false false = *ℤ--ℤ c (pos 0) (pos 0) ∙ ap₂ ◌-ℤ◌ (*ℤ-zero c) (*ℤ-zero c)

    module _ (set : List Bool) (has : is_in set source ≡ true) (lacks : is_in set sink ≡ false) where
      -- what leaves a set that holds the source and not the sink, less what enters it, is the amount
      crossing_is : sum_below (length net.links) (fall net.links flow (indicator set)) ≡ amount
      crossing_is = falls_of_routing (indicator set) ∙ rw (has, lacks) (omega (arith, ints))

      -- so the rooms that leave the set are not less than the amount
      pub amount_within_rooms : amount ≤ℤ sum_below (length net.links) (leaving_room net.links set)
      amount_within_rooms =
          let crossing = crossing_is in
          let terms = sum_below-le (length net.links) (fall net.links flow (indicator set)) (leaving_room net.links set)
          (λ k l.
          crossing_term (is_in set (link_at net.links k).from) (is_in set (link_at net.links k).to) (flow_on flow k)
          (link_at net.links k).room (routing.rooms.not_negative k l) (routing.rooms.upto_room k l)) in
          omega (arith, ints, crossing, terms)

      -- and just the amount where the links that leave are full and those that enter are empty
      pub
          rooms_of_closed : ((k : ℕ) → k < length net.links → is_in set (link_at net.links k).from ≡ true
          → is_in set (link_at net.links k).to ≡ false → flow_on flow k ≡ (link_at net.links k).room)
          → ((k : ℕ) → k < length net.links → is_in set (link_at net.links k).from ≡ false
          → is_in set (link_at net.links k).to ≡ true → flow_on flow k ≡ pos 0)
          → sum_below (length net.links) (leaving_room net.links set) ≡ amount
      rooms_of_closed full empty =
          let full_terms = sum_below-same (length net.links) (fall net.links flow (indicator set))
          (leaving_room net.links set)
          (λ k l.
          full_term (is_in set (link_at net.links k).from) (is_in set (link_at net.links k).to) (flow_on flow k)
          (link_at net.links k).room (full k l) (empty k l)) in
          sym full_terms ∙ crossing_is

  -- nothing routes an amount past a cut
  pub none_past_cut : (amount : ℤ) (flow : List ℤ) (set : List Bool) → IsCutBelow net source sink amount set
      → IsRouting net source sink amount flow → ⊥
  none_past_cut amount flow set cut routing =
      let most = amount_within_rooms amount flow routing set cut.source_in cut.sink_out in
      omega (arith, ints, most)
