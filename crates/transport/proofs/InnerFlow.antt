-- What the inner net carries: its chain nodes pass on what they take, none of its links is full, and its front is a
-- flow of heat with the transfers of the whole.
use Rattle.transport.proofs.Words.{All-slice_get, Cold, Hot, IsHeatOf, IsInnerLink, IsSpread, Link, MOST_ROOM, Net, Part, Some, Transfer, cases_lt}
use Rattle.transport.proofs.Words.{flow_on, get_or-take, if◌then◌else◌, inflow, int_sum_from-le_each, int_sum_from-same_each, int_sum_from-sub}
use Rattle.transport.proofs.Words.{int_sum_from-zero, ints, le-ltb, length-take-le, link_at, lt-ltb, nat_lt, outflow, pos, slice_get}
use Rattle.transport.proofs.Words.{slice_get-get_or, slice_get_within, sum_below-same, ℤ, ◌+ℤ◌, ◌-ℤ◌, ◌<ℤ◌, ◌==◌, ◌≤ℤ◌}
use Rattle.std.proofs.Common.{Bool, List, ap, arith, false, inl, inr, length, refl, subst, sym, take, true, zero-add, ℕ, ⊎_elim, ◌+◌, ◌<◌, ◌∙◌, ◌≡◌}
use Rattle.std.proofs.Common.{◌≤◌, ◌⊎◌}
use Rattle.transport.proofs.NetAround.{inner_at, length-net_around, no_link}
use Rattle.transport.proofs.AroundLimits.{IsFullRouting, most_within}
use Rattle.transport.proofs.IndexedSums.{int_sum_from-term, mosts, sum_over_links}
use Rattle.transport.proofs.RoutingFalls.{term, whole, spare, hot_fall, falls_around, hot_none, cold_none}
use Rattle.transport.proofs.ExchangedHeat.{mark, mark_other, whole_within, spare_within, exchanged_is}

-- ---- what the inner net carries: its chain nodes pass on what they take, and none of its links is full, since all that leaves the hot
-- parts is less than the room of a link

-- what leaves a node, less what enters it
term_both : (b c : Bool) (x : ℤ)
    → term (if b then pos 1 else pos 0) (if c then pos 1 else pos 0) x
    ≡ (if b then x else pos 0) -ℤ (if c then x else pos 0)
term_both true true x = omega (arith, ints)
term_both true false x = omega (arith, ints)
term_both false true x = omega (arith, ints)
term_both false false x = omega (arith, ints)

-- ---- the nodes above a chain node

-- 1 for the nodes of hot parts, of which there are so many, and for the chain nodes up to one, where the chain nodes begin with
-- `first`; 0 for any other node
abbrev gathered : ℕ → ℕ → ℕ → ℕ → ℤ
gathered hots first last v =
    if nat_lt v hots then pos 1 else if nat_lt v first then pos 0 else if nat_lt last v then pos 0 else pos 1

one_or_none : (a b c : Bool) → ((if a then pos 1 else if b then pos 0 else if c then pos 0 else pos 1) ≡ pos 1)
    ⊎ ((if a then pos 1 else if b then pos 0 else if c then pos 0 else pos 1) ≡ pos 0)
one_or_none true b c = inl refl
one_or_none false true c = inr refl
one_or_none false false true = inr refl
one_or_none false false false = inl refl

term_out : (a b x : ℤ) → a ≡ pos 1 → b ≡ pos 0 → term a b x ≡ x
term_out a b x here there = rw (here, there) (omega (arith, ints))

term_none : (a b c x : ℤ) → a ≡ c → b ≡ c → term a b x ≡ pos 0
term_none a b c x here there = rw (here, there) (none c)
  where
    none : (d : ℤ) → term d d x ≡ pos 0
    none d = let same : d -ℤ d ≡ pos 0 = omega (arith, ints) in rw same (omega (arith, ints))

module _ (hots colds nodes last : ℕ) where
  abbrev inside : ℕ → ℤ
  inside v = gathered hots (hots + colds) last v

  inside_hot : (v : ℕ) → v < hots → inside v ≡ pos 1
  inside_hot v early = rw (lt-ltb v hots early) refl

  inside_chain : (v : ℕ) → (hots + colds) ≤ v → v ≤ last → inside v ≡ pos 1
  inside_chain v behind upto =
      rw (le-ltb v hots (omega (arith, behind)), le-ltb v (hots + colds) behind, le-ltb last v upto) refl

  outside_cold : (v : ℕ) → hots ≤ v → v < hots + colds → inside v ≡ pos 0
  outside_cold v late early = rw (le-ltb v hots late, lt-ltb v (hots + colds) early) refl

  outside_chain : (v : ℕ) → (hots + colds) ≤ v → last < v → inside v ≡ pos 0
  outside_chain v behind above =
      rw (le-ltb v hots (omega (arith, behind)), le-ltb v (hots + colds) behind, lt-ltb last v above) refl

  -- a link that does not begin inside does not enter
  stays_out : (l : Link) → IsInnerLink hots colds nodes l → (hots + colds) ≤ l.from → last < l.from
      → inside l.to ≡ pos 0
  stays_out l h behind above =
      ⊎_elim (λ cold. outside_cold l.to h.enters cold) (λ chain.
      let on = h.onward behind chain in
      outside_chain l.to chain (omega (arith, on, above))) (cases_lt l.to (hots + colds))

  none_enters : (l : Link) (x : ℤ) → IsInnerLink hots colds nodes l → pos 0 ≤ℤ x
      → pos 0 ≤ℤ term (inside l.from) (inside l.to) x
  none_enters l x h some =
      ⊎_elim (λ hot. from_inside (inside_hot l.from hot)) (λ behind. ⊎_elim (λ above.
      let starts_outside = outside_chain l.from behind above in
      let none = term_none (inside l.from) (inside l.to) (pos 0) x starts_outside (stays_out l h behind above) in
      omega (arith, ints, none))
      (λ upto. from_inside (inside_chain l.from behind upto))
      (cases_lt last l.from))
      h.leaves
    where
      from_inside : inside l.from ≡ pos 1 → pos 0 ≤ℤ term (inside l.from) (inside l.to) x
      from_inside here =
          let crosses = one_or_none (nat_lt l.to hots) (nat_lt l.to (hots + colds)) (nat_lt last l.to) in
          ⊎_elim (λ there.
          let none = term_none (inside l.from) (inside l.to) (pos 1) x here there in
          omega (arith, ints, none)) (λ there.
          let out = term_out (inside l.from) (inside l.to) x here there in
          omega (arith, ints, out, some)) crosses

  -- and the link that begins with the last node leaves
  leaves_last : (l : Link) (x : ℤ) → IsInnerLink hots colds nodes l → l.from ≡ last
      → term (inside l.from) (inside l.to) x ≡ x
  leaves_last l x h from =
      term_out (inside l.from) (inside l.to) x
      (⊎_elim (λ hot. inside_hot l.from hot) (λ behind. inside_chain l.from behind (omega (arith, from))) h.leaves)
      (⊎_elim (λ cold. outside_cold l.to h.enters cold) (λ chain.
      outside_chain l.to chain
      (⊎_elim (λ hot. omega (arith, hot, chain, from)) (λ behind.
      let on = h.onward behind chain in
      omega (arith, on, from)) h.leaves))
      (cases_lt l.to (hots + colds)))

-- ---- the flow of an inner net

module _ {hot cold : List Part} {inner : Net} {flow : List ℤ} (r : IsFullRouting hot cold inner flow) where
  inner_link : (k : ℕ) (l : Link) → slice_get inner.links k ≡ Some l
      → IsInnerLink (length hot) (length cold) inner.nodes l
  inner_link k l at =
      All-slice_get (IsInnerLink (length hot) (length cold) inner.nodes) inner.links k l r.around.inner_net.links at

  pub carries_some : (k : ℕ) → k < length inner.links → pos 0 ≤ℤ flow_on flow k
  carries_some k within = r.routing.rooms.not_negative k (inner_at hot cold inner k within).within

  -- a chain node passes on what it takes
  pub passes_on : (v : ℕ) → (length hot + length cold) ≤ v → inflow inner.links flow v ≡ outflow inner.links flow v
  passes_on v behind =
      let here = mark (pos 1) v in
      let all = falls_around r here (pos 0) (pos 0) (pos 0) (pos 0) in
      let links = int_sum_from-same_each (λ k l. term (here l.from) (here l.to) (flow_on flow k))
      (λ k l. (if l.from == v then flow_on flow k else pos 0) -ℤ (if l.to == v then flow_on flow k else pos 0))
      inner.links (λ k l there. term_both (l.from == v) (l.to == v) (flow_on flow k))
      ∙ int_sum_from-sub (λ k l. if l.from == v then flow_on flow k else pos 0) (λ k l.
      if l.to == v then flow_on flow k else pos 0) 0 inner.links in
      let out = sum_over_links (λ k l. if l.from == v then flow_on flow k else pos 0) inner.links in
      let taken = sum_over_links (λ k l. if l.to == v then flow_on flow k else pos 0) inner.links in
      let hots = hot_none r here (λ i early. mark_other (pos 1) v (0 + i) (λ e. omega (arith, early, e, behind))) in
      let colds =
      cold_none r here (λ i early. mark_other (pos 1) v (length hot + i) (λ e. omega (arith, early, e, behind))) in
      omega (arith, ints, all, links, out, taken, hots, colds)

  -- what a link carries leaves the hot nodes and the chain nodes up to its own together with all else that leaves them, which the
  -- hot parts give
  pub not_full : (k : ℕ) → k < length inner.links → flow_on flow k <ℤ MOST_ROOM
  not_full k within =
      let l = link_at inner.links k in
      let at = slice_get-get_or inner.links k no_link within in
      let here = gathered (length hot) (length hot + length cold) l.from in
      let all = falls_around r here (pos 0) (pos 0) (pos 0) (pos 0) in
      let least = int_sum_from-term (λ j n. term (here n.from) (here n.to) (flow_on flow j)) inner.links
      (λ j n there. none_enters (length hot) (length cold) inner.nodes l.from n (flow_on flow j) (inner_link j n there)
      (carries_some j (slice_get_within inner.links j n there))) k l at in
      let own = leaves_last (length hot) (length cold) inner.nodes l.from l (flow_on flow k) (inner_link k l at) refl in
      let hots = int_sum_from-le_each (λ i (q : Part). pos 0 -ℤ q.most) (λ i q. hot_fall r here (pos 0) (pos 0) i) hot
      (λ i q there.
      let one = inside_hot (length hot) (length cold) inner.nodes l.from (0 + i)
      (let row = slice_get_within hot i q there in omega (arith, row)) in
      let upto = (whole_within r Hot i q there).upto in
      let from = (spare_within r Hot i q there).from in
      gives_most (here (0 + i)) q.most (whole r Hot i) (spare r Hot i) one upto from) in
      let none = int_sum_from-zero (λ i (q : Part). pos 0) 0 hot (λ i q le. refl) in
      let less = int_sum_from-sub (λ i (q : Part). pos 0) (λ i q. q.most) 0 hot in
      let colds = cold_none r here (λ i early.
      outside_cold (length hot) (length cold) inner.nodes l.from (length hot + i) (omega arith)
      (omega (arith, early))) in
      let most = (most_within hot r.around.few_hot r.around.hot_bounded).upto in
      omega (arith, ints, all, least, own, hots, less, mosts hot, colds, none, most)
    where
      gives_most : (one most x y : ℤ) → one ≡ pos 1 → x ≤ℤ most → pos 0 ≤ℤ y
          → (pos 0 -ℤ most) ≤ℤ (term (pos 0) one x +ℤ term one (pos 0) y)
      gives_most one most x y is upto from = rw is (omega (arith, ints, upto, from))

-- ---- the front of the flow: what the inner net alone carries. It is a flow of heat, and its transfers are those of the whole

module _ {hot cold : List Part} {inner : Net} {flow : List ℤ} (r : IsFullRouting hot cold inner flow) where
  abbrev front : List ℤ
  front = take (length inner.links) flow

  pub front_within : length inner.links ≤ length flow
  front_within = omega (arith, r.routing.rooms.one_each, length-net_around hot cold inner)

  same_flow : (k : ℕ) → k < length inner.links → flow_on front k ≡ flow_on flow k
  same_flow k within = get_or-take (length inner.links) flow k (pos 0) within

  same_outflow : (v : ℕ) → outflow inner.links front v ≡ outflow inner.links flow v
  same_outflow v =
      sum_below-same (length inner.links) (λ k. if (link_at inner.links k).from == v then flow_on front k else pos 0)
      (λ k. if (link_at inner.links k).from == v then flow_on flow k else pos 0)
      (λ k within. ap (λ x. if (link_at inner.links k).from == v then x else pos 0) (same_flow k within))

  same_inflow : (v : ℕ) → inflow inner.links front v ≡ inflow inner.links flow v
  same_inflow v =
      sum_below-same (length inner.links) (λ k. if (link_at inner.links k).to == v then flow_on front k else pos 0)
      (λ k. if (link_at inner.links k).to == v then flow_on flow k else pos 0)
      (λ k within. ap (λ x. if (link_at inner.links k).to == v then x else pos 0) (same_flow k within))

  upto_most : (most x heat : ℤ) → heat ≡ most -ℤ x → pos 0 ≤ℤ x → heat ≤ℤ most
  upto_most most x heat is some = omega (arith, ints, is, some)

  pub IsHeatOf-front : IsHeatOf hot cold inner front
  IsHeatOf-front = record {
    rooms = record {
      one_each = length-take-le (length inner.links) flow front_within;
      not_negative = λ k within. subst (λ x. pos 0 ≤ℤ x) (sym (same_flow k within)) (carries_some r k within);
      upto_room = λ k within.
          let at = inner_at hot cold inner k within in
          let room = r.routing.rooms.upto_room k at.within in
          subst (λ x. x ≤ℤ (link_at inner.links k).room) (sym (same_flow k within))
          (subst (λ l. flow_on flow k ≤ℤ l.room) at.is room);
    };
    balances = λ v behind within. same_inflow v ∙ passes_on r v behind ∙ sym (same_outflow v);
    given =
        λ a p at.
        let out = same_outflow a ∙ ap (outflow inner.links flow) (sym (zero-add a)) ∙ exchanged_is r Hot a p at in
        upto_most p.most (spare r Hot a) (outflow inner.links front a) out (spare_within r Hot a p at).from;
    taken = λ b q at.
        upto_most q.most (spare r Cold b) (inflow inner.links front (length hot + b))
        (same_inflow (length hot + b) ∙ exchanged_is r Cold b q at) (spare_within r Cold b q at).from;
  }

  pub IsSpread-whole : (transfers : List Transfer) → IsSpread (length hot) (length cold) inner.links front transfers
      → IsSpread (length hot) (length cold) inner.links flow transfers
  IsSpread-whole transfers h = record {
    positive = h.positive;
    ordered = h.ordered;
    hot_indexes = h.hot_indexes;
    cold_indexes = h.cold_indexes;
    joined = h.joined;
    given = λ a within. h.given a within ∙ same_outflow a;
    taken = λ b within. h.taken b within ∙ same_inflow (length hot + b);
  }
