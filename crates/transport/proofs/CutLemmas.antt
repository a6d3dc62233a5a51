-- A cut of a net around an inner net, which the most of all parts cannot pass, leaves a cut of parts, wherever the paths are the pairs that reach.
use Rattle.transport.proofs.Words.{All, All-cons_if, All-head, All-nil, All-slice_get, All-tail, All-weaker, AllPairs, AllPairs-cons_if, AllPairs-nil}
use Rattle.transport.proofs.Words.{Any-from_list_any, BlocksMost, Cold, Cut, CutKind, Demand, Hot, IsAnswer, IsBounded, IsCut, IsCutOf, IsCutWithin}
use Rattle.transport.proofs.Words.{IsInnerLink, IsPath, IsSideHeat, Link, MOST_ROOM, Net, Part, PathsAreReaches, Side, Some, Stuck, Supply, and_parts, by_lt_z}
use Rattle.transport.proofs.Words.{cases_Bool, cut_side, cuts_refuse_flows, false≢true, get_or_from_slice_get, if_between, if◌then◌else◌, int_lt, int_lt-false}
use Rattle.transport.proofs.Words.{int_lt-from, int_lt-true, int_sum_by, int_sum_by-cons_if, int_sum_from, int_sum_from-le_each, int_sum_from-same_each}
use Rattle.transport.proofs.Words.{int_sum_from-sub, ints, is_in, joins, least_at, leaves, link_at, links_between, meets, members_of, most_of, need_of}
use Rattle.transport.proofs.Words.{needing_from, net_around, offer_of, opposite, parts_of, pos, slice_get, slice_get-append, slice_get-get_or, slice_get_within}
use Rattle.transport.proofs.Words.{spare_link, whole_link, ℤ, ◌+ℤ◌, ◌-ℤ◌, ◌<ℤ◌, ◌≤ℤ◌}
use Rattle.std.proofs.Common.{Bool, List, [], add-zero, ap, ap₂, arith, false, length, not, refl, subst, subst₂, suc, sym, true, zero-add, ℕ, ⊎_elim, ◌&&◌, ◌+◌}
use Rattle.std.proofs.Common.{◌<◌, ◌∙◌, ◌∷◌, ◌≡◌, ◌≤◌}
use Rattle.transport.proofs.IndexedSums.{int_sum_from-not_negative, int_sum_from-term}
use Rattle.transport.proofs.NetAround.{between_at, between_is, between_sum, ends}
use Rattle.transport.proofs.AroundLimits.{IsAround, limits_around}
use Rattle.transport.proofs.IndexedSums.{mosts, sum_over_links}
use Rattle.transport.proofs.NetAround.{no_link, parts_sum, sum_around}
use Rattle.transport.proofs.AroundLimits.{most_within, room_around}

-- ---- a shortage leaves a cut

-- the picked parts of a side need more than all the near parts of the other side can exchange, and whatever reaches a picked part,
-- or is reached by one, is near
record IsShort (side : Side) (reach : ℕ → ℕ → Bool) (hot cold : List Part) (picked near : ℕ → Bool) : Type 0 where
  closed : (i j : ℕ) → joins side reach i j ≡ true → picked i ≡ true → near j ≡ true
  short :
      int_sum_from (λ j p. if near j then p.most else pos 0) 0 (parts_of (opposite side) hot cold)
      <ℤ int_sum_from (λ i p. if picked i then p.least else pos 0) 0 (parts_of side hot cold)

abbrev GivesLeasts : (ℕ → ℤ) → ℕ → List Part → Type 0
GivesLeasts f n parts = (i : ℕ) (p : Part) → slice_get parts i ≡ Some p → f (n + i) ≡ p.least

gives_next : (f : ℕ → ℤ) (n : ℕ) (p : Part) (parts : List Part) → GivesLeasts f n (p ∷ parts)
    → GivesLeasts f (suc n) parts
gives_next f n p parts gives i q at = ap f {x = suc n + i} {y = n + suc i} (omega arith) ∙ gives (suc i) q at

module _ (picked : ℕ → Bool) where
  members_from : (n : ℕ) (parts : List Part) → All (λ i. n ≤ i) (needing_from picked n parts)
  members_from n [] = All-nil (λ i. n ≤ i)
  members_from n (p ∷ parts) =
      All-cons_if (λ i. n ≤ i) (picked n && int_lt (pos 0) p.least) n (needing_from picked (suc n) parts) (λ here. omega arith)
      (All-weaker (λ i. suc n ≤ i) (λ i. n ≤ i) (λ i le. omega (arith, le)) (needing_from picked (suc n) parts) (members_from (suc n) parts))

  members_rise : (n : ℕ) (parts : List Part) → AllPairs (λ i j. i < j) (needing_from picked n parts)
  members_rise n [] = AllPairs-nil (λ i j. i < j)
  members_rise n (p ∷ parts) =
      AllPairs-cons_if (λ i j. i < j) (picked n && int_lt (pos 0) p.least) n (needing_from picked (suc n) parts)
      (λ here. All-weaker (λ i. suc n ≤ i) (λ i. n < i) (λ i le. omega (arith, le)) (needing_from picked (suc n) parts) (members_from (suc n) parts))
      (members_rise (suc n) parts)

  members_picked : (n : ℕ) (parts : List Part) → All (λ i. picked i ≡ true) (needing_from picked n parts)
  members_picked n [] = All-nil (λ i. picked i ≡ true)
  members_picked n (p ∷ parts) =
      All-cons_if (λ i. picked i ≡ true) (picked n && int_lt (pos 0) p.least) n (needing_from picked (suc n) parts)
      (λ here. (and_parts (picked n) (int_lt (pos 0) p.least) here).0) (members_picked (suc n) parts)

  members_need : (f : ℕ → ℤ) (n : ℕ) (parts : List Part) → GivesLeasts f n parts
      → All (λ i. pos 0 <ℤ f i) (needing_from picked n parts)
  members_need f n [] gives = All-nil (λ i. pos 0 <ℤ f i)
  members_need f n (p ∷ parts) gives =
      All-cons_if (λ i. pos 0 <ℤ f i) (picked n && int_lt (pos 0) p.least) n (needing_from picked (suc n) parts)
      (λ here. let own : f n ≡ p.least = ap f (sym (add-zero n)) ∙ gives 0 p refl in
      let some = int_lt-true (pos 0) p.least (and_parts (picked n) (int_lt (pos 0) p.least) here).1 in
      omega (arith, ints, own, some))
      (members_need f (suc n) parts (gives_next f n p parts gives))

  -- what is needed is the sum of the leasts of the picked parts: those that leave out no heat are left out
  need_term : (b : Bool) (x y : ℤ) → x ≡ y → pos 0 ≤ℤ y
      → (if (b && int_lt (pos 0) y) then x else pos 0) ≡ (if b then y else pos 0)
  need_term false x y same least = refl
  need_term true x y same least =
      by_lt_z (pos 0) y (λ some. ap (λ t. if t then x else pos 0) (int_lt-from (pos 0) y some) ∙ same)
      (λ none. ap (λ t. if t then x else pos 0) (int_lt-false (pos 0) y none) ∙ omega (arith, ints, least, none))

  need-picked : (f : ℕ → ℤ) (n : ℕ) (parts : List Part) → GivesLeasts f n parts → All IsBounded parts
      → int_sum_by f (needing_from picked n parts) ≡ int_sum_from (λ i p. if picked i then p.least else pos 0) n parts
  need-picked f n [] gives bounded = refl
  need-picked f n (p ∷ parts) gives bounded =
      int_sum_by-cons_if f (picked n && int_lt (pos 0) p.least) n (needing_from picked (suc n) parts)
      ∙ ap₂ ◌+ℤ◌ (need_term (picked n) (f n) p.least (ap f (sym (add-zero n)) ∙ gives 0 p refl) (All-head IsBounded p parts bounded).least.from)
      (need-picked f (suc n) parts (gives_next f n p parts gives) (All-tail IsBounded p parts bounded))

gives_leasts : (parts : List Part) → GivesLeasts (least_at parts) 0 parts
gives_leasts parts i p at =
    let here : slice_get parts (0 + i) ≡ Some p = ap (slice_get parts) (zero-add i) ∙ at in
    rw here refl

meets_near : (side : Side) (reach : ℕ → ℕ → Bool) (picked near : ℕ → Bool) (j : ℕ) (members : List ℕ)
    → ((i : ℕ) → joins side reach i j ≡ true → picked i ≡ true → near j ≡ true)
    → All (λ i. picked i ≡ true) members → meets side reach members j ≡ true
    → near j ≡ true
meets_near side reach picked near j members closed each met =
    let (n, i, inside, at, joined) = Any-from_list_any (λ i. joins side reach i j) members met in
    closed i joined (subst (λ m. picked m ≡ true) at (each n i inside))

if_le : (b c : Bool) (x : ℤ) → pos 0 ≤ℤ x → (b ≡ true → c ≡ true) → (if b then x else pos 0) ≤ℤ (if c then x else pos 0)
if_le true c x some h = rw (h refl) (omega (arith, ints))
if_le false true x some h = some
if_le false false x some h = omega (arith, ints)

-- so they are a cut, whose need and offer are at most the mosts of their side
IsCutWithin-short : (side : Side) (reach : ℕ → ℕ → Bool) (hot cold : List Part) (picked near : ℕ → Bool)
    → All IsBounded (parts_of side hot cold)
    → All IsBounded (parts_of (opposite side) hot cold) → IsSideHeat (most_of (parts_of side hot cold))
    → IsShort side reach hot cold picked near
    → IsCutWithin side reach hot cold (needing_from picked 0 (parts_of side hot cold))
IsCutWithin-short side reach hot cold picked near bounded others most h =
    let own = parts_of side hot cold in
    let other = parts_of (opposite side) hot cold in
    let members = needing_from picked 0 own in
    let each = members_picked picked 0 own in
    let sum = need-picked picked (least_at own) 0 own (gives_leasts own) bounded in
    let less = int_sum_from-le_each (λ j p. if meets side reach members j then p.most else pos 0) (λ j p. if near j then p.most else pos 0) other
    (λ j p at. if_le (meets side reach members j) (near j) p.most (most_from other others j p at)
    (λ met. meets_near side reach picked near j members (λ i. h.closed i j) each met)) in
    let upto = int_sum_from-le_each (λ i p. if picked i then p.least else pos 0) (λ i p. p.most) own
    (λ i p at. let b = All-slice_get IsBounded own i p bounded at in omega (arith, ints, (if_between (picked i) p.least b.least.from).1, b.most.from)) in
    let from = int_sum_from-not_negative (λ j p. if meets side reach members j then p.most else pos 0) other
    (λ j p at. (if_between (meets side reach members j) p.most (most_from other others j p at)).0) in
    let short : offer_of side reach other members <ℤ need_of own members = omega (arith, ints, sum, less, h.short) in
    let need : need_of own members ≤ℤ most_of own = omega (arith, ints, sum, upto, mosts own) in
    record {
      cut =
          record { ordered = members_rise picked 0 own; needing = members_need picked (least_at own) 0 own (gives_leasts own); short = short };
      need = record { from = omega (arith, ints, short, from); upto = omega (arith, ints, need, most.upto) };
      offer = record { from = from; upto = omega (arith, ints, short, need, most.upto) };
    }
  where
    most_from : (parts : List Part) → All IsBounded parts → (i : ℕ) (p : Part) → slice_get parts i ≡ Some p
        → pos 0 ≤ℤ p.most
    most_from parts each i p at =
        let b = All-slice_get IsBounded parts i p each at in
        omega (arith, ints, b.least.from, b.most.from)

-- ---- what a cut of the net says of the parts: those on one side of it need more than is on offer

-- the room of a link that leaves a set
abbrev leaving : List Bool → ℕ → Link → ℤ
leaving set k l = if leaves set l then l.room else pos 0

-- the two links of a hot part leave: the whole one where the part's node is outside, the spare one where it is inside and the spill outside
hot_leaving : (inside spill : Bool) (least most : ℤ) → spill ≡ true
    → (if (true && not inside) then most else pos 0) +ℤ (if (inside && not spill) then most -ℤ least else pos 0)
    ≡ (if not inside then most else pos 0)
hot_leaving true spill least most e = rw e (omega (arith, ints))
hot_leaving false spill least most e = omega (arith, ints)

hot_leaving_supply : (inside spill : Bool) (least most : ℤ) → spill ≡ false
    → (if (true && not inside) then most else pos 0) +ℤ (if (inside && not spill) then most -ℤ least else pos 0)
    ≡ most -ℤ (if inside then least else pos 0)
hot_leaving_supply true spill least most e = rw e (omega (arith, ints))
hot_leaving_supply false spill least most e = omega (arith, ints)

cold_leaving : (inside filler sink : Bool) (least most : ℤ) → filler ≡ true → sink ≡ false
    → (if (inside && not sink) then most else pos 0) +ℤ (if (filler && not inside) then most -ℤ least else pos 0)
    ≡ most -ℤ (if not inside then least else pos 0)
cold_leaving true filler sink least most e k = rw (e, k) (omega (arith, ints))
cold_leaving false filler sink least most e k = rw e (omega (arith, ints))

cold_leaving_supply : (inside filler sink : Bool) (least most : ℤ) → filler ≡ false → sink ≡ false
    → (if (inside && not sink) then most else pos 0) +ℤ (if (filler && not inside) then most -ℤ least else pos 0)
    ≡ (if inside then most else pos 0)
cold_leaving_supply true filler sink least most e k = rw (e, k) (omega (arith, ints))
cold_leaving_supply false filler sink least most e k = rw e (omega (arith, ints))

stays_in : (x y : Bool) → x && not y ≡ false → x ≡ true → y ≡ true
stays_in x true h k = refl
stays_in x false h k = absurd (false≢true (sym h ∙ ap (λ b. b && true) k))

not_from : (x y : Bool) → (x ≡ true → y ≡ true) → not y ≡ true → not x ≡ true
not_from true y h k = ap not (sym (h refl)) ∙ k
not_from false y h k = refl

module _ (hot cold : List Part) (inner : Net) (g : IsAround hot cold inner) (set : List Bool) (cut : BlocksMost hot cold inner set) where
  abbrev net : Net
  net = net_around hot cold inner

  abbrev inside : ℕ → Bool
  inside v = is_in set v

  -- the rooms of the links that leave add up to less than the amount
  all_short : int_sum_from (leaving set) 0 net.links <ℤ (most_of hot +ℤ most_of cold)
  all_short = subst (λ z. z <ℤ (most_of hot +ℤ most_of cold)) (sum_over_links (leaving set) net.links) cut.short

  no_room_negative : (k : ℕ) (l : Link) → slice_get net.links k ≡ Some l → pos 0 ≤ℤ leaving set k l
  no_room_negative k l at =
      let here = get_or_from_slice_get net.links k l no_link at in
      (if_between (leaves set l) l.room
      (subst (λ m. pos 0 ≤ℤ m.room) here ((limits_around hot cold inner g).links k (slice_get_within net.links k l at)).room.from)).0

  -- a link with room for the whole amount does not leave
  wide_stays : (k : ℕ) (l : Link) → slice_get net.links k ≡ Some l → l.room ≡ MOST_ROOM → leaves set l ≡ false
  wide_stays k l at wide =
      ⊎_elim
      (λ out. let term = int_sum_from-term (leaving set) net.links no_room_negative k l at in
      let room : leaving set k l ≡ MOST_ROOM = ap (λ b. if b then l.room else pos 0) out ∙ wide in
      let amount = (room_around hot cold inner g).upto in
      absurd (omega (arith, ints, term, room, amount, all_short)))
      (λ stays. stays) (cases_Bool (leaves set l))

  -- so what an inner link leads to is inside with its first node
  inner_closed : (k : ℕ) (l : Link) → slice_get inner.links k ≡ Some l → inside l.from ≡ true → inside l.to ≡ true
  inner_closed k l at first =
      let h = All-slice_get (IsInnerLink (length hot) (length cold) inner.nodes) inner.links k l g.inner_net.links at in
      stays_in (inside l.from) (inside l.to) (wide_stays k l (slice_get-append inner.links _ k l at) h.room) first

  -- and the spill is with the filler
  spill_with_filler : inside (ends inner).filler ≡ true → inside (ends inner).spill ≡ true
  spill_with_filler first =
      let link = between_is hot cold inner 2 (omega arith) in
      let there = slice_get-get_or net.links (between_at hot cold inner + 2) no_link link.within ∙ ap Some link.is in
      stays_in (inside (ends inner).filler) (inside (ends inner).spill) (wide_stays (between_at hot cold inner + 2) _ there refl) first

  -- the rooms of the links around the inner net that leave
  around_short : (parts_sum hot cold inner Hot (leaving set) hot
      +ℤ (parts_sum hot cold inner Cold (leaving set) cold +ℤ between_sum hot cold inner (leaving set))) <ℤ (most_of hot +ℤ most_of cold)
  around_short =
      let split = sum_around hot cold inner (leaving set) in
      let within = int_sum_from-not_negative (leaving set) inner.links (λ k l at. no_room_negative k l (slice_get-append inner.links _ k l at)) in
      omega (arith, ints, all_short, split, within)

  -- the rooms of the two links of a part that leave, and of a link between the further nodes
  abbrev hot_rooms : ℕ → Part → ℤ
  hot_rooms i p =
      leaving set 0 (whole_link Hot (ends inner) (0 + i) p) +ℤ leaving set 0 (spare_link Hot (ends inner) (0 + i) p)

  abbrev cold_rooms : ℕ → Part → ℤ
  cold_rooms i p =
      leaving set 0 (whole_link Cold (ends inner) (length hot + i) p) +ℤ leaving set 0 (spare_link Cold (ends inner) (length hot + i) p)

  abbrev between_room : ℕ → ℤ
  between_room j = leaving set 0 (link_at (links_between (ends inner) (most_of hot) (most_of cold)) j)

  -- ---- where the filler is inside, the cold parts that are not need too much

  demand_short : inside (ends inner).filler ≡ true
      → int_sum_from (λ j (p : Part). if not (inside j) then p.most else pos 0) 0 hot
      <ℤ int_sum_from (λ i (p : Part). if not (inside (length hot + i)) then p.least else pos 0) 0 cold
  demand_short filler =
      let spill = spill_with_filler filler in
      let hots = int_sum_from-same_each hot_rooms (λ j p. if not (inside j) then p.most else pos 0) hot
      (λ i p at. rw (cut.source_in, zero-add i) (hot_leaving (inside i) (inside (ends inner).spill) p.least p.most spill)) in
      let colds = int_sum_from-same_each cold_rooms (λ i p. p.most -ℤ (if not (inside (length hot + i)) then p.least else pos 0)) cold
      (λ i p at. cold_leaving (inside (length hot + i)) (inside (ends inner).filler) (inside (ends inner).sink) p.least p.most filler cut.sink_out)
      ∙ int_sum_from-sub (λ i p. p.most) (λ i (p : Part). if not (inside (length hot + i)) then p.least else pos 0) 0 cold in
      let passed : between_room 0 ≡ pos 0
      = ap₂ (λ a b. if (a && not b) then most_of cold else pos 0) cut.source_in filler in
      let drained : between_room 1 ≡ most_of hot
      = ap₂ (λ a b. if (a && not b) then most_of hot else pos 0) spill cut.sink_out in
      let last : between_room 2 ≡ pos 0 = ap₂ (λ a b. if (a && not b) then MOST_ROOM else pos 0) filler spill in
      omega (arith, ints, around_short, hots, colds, passed, drained, last, mosts cold)

  -- ---- where it is not, the hot parts that are inside have to give too much

  supply_short : inside (ends inner).filler ≡ false
      → int_sum_from (λ j (p : Part). if inside (length hot + j) then p.most else pos 0) 0 cold
      <ℤ int_sum_from (λ i (p : Part). if inside i then p.least else pos 0) 0 hot
  supply_short filler =
      let colds = int_sum_from-same_each cold_rooms (λ j p. if inside (length hot + j) then p.most else pos 0) cold
      (λ i p at. cold_leaving_supply (inside (length hot + i)) (inside (ends inner).filler) (inside (ends inner).sink) p.least p.most filler cut.sink_out) in
      let passed : between_room 0 ≡ most_of cold
      = ap₂ (λ a b. if (a && not b) then most_of cold else pos 0) cut.source_in filler in
      let last : between_room 2 ≡ pos 0
      = ap (λ a. if (a && not (inside (ends inner).spill)) then MOST_ROOM else pos 0) filler in
      let drains = λ (b : Bool) (spill : inside (ends inner).spill ≡ b). ap₂ (λ x y. if (x && not y) then most_of hot else pos 0) spill cut.sink_out in
      ⊎_elim
      (λ spill. let drained : between_room 1 ≡ most_of hot = drains true spill in
      let hot_some = int_sum_from-not_negative hot_rooms hot (λ i p at. two_rooms _ _ p (All-slice_get IsBounded hot i p g.hot_bounded at)) in
      let cold_some = int_sum_from-not_negative cold_rooms cold (λ i p at. two_rooms _ _ p (All-slice_get IsBounded cold i p g.cold_bounded at)) in
      absurd (omega (arith, ints, around_short, passed, drained, last, hot_some, cold_some)))
      (λ spill. let drained : between_room 1 ≡ pos 0 = drains false spill in
      let hots = int_sum_from-same_each hot_rooms (λ i p. p.most -ℤ (if inside i then p.least else pos 0)) hot
      (λ i p at. rw (cut.source_in, zero-add i) (hot_leaving_supply (inside i) (inside (ends inner).spill) p.least p.most spill))
      ∙ int_sum_from-sub (λ i p. p.most) (λ i (p : Part). if inside i then p.least else pos 0) 0 hot in
      omega (arith, ints, around_short, colds, hots, passed, drained, last, mosts hot))
      (cases_Bool (inside (ends inner).spill))
    where
      two_rooms : (b c : Bool) (p : Part) → IsBounded p
          → pos 0 ≤ℤ ((if b then p.most else pos 0) +ℤ (if c then p.most -ℤ p.least else pos 0))
      two_rooms b c p h =
          let first = (if_between b p.most (omega (arith, ints, h.least.from, h.most.from))).0 in
          let second = (if_between c (p.most -ℤ p.least) (omega (arith, ints, h.most.from))).0 in
          omega (arith, ints, first, second)

  -- ---- the shortages, where a path leads between the pairs that reach

  -- what a path leads to is inside with its first node, as no link of it leaves
  path_closed : (path : List Link) (u v : ℕ) → IsPath inner.links path u v → inside u ≡ true → inside v ≡ true
  path_closed [] u v same first = subst (λ w. inside w ≡ true) same first
  path_closed (l ∷ path) u v h first =
      let (k, within, is) = h.0 in
      path_closed path l.to v h.2 (inner_closed k l (slice_get-get_or inner.links k l within ∙ ap Some is) (subst (λ w. inside w ≡ true) (sym h.1) first))

  module _ (reach : ℕ → ℕ → Bool) (paths : PathsAreReaches (length hot) (length cold) inner.links reach) where
    reach_closed : (a b : ℕ) → reach a b ≡ true → inside a ≡ true → inside (length hot + b) ≡ true
    reach_closed a b joined first =
        let (path, is) = paths.leads a b joined in
        path_closed path a (length hot + b) is first

    demand : inside (ends inner).filler ≡ true
        → IsShort Cold reach hot cold (λ i. not (inside (length hot + i))) (λ j. not (inside j))
    demand filler = record {
      closed = λ i j joined picked. not_from (inside j) (inside (length hot + i)) (reach_closed j i joined) picked;
      short = demand_short filler;
    }

    supply : inside (ends inner).filler ≡ false
        → IsShort Hot reach hot cold (λ i. inside (0 + i)) (λ j. inside (length hot + j))
    supply filler = record {
      closed = λ i j joined picked. reach_closed i j joined (subst (λ v. inside v ≡ true) (zero-add i) picked);
      short =
          (let same = int_sum_from-same_each (λ i (p : Part). if inside (0 + i) then p.least else pos 0) (λ i p. if inside i then p.least else pos 0) hot
          (λ i p at. ap (λ v. if inside v then p.least else pos 0) (zero-add i)) in
          let least = supply_short filler in omega (arith, ints, same, least));
    }

    -- the cut of parts where the filler is in the set, and where it is not
    pub within_demand : (members : List ℕ) → inside (ends inner).filler ≡ true
        → members ≡ members_of Demand (length hot) set cold
        → IsCutWithin Cold reach hot cold members
    within_demand members filler same = subst (IsCutWithin Cold reach hot cold) (sym same)
        (IsCutWithin-short Cold reach hot cold _ _ g.cold_bounded g.hot_bounded (most_within cold g.few_cold g.cold_bounded) (demand filler))

    pub within_supply : (members : List ℕ) → inside (ends inner).filler ≡ false
        → members ≡ members_of Supply 0 set hot → IsCutWithin Hot reach hot cold members
    within_supply members filler same = subst (IsCutWithin Hot reach hot cold) (sym same)
        (IsCutWithin-short Hot reach hot cold _ _ g.hot_bounded g.cold_bounded (most_within hot g.few_hot g.hot_bounded) (supply filler))

-- a cut with these members, their need and their offer
pub IsCutOf-members : (reach : ℕ → ℕ → Bool) (hot cold : List Part) (kind : CutKind) (members : List ℕ) (cut : Cut)
    → IsCutWithin (cut_side kind) reach hot cold members → cut.kind ≡ kind → cut.parts ≡ members
    → cut.need ≡ need_of (parts_of (cut_side kind) hot cold) members
    → cut.offer ≡ offer_of (cut_side kind) reach (parts_of (opposite (cut_side kind)) hot cold) members
    → IsCutOf reach hot cold cut
IsCutOf-members reach hot cold kind members cut h kind_is parts_are need offer = record {
  parts = subst₂ (λ k ms. IsCut (cut_side k) reach hot cold ms) (sym kind_is) (sym parts_are) h.cut;
  need = need ∙ ap₂ (λ k ms. need_of (parts_of (cut_side k) hot cold) ms) (sym kind_is) (sym parts_are);
  offer =
      offer ∙ ap₂ (λ k ms. offer_of (cut_side k) reach (parts_of (opposite (cut_side k)) hot cold) ms) (sym kind_is) (sym parts_are);
}

-- a cut answers, since it proves that there is no heat flow
pub IsAnswer-cut : (reach : ℕ → ℕ → Bool) (hot cold : List Part) (cut : Cut) → IsCutOf reach hot cold cut
    → IsAnswer reach hot cold (Stuck cut)
IsAnswer-cut reach hot cold cut is =
    record { certified = tt; least = tt; cut = is; stuck_only = cuts_refuse_flows reach hot cold (cut_side cut.kind) cut.parts is.parts }
