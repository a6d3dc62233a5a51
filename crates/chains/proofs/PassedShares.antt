-- A part of a flow under way: a share passes on along a way, or has come to a cold part.
use Rattle.chains.proofs.Words.{All, All-append, All-cons, All-cons_if, All-contains, All-nil, All-pop, All-push, All-set, HasPassed, IsCarried}
use Rattle.chains.proofs.Words.{IsInner, IsInnerLink, IsShare, IsUnderWay, IsWay, LeadsTo, Link, Net, Share, Way, by_lt_z, cons_if, eq-eqb}
use Rattle.chains.proofs.Words.{false_from_ne_true, held_at, held_of, if_between, if◌then◌else◌, inflow, int_lt, int_lt-from, int_lt-true, int_sum_by}
use Rattle.chains.proofs.Words.{int_sum_by-append, int_sum_by-cons_if, int_sum_by-not_negative, ints, left_from, left_in_all, left_into}
use Rattle.chains.proofs.Words.{length-append, moved, outflow, pos, way_at, ℤ, ◌+ℤ◌, ◌-ℤ◌, ◌<ℤ◌, ◌≤ℤ◌}
use Rattle.std.proofs.Common.{Bool, List, Some, [], ap, append_assoc, ap₂, arith, false, get_or, length, refl, subst, sym, true, ℕ, ◌++◌, ◌+◌, ◌<◌}
use Rattle.std.proofs.Common.{◌==◌, ◌∙◌, ◌∷◌, ◌≡◌, ◌≤◌}
use Rattle.chains.proofs.LinkPaths.{LeadsTo-link}
use Rattle.chains.proofs.ItemSums.{int_sum_by-set, if_sub}
use Rattle.chains.proofs.OpenWays.{no_way}

-- ---- sums over the shares and the ways once a share has passed on

-- what a share leaves at its node is the rest of its heat, or nothing
rest_is : (b : Bool) (heat part : ℤ) → part ≤ℤ heat
    → (if int_lt part heat then (if b then (heat -ℤ part) else pos 0) else pos 0)
    ≡ (if b then heat else pos 0) -ℤ (if b then part else pos 0)
rest_is b heat part le =
    by_lt_z part heat
    (λ less.
    ap (λ t. if t then (if b then (heat -ℤ part) else pos 0) else pos 0) (int_lt-from part heat less)
    ∙ if_sub b heat part)
    (λ most. none b (int_lt part heat) (omega (arith, ints, le, most)))
  where
    none : (b t : Bool) → heat ≡ part
        → (if t then (if b then (heat -ℤ part) else pos 0) else pos 0)
        ≡ (if b then heat else pos 0) -ℤ (if b then part else pos 0)
    none true true same = omega (arith, ints, same)
    none true false same = omega (arith, ints, same)
    none false true same = refl
    none false false same = refl

sum_moved : (f : Share → ℤ) (shares : List Share) (s : Share) (part : Way)
    → int_sum_by f (shares ++ moved s part)
    ≡ int_sum_by f shares +ℤ ((if int_lt part.left s.heat then f (record s { heat = s.heat -ℤ part.left }) else pos 0)
    +ℤ f (record s { node = part.to; heat = part.left }))
sum_moved f shares s part =
    let both = int_sum_by-append f shares (moved s part) in
    let last = int_sum_by-cons_if f (int_lt part.left s.heat) (record s { heat = s.heat -ℤ part.left })
    (record s { node = part.to; heat = part.left } ∷ []) in
    omega (arith, ints)

module _ (shares : List Share) (s : Share) (part : Way) (le : part.left ≤ℤ s.heat) where
  -- a hot part loses nothing
  moved_of : (a : ℕ) → held_of (shares ++ moved s part) a ≡ held_of (shares ++ s ∷ []) a
  moved_of a =
      let new = sum_moved (λ t. if t.hot == a then t.heat else pos 0) shares s part in
      let old = int_sum_by-append (λ t. if t.hot == a then t.heat else pos 0) shares (s ∷ []) in
      let rest = rest_is (s.hot == a) s.heat part.left le in
      omega (arith, ints)

  -- what the way carries goes from the one node to the other
  moved_at : (v : ℕ) → held_at (shares ++ moved s part) v
      ≡ (held_at (shares ++ s ∷ []) v -ℤ (if s.node == v then part.left else pos 0))
      +ℤ (if part.to == v then part.left else pos 0)
  moved_at v =
      let new = sum_moved (λ t. if t.node == v then t.heat else pos 0) shares s part in
      let old = int_sum_by-append (λ t. if t.node == v then t.heat else pos 0) shares (s ∷ []) in
      let rest = rest_is (s.node == v) s.heat part.left le in
      omega (arith, ints)

module _ (ways after : List Way) (node : ℕ) (most : ℤ) (part : Way)
    (carried : IsCarried ways after node most part) where
  abbrev old_way : Way
  old_way = way_at ways carried.index

  abbrev new_way : Way
  new_way = record { from = old_way.from; to = old_way.to; left = old_way.left -ℤ part.left }

  sum_carried : (f : Way → ℤ) → int_sum_by f after ≡ (int_sum_by f ways -ℤ f old_way) +ℤ f new_way
  sum_carried f = ap (int_sum_by f) carried.is ∙ int_sum_by-set f ways carried.index new_way no_way carried.within

  carried_from : (v : ℕ) → left_from after v ≡ left_from ways v -ℤ (if node == v then part.left else pos 0)
  carried_from v =
      let sum = sum_carried (λ w. if w.from == v then w.left else pos 0) in
      let less = if_sub (old_way.from == v) old_way.left part.left in
      let same = ap (λ n. if n == v then part.left else pos 0) carried.from_is in
      omega (arith, ints)

  carried_into : (v : ℕ) → left_into after v ≡ left_into ways v -ℤ (if part.to == v then part.left else pos 0)
  carried_into v =
      let sum = sum_carried (λ w. if w.to == v then w.left else pos 0) in
      let less = if_sub (old_way.to == v) old_way.left part.left in
      let same = ap (λ n. if n == v then part.left else pos 0) carried.to_is in omega (arith, ints)

  pub carried_in_all : left_in_all after ≡ left_in_all ways -ℤ part.left
  carried_in_all = let sum = sum_carried (λ w. w.left) in omega (arith, ints)

  carried_ways : (hots : ℕ) (links : List Link) → All (IsWay hots links) ways → All (IsWay hots links) after
  carried_ways hots links stand =
      let old = stand carried.index no_way carried.within in
      let way_set = All-set (IsWay hots links) ways carried.index new_way (record {
        link = old.link;
        stands = old.stands;
        from_is = old.from_is;
        to_is = old.to_is;
        later = old.later;
        not_negative = omega (arith, ints);
      }) stand in
      subst (All (IsWay hots links)) (sym carried.is) way_set

-- the shares that a step leaves, as the code pushes them
pub moved_two : (s : Share) (part : Way) (shares first last : List Share) (rest gone : ℤ) → part.left <ℤ s.heat
    → first ≡ shares ++ record { hot = s.hot; node = s.node; heat = rest } ∷ []
    → last ≡ first ++ record { hot = s.hot; node = part.to; heat = gone } ∷ []
    → rest ≡ s.heat -ℤ part.left → gone ≡ part.left → last ≡ shares ++ moved s part
moved_two s part shares first last rest gone less one two rest_is gone_is =
    two ∙ ap₂ (λ xs z. xs ++ record { hot = s.hot; node = part.to; heat = z } ∷ [])
    (one ∙ ap (λ z. shares ++ record { hot = s.hot; node = s.node; heat = z } ∷ []) rest_is) gone_is
    ∙ append_assoc shares (record { hot = s.hot; node = s.node; heat = s.heat -ℤ part.left } ∷ [])
    (record { hot = s.hot; node = part.to; heat = part.left } ∷ [])
    ∙ ap (λ b. shares ++ cons_if b (record { hot = s.hot; node = s.node; heat = s.heat -ℤ part.left })
    (record { hot = s.hot; node = part.to; heat = part.left } ∷ [])) (sym (int_lt-from part.left s.heat less))

pub moved_one : (s : Share) (part : Way) (shares first last : List Share) (gone : ℤ) → s.heat ≤ℤ part.left
    → first ≡ shares
    → last ≡ first ++ record { hot = s.hot; node = part.to; heat = gone } ∷ [] → gone ≡ part.left
    → last ≡ shares ++ moved s part
moved_one s part shares first last gone most one two gone_is =
    let none_left = false_from_ne_true (int_lt part.left s.heat) (λ e.
    let less = int_lt-true part.left s.heat e in
    absurd (omega (arith, ints, less, most))) in
    two ∙ ap₂ (λ xs z. xs ++ record { hot = s.hot; node = part.to; heat = z } ∷ []) one gone_is
    ∙ ap (λ b.
    shares
    ++ cons_if b (record { hot = s.hot; node = s.node; heat = s.heat -ℤ part.left })
    (record { hot = s.hot; node = part.to; heat = part.left } ∷ []))
    (sym none_left)

length_moved : (s : Share) (part : Way) → length (moved s part) ≤ 2
length_moved s part = by (int_lt part.left s.heat)
  where
    by : (b : Bool)
        → length
        (cons_if b (record s { heat = s.heat -ℤ part.left }) (record s { node = part.to; heat = part.left } ∷ []))
        ≤ 2
    by true = omega arith
    by false = omega arith

pub length_passed : (s : Share) (shares after : List Share) (ways ways_after : List Way)
    → HasPassed s shares after ways ways_after
    → length after ≤ length shares + 2
length_passed s shares after ways ways_after passed =
    let is = ap length passed.is in
    let both = length-append shares (moved s passed.part) in
    let few = length_moved s passed.part in
    omega (arith, is, both, few)

-- ---- steps

module _ (hots colds : ℕ) (net : Net) (flow : List ℤ) where
  -- a way leads to a node behind the hot parts
  way_on : IsInner hots colds net → (s : Share) → IsShare hots net s → (w : Way) → IsWay hots net.links w
      → w.from ≡ s.node → (hots ≤ w.to) × (w.to < net.nodes)
      × LeadsTo net.links s.hot w.to
  way_on inner s share w way from_is =
      let is = All-contains (IsInnerLink hots colds net.nodes) net.links way.link inner.links way.stands in
      let before : LeadsTo net.links s.hot way.link.from
      = subst (LeadsTo net.links s.hot) (sym (way.from_is ∙ from_is)) share.leads in
      let led_on = LeadsTo-link net.links s.hot way.link before way.stands in
      (omega arith, omega arith, subst (LeadsTo net.links s.hot) way.to_is led_on)

  module _ (moving there : List Share) (s : Share) (ways : List Way)
      (under_way : IsUnderWay hots colds net flow (moving ++ s ∷ []) there ways) where
    popped : All (IsShare hots net) moving × IsShare hots net s
    popped = All-pop (IsShare hots net) (moving ++ s ∷ []) moving (Some s) refl under_way.moving_shares

    pub share_popped : IsShare hots net s
    share_popped = popped.1

    pub IsUnderWay-arrived : s.node < (hots + colds) → IsUnderWay hots colds net flow moving (there ++ s ∷ []) ways
    IsUnderWay-arrived cold = record {
      moving_shares = popped.0;
      there_shares = All-push (IsShare hots net) there s under_way.there_shares popped.1;
      at_cold = All-push (λ t. t.node < (hots + colds)) there s under_way.at_cold cold;
      ways_stand = under_way.ways_stand;
      given = λ a within.
          let old = under_way.given a within in
          let one = int_sum_by-append (λ t. if t.hot == a then t.heat else pos 0) moving (s ∷ []) in
          let two = int_sum_by-append (λ t. if t.hot == a then t.heat else pos 0) there (s ∷ []) in
          omega (arith, ints);
      balance = λ v behind.
          let old = under_way.balance v behind in
          let one = int_sum_by-append (λ t. if t.node == v then t.heat else pos 0) moving (s ∷ []) in
          let two = int_sum_by-append (λ t. if t.node == v then t.heat else pos 0) there (s ∷ []) in
          omega (arith, ints);
    }

    pub IsUnderWay-passed : IsInner hots colds net → (after : List Share) (ways_after : List Way)
        → HasPassed s moving after ways ways_after
        → IsUnderWay hots colds net flow after there ways_after
    IsUnderWay-passed inner after ways_after passed =
        let part = passed.part in
        let carried = passed.carried in
        let way = under_way.ways_stand carried.index no_way carried.within in
        let (enters, within, leads) = way_on inner s popped.1 (way_at ways carried.index) way carried.from_is in
        let share = popped.1 in
        let left : Share = record s { heat = s.heat -ℤ part.left } in
        let gone : Share = record s { node = part.to; heat = part.left } in
        let left_is : int_lt part.left s.heat ≡ true → IsShare hots net left
        = λ less. let some = int_lt-true part.left s.heat less in
        record {
          hot_in = share.hot_in;
          behind = share.behind;
          node_in = share.node_in;
          positive = omega (arith, ints);
          leads = share.leads;
        } in
        let led = subst (LeadsTo net.links s.hot) carried.to_is leads in
        let gone_is : IsShare hots net gone =
        record {
          hot_in = share.hot_in;
          behind = omega arith;
          node_in = omega arith;
          positive = carried.positive;
          leads = led;
        } in
        record {
          moving_shares =
              let gone_share = All-cons (IsShare hots net) gone [] gone_is (All-nil (IsShare hots net)) in
              let both_shares =
              All-cons_if (IsShare hots net) (int_lt part.left s.heat) left (gone ∷ []) left_is gone_share in
              let all_shares = All-append (IsShare hots net) moving (moved s part) popped.0 both_shares in
              subst (All (IsShare hots net)) (sym passed.is) all_shares;
          there_shares = under_way.there_shares;
          at_cold = under_way.at_cold;
          ways_stand = carried_ways ways ways_after s.node s.heat part carried hots net.links under_way.ways_stand;
          given = λ a a_in.
              let old = under_way.given a a_in in
              let is = ap (λ xs. held_of xs a) passed.is in
              let new = moved_of moving s part carried.limited a in
              omega (arith, ints);
          balance = λ v behind.
              let old = under_way.balance v behind in
              let is = ap (λ xs. held_at xs v) passed.is in
              let new = moved_at moving s part carried.limited v in
              let from = carried_from ways ways_after s.node s.heat part carried v in
              let into = carried_into ways ways_after s.node s.heat part carried v in
              omega (arith, ints);
        }

    -- at a chain node, what is there has a way on
    pub some_way_left : inflow net.links flow s.node ≡ outflow net.links flow s.node → pos 0 <ℤ left_from ways s.node
    some_way_left balances =
        let share = popped.1 in
        let behind = under_way.balance s.node share.behind in
        let at = λ (t : Share). if t.node == s.node then t.heat else pos 0 in
        let into = λ (w : Way). if w.to == s.node then w.left else pos 0 in
        let both = int_sum_by-append at moving (s ∷ []) in
        let here = ap (λ b. if b then s.heat else pos 0) (eq-eqb s.node s.node refl) in
        let others = int_sum_by-not_negative at moving
        (λ k d within. let t = popped.0 k d within in let some = t.positive in
        (if_between ((get_or moving k d).node == s.node) (get_or moving k d).heat (omega (arith, ints))).0) in
        let arrived = int_sum_by-not_negative at there
        (λ k d within. let t = under_way.there_shares k d within in let some = t.positive in
        (if_between ((get_or there k d).node == s.node) (get_or there k d).heat (omega (arith, ints))).0) in
        let coming = int_sum_by-not_negative into ways (λ k d within.
        let w = under_way.ways_stand k d within in
        (if_between ((get_or ways k d).to == s.node) (get_or ways k d).left w.not_negative).0) in
        let positive = share.positive in omega (arith, ints)
