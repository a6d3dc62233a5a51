-- The heat of the links, set out as shares and ways.
use Rattle.chains.proofs.Words.{All-contains, All-nil, All-permutation, All-push, All-weaker, Contains, HaveSetOut, IsFirstShare, IsInner}
use Rattle.chains.proofs.Words.{IsInnerLink, IsPermutation, IsShare, IsUnderWay, IsWay, LeadsTo, Link, Net, Share, Way, flow_on, get_or_default}
use Rattle.chains.proofs.Words.{if_zero, if◌then◌else◌, int_sum_by, int_sum_by-append, ints, link_at, ne_eqb, pos, subst₂, ℤ, ◌+ℤ◌, ◌<ℤ◌}
use Rattle.std.proofs.Common.{List, [], add-one, ap, arith, length, refl, subst, suc, sym, zero, ℕ, ◌++◌, ◌+◌, ◌<◌, ◌==◌, ◌∷◌, ◌≡◌, ◌≢◌, ◌≤◌}
use Rattle.chains.proofs.LinkPaths.{LeadsTo-link, LeadsTo-none}
use Rattle.chains.proofs.ItemSums.{int_sum_by-permutation}

-- a sum of a list with one more element
sum_push : {X : Type 0} (f : X → ℤ) (xs : List X) (x : X) → int_sum_by f (xs ++ x ∷ []) ≡ int_sum_by f xs +ℤ f x
sum_push f xs x = let both = int_sum_by-append f xs (x ∷ []) in omega (arith, ints)

module _ (hots : ℕ) (links : List Link) (flow : List ℤ) where
  module _ (n : ℕ) (shares : List Share) (ways : List Way) (before : HaveSetOut hots links flow n shares ways) where
    abbrev link : Link
    link = link_at links n

    abbrev heat : ℤ
    heat = flow_on flow n

    -- a link that carries nothing
    pub HaveSetOut-pass : heat ≡ pos 0 → HaveSetOut hots links flow (suc n) shares ways
    HaveSetOut-pass none = record {
      first_shares = before.first_shares;
      ways_stand = before.ways_stand;
      some_left = before.some_left;
      given = λ a within. let old = before.given a within in
          let zero = if_zero (link.from == a) heat none in
          omega (arith, ints);
      goes_on = λ v behind. let old = before.goes_on v behind in
          let zero = if_zero (link.from == v) heat none in
          omega (arith, ints);
      enters = λ v. let old = before.enters v in
          let zero = if_zero (link.to == v) heat none in
          omega (arith, ints);
    }

    here : n < length links → Contains links link
    here within =
        (n, within, get_or_default links n link (record { from = 0; to = 0; room = pos 0; cost = pos 0 }) within)

    apart : (a : ℕ) → link.from ≢ a → (if link.from == a then heat else pos 0) ≡ pos 0
    apart a other = ap (λ b. if b then heat else pos 0) (ne_eqb link.from a other)

    -- a link that leaves a hot part
    pub HaveSetOut-share : n < length links → link.from < hots → pos 0 <ℤ heat
        → HaveSetOut hots links flow (suc n) (shares ++ record { hot = link.from; node = link.to; heat = heat } ∷ [])
        ways
    HaveSetOut-share within leaves some =
        let s : Share = record { hot = link.from; node = link.to; heat = heat } in
        record {
          first_shares =
              All-push (IsFirstShare hots links) shares s before.first_shares (record {
                link = link;
                stands = here within;
                from_is = refl;
                to_is = refl;
                hot_in = leaves;
                positive = some;
              });
          ways_stand = before.ways_stand;
          some_left = before.some_left;
          given = λ a within. let old = before.given a within in
              let more = sum_push (λ (t : Share). if t.hot == a then t.heat else pos 0) shares s in
              omega (arith, ints);
          goes_on = λ v behind. let old = before.goes_on v behind in
              let zero = apart v (λ e. absurd (omega (arith, leaves, behind, e))) in
              omega (arith, ints);
          enters = λ v. let old = before.enters v in
              let more = sum_push (λ (t : Share). if t.node == v then t.heat else pos 0) shares s in
              omega (arith, ints);
        }

    -- a link that leaves another node
    pub HaveSetOut-way : n < length links → hots ≤ link.from → pos 0 <ℤ heat
        → HaveSetOut hots links flow (suc n) shares
        (ways ++ record { from = link.from; to = link.to; left = heat } ∷ [])
    HaveSetOut-way within later some =
        let w : Way = record { from = link.from; to = link.to; left = heat } in
        record {
          first_shares = before.first_shares;
          ways_stand =
              All-push (IsWay hots links) ways w before.ways_stand (record {
                link = link;
                stands = here within;
                from_is = refl;
                to_is = refl;
                later = later;
                not_negative = omega (arith, ints, some);
              });
          some_left = All-push (λ x. pos 0 <ℤ x.left) ways w before.some_left some;
          given = λ a within. let old = before.given a within in
              let zero = apart a (λ e. absurd (omega (arith, later, within, e))) in
              omega (arith, ints);
          goes_on = λ v behind. let old = before.goes_on v behind in
              let more = sum_push (λ (x : Way). if x.from == v then x.left else pos 0) ways w in
              omega (arith, ints);
          enters = λ v. let old = before.enters v in
              let more = sum_push (λ (x : Way). if x.to == v then x.left else pos 0) ways w in
              omega (arith, ints);
        }

  -- the same as a loop has it
  pub set_out_step : (n : ℕ) (shares' shares : List Share) (ways' ways : List Way) → shares' ≡ shares → ways' ≡ ways
      → HaveSetOut hots links flow (suc n) shares ways → HaveSetOut hots links flow (n + 1) shares' ways'
  set_out_step n shares' shares ways' ways same also out =
      rw add-one (subst₂ (HaveSetOut hots links flow (suc n)) (sym same) (sym also) out)

-- as heat sets out, all is under way
module _ (hots colds : ℕ) (net : Net) (flow : List ℤ) (inner : IsInner hots colds net) where
  first_share : (s : Share) → IsFirstShare hots net.links s → IsShare hots net s
  first_share s first =
      let is = All-contains (IsInnerLink hots colds net.nodes) net.links first.link inner.links first.stands in
      let before : LeadsTo net.links s.hot first.link.from
      = subst (LeadsTo net.links s.hot) (sym first.from_is) (LeadsTo-none net.links s.hot) in
      let first_leads = LeadsTo-link net.links s.hot first.link before first.stands in
      let leads = subst (LeadsTo net.links s.hot) first.to_is first_leads in
      record {
        hot_in = first.hot_in;
        behind = omega arith;
        node_in = omega arith;
        positive = first.positive;
        leads = leads;
      }

  pub IsUnderWay-first : (shares : List Share) (ways sorted : List Way)
      → HaveSetOut hots net.links flow (length net.links) shares ways
      → IsPermutation ways sorted → IsUnderWay hots colds net flow shares [] sorted
  IsUnderWay-first shares ways sorted out same = record {
    moving_shares = All-weaker (IsFirstShare hots net.links) (IsShare hots net) first_share shares out.first_shares;
    there_shares = All-nil (IsShare hots net);
    at_cold = All-nil (λ s. s.node < (hots + colds));
    ways_stand = All-permutation (IsWay hots net.links) ways sorted same out.ways_stand;
    given = λ a within. let all = out.given a within in omega (arith, ints);
    balance = λ v behind.
        let goes = out.goes_on v behind in
        let comes = out.enters v in
        let from = int_sum_by-permutation (λ (w : Way). if w.from == v then w.left else pos 0) ways sorted same in
        let into = int_sum_by-permutation (λ (w : Way). if w.to == v then w.left else pos 0) ways sorted same in
        omega (arith, ints);
  }
