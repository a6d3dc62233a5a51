-- A flow that is under way no more: all ways have carried their heat, and the transfers of the shares are those of the
-- flow.
use Rattle.chains.proofs.Words.{All, All-contains, AreGathered, IsBounded, IsHeatOf, IsInner, IsInnerLink, IsShare, IsSpread, IsUnderWay, IsWay}
use Rattle.chains.proofs.Words.{LeadsTo, Link, MOST_HEAT, Net, Part, Share, Transfer, Way, cases_eq, eq-eqb, flow_on, held_at, held_of, if_between}
use Rattle.chains.proofs.Words.{if_zero, if◌then◌else◌, inflow, int_sum_by-not_negative, int_sum_by-zero, ints, left_from, left_in_all, left_into}
use Rattle.chains.proofs.Words.{link_at, ne_eqb, negsuc, outflow, pos, slice_get-get_or, sum_below-zero, unsigned_abs, ℤ, ◌*◌, ◌<ℤ◌, ◌≤ℤ◌}
use Rattle.std.proofs.Common.{List, [], ap, arith, get_or, length, subst, suc, sym, zero, ℕ, ⊎_elim, ◌+◌, ◌<◌, ◌==◌, ◌∙◌, ◌∷◌, ◌≡◌, ◌≤◌}
use Rattle.chains.proofs.ItemSums.{int_sum_by-none}

module _ (hots colds : ℕ) (net : Net) (flow : List ℤ) (inner : IsInner hots colds net)
    (balances : (v : ℕ) → (hots + colds) ≤ v → v < net.nodes → inflow net.links flow v ≡ outflow net.links flow v)
    (there : List Share) (ways : List Way) (ended : IsUnderWay hots colds net flow [] there ways) where
  -- a way leaves a chain node, and goes on to later ones alone
  record IsChainWay (w : Way) : Type 0 where
    chain : (hots + colds) ≤ w.from
    from_in : w.from < net.nodes
    onward : (hots + colds) ≤ w.to → w.from < w.to

  chain_way : (w : Way) → IsWay hots net.links w → IsChainWay w
  chain_way w way =
      let is = All-contains (IsInnerLink hots colds net.nodes) net.links way.link inner.links way.stands in
      let chain : (hots + colds) ≤ w.from = ⊎_elim (λ hot. absurd (omega arith)) (λ behind. omega arith) is.leaves in
      record {
        chain = chain;
        from_in = omega arith;
        onward = λ ends. let on = is.onward (omega arith) (omega arith) in omega arith;
      }

  -- the shares stand at cold parts
  none_at_chains : (v : ℕ) → (hots + colds) ≤ v → held_at there v ≡ pos 0
  none_at_chains v chain = int_sum_by-zero (λ s. if s.node == v then s.heat else pos 0) there
      (λ k d within. let cold = ended.at_cold k d within in
      let not_at = ne_eqb (get_or there k d).node v (λ e. absurd (omega (arith, cold, chain, e))) in
      ap (λ b. if b then (get_or there k d).heat else pos 0) not_at)

  -- the ways from the nodes below a number have nothing left
  abbrev NoneLeftBelow : ℕ → Type 0
  NoneLeftBelow n = All (λ w. w.from < n → w.left ≡ pos 0) ways

  none_into : (n : ℕ) → (hots + colds) ≤ n → NoneLeftBelow n → left_into ways n ≡ pos 0
  none_into n chain below = int_sum_by-zero (λ w. if w.to == n then w.left else pos 0) ways (λ k d within.
      let w = get_or ways k d in
      let is = chain_way w (ended.ways_stand k d within) in
      ⊎_elim (λ e.
      let on = is.onward (omega (arith, chain, e)) in
      if_zero (w.to == n) w.left (below k d within (omega (arith, on, e)))) (λ other.
      ap (λ b. if b then w.left else pos 0) (ne_eqb w.to n other)) (cases_eq w.to n))

  none_from : (n : ℕ) → (hots + colds) ≤ n → n < net.nodes → NoneLeftBelow n → left_from ways n ≡ pos 0
  none_from n chain within below =
      let balance = ended.balance n (omega (arith, chain)) in
      let here = none_at_chains n chain in
      let into = none_into n chain below in
      let same = balances n chain within in omega (arith, ints)

  none_here : (n : ℕ) → NoneLeftBelow n → (k : ℕ) (d : Way) → k < length ways → (get_or ways k d).from ≡ n
      → (get_or ways k d).left ≡ pos 0
  none_here n below k d within e =
      let w = get_or ways k d in
      let is = chain_way w (ended.ways_stand k d within) in
      let none = none_from n (omega arith) (omega arith) below in
      let terms = int_sum_by-none (λ (x : Way). if x.from == n then x.left else pos 0) ways (λ j c inside.
      (if_between ((get_or ways j c).from == n) (get_or ways j c).left (ended.ways_stand j c inside).not_negative).0)
      none in
      ap (λ b. if b then w.left else pos 0) (sym (eq-eqb w.from n e)) ∙ terms k d within

  none_below : (n : ℕ) → NoneLeftBelow n
  none_below zero k d within less = absurd (omega (arith, less))
  none_below (suc n) k d within less =
      let below = none_below n in
      ⊎_elim (λ e. none_here n below k d within e) (λ other.
      below k d within (omega (arith, less, other))) (cases_eq (get_or ways k d).from n)

  none_left : All (λ w. w.left ≡ pos 0) ways
  none_left k d within =
      none_below net.nodes k d within (chain_way (get_or ways k d) (ended.ways_stand k d within)).from_in

  -- no link leaves a cold part
  none_leaves : (b : ℕ) → b < colds → outflow net.links flow (hots + b) ≡ pos 0
  none_leaves b cold =
      sum_below-zero (length net.links)
      (λ k. if (link_at net.links k).from == (hots + b) then flow_on flow k else pos 0) (λ k within.
      let leaves = (inner.links k (record { from = 0; to = 0; room = pos 0; cost = pos 0 }) within).leaves in
      ap (λ t. if t then flow_on flow k else pos 0) (ne_eqb (link_at net.links k).from (hots + b)
      (λ e. ⊎_elim (λ hot. absurd (omega (arith, hot, e))) (λ chain. absurd (omega (arith, chain, e, cold))) leaves)))

  -- so all that enters a cold part is there
  all_there : (b : ℕ) → b < colds → held_at there (hots + b) ≡ inflow net.links flow (hots + b)
  all_there b cold =
      let balance = ended.balance (hots + b) (omega arith) in
      let into = int_sum_by-zero (λ w. if w.to == (hots + b) then w.left else pos 0) ways
      (λ k d within. if_zero ((get_or ways k d).to == (hots + b)) (get_or ways k d).left (none_left k d within)) in
      let from = int_sum_by-zero (λ w. if w.from == (hots + b) then w.left else pos 0) ways
      (λ k d within. if_zero ((get_or ways k d).from == (hots + b)) (get_or ways k d).left (none_left k d within)) in
      let leaves = none_leaves b cold in omega (arith, ints)

  all_given : (a : ℕ) → a < hots → held_of there a ≡ outflow net.links flow a
  all_given a within = let given = ended.given a within in omega (arith, ints)

  pub IsSpread-gathered : (transfers : List Transfer) → AreGathered hots there transfers
      → IsSpread hots colds net.links flow transfers
  IsSpread-gathered transfers gathered = record {
    positive = gathered.positive;
    ordered = gathered.ordered;
    hot_indexes = λ k d within. let (s, stands, hot, node) = gathered.pairs k d within in
        let share = All-contains (IsShare hots net) there s ended.there_shares stands in
        let hot_in = share.hot_in in
        omega (arith, hot, hot_in);
    cold_indexes = λ k d within. let (s, stands, hot, node) = gathered.pairs k d within in
        let cold = All-contains (λ t. t.node < (hots + colds)) there s ended.at_cold stands in
        omega (arith, node, cold);
    joined = λ k d within. let (s, stands, hot, node) = gathered.pairs k d within in
        let share = All-contains (IsShare hots net) there s ended.there_shares stands in
        subst (λ a. LeadsTo net.links a (hots + (get_or transfers k d).cold)) hot
        (subst (LeadsTo net.links s.hot) node share.leads);
    given = λ a within. gathered.given a ∙ all_given a within;
    taken = λ b within. gathered.taken b ∙ all_there b within;
  }

-- what a hot part gives is within the limits
pub given_fits : (hot cold : List Part) (net : Net) (flow : List ℤ) (there : List Share) (ways : List Way)
    → All IsBounded hot → IsHeatOf hot cold net flow
    → IsUnderWay (length hot) (length cold) net flow [] there ways → All (λ s. held_of there s.hot ≤ℤ MOST_HEAT) there
given_fits [] cold net flow there ways bounded heat ended k d within =
    let share = ended.there_shares k d within in
    absurd (omega arith)
given_fits (q ∷ hot) cold net flow there ways bounded heat ended k d within =
    let a = (get_or there k d).hot in
    let a_in = (ended.there_shares k d within).hot_in in
    let given = ended.given a a_in in
    let upto = heat.given a (get_or (q ∷ hot) a q) (slice_get-get_or (q ∷ hot) a q a_in) in
    let most = (bounded a q a_in).most in
    omega (arith, ints)

-- the measure of a step falls: less heat is left to carry, and one share more may wait
pub carried_smaller : (old new : ℤ) (m n : ℕ) → pos 0 ≤ℤ new → new <ℤ old → n ≤ m + 1
    → 2 * unsigned_abs new + n < 2 * unsigned_abs old + m
carried_smaller (pos a) (pos b) m n from less few = omega (arith, ints, less, few)
carried_smaller (pos a) (negsuc b) m n from less few = absurd (omega (arith, ints, from))
carried_smaller (negsuc a) (pos b) m n from less few = absurd (omega (arith, ints, less))
carried_smaller (negsuc a) (negsuc b) m n from less few = absurd (omega (arith, ints, from))

-- no way has less than nothing left
pub left_not_negative : (hots : ℕ) (links : List Link) (ways : List Way) → All (IsWay hots links) ways
    → pos 0 ≤ℤ left_in_all ways
left_not_negative hots links ways stand =
    int_sum_by-not_negative (λ (w : Way). w.left) ways (λ k d within. (stand k d within).not_negative)
