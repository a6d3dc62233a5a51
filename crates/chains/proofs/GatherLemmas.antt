-- Shares in order, gathered into transfers one after the other.
use Rattle.chains.proofs.ItemSums.{if_add, int_sum_by-front, int_sum_by-permutation, int_sum_by-term}
use Rattle.chains.proofs.Words.{All, All-contains, All-head, All-permutation, All-pop, All-push, All-weaker, AllPairs, AllPairs-across, AllPairs-front}
use Rattle.chains.proofs.Words.{AreGathered, AreOfOnePair, Bor, Called, Cold, ComputesKey, Contains, Contains-append_left, Contains-permutation, Contains-push}
use Rattle.chains.proofs.Words.{Hot, IsAdded, IsJoined, IsNotAfter, IsPermutation, IsPermutation-sym, IsPushed, IsSortedByKey, Mut, Share, Side, Transfer}
use Rattle.chains.proofs.Words.{all_pairs_push, always_returns_same, by_ranked, cases_eq, eq-eqb, false≢true, get_or-take, get_or_default, held_at, held_of}
use Rattle.chains.proofs.Words.{if_between, if◌then◌else◌, int_sum_by, int_sum_by-append, int_sum_by-more, ints, is_lt, length-set, length-take-le, nat_cmp}
use Rattle.chains.proofs.Words.{ne_eqb, ordering_then, pos, precedes-trans, ranked, set, subst₂, take_all, take_more, take_more_set, transfer_of, ℤ, ◌+ℤ◌, ◌<ℤ◌}
use Rattle.chains.proofs.Words.{◌≤ℤ◌}
use Rattle.heat_flow.specs.Flow.{heat_at, part_index, precedes}
use Rattle.std.proofs.Common.{List, Some, [], ap, arith, false, get_or, inl, inr, length, refl, subst, suc, sym, take, zero, ℕ, ⊎_elim, ◌++◌, ◌+◌, ◌-◌, ◌<◌}
use Rattle.std.proofs.Common.{◌==◌, ◌∙◌, ◌∷◌, ◌≡◌, ◌≤◌, ◌⊎◌}

-- ---- shares in order

-- what the sort says of two neighbours
pub not_after : (s t : Share) → is_lt (ordering_then (nat_cmp t.hot s.hot) (nat_cmp t.node s.node)) ≡ false
    → IsNotAfter s t
not_after s t sorted =
    by_ranked (t.hot < s.hot) (t.hot ≡ s.hot) (s.hot < t.hot) (nat_cmp t.hot s.hot)
    (ranked t.hot s.hot (nat_cmp t.hot s.hot) refl)
    (λ is less. absurd (false≢true (sym sorted ∙ ap (λ o. is_lt (ordering_then o (nat_cmp t.node s.node))) is)))
    (λ is same.
    let by_node = sym (ap (λ o. is_lt (ordering_then o (nat_cmp t.node s.node))) is) ∙ sorted in
    by_ranked (t.node < s.node) (t.node ≡ s.node) (s.node < t.node) (nat_cmp t.node s.node)
    (ranked t.node s.node (nat_cmp t.node s.node) refl)
    (λ before less. absurd (false≢true (sym by_node ∙ ap is_lt before)))
    (λ equal tied. inr (sym same, omega (arith, tied))) (λ behind more. inr (sym same, omega (arith, more))))
    (λ is more. inl more)

not_after-trans : (s t u : Share) → IsNotAfter s t → IsNotAfter t u → IsNotAfter s u
not_after-trans s t u (inl less) (inl more) = inl (omega (arith, less, more))
not_after-trans s t u (inl less) (inr same) = let e = same.0 in inl (omega (arith, less, e))
not_after-trans s t u (inr same) (inl more) = let e = same.0 in inl (omega (arith, e, more))
not_after-trans s t u (inr same) (inr also) =
    let one = same.1 in
    let two = also.1 in
    inr (same.0 ∙ also.0, omega (arith, one, two))

-- no share is after the next one
abbrev pub Neighbours : List Share → Type 0
Neighbours shares =
    (k : ℕ) (d : Share) → k + 1 < length shares → IsNotAfter (get_or shares k d) (get_or shares (k + 1) d)

-- from the sort by that key
pub neighbours_from_sort : {F : Type 0} {g : Mut F (Bor Share × Unit {0}) (ℕ × ℕ)} {f : F} (shares : List Share)
    → ((key : Share → ℕ × ℕ) → ComputesKey g key f
    → IsSortedByKey key (λ x y. ordering_then (nat_cmp x.0 y.0) (nat_cmp x.1 y.1)) shares)
    → ((a : Bor Share × Unit {0}) (r : ℕ × ℕ) (f' : F) → Called g f a r f' → (r ≡ (a.0.now.hot, a.0.now.node)) × (f' ≡ f))
    → Neighbours shares
neighbours_from_sort {g = g} {f = f} shares sorted h k d within =
    let returns_key = always_returns_same g (λ a r. r ≡ (a.0.now.hot, a.0.now.node)) f h in
    let in_order = sorted (λ s. (s.hot, s.node)) returns_key k d (omega arith) within in
    not_after (get_or shares k d) (get_or shares (k + 1) d) in_order

not_after_later : (shares : List Share) → Neighbours shares → (n i : ℕ) (d : Share) → i + n < length shares
    → IsNotAfter (get_or shares i d) (get_or shares (i + n) d)
not_after_later shares next zero i d within =
    let at : i ≡ i + zero = omega arith in
    let same = ap (λ k. (get_or shares k d).node) at in
    inr (ap (λ k. (get_or shares k d).hot) at, omega (arith, same))
not_after_later shares next (suc n) i d within =
    let step : i + suc n ≡ i + n + 1 = omega arith in
    let to_later = not_after_later shares next n i d (omega (arith, within)) in
    let to_next = next (i + n) d (omega (arith, within)) in
    let not_after =
    not_after-trans (get_or shares i d) (get_or shares (i + n) d) (get_or shares (i + n + 1) d) to_later to_next in
    subst (λ k. IsNotAfter (get_or shares i d) (get_or shares k d)) (sym step) not_after

-- the shares in front of one are not after it
earlier : (shares : List Share) → Neighbours shares → (i : ℕ) (d : Share) → i < length shares
    → All (λ u. IsNotAfter u (get_or shares i d)) (take i shares)
earlier shares next i d within k e early =
    let inside : k < i = omega (arith, early, length-take-le i shares (omega (arith, within))) in
    let on : k + (i - k) ≡ i = omega (arith, inside) in
    let both = not_after_later shares next (i - k) k e (omega (arith, within, on)) in
    let at_k = sym (get_or-take i shares k e inside) in
    let at_i = ap (λ n. get_or shares n e) on ∙ get_or_default shares i e d within in
    subst₂ IsNotAfter at_k at_i both

-- ---- a transfer added

-- the same cold part, by its node
same_cold : (node hots b : ℕ) → hots ≤ node → ((node - hots) == b) ≡ (node == (hots + b))
same_cold node hots b behind =
    ⊎_elim (λ e. eq-eqb (node - hots) b (omega (arith, e)) ∙ sym (eq-eqb node (hots + b) e)) (λ other.
    ne_eqb (node - hots) b (λ e. other (omega (arith, e, behind))) ∙ sym (ne_eqb node (hots + b) other))
    (cases_eq node (hots + b))

index_of_pair : (side : Side) (s t : Transfer) → AreOfOnePair s t → part_index side s ≡ part_index side t
index_of_pair Hot s t same = same.0
index_of_pair Cold s t same = same.1

-- a part has the heat of the transfer more
added_heat : (side : Side) (a : ℕ) (old : List Transfer) (t : Transfer) (new : List Transfer) → IsAdded old t new
    → heat_at side new a ≡ heat_at side old a +ℤ (if part_index side t == a then t.heat else pos 0)
added_heat side a old t new (inr pushed) =
    let f = λ (u : Transfer). if part_index side u == a then u.heat else pos 0 in
    let is = ap (int_sum_by f) pushed.new_is in
    let both = int_sum_by-append f old (t ∷ []) in omega (arith, ints)
added_heat side a old t new (inl joined) =
    let f = λ (u : Transfer). if part_index side u == a then u.heat else pos 0 in
    let last = joined.last in
    let more : Transfer = record last { heat = last.heat +ℤ t.heat } in
    let was = ap (int_sum_by f) joined.old_is in
    let is = ap (int_sum_by f) joined.new_is in
    let before = int_sum_by-append f joined.front (last ∷ []) in
    let after = int_sum_by-append f joined.front (more ∷ []) in
    let one = ap (λ n. if n == a then more.heat else pos 0) (index_of_pair side more last (refl, refl)) in
    let sum = if_add (part_index side last == a) last.heat t.heat in
    let two = ap (λ n. if n == a then t.heat else pos 0) (index_of_pair side last t joined.one_pair) in
    omega (arith, ints)

-- a transfer of the last pair, written into the last transfer
pub is_joined : (old : List Transfer) (n : ℕ) (last t : Transfer) (heat : ℤ) → n + 1 ≡ length old
    → last ≡ get_or old n last → AreOfOnePair last t
    → heat ≡ last.heat +ℤ t.heat → IsJoined old t (set old n (record { hot = last.hot; cold = last.cold; heat = heat }))
is_joined old n last t heat long read one_pair sum =
    let within : n < length old = omega (arith, long) in
    let more : Transfer = record { hot = last.hot; cold = last.cold; heat = heat } in
    record {
      front = take n old;
      last = last;
      one_pair = one_pair;
      old_is =
          sym (take_all (n + 1) old (omega (arith, long)))
          ∙ (take_more old n last within ∙ ap (λ x. take n old ++ x ∷ []) (sym read));
      new_is =
          let all_taken = take_all (n + 1) (set old n more) (omega (arith, long, length-set old n more)) in
          sym all_taken
          ∙ (take_more_set old n more within
          ∙ ap (λ z. take n old ++ record { hot = last.hot; cold = last.cold; heat = z } ∷ []) sum);
    }

-- the share at an index of shares in order
pub record IsShareAt (hots : ℕ) (most : ℤ) (shares : List Share) (i : ℕ) (s : Share) : Type 0 where
  pub next : Neighbours shares
  pub within : i < length shares
  pub is : (d : Share) → get_or shares i d ≡ s
  pub at_cold : hots ≤ s.node
  pub some : pos 0 <ℤ s.heat
  pub positive : All (λ u. pos 0 <ℤ u.heat) shares
  pub fits : held_of shares s.hot ≤ℤ most

pub share_at : (hots : ℕ) (most : ℤ) (unsorted shares : List Share) → IsPermutation unsorted shares
    → Neighbours shares → All (λ u. hots ≤ u.node) unsorted
    → All (λ u. pos 0 <ℤ u.heat) unsorted → All (λ u. held_of unsorted u.hot ≤ℤ most) unsorted
    → (i : ℕ) (d : Share) → i < length shares
    → IsShareAt hots most shares i (get_or shares i d)
share_at hots most unsorted shares same next at_cold positive fits i d within =
    let s = get_or shares i d in
    let some = All-permutation (λ (u : Share). pos 0 <ℤ u.heat) unsorted shares same positive in
    let upto = All-permutation (λ (u : Share). held_of unsorted u.hot ≤ℤ most) unsorted shares same fits i d within in
    let sum = int_sum_by-permutation (λ (u : Share). if u.hot == s.hot then u.heat else pos 0) unsorted shares same in
    record {
      next = next;
      within = within;
      is = λ e. get_or_default shares i e d within;
      at_cold = All-permutation (λ (u : Share). hots ≤ u.node) unsorted shares same at_cold i d within;
      some = some i d within;
      positive = some;
      fits = omega (arith, ints, upto, sum);
    }

module _ (hots : ℕ) where
  -- one of the shares is of the transfer's pair
  abbrev HasShare : List Share → Transfer → Type 0
  HasShare shares t = (s : Share) × Contains shares s × (s.hot ≡ t.hot) × (s.node ≡ hots + t.cold)

  module _ (most : ℤ) (shares : List Share) (i : ℕ) (s : Share) (at : IsShareAt hots most shares i s)
      (transfers new : List Transfer) (before : AreGathered hots (take i shares) transfers) where
    abbrev t : Transfer
    t = transfer_of hots s

    -- one share more
    front_is : take (i + 1) shares ≡ take i shares ++ s ∷ []
    front_is = take_more shares i s at.within ∙ ap (λ u. take i shares ++ u ∷ []) (at.is s)

    more_shares : (u : Transfer) → HasShare (take i shares) u → HasShare (take (i + 1) shares) u
    more_shares u (r, stands, hot, node) =
        let in_front = Contains-append_left (take i shares) (s ∷ []) r stands in
        (r, subst (λ xs. Contains xs r) (sym front_is) in_front, hot, node)

    this_share : (u : Transfer) → AreOfOnePair u t → HasShare (take (i + 1) shares) u
    this_share u pair = let cold = pair.1 in (
      s,
      subst (λ xs. Contains xs s) (sym front_is) (Contains-push (take i shares) s),
      sym pair.0,
      omega (arith, cold, at.at_cold),
    )

    -- the transfers so far are not after it
    so_far : All (λ u. (u.hot < t.hot) ⊎ ((u.hot ≡ t.hot) × (u.cold ≤ t.cold))) transfers
    so_far k d k_in =
        let (r, stands, hot, node) = before.pairs k d k_in in
        let before_i = earlier shares at.next i s at.within in
        let order = All-contains (λ v. IsNotAfter v s) (take i shares) r
        (subst (λ v. All (λ w. IsNotAfter w v) (take i shares)) (at.is s) before_i) stands in
        ⊎_elim (λ less. inl (omega (arith, less, hot))) (λ same.
        let low = same.1 in
        inr (sym hot ∙ same.0, omega (arith, low, node, at.at_cold))) order

    sum_more : (f : Share → ℤ) → int_sum_by f (take (i + 1) shares) ≡ int_sum_by f (take i shares) +ℤ f s
    sum_more f = int_sum_by-more f shares i s at.within ∙ ap (λ u. int_sum_by f (take i shares) +ℤ f u) (at.is s)

    held_more : (a : ℕ) → held_of (take (i + 1) shares) a
        ≡ held_of (take i shares) a +ℤ (if s.hot == a then s.heat else pos 0)
    held_more a = sum_more (λ u. if u.hot == a then u.heat else pos 0)

    held_at_more : (v : ℕ) → held_at (take (i + 1) shares) v
        ≡ held_at (take i shares) v +ℤ (if s.node == v then s.heat else pos 0)
    held_at_more v = sum_more (λ u. if u.node == v then u.heat else pos 0)

    given_more : IsAdded transfers t new → (a : ℕ) → heat_at Hot new a ≡ held_of (take (i + 1) shares) a
    given_more added a =
        let old = before.given a in
        let more = held_more a in
        let heat = added_heat Hot a transfers t new added in
        omega (arith, ints)

    taken_more : IsAdded transfers t new → (b : ℕ) → heat_at Cold new b ≡ held_at (take (i + 1) shares) (hots + b)
    taken_more added b =
        let old = before.taken b in
        let more = held_at_more (hots + b) in
        let heat = added_heat Cold b transfers t new added in
        let same = ap (λ test. if test then s.heat else pos 0) (same_cold s.node hots b at.at_cold) in
        omega (arith, ints)

    -- behind transfers of which the last one is of another pair
    behind : IsPushed transfers t new → (k : ℕ) (d : Transfer) → k < length transfers
        → precedes (get_or transfers k d) t
    behind pushed k d k_in =
        let last = length transfers - 1 in
        let another = pushed.another_pair d (omega (arith, k_in)) in
        let by_last : precedes (get_or transfers last d) t =
        ⊎_elim (λ less. inl less)
        (λ same. let low = same.1 in
        inr (
          same.0,
          ⊎_elim (λ e. absurd (another (same.0, e))) (λ other. omega (arith, low, other))
              (cases_eq (get_or transfers last d).cold t.cold),
        ))
        (so_far last d (omega (arith, k_in))) in
        ⊎_elim (λ e. subst (λ n. precedes (get_or transfers n d) t) (sym e) by_last) (λ other.
        let before_last = before.ordered k last d (omega (arith, k_in, other)) (omega (arith, k_in)) in
        precedes-trans (get_or transfers k d) (get_or transfers last d) t before_last by_last) (cases_eq k last)

    pub AreGathered-more : IsAdded transfers t new → AreGathered hots (take (i + 1) shares) new
    AreGathered-more (inr pushed) = record {
      positive =
          let all_positive = All-push (λ u. pos 0 <ℤ u.heat) transfers t before.positive at.some in
          subst (All (λ u. pos 0 <ℤ u.heat)) (sym pushed.new_is) all_positive;
      ordered =
          let all_ordered = all_pairs_push precedes transfers t before.ordered (behind pushed) in
          subst (AllPairs precedes) (sym pushed.new_is) all_ordered;
      pairs =
          let old_pairs =
          All-weaker (HasShare (take i shares)) (HasShare (take (i + 1) shares)) more_shares transfers before.pairs in
          let all_pairs = All-push (HasShare (take (i + 1) shares)) transfers t old_pairs (this_share t (refl, refl)) in
          subst (All (HasShare (take (i + 1) shares))) (sym pushed.new_is) all_pairs;
      given = given_more (inr pushed);
      taken = taken_more (inr pushed);
    }
    AreGathered-more (inl joined) =
        let front = joined.front in
        let last = joined.last in
        let more : Transfer = record last { heat = last.heat +ℤ t.heat } in
        let positive =
        All-pop (λ (u : Transfer). pos 0 <ℤ u.heat) transfers front (Some last) joined.old_is before.positive in
        let pairs = All-pop (HasShare (take i shares)) transfers front (Some last) joined.old_is before.pairs in
        let ordered = subst (AllPairs precedes) joined.old_is before.ordered in
        record {
          positive =
              let all_positive = All-push (λ u. pos 0 <ℤ u.heat) front more positive.0
              (let had = positive.1 in omega (arith, ints, had, at.some)) in
              subst (All (λ u. pos 0 <ℤ u.heat)) (sym joined.new_is) all_positive;
          ordered =
              let front_ordered = AllPairs-front precedes front (last ∷ []) ordered in
              let all_ordered = all_pairs_push precedes front more front_ordered (λ k d k_in.
              All-head (precedes (get_or front k d)) last []
              (AllPairs-across precedes front (last ∷ []) k d ordered k_in)) in
              subst (AllPairs precedes) (sym joined.new_is) all_ordered;
          pairs =
              let old_pairs =
              All-weaker (HasShare (take i shares)) (HasShare (take (i + 1) shares)) more_shares front pairs.0 in
              let all_pairs =
              All-push (HasShare (take (i + 1) shares)) front more old_pairs (this_share more joined.one_pair) in
              subst (All (HasShare (take (i + 1) shares))) (sym joined.new_is) all_pairs;
          given = given_more (inl joined);
          taken = taken_more (inl joined);
        }

    -- what is gathered of its hot part leaves room for it
    pub room_for_it : All (λ (u : Transfer). u.hot ≡ s.hot → (u.heat +ℤ s.heat) ≤ℤ most) transfers
    room_for_it k d k_in same =
        let u = get_or transfers k d in
        let f = λ (v : Transfer). if v.hot == s.hot then v.heat else pos 0 in
        let g = λ (v : Share). if v.hot == s.hot then v.heat else pos 0 in
        let term = int_sum_by-term f transfers
        (λ j c j_in. let had = before.positive j c j_in in
        (if_between ((get_or transfers j c).hot == s.hot) (get_or transfers j c).heat (omega (arith, ints, had))).0) k d
        k_in in
        let one = ap (λ b. if b then u.heat else pos 0) (eq-eqb u.hot s.hot same) in
        let two = ap (λ b. if b then s.heat else pos 0) (eq-eqb s.hot s.hot refl) in
        let gathered = before.given s.hot in
        let more = held_more s.hot in
        let fits = at.fits in
        let upto = int_sum_by-front g (i + 1) shares (λ j c j_in.
        let had = at.positive j c j_in in
        (if_between ((get_or shares j c).hot == s.hot) (get_or shares j c).heat (omega (arith, ints, had))).0) in
        omega (arith, ints)

  -- gathered in one order, gathered in any
  pub AreGathered-permutation : (shares sorted : List Share) (transfers : List Transfer)
      → IsPermutation shares sorted → AreGathered hots sorted transfers
      → AreGathered hots shares transfers
  AreGathered-permutation shares sorted transfers same gathered = record {
    positive = gathered.positive;
    ordered = gathered.ordered;
    pairs =
        All-weaker (HasShare sorted) (HasShare shares) (λ t has.
        (has.0, Contains-permutation sorted shares has.0 (IsPermutation-sym shares sorted same) has.1, has.2, has.3))
        transfers gathered.pairs;
    given =
        λ a. gathered.given a ∙ int_sum_by-permutation (λ s. if s.hot == a then s.heat else pos 0) shares sorted same;
    taken =
        λ b.
        gathered.taken b
        ∙ int_sum_by-permutation (λ s. if s.node == (hots + b) then s.heat else pos 0) shares sorted same;
  }
