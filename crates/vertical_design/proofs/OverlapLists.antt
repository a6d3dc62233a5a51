-- The pairs of two lists of amounts that overlap, in order: which ones they are, and how few.
use Rattle.vertical_design.proofs.Words.{All-cons, All-flat_map, All-head, All-nil, All-tail, All-weaker, AllPairs-append, AllPairs-cons}
use Rattle.vertical_design.proofs.Words.{AllPairs-nil, Contains-flat_map, IsOverlap, Lists, ListsOverlaps, NotNegative, Option, Pair, cases_lt}
use Rattle.vertical_design.proofs.Words.{clamps, cons_option, filter_map, flat_map, get_or-range_with_len, int_lt, int_lt-from, int_lt-true, ints}
use Rattle.vertical_design.proofs.Words.{length-range_with_len, option_to_list, overlap, pair_before, pair_of, pairs_of, range_with_len}
use Rattle.std.proofs.Common.{All, AllPairs, Bool, List, None, Some, [], ap, arith, false, get_or, if◌then◌else◌, inl, inr, length, pos, refl, suc}
use Rattle.std.proofs.Common.{sym, true, zero-add, ℕ, ℤ, ⊎_elim, ◌++◌, ◌+◌, ◌<ℤ◌, ◌<◌, ◌∙◌, ◌∷◌, ◌≡◌, ◌≤ℤ◌, ◌≤◌}
use Rattle.sums.proofs.OrderLemmas.{AllPairs-head, AllPairs-tail, Lists-same, Lists-unique}
use Rattle.sums.proofs.WalkLemmas.{begin_of-rises, begin_of-suc, pair_one_way}

-- ---- a list that is made item by item of another one

module _ {X Y : Type 0} (R : X → X → Type 0) (S : Y → Y → Type 0) (P : X → Type 0) (Q : X → Y → Type 0) (f : X → List Y)
    (inner : (x : X) → P x → Lists S (Q x) (f x)) (cross : (x z : X) → R x z → (y w : Y) → Q x y → Q z w → S y w) where
  ordered_flat : (xs : List X) → All P xs → AllPairs R xs → AllPairs S (flat_map f xs)
  ordered_flat [] each ordered = AllPairs-nil S
  ordered_flat (x ∷ xs) each ordered =
      let here = inner x (All-head P x xs each) in
      let others = ordered_flat xs (All-tail P x xs each) (AllPairs-tail R x xs ordered) in
      AllPairs-append S (f x) (flat_map f xs) here.ordered others
      (All-weaker (Q x) (λ y. All (S y) (flat_map f xs)) (λ y q. All-flat_map (S y) f xs (λ k o within.
      let z = get_or xs k o in
      All-weaker (Q z) (S y) (λ w r. cross x z (AllPairs-head R x xs ordered k o within) y w q r) (f z)
      (inner z (All-tail P x xs each k o within)).each)) (f x) here.each)

  abbrev IsInner : Y → Type 0
  IsInner y = (x : X) × P x × Q x y

  lists_flat : (xs : List X) → Lists R P xs → Lists S IsInner (flat_map f xs)
  lists_flat xs lists = record {
    ordered = ordered_flat xs lists.each lists.ordered;
    each =
        let inner_each = All-weaker P (λ x. All IsInner (f x)) (λ x p.
        All-weaker (Q x) IsInner (λ y q. (x, p, q)) (f x) (inner x p).each) xs lists.each in
        All-flat_map IsInner f xs inner_each;
    every = λ y (x, p, q). Contains-flat_map f xs x y (lists.every x p) ((inner x p).every y q);
  }

lists_range : (n : ℕ) → Lists (λ a b. a < b) (λ i. i < n) (range_with_len 0 n)
lists_range n =
    let long = length-range_with_len 0 n in
    let item = get_or-range_with_len 0 n in
    record {
      ordered =
          λ i j d before within.
          omega (arith, before, item i d (omega (arith, long, before, within)), item j d (omega (arith, long, within)));
      each = λ i d within. omega (arith, long, within, item i d (omega (arith, long, within)));
      every = λ i less. (i, omega (arith, long, less), item i i less ∙ zero-add i);
    }

filter_map-flat : {X Y : Type 0} (h : X → Option Y) (xs : List X)
    → filter_map h xs ≡ flat_map (λ x. option_to_list (h x)) xs
filter_map-flat h [] = refl
filter_map-flat {X} {Y} h (x ∷ xs) = by (h x) (filter_map-flat h xs)
  where
    by : {ys zs : List Y} (o : Option Y) → ys ≡ zs → cons_option o ys ≡ option_to_list o ++ zs
    by None rest = rest
    by (Some y) rest = ap (λ ys. y ∷ ys) rest

-- ---- exactly the pairs that overlap, in order

module _ (us vs : List ℤ) where
  abbrev pair_at : ℕ → ℕ → Pair
  pair_at i j = record { first = i; second = j; amount = overlap us vs i j }

  abbrev IsPairAt : ℕ → ℕ → Pair → Type 0
  IsPairAt i j p = (pos 0 <ℤ overlap us vs i j) × (p ≡ pair_at i j)

  lists_one : (i j : ℕ) → Lists pair_before (IsPairAt i j) (option_to_list (pair_of us vs i j))
  lists_one i j = by (int_lt (pos 0) (overlap us vs i j)) refl
    where
      by : (b : Bool) → int_lt (pos 0) (overlap us vs i j) ≡ b
          → Lists pair_before (IsPairAt i j) (option_to_list (if b then Some (pair_at i j) else None))
      by true is = record {
        ordered =
            AllPairs-cons pair_before (pair_at i j) [] (All-nil (pair_before (pair_at i j))) (AllPairs-nil pair_before);
        each =
            All-cons (IsPairAt i j) (pair_at i j) [] (int_lt-true (pos 0) (overlap us vs i j) is, refl)
            (All-nil (IsPairAt i j));
        every = λ p own. (0, omega arith, sym own.1);
      }
      by false is = record {
        ordered = AllPairs-nil pair_before;
        each = All-nil (IsPairAt i j);
        every = λ p own. let holds = sym (int_lt-from (pos 0) (overlap us vs i j) own.0) ∙ is in
            cc holds;
      }

  -- those of one index of the first list
  abbrev IsInRow : ℕ → Pair → Type 0
  IsInRow i p = (j : ℕ) × (j < length vs) × IsPairAt i j p

  lists_row : (i : ℕ) → Lists pair_before (IsInRow i) (filter_map (pair_of us vs i) (range_with_len 0 (length vs)))
  lists_row i =
      let listed = lists_flat (λ a b. a < b) pair_before (λ j. j < length vs) (IsPairAt i)
      (λ j. option_to_list (pair_of us vs i j)) (λ j within. lists_one i j)
      (λ j k less p q one other. rw (one.1, other.1) (inr (refl, less))) (range_with_len 0 (length vs))
      (lists_range (length vs)) in
      rw filter_map-flat listed

  pub ListsOverlaps-pairs_of : ListsOverlaps us vs (pairs_of us vs)
  unfolding pairs_of
  ListsOverlaps-pairs_of =
      Lists-same pair_before (λ p. (i : ℕ) × (i < length us) × IsInRow i p) (IsOverlap us vs) (pairs_of us vs)
      (λ p (i, first, (j, second, (some, is))). rw is (record {
        first_within = first;
        second_within = second;
        amount = refl;
        positive = some;
      })) (λ p is.
      let same : p ≡ pair_at p.first p.second
      = ap (λ x. record { first = p.first; second = p.second; amount = x }) is.amount in
      let here : IsPairAt p.first p.second p = (omega (arith, ints, is.amount, is.positive), same) in
      (p.first, is.first_within, (p.second, is.second_within, here)))
      (lists_flat (λ a b. a < b) pair_before (λ i. i < length us) IsInRow
      (λ i. filter_map (pair_of us vs i) (range_with_len 0 (length vs))) (λ i within. lists_row i)
      (λ i k less p q one other. rw (one.2.1, other.2.1) (inl less)) (range_with_len 0 (length us))
      (lists_range (length us)))

  pub pairs_are : (ps : List Pair) → ListsOverlaps us vs ps → ps ≡ pairs_of us vs
  pairs_are ps lists =
      Lists-unique pair_before pair_one_way (IsOverlap us vs) ps (pairs_of us vs) lists ListsOverlaps-pairs_of

-- ---- a share is no more than the two amounts

pub overlap-within : (us vs : List ℤ) (i j : ℕ)
    → (overlap us vs i j ≤ℤ get_or us i (pos 0)) × (overlap us vs i j ≤ℤ get_or vs j (pos 0))
overlap-within us vs i j =
    let one = begin_of-suc us i in
    let other = begin_of-suc vs j in
    (omega (arith, ints, clamps), omega (arith, ints, clamps))

-- ---- few pairs

abbrev steps : Pair → ℕ
steps p = p.first + p.second

-- along the staircase each pair is further than the one before it
further_on : (us vs : List ℤ) → NotNegative us → NotNegative vs → (p q : Pair) → IsOverlap us vs p
    → IsOverlap us vs q → pair_before p q → steps p < steps q
further_on us vs some_us some_vs p q one other (inr (same, less)) = omega (arith, same, less)
further_on us vs some_us some_vs p q one other (inl less) =
    ⊎_elim (λ back. absurd (never back)) (λ upto. omega (arith, less, upto)) (cases_lt q.second p.second)
  where
    never : q.second < p.second → ⊥
    never back =
        let u = begin_of-rises us some_us (suc p.first) q.first (omega (arith, less)) in
        let v = begin_of-rises vs some_vs (suc q.second) p.second (omega (arith, back)) in
        omega (arith, ints, clamps)

few_steps : (high : ℕ) (ps : List Pair) → AllPairs (λ p q. steps p < steps q) ps → All (λ p. steps p < high) ps
    → (low : ℕ) → All (λ p. low ≤ steps p) ps → low ≤ high → length ps + low ≤ high
few_steps high [] rise upto low from le = omega (arith, le)
few_steps high (p ∷ ps) rise upto low from le =
    let last = All-head (λ q. steps q < high) p ps upto in
    let others_rise = AllPairs-tail (λ a b. steps a < steps b) p ps rise in
    let others_upto = All-tail (λ q. steps q < high) p ps upto in
    let rest = few_steps high ps others_rise others_upto (steps p + 1) (λ k o within.
    let less = AllPairs-head (λ a b. steps a < steps b) p ps rise k o within in
    omega arith) (omega arith) in
    omega (arith, rest, All-head (λ q. low ≤ steps q) p ps from)

pub few_pairs : (us vs : List ℤ) → NotNegative us → NotNegative vs → length (pairs_of us vs) ≤ length us + length vs
few_pairs us vs some_us some_vs =
    let lists = ListsOverlaps-pairs_of us vs in
    let few = few_steps (length us + length vs) (pairs_of us vs)
    (λ i j d before within.
    further_on us vs some_us some_vs _ _ (lists.each i d (omega arith)) (lists.each j d within)
    (lists.ordered i j d before within))
    (λ i d within. let is = lists.each i d within in omega arith) 0 (λ i d within. omega arith) (omega arith) in
    omega arith
