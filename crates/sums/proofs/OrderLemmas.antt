-- Lists that are fixed by their members and their order.
use Rattle.std.proofs.Common.{All, AllPairs, Contains, IsPermutation, IsSorted, Less, List, [], ap₂, arith, get_or, get_or-append-add, get_or-take, inl, inr}
use Rattle.std.proofs.Common.{int_cmp, int_eq, length, length-append, length-take-le, map, refl, reverse, subst, subst₂, suc, sym, take, zero, ℕ, ℤ, ⊎_elim}
use Rattle.std.proofs.Common.{◌++◌, ◌+◌, ◌-◌, ◌<ℤ◌, ◌<◌, ◌∙◌, ◌∷◌, ◌≡◌, ◌⊎◌}
use Rattle.sums.proofs.Words.{All-append, All-contains, All-head, All-map, All-tail, All-weaker, AllPairs-cons, Contains-dedup, Contains-from_dedup}
use Rattle.sums.proofs.Words.{Contains-get_or, Decides-int_eq, IsStrictlySortedBy, IsStrictlySortedBy-dedup, Less-from_sorted, Lists, ListsFalling, ListsRising}
use Rattle.sums.proofs.Words.{dedup, get_or-reverse, get_or_append_left, get_or_default, int_cmp_total, int_eq_equiv, int_ranked, ints, length-reverse}
use Rattle.std.proofs.lemmas.List.Sorted.{All-permutation, Contains-permutation, IsPermutation-reverse, IsPermutation-sym}

-- a list reversed has its pairs the other way round
pub AllPairs-reverse : {X : Type 0} (R : X → X → Type 0) (xs : List X) → AllPairs R xs
    → AllPairs (λ a b. R b a) (reverse xs)
AllPairs-reverse R xs h i j d before within = let same = length-reverse xs in
    let late : j < length xs = omega (arith, within, same) in
    let early : i < length xs = omega arith in
    subst₂ R (sym (get_or-reverse xs j d late)) (sym (get_or-reverse xs i d early)) (h (length xs - 1 - j) (length xs - 1 - i) d (omega arith) (omega arith))

pub All-reverse : {X : Type 0} (P : X → Type 0) (xs : List X) → All P xs → All P (reverse xs)
All-reverse P xs all = All-permutation P xs (reverse xs) (IsPermutation-reverse xs) all

AllPairs-strictly : (xs : List ℤ) → IsStrictlySortedBy int_cmp xs → AllPairs (λ a b. a <ℤ b) xs
AllPairs-strictly xs h i j d before within =
    int_ranked _ _ Less (sym (Less-from_sorted int_cmp xs i j d h before within))

-- a list reversed stands in the order turned round
pub Lists-reverse : {X : Type 0} (before : X → X → Type 0) (P : X → Type 0) (xs : List X) → Lists before P xs
    → Lists (λ a b. before b a) P (reverse xs)
Lists-reverse before P xs h = let turned = IsPermutation-reverse xs in
    record {
      ordered = AllPairs-reverse before xs h.ordered;
      each = All-reverse P xs h.each;
      every = λ x p. Contains-permutation xs (reverse xs) x turned (h.every x p);
    }

-- what sorting and dropping repeats leaves
pub ListsRising-sorted : (values sorted : List ℤ) → IsPermutation values sorted → IsSorted int_cmp sorted
    → ListsRising (Contains values) (dedup int_eq sorted)
ListsRising-sorted values sorted moved order = let kept = dedup int_eq sorted in
    record {
      ordered = AllPairs-strictly kept (IsStrictlySortedBy-dedup int_cmp_total (λ x y. refl) sorted order);
      each =
          λ k d within. Contains-permutation sorted values (get_or kept k d) (IsPermutation-sym values sorted moved)
          (Contains-from_dedup int_eq sorted (get_or kept k d) (Contains-get_or kept k d within));
      every =
          λ x h. Contains-dedup int_eq_equiv (λ a b. (Decides-int_eq a b).0) sorted x (Contains-permutation values sorted x moved h);
    }

-- ---- pairs of a list made of others

module _ {X : Type 0} (R : X → X → Type 0) where
  pub AllPairs-nil : AllPairs R []
  AllPairs-nil i j d before within = absurd (omega arith)

  pub AllPairs-head : (x : X) (xs : List X) → AllPairs R (x ∷ xs) → All (R x) xs
  AllPairs-head x xs h k d within = h 0 (suc k) d (omega arith) (omega arith)

  pub AllPairs-tail : (x : X) (xs : List X) → AllPairs R (x ∷ xs) → AllPairs R xs
  AllPairs-tail x xs h i j d before within = h (suc i) (suc j) d (omega arith) (omega arith)

  -- in order, in order, and each of the first before each of the second
  pub AllPairs-append : (xs ys : List X) → AllPairs R xs → AllPairs R ys → All (λ x. All (R x) ys) xs
      → AllPairs R (xs ++ ys)
  AllPairs-append [] ys h k across = k
  AllPairs-append (x ∷ xs) ys h k across = AllPairs-cons R x (xs ++ ys) (All-append (R x) xs ys (AllPairs-head x xs h)
      (All-head (λ a. All (R a) ys) x xs across)) (AllPairs-append xs ys (AllPairs-tail x xs h) k (All-tail (λ a. All (R a) ys) x xs across))

  -- each of the two lists, and an element of the first before those of the second
  pub AllPairs-front : (xs ys : List X) → AllPairs R (xs ++ ys) → AllPairs R xs
  AllPairs-front xs ys pairs i j d before within =
      subst₂ R (get_or_append_left xs ys d i (omega (arith, before, within))) (get_or_append_left xs ys d j within)
      (pairs i j d before (omega (arith, within, length-append xs ys)))

  pub AllPairs-across : (xs ys : List X) (i : ℕ) (d : X) → AllPairs R (xs ++ ys) → i < length xs
      → All (R (get_or xs i d)) ys
  AllPairs-across xs ys i d pairs early j e within =
      subst₂ R (get_or_append_left xs ys e i early ∙ get_or_default xs i e d early) (get_or-append-add xs ys j e)
      (pairs i (length xs + j) e (omega (arith, early)) (omega (arith, within, length-append xs ys)))

  -- the elements before one
  pub AllPairs-before : (xs : List X) (i : ℕ) (d : X) → AllPairs R xs → i < length xs
      → All (λ x. R x (get_or xs i d)) (take i xs)
  AllPairs-before xs i d pairs within k e early =
      let inside : k < i = omega (arith, early, length-take-le i xs (omega (arith, within))) in
      subst₂ R (sym (get_or-take i xs k e inside)) (get_or_default xs i e d within) (pairs k i e inside within)

pub AllPairs-map : {X Y : Type 0} (R : Y → Y → Type 0) (f : X → Y) (xs : List X)
    → AllPairs (λ a b. R (f a) (f b)) xs → AllPairs R (map f xs)
AllPairs-map R f [] pairs = AllPairs-nil R
AllPairs-map R f (x ∷ xs) pairs =
    AllPairs-cons R (f x) (map f xs) (All-map (R (f x)) f xs (AllPairs-head (λ a b. R (f a) (f b)) x xs pairs))
    (AllPairs-map R f xs (AllPairs-tail (λ a b. R (f a) (f b)) x xs pairs))

-- ---- one list only

pub Contains-cons : {X : Type 0} (x : X) (xs : List X) (y : X) → Contains (x ∷ xs) y → (x ≡ y) ⊎ Contains xs y
Contains-cons x xs y (zero, within, is) = inl is
Contains-cons x xs y (suc k, within, is) = inr (k, omega arith, is)

module _ {X : Type 0} (before : X → X → Type 0) (one_way : (a b : X) → before a b → before b a → ⊥) where
  Later : (X → Type 0) → X → X → Type 0
  Later P x y = P y × before x y

  Lists-tail : (P : X → Type 0) (x : X) (xs : List X) → Lists before P (x ∷ xs) → Lists before (Later P x) xs
  unfolding Later
  Lists-tail P x xs h = record {
    ordered = AllPairs-tail before x xs h.ordered;
    each = λ k d within. (All-tail P x xs h.each k d within, AllPairs-head before x xs h.ordered k d within);
    every =
        λ y (p, later). ⊎_elim (λ e. let same : before x x = subst (before x) (sym e) later in absurd (one_way x x same same)) (λ found. found)
        (Contains-cons x xs y (h.every y p));
  }

  Lists-head : (P : X → Type 0) (x y : X) (xs ys : List X) → Lists before P (x ∷ xs) → Lists before P (y ∷ ys) → x ≡ y
  Lists-head P x y xs ys h k =
      ⊎_elim (λ e. e) (λ in_xs. ⊎_elim (λ e. sym e) (λ in_ys. absurd (one_way x y (All-contains (before x) xs y (AllPairs-head before x xs h.ordered) in_xs)
      (All-contains (before y) ys x (AllPairs-head before y ys k.ordered) in_ys))) (Contains-cons y ys x (k.every x (All-head P x xs h.each))))
      (Contains-cons x xs y (h.every y (All-head P y ys k.each)))

  none_in_nil : (x : X) → Contains [] x → ⊥
  none_in_nil x (k, within, is) = omega arith

  -- two lists with the same members in the same order are one list, where no two elements come before each other
  pub Lists-unique : (P : X → Type 0) (xs ys : List X) → Lists before P xs → Lists before P ys → xs ≡ ys
  unfolding Later
  Lists-unique P [] [] h k = refl
  Lists-unique P [] (y ∷ ys) h k = absurd (none_in_nil y (h.every y (All-head P y ys k.each)))
  Lists-unique P (x ∷ xs) [] h k = absurd (none_in_nil x (k.every x (All-head P x xs h.each)))
  Lists-unique P (x ∷ xs) (y ∷ ys) h k = let e = Lists-head P x y xs ys h k in
      ap₂ ◌∷◌ e (Lists-unique (Later P x) xs ys (Lists-tail P x xs h) (subst (λ z. Lists before (Later P z) ys) (sym e) (Lists-tail P y ys k)))

pub ListsFalling-unique : (P : ℤ → Type 0) (xs ys : List ℤ) → ListsFalling P xs → ListsFalling P ys → xs ≡ ys
ListsFalling-unique = Lists-unique (λ a b. b <ℤ a) (λ a b h k. omega (arith, ints))

-- the same list for members that are said in another way
pub Lists-same : {X : Type 0} (before : X → X → Type 0) (P Q : X → Type 0) (xs : List X)
    → ((x : X) → P x → Q x) → ((x : X) → Q x → P x) → Lists before P xs
    → Lists before Q xs
Lists-same before P Q xs there back h =
    record { ordered = h.ordered; each = All-weaker P Q there xs h.each; every = λ x q. h.every x (back x q) }
