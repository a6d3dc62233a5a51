-- How many elements a list has.
use Rattle.std.proofs.Common.{All, AllPairs, Bool, Contains, List, None, Some, [], ap, arith, cond, count_by, false, find, le-ltb, length, lt-ltb, ltb-false}
use Rattle.std.proofs.Common.{ltb-true, map, nat_lt, refl, slice_get, suc, sym, true, zero-add, ℕ, ℤ, ◌+◌, ◌<ℤ◌, ◌<◌, ◌||◌, ◌∙◌, ◌∷◌, ◌≡◌, ◌≤◌}
use Rattle.sums.proofs.Words.{All-contains, Decides-int_eq, false_from_ne_true, false≢true, fold-map, int_eq_equiv, ints, list_any, list_any_at, sum_by-cons}
use Rattle.std.proofs.lemmas.Map.Made.{IsDistinct-from_AllPairs, is_member-Decides, length-le_from_is_member}

-- few members: a falling list whose members all stand in another list is no longer than that one
pub length-le_falling : (xs ys : List ℤ) → AllPairs (λ a b. b <ℤ a) xs → All (Contains ys) xs → length xs ≤ length ys
length-le_falling xs ys falls within =
    length-le_from_is_member int_eq_equiv xs ys (IsDistinct-from_AllPairs Decides-int_eq xs
    (λ i j d before inside e. let h = falls i j d before inside in omega (arith, ints))) (λ q member. (is_member-Decides Decides-int_eq ys q).1
    (All-contains (Contains ys) xs q within ((is_member-Decides Decides-int_eq xs q).0 member)))

-- one for a test that holds
one_le : (a b : Bool) → (a ≡ true → b ≡ true) → cond a 1 0 ≤ cond b 1 0
one_le true b h = rw (h refl) (omega arith)
one_le false b h = omega arith

both_le : (a b c : Bool) → (a ≡ true → b ≡ false) → (a ≡ true → c ≡ true) → (b ≡ true → c ≡ true)
    → cond a 1 0 + cond b 1 0 ≤ cond c 1 0
both_le true b c h k l = rw (h refl, k refl) (omega arith)
both_le false b c h k l = rw zero-add (one_le b c l)

module _ {X : Type 0} where
  pub count_by-cons : (p : X → Bool) (x : X) (xs : List X) → count_by p (x ∷ xs) ≡ cond (p x) 1 0 + count_by p xs
  count_by-cons p x xs = sum_by-cons (λ y. cond (p y) 1 0) x xs

  -- two tests that never hold together, and a third that holds where one of them does
  pub count_by-add-le : (p q r : X → Bool) (xs : List X) → ((x : X) → p x ≡ true → q x ≡ false)
      → ((x : X) → p x ≡ true → r x ≡ true)
      → ((x : X) → q x ≡ true → r x ≡ true) → count_by p xs + count_by q xs ≤ count_by r xs
  count_by-add-le p q r [] h k l = omega arith
  count_by-add-le p q r (x ∷ xs) h k l = let first = both_le (p x) (q x) (r x) (h x) (k x) (l x) in
      let rest = count_by-add-le p q r xs h k l in
      omega (arith, count_by-cons p x xs, count_by-cons q x xs, count_by-cons r x xs)

  -- ---- whether some element passes

  pub list_any-counted : (p : X → Bool) (xs : List X) → list_any p xs ≡ nat_lt 0 (count_by p xs)
  list_any-counted p [] = refl
  list_any-counted p (x ∷ xs) = by (p x) (count_by-cons p x xs) (list_any-counted p xs)
    where
      by : (b : Bool) → count_by p (x ∷ xs) ≡ cond b 1 0 + count_by p xs → list_any p xs ≡ nat_lt 0 (count_by p xs)
          → (b || list_any p xs) ≡ nat_lt 0 (count_by p (x ∷ xs))
      by true count rest = sym (lt-ltb 0 (count_by p (x ∷ xs)) (omega (arith, count)))
      by false count rest = rest ∙ ap (nat_lt 0) (omega (arith, count))

  pub counted : (p : X → Bool) (xs : List X) → list_any p xs ≡ true → 0 < count_by p xs
  counted p xs some = ltb-true 0 (count_by p xs) (sym (list_any-counted p xs) ∙ some)

  pub uncounted : (p : X → Bool) (xs : List X) → list_any p xs ≡ false → count_by p xs ≡ 0
  uncounted p xs none =
      let h = ltb-false 0 (count_by p xs) (sym (list_any-counted p xs) ∙ none) in
      omega (arith, h)

  pub some_counted : (p : X → Bool) (xs : List X) → 0 < count_by p xs → list_any p xs ≡ true
  some_counted p xs some = list_any-counted p xs ∙ lt-ltb 0 (count_by p xs) some

  pub none_counted : (p : X → Bool) (xs : List X) → count_by p xs ≡ 0 → list_any p xs ≡ false
  none_counted p xs none = list_any-counted p xs ∙ le-ltb 0 (count_by p xs) (omega (arith, none))

  pub none_any : (p : X → Bool) (xs : List X) → list_any p xs ≡ false → All (λ x. p x ≡ false) xs
  none_any p xs none k d within =
      false_from_ne_true _ (λ passes. false≢true (sym none ∙ list_any_at p xs k d within passes))

  -- the first element that passes
  pub record IsFound (p : X → Bool) (xs : List X) (i : ℕ) (x : X) : Type 0 where
    pub at : slice_get xs i ≡ Some x
    pub passes : p x ≡ true
    pub first : find p xs ≡ Some x

  pub found : (p : X → Bool) (xs : List X) → list_any p xs ≡ true → (i : ℕ) × (x : X) × IsFound p xs i x
  found p [] some = cc some
  found p (x ∷ xs) some = by (p x) refl some (found p xs)
    where
      by : (b : Bool) → p x ≡ b → (b || list_any p xs) ≡ true
          → (list_any p xs ≡ true → (i : ℕ) × (y : X) × IsFound p xs i y)
          → (i : ℕ) × (y : X) × IsFound p (x ∷ xs) i y
      by true is some rest = (0, x, record { at = refl; passes = is; first = rw is refl })
      by false is some rest =
          let (i, y, h) = rest some in
          (suc i, y, record { at = h.at; passes = h.passes; first = rw is h.first })

  pub found_once : (p : X → Bool) (xs : List X) → count_by p xs ≡ 1 → (i : ℕ) × (x : X) × IsFound p xs i x
  found_once p xs once = found p xs (some_counted p xs (omega (arith, once)))

  pub none_found : (p : X → Bool) (xs : List X) → find p xs ≡ None → All (λ x. p x ≡ false) xs
  none_found p xs none =
      none_any p xs (false_from_ne_true (list_any p xs) (λ some. let (i, x, h) = found p xs some in let first = h.first in cc))

pub count_by-map : {X Y : Type 0} (p : Y → Bool) (f : X → Y) (xs : List X)
    → count_by p (map f xs) ≡ count_by (λ x. p (f x)) xs
count_by-map p f xs = fold-map (λ a y. a + cond (p y) 1 0) f 0 xs
