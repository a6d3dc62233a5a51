-- Tests of the items of a list: none that passes, some, and just one; the items of a filtered list before the filter.
use Rattle.std.proofs.Common.{All, Bool, List, None, Option, Some, [], ap, arith, cond, count_by, false, filter_map, find, inl, inr, length, refl, slice_get}
use Rattle.std.proofs.Common.{suc, sym, take, true, zero, ℕ, ◌<◌, ◌∙◌, ◌∷◌, ◌≡◌, ◌≤◌, ◌⊎◌}
use Rattle.networks.proofs.Words.{All-cons, All-head, All-nil, All-tail, cases_lt, cases_order, cons_option, count_by-cons, false≢true, get_or_from_slice_get}
use Rattle.networks.proofs.Words.{list_any, list_any_at, slice_get_within}

-- ---- none passes

pub none_counted : {X : Type 0} (p : X → Bool) (xs : List X) → count_by p xs ≡ 0 → list_any p xs ≡ false
none_counted p [] none = refl
none_counted p (x ∷ xs) none = by (p x) refl (none_counted p xs)
  where
    by : (b : Bool) → p x ≡ b → (count_by p xs ≡ 0 → list_any p xs ≡ false) → list_any p (x ∷ xs) ≡ false
    by true is rest =
        let one = ap {B = ℕ} (λ b. cond b 1 0) is in
        absurd (omega (arith, none, count_by-cons p x xs, one))
    by false is rest =
        let no = ap {B = ℕ} (λ b. cond b 1 0) is in
        rw is (rest (omega (arith, none, count_by-cons p x xs, no)))

pub none_found : {X : Type 0} (p : X → Bool) (xs : List X) → find p xs ≡ None → All (λ x. p x ≡ false) xs
none_found p [] none = All-nil (λ x. p x ≡ false)
none_found p (x ∷ xs) none = by (p x) refl none (none_found p xs)
  where
    by : (b : Bool) → p x ≡ b → cond b (Some x) (find p xs) ≡ None
        → (find p xs ≡ None → All (λ y. p y ≡ false) xs) → All (λ y. p y ≡ false) (x ∷ xs)
    by true is none rest = cc none
    by false is none rest = All-cons (λ y. p y ≡ false) x xs is (rest none)

pub find_none : {X : Type 0} (p : X → Bool) (xs : List X) → All (λ x. p x ≡ false) xs → find p xs ≡ None
find_none p [] none = refl
find_none p (x ∷ xs) none =
    let here = All-head (λ y. p y ≡ false) x xs none in
    rw here (find_none p xs (All-tail (λ y. p y ≡ false) x xs none))

-- ---- some item passes

pub some_counted : {X : Type 0} (p : X → Bool) (xs : List X) → 0 < count_by p xs → list_any p xs ≡ true
some_counted p [] some = absurd (omega (arith, some))
some_counted p (x ∷ xs) some = by (p x) refl (some_counted p xs)
  where
    by : (b : Bool) → p x ≡ b → (0 < count_by p xs → list_any p xs ≡ true) → list_any p (x ∷ xs) ≡ true
    by true is rest = rw is refl
    by false is rest =
        let no = ap {B = ℕ} (λ b. cond b 1 0) is in
        rw is (rest (omega (arith, some, count_by-cons p x xs, no)))

pub uncounted : {X : Type 0} (p : X → Bool) (xs : List X) → list_any p xs ≡ false → count_by p xs ≡ 0
uncounted p xs none = by (cases_order (count_by p xs) 0)
  where
    by : (count_by p xs ≡ 0) ⊎ ((count_by p xs < 0) ⊎ (0 < count_by p xs)) → count_by p xs ≡ 0
    by (inl e) = e
    by (inr (inl below)) = absurd (omega (arith, below))
    by (inr (inr some)) = absurd (false≢true (sym none ∙ some_counted p xs some))

pub counted : {X : Type 0} (p : X → Bool) (xs : List X) → list_any p xs ≡ true → 0 < count_by p xs
counted p xs some = by (cases_lt 0 (count_by p xs))
  where
    by : (0 < count_by p xs) ⊎ (count_by p xs ≤ 0) → 0 < count_by p xs
    by (inl above) = above
    by (inr none) = absurd (false≢true (sym (none_counted p xs (omega (arith, none))) ∙ some))

-- ---- just one passes

-- the one item that passes, and its index
pub record IsOnly {X : Type 0} (p : X → Bool) (xs : List X) (index : ℕ) (x : X) : Type 0 where
  pub here : slice_get xs index ≡ Some x
  pub passes : p x ≡ true
  pub found : find p xs ≡ Some x
  pub only : (other : ℕ) (y : X) → slice_get xs other ≡ Some y → p y ≡ true → other ≡ index

only_first : {X : Type 0} (p : X → Bool) (a : X) (xs : List X) → list_any p xs ≡ false → (other : ℕ) (y : X)
    → slice_get (a ∷ xs) other ≡ Some y → p y ≡ true
    → other ≡ 0
only_first p a xs none zero y at passes = refl
only_first p a xs none (suc other) y at passes =
    absurd (false≢true (sym none ∙ list_any_at p xs other y (slice_get_within xs other y at) (ap p (get_or_from_slice_get xs other y y at) ∙ passes)))

only_later : {X : Type 0} (p : X → Bool) (a : X) (xs : List X) (index : ℕ) → p a ≡ false
    → ((other : ℕ) (y : X) → slice_get xs other ≡ Some y → p y ≡ true → other ≡ index)
    → (other : ℕ) (y : X) → slice_get (a ∷ xs) other ≡ Some y → p y ≡ true → other ≡ suc index
only_later p a xs index fails only zero y at passes =
    let same : a ≡ y = cc at in
    absurd (false≢true (sym fails ∙ ap p same ∙ passes))
only_later p a xs index fails only (suc other) y at passes = ap suc (only other y at passes)

pub found_once : {X : Type 0} (p : X → Bool) (xs : List X) → count_by p xs ≡ 1
    → (index : ℕ) × (x : X) × IsOnly p xs index x
found_once p [] once = absurd (omega (arith, once))
found_once {X} p (a ∷ xs) once = by (p a) refl (found_once p xs)
  where
    by : (b : Bool) → p a ≡ b → (count_by p xs ≡ 1 → (index : ℕ) × (x : X) × IsOnly p xs index x)
        → (index : ℕ) × (x : X) × IsOnly p (a ∷ xs) index x
    by true is rest =
        let one = ap {B = ℕ} (λ b. cond b 1 0) is in
        let none = none_counted p xs (omega (arith, once, count_by-cons p a xs, one)) in
        (0, a, record { here = refl; passes = is; found = ap (λ b. cond b (Some a) (find p xs)) is; only = only_first p a xs none })
    by false is rest = let no = ap {B = ℕ} (λ b. cond b 1 0) is in
        let (index, x, it) = rest (omega (arith, once, count_by-cons p a xs, no)) in (
          suc index,
          x,
          record { here = it.here; passes = it.passes; found = ap (λ b. cond b (Some a) (find p xs)) is ∙ it.found; only = only_later p a xs index is it.only },
        )

-- ---- filters

-- where an item of a filtered list stands before the filter
pub record StandsBefore {X Y : Type 0} (f : X → Option Y) (xs : List X) (number : ℕ) (y : Y) (index : ℕ) (x : X) : Type 0 where
  pub here : slice_get xs index ≡ Some x
  pub gives : f x ≡ Some y
  pub earlier : length (filter_map f (take index xs)) ≡ number

pub stands_before : {X Y : Type 0} (f : X → Option Y) (xs : List X) (number : ℕ) (y : Y)
    → slice_get (filter_map f xs) number ≡ Some y → (index : ℕ) × (x : X)
    × StandsBefore f xs number y index x
stands_before f [] number y at = cc at
stands_before {X} {Y} f (a ∷ xs) number y at = by (f a) refl number at (stands_before f xs)
  where
    by : (o : Option Y) → f a ≡ o → (n : ℕ) → slice_get (cons_option o (filter_map f xs)) n ≡ Some y
        → ((m : ℕ) (z : Y) → slice_get (filter_map f xs) m ≡ Some z → (index : ℕ) × (x : X) × StandsBefore f xs m z index x)
        → (index : ℕ) × (x : X) × StandsBefore f (a ∷ xs) n y index x
    by None is n at rest = let (index, x, stands) = rest n y at in (
      suc index,
      x,
      record { here = stands.here; gives = stands.gives; earlier = ap (λ o. length (cons_option o (filter_map f (take index xs)))) is ∙ stands.earlier },
    )
    by (Some b) is zero at rest = (0, a, record { here = refl; gives = is ∙ at; earlier = refl })
    by (Some b) is (suc n) at rest = let (index, x, stands) = rest n y at in (
      suc index,
      x,
      record {
        here = stands.here;
        gives = stands.gives;
        earlier = ap (λ o. length (cons_option o (filter_map f (take index xs)))) is ∙ ap suc stands.earlier;
      },
    )
