-- Whether some item of a list passes a test, and the index of the first that does.
use Rattle.std.proofs.Common.{All, Bool, List, None, Option, Some, [], arith, cond, false, is_some, length, nat_lt, position, refl, suc, sym, true, unwrap_or}
use Rattle.std.proofs.Common.{ℕ, ◌+◌, ◌<◌, ◌∙◌, ◌∷◌, ◌≡◌}
use Rattle.statements.proofs.Words.{cond_some, false_from_ne_true, false≢true, list_any, list_any_at, nat_tests, position-Some, position_or_len}

-- none passes
pub none_any : {X : Type 0} (p : X → Bool) (xs : List X) → list_any p xs ≡ false → All (λ x. p x ≡ false) xs
none_any p xs none k d within =
    false_from_ne_true _ (λ passes. false≢true (sym none ∙ list_any_at p xs k d within passes))

shifted : (m n : ℕ) → nat_lt (1 + m) (suc n) ≡ nat_lt m n
shifted m n = by (nat_lt m n) refl
  where
    by : (b : Bool) → nat_lt m n ≡ b → nat_lt (1 + m) (suc n) ≡ b
    by true e = grind (arith, nat_tests, e)
    by false e = grind (arith, nat_tests, e)

lt-list_any : {X : Type 0} (p : X → Bool) (xs : List X) → nat_lt (position_or_len p xs) (length xs) ≡ list_any p xs
lt-list_any p [] = refl
lt-list_any p (x ∷ xs) = by (p x) refl (lt-list_any p xs)
  where
    by : (b : Bool) → p x ≡ b → nat_lt (position_or_len p xs) (length xs) ≡ list_any p xs
        → nat_lt (position_or_len p (x ∷ xs)) (length (x ∷ xs)) ≡ list_any p (x ∷ xs)
    by true e rest =
        let some : nat_lt 0 (suc (length xs)) ≡ true = grind (arith, nat_tests) in
        rw (e, some) refl
    by false e rest = rw (e, shifted (position_or_len p xs) (length xs)) rest

is_some-cond : {X : Type 0} (b : Bool) (x : X) → is_some (cond b (Some x) None) ≡ b
is_some-cond true x = refl
is_some-cond false x = refl

-- there is an index exactly where some item passes
pub is_some-position : {X : Type 0} (p : X → Bool) (xs : List X) → is_some (position p xs) ≡ list_any p xs
is_some-position p xs =
    is_some-cond (nat_lt (position_or_len p xs) (length xs)) (position_or_len p xs) ∙ lt-list_any p xs

-- the index of the first of them
pub record IsAt {X : Type 0} (p : X → Bool) (xs : List X) (i : ℕ) : Type 0 where
  pub index_is : position_or_len p xs ≡ i
  pub within : i < length xs
  pub some : list_any p xs ≡ true

pub position-some : {X : Type 0} (p : X → Bool) (xs : List X) (i : ℕ) → position p xs ≡ Some i → IsAt p xs i
position-some p [] i e = cc e
position-some {X} p (x ∷ xs) i e =
    let at = position-Some p (x ∷ xs) i x e in
    record { index_is = (cond_some _ _ _ e).1; within = at.0; some = list_any_at p (x ∷ xs) i x at.0 at.1 }

pub index_within : {X : Type 0} (p : X → Bool) (xs : List X) → is_some (position p xs) ≡ true
    → unwrap_or (position p xs) 0 < length xs
index_within p [] some = cc some
index_within p (x ∷ xs) some = by (position p (x ∷ xs)) refl some
  where
    by : (o : Option ℕ) → position p (x ∷ xs) ≡ o → is_some o ≡ true → unwrap_or o 0 < length (x ∷ xs)
    by None is some = cc some
    by (Some i) is some = (position-Some p (x ∷ xs) i x is).0
