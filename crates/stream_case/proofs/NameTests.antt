-- What the test of a name says.
use Rattle.std.proofs.Common.{List, [], arith, false, length, nat_le, refl, true, ℕ, ◌∷◌, ◌≡◌, ◌≤◌}
use Rattle.stream_case.proofs.Words.{AllPass-from_list_all, IsName, and_parts, false_from_ne_true, is_name, is_name_byte, list_all-from_AllPass, nat_tests}

pub name-passes : (text : List ℕ) → IsName text → is_name text ≡ true
unfolding is_name
name-passes [] h = absurd h
name-passes (b ∷ bs) h =
    let first = h.0 in
    let bytes = list_all-from_AllPass is_name_byte bs h.1 in
    let short : nat_le (length bs) 15 ≡ true = grind (arith, nat_tests, h.2) in
    rw (first, bytes, short) refl

pub passed-name : (text : List ℕ) → is_name text ≡ true → IsName text
unfolding is_name
passed-name [] e = cc e
passed-name (b ∷ bs) e =
    let outer = and_parts _ _ e in
    let inner = and_parts _ _ outer.0 in
    let short : length bs ≤ 15 = grind (arith, nat_tests, outer.1) in
    (inner.0, AllPass-from_list_all is_name_byte bs inner.1, short)

pub fails-name : (text : List ℕ) → (IsName text → ⊥) → is_name text ≡ false
fails-name text never = false_from_ne_true _ (λ passes. never (passed-name text passes))
