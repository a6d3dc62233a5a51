-- Lists read past their ends, and with one element written.
use Rattle.std.proofs.Common.{List, [], arith, get_or, inl, inr, length, replicate, set, subst, sym, ℕ, ◌++◌, ◌+◌, ◌<◌, ◌∷◌, ◌≡◌, ◌≢◌}
use Rattle.flow_net.proofs.Words.{cases_eq, cases_lt, get_or-replicate, get_or-set_other, get_or-set_same, get_or_append_left, get_or_past, get_or_push, length-replicate}

-- what holds of the element written, and of each other element, holds of each
pub set_cases : {X : Type 0} (xs : List X) (i : ℕ) (x d : X) → i < length xs → (P : ℕ → X → Type 0) → P i x
    → ((v : ℕ) → v ≢ i → P v (get_or xs v d)) → (v : ℕ)
    → P v (get_or (set xs i x) v d)
set_cases xs i x d within P here there v = elim (cases_eq v i) [
  | inl e ↦
      subst (λ u. P u (get_or (set xs i x) u d)) (sym e) (subst (P i) (sym (get_or-set_same xs i x d within)) here)
  | inr ne ↦ subst (P v) (sym (get_or-set_other xs i v x d ne)) (there v ne)
]

-- what holds of each element, and of one more at the end, holds of each
pub push_cases : {X : Type 0} (xs : List X) (x d : X) (n : ℕ) → length xs ≡ n → (P : ℕ → X → Type 0) → P n x
    → ((j : ℕ) → j < n → P j (get_or xs j d)) → (j : ℕ)
    → j < n + 1 → P j (get_or (xs ++ x ∷ []) j d)
push_cases xs x d n count P here there j l = elim (cases_lt j n) [
  | inl lt ↦ subst (P j) (sym (get_or_append_left xs (x ∷ []) d j (omega (arith, lt, count)))) (there j lt)
  | inr le ↦
      let same : j ≡ n = omega (arith, l, le) in
      subst (λ m. P m (get_or (xs ++ x ∷ []) m d)) (sym same) (subst (P n) (sym (get_or_push xs x d n count)) here)
]

-- an index at which a list does not read as past its end is within it
pub within_from : {X : Type 0} (xs : List X) (v : ℕ) (d : X) → (get_or xs v d ≡ d → ⊥) → v < length xs
within_from xs v d other = elim (cases_lt v (length xs)) [
  | inl lt ↦ lt
  | inr le ↦ absurd (other (get_or_past xs v d le))
]

-- copies of an element read as that element past their end too
pub replicate_same : {X : Type 0} (n v : ℕ) (x : X) → get_or (replicate n x) v x ≡ x
replicate_same {X} n v x = elim (cases_lt v n) [
  | inl lt ↦ get_or-replicate n v x x lt
  | inr le ↦ get_or_past (replicate n x) v x (let e = length-replicate {A = X} n x in omega arith)
]
