-- Texts of the elements of a list, one after the other.
use Rattle.reports.proofs.Words.{length-take-le, take_more, texts_from}
use Rattle.std.proofs.Common.{List, [], ap, append-nil, append_assoc, arith, get_or, length, suc, sym, take, ℕ, ◌++◌, ◌+◌, ◌<◌, ◌∙◌, ◌∷◌, ◌≡◌}

pub texts_from-append : {X : Type 0} (f : ℕ → X → List ℕ) (n : ℕ) (xs ys : List X)
    → texts_from f n (xs ++ ys) ≡ texts_from f n xs ++ texts_from f (n + length xs) ys
texts_from-append f n [] ys = ap (λ k. texts_from f k ys) (omega arith)
texts_from-append f n (x ∷ xs) ys =
    let at : suc n + length xs ≡ n + length (x ∷ xs) = omega arith in
    ap (λ t. f n x ++ t) (texts_from-append f (suc n) xs ys ∙ ap (λ k. texts_from f (suc n) xs ++ texts_from f k ys) at)
    ∙ sym (append_assoc (f n x) (texts_from f (suc n) xs) (texts_from f (n + length (x ∷ xs)) ys))

-- a loop's step
pub texts_step : {X : Type 0} (f : ℕ → X → List ℕ) (xs : List X) (i : ℕ) (d : X) → i < length xs
    → texts_from f 0 (take (i + 1) xs) ≡ texts_from f 0 (take i xs) ++ f i (get_or xs i d)
texts_step f xs i d within =
    let x = get_or xs i d in
    let count : 0 + length (take i xs) ≡ i = omega (arith, length-take-le i xs (omega arith)) in
    ap (texts_from f 0) (take_more xs i d within)
    ∙ texts_from-append f 0 (take i xs) (x ∷ [])
    ∙ ap (λ k. texts_from f 0 (take i xs) ++ (f k x ++ [])) count
    ∙ ap (λ t. texts_from f 0 (take i xs) ++ t) (append-nil (f i x))
