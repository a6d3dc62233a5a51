-- The parts that a report names, and its moves one after the other.
use Rattle.std.proofs.Common.{List, None, Option, Some, [], ap, ap₂, get_or, length, refl, sym, take, ℕ, ◌++◌, ◌+◌, ◌<◌, ◌∙◌, ◌∷◌, ◌≡◌}
use Rattle.certify.proofs.Words.{All, All-push, IsTrue, filter_map, filter_map-append, is_some, take_more}

-- one more of what h gives
pub one_more_given : {X Y : Type 0} (h : X → Option Y) (xs : List X) (i : ℕ) (x : X) (given next : List Y) (y : Y)
    → i < length xs → x ≡ get_or xs i x
    → given ≡ filter_map h (take i xs) → h x ≡ Some y → next ≡ given ++ y ∷ [] → next ≡ filter_map h (take (i + 1) xs)
one_more_given h xs i x given next y within at so_far is more =
    let last : filter_map h (x ∷ []) ≡ y ∷ [] = rw is refl in
    let here : filter_map h (get_or xs i x ∷ []) ≡ y ∷ [] = ap (λ z. filter_map h (z ∷ [])) (sym at) ∙ last in
    more ∙ ap₂ ◌++◌ so_far (sym here)
    ∙ sym (ap (filter_map h) (take_more xs i x within) ∙ filter_map-append h (take i xs) (get_or xs i x ∷ []))

pub one_more_known : {X Y : Type 0} (h : X → Option Y) (xs : List X) (i : ℕ) (x : X) (y : Y) → i < length xs
    → x ≡ get_or xs i x
    → All (λ z. IsTrue (is_some (h z))) (take i xs) → h x ≡ Some y → All (λ z. IsTrue (is_some (h z))) (take (i + 1) xs)
one_more_known h xs i x y within at so_far is =
    let here : h (get_or xs i x) ≡ Some y = ap h (sym at) ∙ is in
    rw (take_more xs i x within) (All-push (λ z. IsTrue (is_some (h z))) (take i xs) (get_or xs i x) so_far (rw here refl))

pub none_some : {X : Type 0} (o : Option X) → ((x : X) → o ≡ Some x → ⊥) → IsTrue (is_some o) → ⊥
none_some None none e = cc e
none_some (Some x) none e = none x refl
