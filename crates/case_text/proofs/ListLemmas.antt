-- One item more in the midst of a list whose items all differ, and an option mapped twice.
use Rattle.std.proofs.Common.{All, AllPairs, List, None, Option, Some, [], option_map, refl, ◌++◌, ◌∷◌, ◌≡◌}
use Rattle.case_text.proofs.Words.{All-push, AllPairs-across, AllPairs-append, AllPairs-back, AllPairs-front, all_pairs_push}

-- one item more in the midst
pub AllPairs-insert : {X : Type 0} (R : X → X → Type 0) (xs ys : List X) (x : X) → AllPairs R (xs ++ ys)
    → All (λ z. R z x) xs → All (R x) ys
    → AllPairs R ((xs ++ x ∷ []) ++ ys)
AllPairs-insert R xs ys x pairs before behind =
    AllPairs-append R (xs ++ x ∷ []) ys (all_pairs_push R xs x (AllPairs-front R xs ys pairs) before) (AllPairs-back R xs ys pairs)
    (All-push (λ z. All (R z) ys) xs x (λ i d within. AllPairs-across R xs ys i d pairs within) behind)

pub option_map-option_map : {X Y Z : Type 0} (g : Y → Z) (f : X → Y) (o : Option X)
    → option_map g (option_map f o) ≡ option_map (λ x. g (f x)) o
option_map-option_map g f None = refl
option_map-option_map g f (Some x) = refl
