-- The heats of a list of places, place by place.
use Rattle.std.proofs.Common.{List, [], ap, ap₂, get_or, length, map, pos, sym, take, ℕ, ℤ, ◌++◌, ◌+◌, ◌<◌, ◌∙◌, ◌∷◌, ◌≡◌}
use Rattle.commands.proofs.Words.{map-append, take_more}

-- the heat of one place more
pub one_more : (f : ℤ → ℤ) (places heats : List ℤ) (n : ℕ) (heat : ℤ) → n < length places
    → heats ≡ map f (take n places) → heat ≡ f (get_or places n (pos 0))
    → heats ++ heat ∷ [] ≡ map f (take (n + 1) places)
one_more f places heats n heat within before is =
    ap₂ (λ hs h. hs ++ h ∷ []) before is
    ∙ sym (ap (map f) (take_more places n (pos 0) within) ∙ map-append f (take n places) (get_or places n (pos 0) ∷ []))
