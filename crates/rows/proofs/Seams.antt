-- The item between the two parts of a list.
use Rattle.std.proofs.Common.{All, AllPairs, List, ap, arith, get_or, length, length-append, subst, ◌++◌, ◌<◌, ◌∷◌, ◌≡◌}
use Rattle.rows.proofs.Words.{All-back, All-head, AllPairs-across}

pub All-seam : {X : Type 0} (P : X → Type 0) (all before : List X) (x : X) (after : List X)
    → all ≡ before ++ x ∷ after → All P all → P x
All-seam P all before x after is holds = All-head P x after (All-back P before (x ∷ after) (subst (All P) is holds))

pub AllPairs-seam : {X : Type 0} (R : X → X → Type 0) (all before : List X) (x : X) (after : List X)
    → all ≡ before ++ x ∷ after → AllPairs R all
    → All (λ z. R z x) before
AllPairs-seam R all before x after is pairs i d early =
    All-head (R (get_or before i d)) x after (AllPairs-across R before (x ∷ after) i d (subst (AllPairs R) is pairs) early)

pub length-seam : {X : Type 0} (all before : List X) (x : X) (after : List X) → all ≡ before ++ x ∷ after
    → length before < length all
length-seam all before x after is = omega (arith, ap length is, length-append before (x ∷ after))
