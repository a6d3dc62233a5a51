-- The points of a cost curve.
use Rattle.study.proofs.Words.{All, IsCostCurve, IsPoint, Point, PricedCase, option_to_list}
use Rattle.std.proofs.Common.{[], List, Option, Some, ap, ℕ, ◌++◌, ◌∙◌, ◌∷◌, ◌≡◌}

-- it may have others
pub with_points : (p : PricedCase) (i : ℕ) (known others : List Point) → IsCostCurve p i known
    → All (IsPoint p.case.now i) others → IsCostCurve p i others
with_points p i known others is points =
    record { priced = is.priced; utility = is.utility; flow = is.flow; points = points }

-- the point that leaves their end was the last one
pub last_taken : (known left : List Point) (out : Option Point) (point : Point) → known ≡ left ++ option_to_list out
    → out ≡ Some point → known ≡ left ++ point ∷ []
last_taken known left out point are is = are ∙ ap (λ o. left ++ option_to_list o) is
