-- The least cost of a case over the price of one utility, and its points.
use Rattle.std.specs.Prelude.{◌≡◌, ◌⊎◌, ℕ, ◌<◌, ℤ, List, [], ◌∷◌, ◌++◌, All, length}
use Rattle.stream_case.specs.Limits.{IsPrice}
use Rattle.stream_case.specs.declared.case.Case.{Case}
use Rattle.study.specs.CostRange.{IsCost}
use Rattle.study.specs.PricedCase.{IsPricedCase}
use Rattle.study.specs.Priced.{HasNoFlowAt, prices_with}
use Rattle.study.specs.Segments.{CostsWith}
use Rattle.study.specs.declared.cost_curve.Point.{Point}
use Rattle.study.specs.declared.priced.PricedCase.{PricedCase}

-- the case has a heat flow, whatever the price of utility number i
abbrev pub HasFlowWith : Case → ℕ → Type 0
HasFlowWith c i = (p : ℤ) → HasNoFlowAt c (prices_with c i p) → ⊥

-- numbers of a point that are within the limits
pub record IsSmallPoint (point : Point) : Type 0 where
  pub price : IsPrice point.price
  pub cost : IsCost point.cost

-- a price of utility number i, and the least cost of the case there
pub record IsPoint (c : Case) (i : ℕ) (point : Point) : Type 0 where
  pub small : IsSmallPoint point
  pub least : CostsWith c i point.price point.cost

-- a case, and the utility over whose price its least cost is a curve
pub record Curve : Type 0 where
  pub case : Case
  pub utility : ℕ

-- a curve, with the points of it that are known ahead, the nearest one last
pub record KnownCurve : Type 0 where
  pub curve : Curve
  pub ahead : List Point

abbrev pub IsPointOf : Curve → Point → Type 0
IsPointOf curve = IsPoint curve.case curve.utility

-- a point of these is taken, the last of them, or another one, and then all are left
abbrev pub IsTaken : List Point → Point → List Point → Type 0
IsTaken known point left = (known ≡ left ++ point ∷ []) ⊎ (left ≡ known)

-- a completed case that has a heat flow, with its parts and their net, utility number i of it, and points of the curve
pub record IsCostCurve (p : PricedCase) (i : ℕ) (known : List Point) : Type 0 where
  pub priced : IsPricedCase p
  pub utility : i < length p.case.now.utilities
  pub flow : HasFlowWith p.case.now i
  pub points : All (IsPoint p.case.now i) known
