-- The least cost of a case, or a cut of it.
use Rattle.std.specs.Prelude.{ℤ}
use Rattle.stream_case.specs.declared.case.Case.{Case}
use Rattle.heat_flow.specs.declared.cut.Cut.{Cut}
use Rattle.heat_flow.specs.Certificate.{HoldsOfParts, IsCutOf, IsLeastCostOf}
use Rattle.heat_flow.specs.Reach.{reach_between}
use Rattle.corner_flow.specs.Value.{IsValueOf}

-- the least cost of its heat flows, and the value of prices that prove that none costs less
pub record IsCaseCost (c : Case) (cost : ℤ) : Type 0 where
  pub least : IsLeastCostOf c cost
  pub value : IsValueOf c cost

-- a cut of the parts of the case
abbrev pub IsCaseCut : Case → Cut → Type 0
IsCaseCut c cut = HoldsOfParts c (λ hot cold. IsCutOf (reach_between c hot cold) hot cold cut)
