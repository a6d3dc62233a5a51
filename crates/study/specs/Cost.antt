-- The least cost of a case, if it has a heat flow.
use Rattle.std.specs.Prelude.{ℤ, Option, MatchOption}
use Rattle.stream_case.specs.declared.case.Case.{Case}
use Rattle.heat_flow.specs.Certificate.{HasNoFlowOf, IsLeastCostOf}

-- the least cost of its heat flows, or none where it has no heat flow
abbrev pub IsCostOf : Case → Option ℤ → Type 0
IsCostOf c cost = MatchOption cost (HasNoFlowOf c) (IsLeastCostOf c)
