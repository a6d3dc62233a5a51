-- A case with what is made once for many prices of its utilities.
use Rattle.stream_case.specs.Case.{IsComplete}
use Rattle.grid.specs.Part.{AreCaseParts}
use Rattle.transport.specs.CaseNet.{IsCaseNet}
use Rattle.study.specs.declared.priced.PricedCase.{PricedCase}

-- a completed case, with its parts and a net of them
pub record IsPricedCase (p : PricedCase) : Type 0 where
  pub complete : IsComplete p.case.now
  pub parts : AreCaseParts p.case.now p.parts.now.hot p.parts.now.cold
  pub net : IsCaseNet p.case.now p.parts.now.hot p.parts.now.cold p.net.now
