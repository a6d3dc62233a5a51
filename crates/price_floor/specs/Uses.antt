-- What a network uses of the parts of its case, and what the uses are worth.
use Rattle.std.specs.Prelude.{ℕ, ℤ, List}
use Rattle.std.specs.List.{enumerate_from}
use Rattle.stream_case.specs.Case.{IsComplete}
use Rattle.stream_case.specs.declared.case.Case.{Case}
use Rattle.stream_case.specs.declared.source.Source.{Source}
use Rattle.stream_case.specs.declared.source.Source.TheVariants as source
use Rattle.fractions.specs.Rationals.{IsAtMost, Rational, rational_sum_by, times, whole}
use Rattle.grid.specs.declared.part.Part.{Part}
use Rattle.grid.specs.Part.{AreCaseParts}
use Rattle.heat_flow.specs.Prices.{IsSupporting, price_at}
use Rattle.heat_flow.specs.Reach.{reach_between}
use Rattle.networks.specs.Shape.{HasShape}
use Rattle.networks.specs.declared.network.Network.{Network}
use Rattle.network_audit.specs.Balance.{heat_with}
use Rattle.network_audit.specs.Valid.{IsValidNetwork}

-- a stream's part is used in full, and a utility's by the sum of its duties
abbrev pub used_by : Network → ℤ → Source → Rational
used_by network heat (source.Stream i) = whole heat
used_by network heat (source.Utility i) = heat_with network i

abbrev pub used_heat : Network → Part → Rational
used_heat network p = used_by network p.least p.source

-- the uses of the parts of a side at one price for each
abbrev pub use_worth : Network → List ℤ → ℕ × Part → Rational
use_worth network prices (index, p) = times (whole (price_at prices index)) (used_heat network p)

unfoldable pub worth_of_uses : Network → List ℤ → List Part → Rational
worth_of_uses network prices parts = rational_sum_by (use_worth network prices) (enumerate_from 0 parts)

-- at prices that support the heat flows of the case, what the cold parts of a valid network take is worth no more than
-- what its hot parts give
abbrev pub UsesAreOrdered : Type 0
UsesAreOrdered =
    (case : Case) (network : Network) (hot cold : List Part) (y z : List ℤ)
    → IsComplete case → HasShape case network → IsValidNetwork case network → AreCaseParts case hot cold
    → IsSupporting (reach_between case hot cold) y z
    → IsAtMost (worth_of_uses network z cold) (worth_of_uses network y hot)
