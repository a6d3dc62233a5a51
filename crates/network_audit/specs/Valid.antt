-- Valid networks.
use Rattle.std.specs.Prelude.{◌≡◌, ℕ, false, All, Some, slice_get}
use Rattle.stream_case.specs.Case.{is_forbidden}
use Rattle.stream_case.specs.declared.case.Case.{Case}
use Rattle.stream_case.specs.declared.utility.Utility.{Utility}
use Rattle.fractions.specs.Rationals.{IsAtMost, Rational, whole}
use Rattle.networks.specs.Lines.{Exchanger, exchangers_of}
use Rattle.networks.specs.declared.network.Network.{Network}
use Rattle.network_values.specs.Sides.{KeepApproaches}
use Rattle.network_values.specs.Values.{AreEnded, IsWholeValuation, KeepLoads, Valuation}
use Rattle.network_audit.specs.Balance.{heat_with}

-- the match of an exchanger is not forbidden
abbrev pub IsPermitted : Case → Exchanger → Type 0
IsPermitted case e = is_forbidden case.forbids e.hot e.cold ≡ false

-- a heat lies in the range of a utility
pub record IsInRange (u : Utility) (heat : Rational) : Type 0 where
  pub least : IsAtMost (whole u.least) heat
  pub most : IsAtMost heat (whole u.most)

-- the whole network has a valuation, over which each stream ends once in full, each latent branch has a part of its
-- load as state, both ends of each exchanger keep the approach, no match is forbidden and each utility is in its range
pub record IsValidNetwork (case : Case) (network : Network) : Type 0 where
  pub values : Valuation
  pub valuation : IsWholeValuation case network values
  pub ended : AreEnded case network values
  pub loads : KeepLoads case network values
  pub approaches : KeepApproaches case network values
  pub permitted : All (IsPermitted case) (exchangers_of network.lines)
  pub ranges : (index : ℕ) (u : Utility) → slice_get case.utilities index ≡ Some u
      → IsInRange u (heat_with network index)
