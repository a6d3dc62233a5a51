-- The two sides of an exchanger of a network on the shifted scale.
use Rattle.std.specs.Prelude.{◌≡◌, ℕ, pos, Some, slice_get}
use Rattle.stream_case.specs.declared.case.Case.{Case}
use Rattle.stream_case.specs.declared.source.Side.{Side}
use Rattle.stream_case.specs.declared.source.Side.TheVariants as side
use Rattle.stream_case.specs.declared.source.Source.{Source}
use Rattle.stream_case.specs.declared.source.Source.TheVariants as source
use Rattle.fractions.specs.Rationals.{IsBelow, rational_zero, whole}
use Rattle.networks.specs.Lines.{Exchanger, exchangers_of}
use Rattle.networks.specs.Shape.{HasShape}
use Rattle.networks.specs.declared.network.Network.{Network}
use Rattle.network_values.specs.Heights.{HasDuty, IsBelowAtNoEnd, View, share_in}
use Rattle.network_values.specs.Penalties.{absorbed_heat, height_at, released_heat, unshifted}
use Rattle.network_values.specs.Sides.{KeepsApproach, SideRun, contribution_of, seen_from, side_run}
use Rattle.network_values.specs.Values.{IsWholeValuation, Valuation}

-- the side of a source on the shifted scale: a hot side less its contribution, a cold one with it
abbrev pub shifted_run : Side → Case → Network → Valuation → ℕ → Source → SideRun
shifted_run on case network values number s =
    seen_from (whole (unshifted on (pos 0) (contribution_of case s))) (side_run case network values number s)

-- both sides have the duty; where the approach is kept, the hot one is at neither end below the cold one; and in each
-- view the height that a stream loses or gains is its side's share of the duty
pub record RunsOnOneScale (case : Case) (network : Network) (values : Valuation) (number : ℕ)
    (e : Exchanger) : Type 0 where
  pub positive : IsBelow rational_zero e.duty
  pub hot_duty : HasDuty e.duty (shifted_run side.Hot case network values number e.hot)
  pub cold_duty : HasDuty e.duty (shifted_run side.Cold case network values number e.cold)
  pub apart : KeepsApproach case network values number e
      → IsBelowAtNoEnd (shifted_run side.Hot case network values number e.hot) (shifted_run side.Cold case network values number e.cold)
  pub released : (view : View) (i : ℕ) → e.hot ≡ source.Stream i
      → released_heat (height_at case view network values) network number e.duty e.hot
      ≡ share_in view e.duty (shifted_run side.Hot case network values number e.hot)
  pub absorbed : (view : View) (i : ℕ) → e.cold ≡ source.Stream i
      → absorbed_heat (height_at case view network values) network number e.cold
      ≡ share_in view e.duty (shifted_run side.Cold case network values number e.cold)

abbrev pub ExchangersRunOnOneScale : Type 0
ExchangersRunOnOneScale =
    (case : Case) (network : Network) (values : Valuation) (number : ℕ) (e : Exchanger)
    → HasShape case network → IsWholeValuation case network values
    → slice_get (exchangers_of network.lines) number ≡ Some e → RunsOnOneScale case network values number e
