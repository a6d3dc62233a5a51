-- A network is vertical where each exchanger joins the two shifted composite curves at one heat.
use Rattle.std.specs.Prelude.{◌≡◌, ℕ, ℤ, List, Some, if◌then◌else◌, slice_get}
use Rattle.stream_case.specs.Source.{same_side}
use Rattle.stream_case.specs.Stream.{high_end, low_end}
use Rattle.stream_case.specs.declared.case.Case.{Case}
use Rattle.stream_case.specs.declared.source.Side.{Side}
use Rattle.stream_case.specs.declared.source.Side.TheVariants as side
use Rattle.stream_case.specs.declared.source.Source.{Source}
use Rattle.stream_case.specs.declared.source.Source.TheVariants as source
use Rattle.stream_case.specs.declared.stream.Stream.{Stream}
use Rattle.fractions.specs.Rationals.{IsAtMost, Rational, minus, plus, rational_sum_by, rational_zero, times, whole}
use Rattle.networks.specs.Lines.{Exchanger, exchangers_of}
use Rattle.networks.specs.declared.network.Network.{Network}
use Rattle.network_values.specs.Heights.{positive_part}
use Rattle.network_values.specs.Sides.{contribution_of, enters, leaves, side_run}
use Rattle.network_values.specs.Values.{IsWholeValuation, Valuation, full_size}
use Rattle.vertical_design.specs.Axis.{begin_of, utility_from, utility_to}

-- ---- the shifted curves at any temperature, whole or not

-- the length of a stream's shifted range that lies below t, and the heat that it gives or takes there
abbrev pub range_below : Rational → Stream → Rational
range_below t s = minus (positive_part (minus t (whole (low_end s)))) (positive_part (minus t (whole (high_end s))))

abbrev pub stream_heat : Rational → Stream → Rational
stream_heat t s = times (full_size s) (range_below t s)

-- the heat of the curve of a side at t: that of all its streams below t, on from where the curve begins
unfoldable pub curve_heat : Side → List Stream → Rational → Rational
curve_heat of streams t =
    plus (whole (begin_of of streams)) (rational_sum_by (λ s. if same_side s.side of then stream_heat t s else rational_zero) streams)

-- ---- vertical networks

-- a temperature of a source with this contribution, on the shifted scale
abbrev pub on_scale : Side → Rational → ℤ → Rational
on_scale side.Hot t contribution = minus t (whole contribution)
on_scale side.Cold t contribution = plus t (whole contribution)

-- a heat lies where the utility of a side does: the hot one above the hot curve, the cold one below the cold curve
pub record IsAtUtility (of : Side) (streams : List Stream) (heat : Rational) : Type 0 where
  pub from : IsAtMost (whole (utility_from of streams)) heat
  pub upto : IsAtMost heat (whole (utility_to of streams))

-- two sources face each other at these shifted temperatures: two streams at one heat of both curves; and at a utility
-- the heat of the other side lies where that utility does, be it that of a stream or of the other side's utility at its
-- level
abbrev pub AreFacing : List Stream → Source → Source → Rational → Rational → Type 0
AreFacing streams (source.Stream i) (source.Stream j) hot cold =
    curve_heat side.Hot streams hot ≡ curve_heat side.Cold streams cold
AreFacing streams (source.Stream i) (source.Utility j) hot cold =
    IsAtUtility side.Cold streams (curve_heat side.Hot streams hot)
AreFacing streams (source.Utility i) (source.Stream j) hot cold =
    IsAtUtility side.Hot streams (curve_heat side.Cold streams cold)
AreFacing streams (source.Utility i) (source.Utility j) hot cold =
    IsAtUtility side.Hot streams (curve_heat side.Cold streams cold)
    × IsAtUtility side.Cold streams (curve_heat side.Hot streams hot)

-- the shifted temperatures at which the source of an exchanger on a side enters it and leaves it
abbrev pub entry : Case → Network → Valuation → ℕ → Side → Source → Rational
entry case network values number of a =
    on_scale of (enters of (side_run case network values number a)) (contribution_of case a)

abbrev pub exit : Case → Network → Valuation → ℕ → Side → Source → Rational
exit case network values number of a =
    on_scale of (leaves of (side_run case network values number a)) (contribution_of case a)

-- its sources face each other at both of its ends
pub record IsVerticalAt (case : Case) (network : Network) (values : Valuation) (number : ℕ)
    (e : Exchanger) : Type 0 where
  pub hot_end :
      AreFacing case.streams e.hot e.cold (entry case network values number side.Hot e.hot) (exit case network values number side.Cold e.cold)
  pub cold_end :
      AreFacing case.streams e.hot e.cold (exit case network values number side.Hot e.hot) (entry case network values number side.Cold e.cold)

abbrev pub AreVertical : Case → Network → Valuation → Type 0
AreVertical case network values = (number : ℕ) (e : Exchanger) → slice_get (exchangers_of network.lines) number ≡ Some e
    → IsVerticalAt case network values number e

-- all exchangers of the network do, over what its branches carry
pub record IsVertical (case : Case) (network : Network) : Type 0 where
  pub values : Valuation
  pub valuation : IsWholeValuation case network values
  pub each : AreVertical case network values
