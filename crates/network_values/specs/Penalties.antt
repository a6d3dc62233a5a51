-- Penalties of exchangers and mixes: the heat that they carry past a place.
use Rattle.std.specs.Prelude.{◌≡◌, ◌↔◌, ℕ, ℤ, pos, ◌+ℤ◌, ◌-ℤ◌, IsTrue, List, Option, Some, None, slice_get, All, if◌then◌else◌}
use Rattle.std.specs.List.{enumerate_from}
use Rattle.stream_case.specs.Stream.{AreStreams, IsValidStream, heat_over, is_latent}
use Rattle.stream_case.specs.declared.case.Case.{Case}
use Rattle.stream_case.specs.declared.source.Side.{Side}
use Rattle.stream_case.specs.declared.source.Side.TheVariants as side
use Rattle.stream_case.specs.declared.source.Source.{Source}
use Rattle.stream_case.specs.declared.source.Source.TheVariants as source
use Rattle.stream_case.specs.declared.stream.Stream.{Stream}
use Rattle.fractions.specs.Rationals.{IsAtMost, Rational, minus, plus, rational_sum_by, rational_zero, whole}
use Rattle.networks.specs.Lines.{Exchanger, exchangers_of, pass_of}
use Rattle.networks.specs.Shape.{HasShape}
use Rattle.networks.specs.declared.network.Line.{Line}
use Rattle.networks.specs.declared.network.Line.TheVariants as line
use Rattle.networks.specs.declared.network.Network.{Network}
use Rattle.problem_table.specs.Deficit.{CountsFromItself, IsReferencePlace, deficit_over, hot_target}
use Rattle.network_values.specs.Courses.{Course, Latent, Sensible, height_on}
use Rattle.network_values.specs.Heights.{View}
use Rattle.network_values.specs.Sides.{KeepApproaches}
use Rattle.network_values.specs.Values.{AreEnded, IsWholeValuation, Valuation, first_value, last_value}
use Rattle.network_values.specs.Weights.{Weight, mix_loss, weight_at}
use Rattle.network_values.specs.declared.values.BranchValue.{BranchValue}

-- ---- heights above a place of the shifted scale

-- the place as a temperature of a source with this contribution
abbrev pub unshifted : Side → ℤ → ℤ → ℤ
unshifted side.Hot place contribution = place +ℤ contribution
unshifted side.Cold place contribution = place -ℤ contribution

-- the base of a stream's distances, and its course as it is seen from the place: a latent stream stays at one distance
abbrev pub base_of : ℤ → Stream → Rational
base_of place s = whole (unshifted s.side place s.contribution)

abbrev pub course_of : ℤ → Stream → Course
course_of place s =
    if is_latent s then Latent (minus (whole s.supply) (base_of place s)) else Sensible (base_of place s)

-- the height of what a branch of a stream carries
abbrev pub height_in : View → Stream → BranchValue → Rational
height_in view s value = height_on view.from_itself (course_of view.place s) value

-- 0, of which no rule speaks, where there is no stream
abbrev pub stream_height : View → Option Stream → BranchValue → Rational
stream_height view None value = rational_zero
stream_height view (Some s) value = height_in view s value

unfoldable pub heights : Case → View → Weight
heights case view stream value = stream_height view (slice_get case.streams stream) value

-- the height of the branch with a number
abbrev pub height_at : Case → View → Network → Valuation → ℕ → Rational
height_at case view network values = weight_at (heights case view) network values

-- ---- penalties, by the heights of the branches

-- the height of the branch that enters an exchanger by a pass, and of that which leaves it; 0, of which no rule
-- speaks, where the line is no pass
abbrev pub inlet_height : (ℕ → Rational) → Option Line → Rational
inlet_height height None = rational_zero
inlet_height height (Some (line.Exchanger name hot cold duty)) = rational_zero
inlet_height height (Some (line.Split from first cp second)) = rational_zero
inlet_height height (Some (line.Pass from exchanger to)) = height from
inlet_height height (Some (line.Mix first second to)) = rational_zero
inlet_height height (Some (line.End branch)) = rational_zero

abbrev pub outlet_height : (ℕ → Rational) → Option Line → Rational
outlet_height height None = rational_zero
outlet_height height (Some (line.Exchanger name hot cold duty)) = rational_zero
outlet_height height (Some (line.Split from first cp second)) = rational_zero
outlet_height height (Some (line.Pass from exchanger to)) = height to
outlet_height height (Some (line.Mix first second to)) = rational_zero
outlet_height height (Some (line.End branch)) = rational_zero

-- what the hot side of an exchanger releases above the place: a stream the height that it loses, a utility the whole
-- duty
abbrev pub released_heat : (ℕ → Rational) → Network → ℕ → Rational → Source → Rational
released_heat height network number duty (source.Stream i) =
    minus (inlet_height height (pass_of network number i)) (outlet_height height (pass_of network number i))
released_heat height network number duty (source.Utility i) = duty

-- what the cold side absorbs above the place: a stream the height that it gains, a utility nothing
abbrev pub absorbed_heat : (ℕ → Rational) → Network → ℕ → Source → Rational
absorbed_heat height network number (source.Stream i) =
    minus (outlet_height height (pass_of network number i)) (inlet_height height (pass_of network number i))
absorbed_heat height network number (source.Utility i) = rational_zero

-- the penalty of the exchanger with a number; that of a mix is the height that its branches lose, `mix_loss`
abbrev pub penalty : (ℕ → Rational) → Network → ℕ × Exchanger → Rational
penalty height network (number, e) =
    minus (released_heat height network number e.duty e.hot) (absorbed_heat height network number e.cold)

abbrev pub exchanger_penalties : Case → View → Network → Valuation → Rational
exchanger_penalties case view network values =
    rational_sum_by (penalty (height_at case view network values) network) (enumerate_from 0 (exchangers_of network.lines))

abbrev pub mix_penalties : Case → View → Network → Valuation → Rational
mix_penalties case view network values = rational_sum_by (mix_loss (height_at case view network values)) network.lines

-- ---- the heat of the hot utilities

-- a duty with a utility; nothing with a stream
abbrev pub utility_part : Rational → Source → Rational
utility_part duty (source.Stream i) = rational_zero
utility_part duty (source.Utility i) = duty

abbrev pub hot_duty : Exchanger → Rational
hot_duty e = utility_part e.duty e.hot

-- the sum of the duties of the exchangers with a hot utility
abbrev pub hot_heat : Network → Rational
hot_heat network = rational_sum_by hot_duty (exchangers_of network.lines)

-- ---- the sum of the penalties

-- a heat is given away by a hot stream, and taken by a cold one
abbrev pub given_by : Side → ℤ → ℤ
given_by side.Hot heat = heat
given_by side.Cold heat = pos 0 -ℤ heat

-- in each view a stream loses the height, from its first state to its last, that it gives away in that view
abbrev pub StreamsGiveTheirHeat : Type 0
StreamsGiveTheirHeat =
    (view : View) (s : Stream) → IsValidStream s
    → minus (height_in view s (first_value s)) (height_in view s (last_value s))
    ≡ whole (given_by s.side (heat_over view.from_itself view.place s))

-- in each view all penalties add up to the heat of the hot utilities less the deficit in that view
abbrev pub PenaltiesAddUp : Type 0
PenaltiesAddUp =
    (case : Case) (network : Network) (values : Valuation) (view : View)
    → AreStreams case.streams → HasShape case network → IsWholeValuation case network values
    → AreEnded case network values
    → plus (exchanger_penalties case view network values) (mix_penalties case view network values)
    ≡ minus (hot_heat network) (whole (deficit_over view.from_itself case.streams view.place))

-- the view from the reference place, which counts from itself just where the deficit above it is not the hot target
pub record IsReferenceView (streams : List Stream) (view : View) : Type 0 where
  pub place : IsReferencePlace streams view.place
  pub from_itself : IsTrue view.from_itself ↔ CountsFromItself streams view.place

-- in this view they add up to the excess: the heat of the hot utilities less the hot target
abbrev pub PenaltiesAreTheExcess : Type 0
PenaltiesAreTheExcess =
    (case : Case) (network : Network) (values : Valuation) (view : View)
    → AreStreams case.streams → HasShape case network → IsWholeValuation case network values
    → AreEnded case network values
    → IsReferenceView case.streams view
    → plus (exchanger_penalties case view network values) (mix_penalties case view network values)
    ≡ minus (hot_heat network) (whole (hot_target case.streams))

-- ---- none is negative where the approaches are kept

-- no exchanger and no mix has a penalty below 0
pub record HasNoNegativePenalty (case : Case) (view : View) (network : Network) (values : Valuation) : Type 0 where
  pub exchangers : (number : ℕ) (e : Exchanger) → slice_get (exchangers_of network.lines) number ≡ Some e
      → IsAtMost rational_zero (penalty (height_at case view network values) network (number, e))
  pub mixes : All (λ l. IsAtMost rational_zero (mix_loss (height_at case view network values) l)) network.lines

abbrev pub PenaltiesAreNotNegative : Type 0
PenaltiesAreNotNegative =
    (case : Case) (network : Network) (values : Valuation) (view : View)
    → HasShape case network → IsWholeValuation case network values → KeepApproaches case network values
    → HasNoNegativePenalty case view network values

-- the hot utilities give at least the deficit in any view
abbrev pub DeficitsAreMet : Type 0
DeficitsAreMet =
    (case : Case) (network : Network) (values : Valuation) (view : View)
    → AreStreams case.streams → HasShape case network → IsWholeValuation case network values
    → AreEnded case network values → KeepApproaches case network values
    → IsAtMost (whole (deficit_over view.from_itself case.streams view.place)) (hot_heat network)

-- and so at least the hot target: the excess is not negative
abbrev pub TargetsAreMet : Type 0
TargetsAreMet =
    (case : Case) (network : Network) (values : Valuation)
    → AreStreams case.streams → HasShape case network → IsWholeValuation case network values
    → AreEnded case network values → KeepApproaches case network values
    → IsAtMost rational_zero (minus (hot_heat network) (whole (hot_target case.streams)))
