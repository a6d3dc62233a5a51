-- The two sides of an exchanger.
use Rattle.std.specs.Prelude.{◌≡◌, ℕ, ℤ, pos, ◌+ℤ◌, Option, Some, None, slice_get, if◌then◌else◌}
use Rattle.std.specs.Option.{option_map_or}
use Rattle.stream_case.specs.Stream.{is_latent}
use Rattle.stream_case.specs.declared.case.Case.{Case}
use Rattle.stream_case.specs.declared.source.Side.{Side}
use Rattle.stream_case.specs.declared.source.Side.TheVariants as side
use Rattle.stream_case.specs.declared.source.Source.{Source}
use Rattle.stream_case.specs.declared.source.Source.TheVariants as source
use Rattle.stream_case.specs.declared.stream.Stream.{Stream}
use Rattle.fractions.specs.Rationals.{IsAtMost, Rational, minus, plus, rational_zero, whole}
use Rattle.networks.specs.Lines.{Exchanger, exchangers_of, pass_of}
use Rattle.networks.specs.declared.network.Line.{Line}
use Rattle.networks.specs.declared.network.Line.TheVariants as line
use Rattle.networks.specs.declared.network.Network.{Network}
use Rattle.network_values.specs.Values.{Valuation, branch_side, value_at}
use Rattle.network_values.specs.declared.values.BranchValue.{BranchValue}

-- a side of an exchanger: a flow of some size between a lower and a higher temperature, or one level
pub data SideRun : Type 0 where
  Between : Rational → Rational → Rational → SideRun
  Level : Rational → SideRun

abbrev pub low_of : SideRun → Rational
low_of (Between size low high) = low
low_of (Level at) = at

abbrev pub high_of : SideRun → Rational
high_of (Between size low high) = high
high_of (Level at) = at

-- a hot side enters at its high end and leaves at its low one, a cold side the other way round
abbrev pub enters : Side → SideRun → Rational
enters side.Hot run = high_of run
enters side.Cold run = low_of run

abbrev pub leaves : Side → SideRun → Rational
leaves side.Hot run = low_of run
leaves side.Cold run = high_of run

-- the side, its temperatures less a base
abbrev pub seen_from : Rational → SideRun → SideRun
seen_from base (Between size low high) = Between size (minus low base) (minus high base)
seen_from base (Level at) = Level (minus at base)

-- ---- the sides of the exchangers of a network

-- the run of a branch to the branch behind an exchanger
abbrev pub run_between : Side → BranchValue → BranchValue → SideRun
run_between side.Hot from to = Between from.cp to.t from.t
run_between side.Cold from to = Between from.cp from.t to.t

abbrev pub pass_run : Case → Network → Valuation → Option Line → SideRun
pass_run case network values (Some (line.Exchanger name hot cold duty)) = Level rational_zero
pass_run case network values (Some (line.Split from first cp second)) = Level rational_zero
pass_run case network values (Some (line.Pass from exchanger to)) =
    run_between (branch_side case network from) (value_at values from) (value_at values to)
pass_run case network values (Some (line.Mix first second to)) = Level rational_zero
pass_run case network values (Some (line.End branch)) = Level rational_zero
pass_run case network values None = Level rational_zero

-- a latent stream has its one temperature, in tenths of °C; a sensible one runs between two
abbrev pub stream_level : Option Stream → Option ℤ
stream_level None = None
stream_level (Some s) = if is_latent s then Some s.supply else None

-- the level of a source
abbrev pub fixed_level : Case → Source → Option ℤ
fixed_level case (source.Stream number) = stream_level (slice_get case.streams number)
fixed_level case (source.Utility number) = Some (option_map_or (λ u. u.level) (slice_get case.utilities number) (pos 0))

-- the run of the branches of a source that pass an exchanger; a utility has none, and no rule speaks of this one
abbrev pub passed_run : Case → Network → Valuation → ℕ → Source → SideRun
passed_run case network values exchanger (source.Stream number) =
    pass_run case network values (pass_of network exchanger number)
passed_run case network values exchanger (source.Utility number) = Level rational_zero

abbrev pub level_or : SideRun → Option ℤ → SideRun
level_or run None = run
level_or run (Some level) = Level (whole level)

-- a source has its level, or else runs between the temperatures of its branch before and behind the exchanger
unfoldable pub side_run : Case → Network → Valuation → ℕ → Source → SideRun
side_run case network values exchanger s = level_or (passed_run case network values exchanger s) (fixed_level case s)

-- ---- approaches

-- the contribution of a source; 0, of which no rule speaks, where there is none
abbrev pub contribution_of : Case → Source → ℤ
contribution_of case (source.Stream number) =
    option_map_or (λ s. s.contribution) (slice_get case.streams number) (pos 0)
contribution_of case (source.Utility number) =
    option_map_or (λ u. u.contribution) (slice_get case.utilities number) (pos 0)

-- the least temperature difference of two sources
abbrev pub approach_of : Case → Source → Source → ℤ
approach_of case hot cold = contribution_of case hot +ℤ contribution_of case cold

-- at both ends the hot side is above the cold one by the approach
pub record KeepsApproach (case : Case) (network : Network) (values : Valuation) (number : ℕ)
    (e : Exchanger) : Type 0 where
  pub hot_end : IsAtMost
      (plus (leaves side.Cold (side_run case network values number e.cold)) (whole (approach_of case e.hot e.cold)))
      (enters side.Hot (side_run case network values number e.hot))
  pub cold_end : IsAtMost
      (plus (enters side.Cold (side_run case network values number e.cold)) (whole (approach_of case e.hot e.cold)))
      (leaves side.Hot (side_run case network values number e.hot))

abbrev pub KeepApproaches : Case → Network → Valuation → Type 0
KeepApproaches case network values =
    (number : ℕ) (e : Exchanger) → slice_get (exchangers_of network.lines) number ≡ Some e
    → KeepsApproach case network values number e
