-- The items of an audit: tests, and numbers that are formed on the way. Those of statements, streams and exchangers.
use Rattle.std.specs.Prelude.{ℕ, ◌+◌, ◌==◌, pos, Bool, true, false, not, List, [], ◌∷◌, find, take, Option, Some, None, option_map, slice_get, if◌then◌else◌}
use Rattle.std.specs.List.{enumerate_from, flat_map, list_any}
use Rattle.stream_case.specs.Case.{is_forbidden}
use Rattle.stream_case.specs.declared.case.Case.{Case}
use Rattle.stream_case.specs.declared.source.Side.{Side}
use Rattle.stream_case.specs.declared.source.Side.TheVariants as side
use Rattle.stream_case.specs.declared.source.Source.{Source}
use Rattle.stream_case.specs.declared.stream.Stream.{Stream}
use Rattle.fractions.specs.Rationals.{IsWithinLimits, Rational, is_below, is_within_limits, minus, over, plus, rational_eq, rational_zero, times, whole}
use Rattle.networks.specs.Lines.{Exchanger, exchangers_of, stream_at}
use Rattle.networks.specs.declared.network.Branch.{Branch}
use Rattle.networks.specs.declared.network.Line.{Line}
use Rattle.networks.specs.declared.network.Line.TheVariants as line
use Rattle.networks.specs.declared.network.Network.{Network}
use Rattle.network_values.specs.Made.{heat_of_both, moved}
use Rattle.network_values.specs.Sides.{SideRun, approach_of, enters, leaves, side_run}
use Rattle.network_values.specs.Values.{Valuation, branch_side, duty_at, full_size, is_latent_branch, last_state, value_at}
use Rattle.network_values.specs.declared.values.BranchValue.{BranchValue}
use Rattle.network_audit.specs.declared.exchangers.Ends.{Ends}
use Rattle.network_audit.specs.declared.findings.Finding.{Finding}
use Rattle.network_audit.specs.declared.findings.Finding.TheVariants as finding
use Rattle.network_audit.specs.declared.findings.Place.{Place}
use Rattle.network_audit.specs.declared.findings.Place.TheVariants as place
use Rattle.network_audit.specs.declared.findings.Reason.{Reason}
use Rattle.network_audit.specs.declared.findings.Reason.TheVariants as reason

-- a test: its place, whether it is passed, and why not; or a step: its place, its number, and the value that it forms
pub data Item : Type 0 where
  Test : Place → Bool → Reason → Item
  Step : Place → ℕ → Rational → Item

-- a step is passed where its value is within the limits of a fraction
abbrev pub is_passed : Item → Bool
is_passed (Test at passed because) = passed
is_passed (Step at number value) = is_within_limits value

-- a number that a step forms is within the limits of a fraction; a test forms none
abbrev pub IsFormed : Item → Type 0
IsFormed (Test at passed because) = Unit {0}
IsFormed (Step at number value) = IsWithinLimits value

-- a step is not within the limits
abbrev pub too_fine : Place → ℕ → Finding
too_fine at number = finding.TooFine at number

-- what is found where an item is not passed
abbrev pub finding_of : Item → Finding
finding_of (Test at passed because) = finding.Failed at because
finding_of (Step at number value) = too_fine at number

-- the first item that is not passed
unfoldable pub first_finding : List Item → Option Finding
first_finding items = option_map finding_of (find (λ item. not (is_passed item)) items)

-- what was found is at least what was wanted
abbrev pub is_reached : Rational → Rational → Bool
is_reached found wanted = not (is_below found wanted)

-- ---- statements

-- a split has to leave something of its branch, and the rest is formed
abbrev pub split_items : Place → BranchValue → Rational → List Item
split_items at from cp = Test at (is_below cp from.cp) (reason.Overdrawn cp from.cp) ∷ Step at 1 (minus from.cp cp) ∷ []

-- the state of a latent branch is from 0 to 1
abbrev pub load_items : Place → Bool → Rational → List Item
load_items at false state = []
load_items at true state =
    Test at (is_reached state rational_zero) (reason.Overdrawn state rational_zero)
    ∷ Test at (is_reached (whole (pos 1)) state) (reason.Overdrawn state (whole (pos 1)))
    ∷ []

-- the change of the state, and the state behind the exchanger
abbrev pub pass_items : Place → Side → Bool → BranchValue → Rational → List Item
pass_items at side latent from duty =
    Step at 1 (over duty from.cp)
    ∷ Step at 2 (moved side from.t (over duty from.cp))
    ∷ load_items at latent (moved side from.t (over duty from.cp))

-- the size of two branches together; two equal states are that of the mix, and else it is their mean
abbrev pub mean_items : Place → BranchValue → BranchValue → Rational → List Item
mean_items at first second size =
    Step at 2 (times first.cp first.t)
    ∷ Step at 3 (times second.cp second.t)
    ∷ Step at 4 (heat_of_both first second)
    ∷ Step at 5 (over (heat_of_both first second) size)
    ∷ []

abbrev pub mix_items : Place → BranchValue → BranchValue → List Item
mix_items at first second =
    Step at 1 (plus first.cp second.cp)
    ∷ (if rational_eq first.t second.t then [] else mean_items at first second (plus first.cp second.cp))

-- a branch that ends carries its whole stream, at the stream's last state
abbrev pub end_items : Place → BranchValue → Option Stream → List Item
end_items at value None = []
end_items at value (Some s) =
    Test at (rational_eq value.cp (full_size s)) (reason.Unfinished value.cp (full_size s))
    ∷ Test at (rational_eq value.t (last_state s)) (reason.MissedTarget value.t (last_state s))
    ∷ []

-- the items of a statement, by what the branches carry that it uses
abbrev pub line_items : Case → Network → Valuation → Place → Line → List Item
line_items case network values at (line.Exchanger name hot cold duty) = []
line_items case network values at (line.Split from first cp second) = split_items at (value_at values from) cp
line_items case network values at (line.Pass from exchanger to) =
    pass_items at (branch_side case network from) (is_latent_branch case network from) (value_at values from) (duty_at network exchanger)
line_items case network values at (line.Mix first second to) =
    mix_items at (value_at values first) (value_at values second)
line_items case network values at (line.End branch) =
    end_items at (value_at values branch) (slice_get case.streams (stream_at network.branches branch))

-- statements are counted from 1
abbrev pub statement_items : Case → Network → Valuation → ℕ × Line → List Item
statement_items case network values (index, l) = line_items case network values (place.Line (index + 1)) l

-- those of the first n statements
unfoldable pub items_before : Case → Network → Valuation → ℕ → List Item
items_before case network values n =
    flat_map (statement_items case network values) (enumerate_from 0 (take n network.lines))

-- ---- streams

-- a statement ends a branch of a stream
abbrev pub ends_stream : List Branch → ℕ → Line → Bool
ends_stream branches stream (line.Exchanger name hot cold duty) = false
ends_stream branches stream (line.Split from first cp second) = false
ends_stream branches stream (line.Pass from exchanger to) = false
ends_stream branches stream (line.Mix first second to) = false
ends_stream branches stream (line.End branch) = stream_at branches branch == stream

-- some statement does
unfoldable pub is_ended : Network → ℕ → Bool
is_ended network stream = list_any (ends_stream network.branches stream) network.lines

-- each stream has to end
abbrev pub stream_items_at : Network → ℕ × Stream → List Item
stream_items_at network (index, s) =
    Test (place.Stream index) (is_ended network index) (reason.Unfinished rational_zero (full_size s)) ∷ []

unfoldable pub stream_items : Case → Network → List Item
stream_items case network = flat_map (stream_items_at network) (enumerate_from 0 case.streams)

-- ---- exchangers

-- where a side enters an exchanger, and where it leaves it
abbrev pub ends_of : Side → SideRun → Ends
ends_of side run = record { enters = enters side run; leaves = leaves side run }

-- the temperature of the hot side that a temperature of the cold side asks for
abbrev pub wanted_above : Case → Source → Source → Rational → Rational
wanted_above case hot cold t = plus t (whole (approach_of case hot cold))

-- the pair is permitted, and at both ends the hot side is above the cold one by the approach
abbrev pub side_items : Case → Place → Source → Source → Ends → Ends → List Item
side_items case at hot cold given taken =
    Test at (not (is_forbidden case.forbids hot cold)) reason.Forbidden
    ∷ Step at 1 (wanted_above case hot cold taken.leaves)
    ∷ Test at (is_reached given.enters (wanted_above case hot cold taken.leaves))
    (reason.HotEndApproach given.enters (wanted_above case hot cold taken.leaves))
    ∷ Step at 2 (wanted_above case hot cold taken.enters)
    ∷ Test at (is_reached given.leaves (wanted_above case hot cold taken.enters))
    (reason.ColdEndApproach given.leaves (wanted_above case hot cold taken.enters))
    ∷ []

abbrev pub exchanger_items_at : Case → Network → Valuation → ℕ × Exchanger → List Item
exchanger_items_at case network values (number, e) =
    side_items case (place.Exchanger number) e.hot e.cold (ends_of side.Hot (side_run case network values number e.hot))
    (ends_of side.Cold (side_run case network values number e.cold))

unfoldable pub exchanger_items : Case → Network → Valuation → List Item
exchanger_items case network values =
    flat_map (exchanger_items_at case network values) (enumerate_from 0 (exchangers_of network.lines))
