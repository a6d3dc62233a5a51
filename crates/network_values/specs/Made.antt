-- What a line makes of what branches carry before it.
use Rattle.std.specs.Prelude.{◌≡◌, ℕ, ◌<◌, List, [], ◌∷◌, take, Some, slice_get}
use Rattle.stream_case.specs.declared.case.Case.{Case}
use Rattle.stream_case.specs.declared.source.Side.{Side}
use Rattle.stream_case.specs.declared.source.Side.TheVariants as side
use Rattle.fractions.specs.Rationals.{IsBelow, Rational, minus, over, plus, times}
use Rattle.networks.specs.Shape.{made_before}
use Rattle.networks.specs.declared.network.Line.{Line}
use Rattle.networks.specs.declared.network.Line.TheVariants as line
use Rattle.networks.specs.declared.network.Network.{Network}
use Rattle.network_values.specs.Values.{IsValuation, Valuation, branch_side, duty_at, value_at}
use Rattle.network_values.specs.declared.values.BranchValue.{BranchValue}

-- the two parts of a branch, of which the first has the given size
abbrev pub first_part : BranchValue → Rational → BranchValue
first_part from cp = record { cp = cp; t = from.t }

abbrev pub second_part : BranchValue → Rational → BranchValue
second_part from cp = record { cp = minus from.cp cp; t = from.t }

-- a state that falls on the hot side, or rises on the cold side
abbrev pub moved : Side → Rational → Rational → Rational
moved side.Hot t by = minus t by
moved side.Cold t by = plus t by

-- a branch behind an exchanger of this duty
abbrev pub passed_value : Side → BranchValue → Rational → BranchValue
passed_value side from duty = record { cp = from.cp; t = moved side from.t (over duty from.cp) }

-- two branches together: the sum of sizes times states, and the state that is this sum over the size
abbrev pub heat_of_both : BranchValue → BranchValue → Rational
heat_of_both first second = plus (times first.cp first.t) (times second.cp second.t)

abbrev pub mixed_value : BranchValue → BranchValue → BranchValue
mixed_value first second = record {
  cp = plus first.cp second.cp;
  t = over (heat_of_both first second) (plus first.cp second.cp);
}

-- what a line makes, by the values before it
abbrev pub made_values : Case → Network → Valuation → Line → List BranchValue
made_values case network values (line.Exchanger name hot cold duty) = []
made_values case network values (line.Split from first cp second) =
    first_part (value_at values from) cp ∷ second_part (value_at values from) cp ∷ []
made_values case network values (line.Pass from exchanger to) =
    passed_value (branch_side case network from) (value_at values from) (duty_at network exchanger) ∷ []
made_values case network values (line.Mix first second to) =
    mixed_value (value_at values first) (value_at values second) ∷ []
made_values case network values (line.End branch) = []

-- a split leaves something of its branch
abbrev pub LeavesRoom : Valuation → Line → Type 0
LeavesRoom values (line.Exchanger name hot cold duty) = Unit {0}
LeavesRoom values (line.Split from first cp second) = IsBelow cp (value_at values from).cp
LeavesRoom values (line.Pass from exchanger to) = Unit {0}
LeavesRoom values (line.Mix first second to) = Unit {0}
LeavesRoom values (line.End branch) = Unit {0}

-- the values of the branches that the first n lines have made
abbrev pub front : Case → Network → ℕ → Valuation → Valuation
front case network n values = take (made_before case network n) values

-- no split of the first n lines takes as much as its branch carries, or more
abbrev pub LeaveRoom : Case → Network → ℕ → Type 0
LeaveRoom case network n =
    (index : ℕ) (l : Line) (values : Valuation) → index < n → slice_get network.lines index ≡ Some l
    → IsValuation case network index values → LeavesRoom values l
