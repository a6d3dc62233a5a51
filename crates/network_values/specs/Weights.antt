-- Weights of branches: what passes and mixes take of them, and their balance.
use Rattle.std.specs.Prelude.{◌≡◌, ◌≢◌, ℕ, ◌<◌, length, AllPairs, Contains}
use Rattle.std.specs.List.{enumerate_from}
use Rattle.stream_case.specs.declared.case.Case.{Case}
use Rattle.stream_case.specs.declared.stream.Stream.{Stream}
use Rattle.fractions.specs.Rationals.{Rational, minus, plus, rational_sum_by, rational_zero}
use Rattle.networks.specs.Lines.{stream_at, used_by}
use Rattle.networks.specs.Shape.{HasShape}
use Rattle.networks.specs.declared.network.Line.{Line}
use Rattle.networks.specs.declared.network.Line.TheVariants as line
use Rattle.networks.specs.declared.network.Network.{Network}
use Rattle.network_values.specs.Values.{AreEnded, IsWholeValuation, Valuation, ended_streams, first_value, last_value, value_at}
use Rattle.network_values.specs.declared.values.BranchValue.{BranchValue}

-- ---- ends

-- no stream ends twice, and no branch is left over
pub record EndOnce (network : Network) : Type 0 where
  pub distinct : AllPairs (λ a b. a ≢ b) (ended_streams network)
  pub none_left : (branch : ℕ) → branch < length network.branches → Contains (used_by network.lines) branch

-- where each end is a full one and each stream has one, each has just one, and no branch is left over
abbrev pub StreamsEndOnce : Type 0
StreamsEndOnce =
    (case : Case) (network : Network) (values : Valuation) → HasShape case network
    → IsWholeValuation case network values
    → AreEnded case network values → EndOnce network

-- ---- weights

-- what a branch weighs, by its stream and what it carries
abbrev pub Weight : Type 0
Weight = ℕ → BranchValue → Rational

-- two branches of one state weigh what both together weigh
abbrev pub IsAdditive : Weight → Type 0
IsAdditive weight = (stream : ℕ) (f g t : Rational)
    → weight stream (record { cp = plus f g; t = t })
    ≡ plus (weight stream (record { cp = f; t = t })) (weight stream (record { cp = g; t = t }))

-- the weight of the branch with a number
abbrev pub weight_at : Weight → Network → Valuation → ℕ → Rational
weight_at weight network values branch = weight (stream_at network.branches branch) (value_at values branch)

-- what branches lose of their weight at a line: at a pass, and at a mix
abbrev pub pass_loss : (ℕ → Rational) → Line → Rational
pass_loss weight (line.Exchanger name hot cold duty) = rational_zero
pass_loss weight (line.Split from first cp second) = rational_zero
pass_loss weight (line.Pass from exchanger to) = minus (weight from) (weight to)
pass_loss weight (line.Mix first second to) = rational_zero
pass_loss weight (line.End branch) = rational_zero

abbrev pub mix_loss : (ℕ → Rational) → Line → Rational
mix_loss weight (line.Exchanger name hot cold duty) = rational_zero
mix_loss weight (line.Split from first cp second) = rational_zero
mix_loss weight (line.Pass from exchanger to) = rational_zero
mix_loss weight (line.Mix first second to) = minus (plus (weight first) (weight second)) (weight to)
mix_loss weight (line.End branch) = rational_zero

-- what a stream weighs less at its end than at its beginning
abbrev pub stream_loss : Weight → ℕ × Stream → Rational
stream_loss weight (i, s) = minus (weight i (first_value s)) (weight i (last_value s))

-- whatever branches weigh: what the streams lose, they lose at the passes and at the mixes
abbrev pub WeightsBalance : Type 0
WeightsBalance =
    (case : Case) (network : Network) (values : Valuation) (weight : Weight) → HasShape case network
    → IsWholeValuation case network values
    → AreEnded case network values → IsAdditive weight
    → rational_sum_by (stream_loss weight) (enumerate_from 0 case.streams)
    ≡ plus (rational_sum_by (pass_loss (weight_at weight network values)) network.lines)
    (rational_sum_by (mix_loss (weight_at weight network values)) network.lines)
