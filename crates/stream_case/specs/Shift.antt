-- Shifted temperatures.
use Rattle.std.specs.Prelude.{ℤ, ◌+ℤ◌, ◌-ℤ◌}
use Rattle.stream_case.specs.declared.source.Side.{Side}
use Rattle.stream_case.specs.declared.source.Side.TheVariants.{Hot, Cold}

-- a temperature of a source with this contribution, on the shifted scale
abbrev pub shifted : Side → ℤ → ℤ → ℤ
shifted Hot t contribution = t -ℤ contribution
shifted Cold t contribution = t +ℤ contribution
