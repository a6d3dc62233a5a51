-- The shifted level of a utility, and valid utilities.
use Rattle.std.specs.Prelude.{ℤ}
use Rattle.stream_case.specs.declared.utility.Utility.{Utility}
use Rattle.stream_case.specs.declared.limits.TheConstants.{MOST_HEAT}
use Rattle.stream_case.specs.Limits.{IsBetween, IsTemperature, IsContribution, IsHeat, IsPrice, IsShifted}
use Rattle.stream_case.specs.Name.{IsName}
use Rattle.stream_case.specs.Shift.{shifted}

-- the level of a utility on the shifted scale
abbrev pub shifted_level : Utility → ℤ
shifted_level u = shifted u.side u.level u.contribution

-- a utility that a case file may give
pub record IsValidUtility (u : Utility) : Type 0 where
  pub name : IsName u.name
  pub level : IsTemperature u.level
  pub least : IsHeat u.least
  pub most : IsBetween u.least MOST_HEAT u.most
  pub price : IsPrice u.price
  pub contribution : IsContribution u.contribution

-- such a one, or a standard one: its shifted level, range and price are within the limits
pub record IsPlaced (u : Utility) : Type 0 where
  pub level : IsShifted (shifted_level u)
  pub least : IsHeat u.least
  pub most : IsBetween u.least MOST_HEAT u.most
  pub price : IsPrice u.price
