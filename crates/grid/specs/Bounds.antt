-- What every part keeps.
use Rattle.std.specs.Prelude.{◌≡◌, ℕ, pos}
use Rattle.stream_case.specs.declared.source.Source.TheVariants.{Stream as of_stream}
use Rattle.stream_case.specs.declared.limits.TheConstants.{MOST_HEAT}
use Rattle.stream_case.specs.Limits.{IsBetween, IsHeat, IsPrice}
use Rattle.grid.specs.declared.part.Part.{Part}

-- a least and a most, the most at least the least, and a price within the limits; no price for a stream
pub record IsBounded (p : Part) : Type 0 where
  pub least : IsHeat p.least
  pub most : IsBetween p.least MOST_HEAT p.most
  pub price : IsPrice p.price
  pub free : (i : ℕ) → p.source ≡ of_stream i → p.price ≡ pos 0
