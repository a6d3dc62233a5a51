-- Prices of parts that support heat flows, and their value.
use Rattle.std.specs.Prelude.{◌≡◌, Bool, IsTrue, ℕ, ℤ, pos, ◌+ℤ◌, ◌-ℤ◌, ◌*ℤ◌, ◌≤ℤ◌, List, slice_index_or}
use Rattle.std.specs.Int.{int_min}
use Rattle.stream_case.specs.declared.source.Side.{Side}
use Rattle.stream_case.specs.declared.source.Side.TheVariants.{Hot, Cold}
use Rattle.stream_case.specs.Limits.{IsBetween}
use Rattle.sums.specs.Sum.{int_sum_from}
use Rattle.grid.specs.declared.part.Part.{Part}
use Rattle.heat_flow.specs.declared.flow.Transfer.{Transfer}
use Rattle.heat_flow.specs.Flow.{IsHeatFlow, cost_of}

-- the price of the part at an index
abbrev pub price_at : List ℤ → ℕ → ℤ
price_at prices i = slice_index_or prices i (pos 0)

-- where a hot part reaches a cold part, the cold part's price is at most the hot part's
abbrev pub IsSupporting : (ℕ → ℕ → Bool) → List ℤ → List ℤ → Type 0
IsSupporting reach y z = (a b : ℕ) → IsTrue (reach a b) → price_at z b ≤ℤ price_at y a

-- the least of c * s for s from low to high
abbrev pub least_product : ℤ → ℤ → ℤ → ℤ
least_product c low high = int_min (c *ℤ low) (c *ℤ high)

-- c * s for some s from low to high, and at most c * s for each
pub record IsLeastProduct (c low high value : ℤ) : Type 0 where
  pub at : ℤ
  pub within : IsBetween low high at
  pub is : value ≡ c *ℤ at
  pub least : (s : ℤ) → IsBetween low high s → value ≤ℤ (c *ℤ s)

-- what a watt of a part costs beyond its price in the certificate, at which a hot part gives and a cold part takes
abbrev pub excess_price : Side → ℤ → ℤ → ℤ
excess_price Hot price y = price -ℤ y
excess_price Cold price z = price +ℤ z

-- the sum over the parts of a side of the least that the part can cost at these prices
abbrev pub side_value : Side → List Part → List ℤ → ℤ
side_value side parts prices =
    int_sum_from (λ a p. least_product (excess_price side p.price (price_at prices a)) p.least p.most) 0 parts

-- the value of prices y of the hot parts and z of the cold parts
abbrev pub value_of : List Part → List Part → List ℤ → List ℤ → ℤ
value_of hot cold y z = side_value Hot hot y +ℤ side_value Cold cold z

-- no heat flow costs less than the value of prices that support it
abbrev pub WeakDuality : (ℕ → ℕ → Bool) → List Part → List Part → List ℤ → List ℤ → Type 0
WeakDuality reach hot cold y z =
    IsSupporting reach y z → (transfers : List Transfer) → IsHeatFlow reach hot cold transfers
    → value_of hot cold y z ≤ℤ cost_of hot cold transfers
