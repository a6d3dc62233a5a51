-- How large the numbers of costs and values are.
use Rattle.std.specs.Prelude.{ℤ, neg_ℤ, ◌+ℤ◌, ◌*ℤ◌}
use Rattle.stream_case.specs.declared.limits.TheConstants.{MOST_HEAT, MOST_PRICE, MOST_PART_PRICE}
use Rattle.stream_case.specs.Limits.{IsBetween}

-- at most this, on both sides of 0
abbrev pub IsWithin : ℤ → ℤ → Type 0
IsWithin most x = IsBetween (neg_ℤ most) most x

-- what a watt costs beyond its price in a certificate
abbrev pub most_excess : ℤ
most_excess = MOST_PRICE +ℤ MOST_PART_PRICE

-- what a part can cost beyond that
abbrev pub most_part_value : ℤ
most_part_value = most_excess *ℤ MOST_HEAT
