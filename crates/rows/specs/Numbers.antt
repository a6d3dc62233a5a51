-- The number texts of the files: an optional `-`, and then 1 to 13 digits; and numbers within their limits.
use Rattle.std.specs.Prelude.{ℕ, ℤ, pos, List, Option, Some, None, Bool, true, ◌&&◌, int_le, neg_ℤ}
use Rattle.stream_case.specs.Digits.{integer_in}
use Rattle.stream_case.specs.declared.limits.TheConstants.{HIGHEST_TEMPERATURE, LOWEST_TEMPERATURE, MOST_CONTRIBUTION, MOST_CP, MOST_HEAT, MOST_LOAD, MOST_PRICE}
use Rattle.rows.specs.declared.numbers.TheConstants.{MOST_DIGITS}

-- the number that a text spells, if it is a number text
abbrev pub number_in : List ℕ → Option ℤ
number_in text = integer_in MOST_DIGITS text

-- ---- limits

unfoldable pub is_within : ℤ → ℤ → ℤ → Bool
is_within low high n = int_le low n && int_le n high

-- in tenths of °C
abbrev pub is_temperature : ℤ → Bool
is_temperature n = is_within LOWEST_TEMPERATURE HIGHEST_TEMPERATURE n

-- in tenths of °C
abbrev pub is_contribution : ℤ → Bool
is_contribution n = is_within (pos 0) MOST_CONTRIBUTION n

-- that of a source, which may give none
unfoldable pub is_own_contribution : Option ℤ → Bool
is_own_contribution None = true
is_own_contribution (Some n) = is_contribution n

-- in 10 W/K
abbrev pub is_flow_rate : ℤ → Bool
is_flow_rate n = is_within (pos 1) MOST_CP n

-- of a latent stream, in W
abbrev pub is_load : ℤ → Bool
is_load n = is_within (pos 1) MOST_LOAD n

-- that of a stream, which may give none
unfoldable pub is_own_load : Option ℤ → Bool
is_own_load None = true
is_own_load (Some n) = is_load n

-- the least heat-capacity flow of a stream that gives this load, in 10 W/K: it is 0 where there is a load
abbrev pub least_flow_rate : Option ℤ → ℤ
least_flow_rate None = pos 1
least_flow_rate (Some load) = pos 0

-- in 10 W/K, beside the load of the stream
abbrev pub is_flow_rate_beside : Option ℤ → ℤ → Bool
is_flow_rate_beside load n = is_within (least_flow_rate load) MOST_CP n

-- in W
abbrev pub is_heat : ℤ → Bool
is_heat n = is_within (pos 0) MOST_HEAT n

-- of one W
abbrev pub is_price : ℤ → Bool
is_price n = is_within (neg_ℤ MOST_PRICE) MOST_PRICE n
