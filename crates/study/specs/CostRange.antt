-- How large the cost of a heat flow of a case can be.
use Rattle.std.specs.Prelude.{◌*◌, ℤ, pos, ◌*ℤ◌}
use Rattle.stream_case.specs.declared.limits.TheConstants.{MOST_HEAT, MOST_PARTS, MOST_PRICE}
use Rattle.heat_flow.specs.Ranges.{IsWithin}

-- all parts of both sides at the greatest price of their most heat
abbrev pub most_cost : ℤ
most_cost = pos (2 * MOST_PARTS) *ℤ (MOST_PRICE *ℤ MOST_HEAT)

abbrev pub IsCost : ℤ → Type 0
IsCost cost = IsWithin most_cost cost
