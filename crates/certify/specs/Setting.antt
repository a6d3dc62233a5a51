-- What a check sees of a case.
use Rattle.std.specs.Prelude.{ℕ, Bool, List}
use Rattle.grid.specs.declared.part.Part.{Part}
use Rattle.heat_flow.specs.Reach.{reach_between}
use Rattle.certify.specs.Permits.{IsSetting}
use Rattle.certify.specs.declared.permits.Setting.{Setting}

-- the parts of the two sides
abbrev pub hot_parts : Setting → List Part
hot_parts s = s.parts.now.hot

abbrev pub cold_parts : Setting → List Part
cold_parts s = s.parts.now.cold

-- the case is completed, the parts are of its sources, and the table is that of its sources
abbrev pub IsSound : Setting → Type 0
IsSound s = IsSetting s.case.now (hot_parts s) (cold_parts s) s.permits.now

-- which of these parts reach which
abbrev pub reach_of : Setting → ℕ → ℕ → Bool
reach_of s = reach_between s.case.now (hot_parts s) (cold_parts s)
