-- The ranks of parts: place k of the grid has rank 2 k, the interval below it has rank 2 k + 1.
use Rattle.std.specs.Prelude.{ℕ, suc, ◌+◌, ◌-◌, ◌*◌, ℤ, List, [], ◌∷◌, length, if◌then◌else◌}
use Rattle.std.specs.Ordering.{int_eq}
use Rattle.grid.specs.declared.part.Part.{Part}

-- the index of a temperature among the places
abbrev pub place_index : List ℤ → ℤ → ℕ
place_index [] t = 0
place_index (place ∷ places) t = if int_eq place t then 0 else suc (place_index places t)

abbrev pub rank_of : List ℤ → Part → ℕ
rank_of places p = 2 * place_index places p.high + (if int_eq p.high p.low then 0 else 1)

-- a rank for each place, and one between each two
abbrev pub rank_count : List ℤ → ℕ
rank_count places = 2 * length places - 1
