-- A table of the pairs of parts that reach each other.
use Rattle.std.specs.Prelude.{◌≡◌, ℕ, ◌+◌, ◌*◌, Bool, false, ◌&&◌, nat_lt, slice_index_or}
use Rattle.heat_flow.specs.declared.reach.Reach.{Reach}

-- what the table holds for hot part a and cold part b, which are in range
abbrev pub reaches : Reach → ℕ → ℕ → Bool
reaches r a b = (nat_lt a r.hots && nat_lt b r.colds) && slice_index_or r.cells (a * r.colds + b) false

-- the table has a row for each hot part and a column for each cold part
pub record HasSizes (r : Reach) (rows columns : ℕ) : Type 0 where
  pub hots : r.hots ≡ rows
  pub colds : r.colds ≡ columns
