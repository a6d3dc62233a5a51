-- The entries of the queue of a search: nodes with distances.
use Rattle.std.specs.Prelude.{ℕ, ℤ}
use Rattle.std.specs.Ordering.{nat_cmp, int_cmp, ordering_then}
use Rattle.std.specs.declared.cmp.Ordering.{Ordering}
use Rattle.std.specs.declared.cmp.Reverse.{Reverse}

-- the greatest entry is the one with the least distance
abbrev pub entry_cmp : Reverse ℤ × ℕ → Reverse ℤ × ℕ → Ordering
entry_cmp x y = ordering_then (int_cmp y.0.0 x.0.0) (nat_cmp x.1 y.1)
