-- The queue of a search: its entries, and what the next one is.
use Rattle.std.specs.Prelude.{◌≡◌, ℕ, ℤ, ◌≤ℤ◌, List, [], ◌∷◌, ◌++◌, map, All}
use Rattle.std.specs.BinaryHeap.{heap_items}
use Rattle.std.specs.List.Sorted.{IsPermutation}
use Rattle.std.specs.declared.cmp.Reverse.{Reverse}
use Rattle.flow_net.specs.declared.queue.Queue.{Queue}

-- the entry of node v, at distance z
abbrev pub entry : ℤ → ℕ → Reverse ℤ × ℕ
entry z v = (record { 0 = z }, v)

-- the nodes in the queue, with their distances
abbrev pub entries_of : Queue → List (Reverse ℤ × ℕ)
entries_of q = map (entry q.level) q.near.items ++ heap_items q.far

-- node v leaves the queue. Its distance is the new level, and no entry left has a smaller one
pub record IsNext (old new : Queue) (v : ℕ) : Type 0 where
  pub taken : IsPermutation (entries_of old) (entry new.level v ∷ entries_of new)
  pub level : old.level ≤ℤ new.level
  pub least : All (λ e. new.level ≤ℤ e.0.0) (entries_of new)

-- the queue is empty
pub record IsEmptied (old new : Queue) : Type 0 where
  pub was_empty : entries_of old ≡ []
  pub is_empty : entries_of new ≡ []
  pub level : new.level ≡ old.level
