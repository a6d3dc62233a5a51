-- Amounts laid end to end, and the pairs of amounts of two lists whose spans overlap.
use Rattle.std.specs.Prelude.{◌≡◌, ◌⊎◌, ℕ, suc, ◌<◌, ℤ, pos, ◌-ℤ◌, ◌≤ℤ◌, ◌<ℤ◌, List, length, take, All}
use Rattle.std.specs.Int.{int_max, int_min}
use Rattle.sums.specs.declared.pairs.Pair.{Pair}
use Rattle.sums.specs.Order.{Lists}
use Rattle.sums.specs.Sum.{int_sum_by}

abbrev pub NotNegative : List ℤ → Type 0
NotNegative = All (λ x. pos 0 ≤ℤ x)

-- where the span of the amount at index i begins: the sum of the amounts before it. It ends where the next one begins
abbrev pub begin_of : List ℤ → ℕ → ℤ
begin_of amounts i = int_sum_by (λ x. x) (take i amounts)

-- the length that the span at index i of the one list shares with the span at index j of the other; not above 0 where
-- they share none
abbrev pub overlap : List ℤ → List ℤ → ℕ → ℕ → ℤ
overlap firsts seconds i j =
    int_min (begin_of firsts (suc i)) (begin_of seconds (suc j)) -ℤ int_max (begin_of firsts i) (begin_of seconds j)

-- two indices whose spans overlap, with the length that they share
pub record IsOverlap (firsts seconds : List ℤ) (p : Pair) : Type 0 where
  pub first_within : p.first < length firsts
  pub second_within : p.second < length seconds
  pub amount : p.amount ≡ overlap firsts seconds p.first p.second
  pub positive : pos 0 <ℤ p.amount

-- by the first index, then by the second
abbrev pub pair_before : Pair → Pair → Type 0
pair_before p q = (p.first < q.first) ⊎ ((p.first ≡ q.first) × (p.second < q.second))

-- the list of exactly the pairs whose spans overlap, in order
abbrev pub ListsOverlaps : List ℤ → List ℤ → List Pair → Type 0
ListsOverlaps firsts seconds pairs = Lists pair_before (IsOverlap firsts seconds) pairs
