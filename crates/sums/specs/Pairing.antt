-- One more element of a list, where it belongs there, and how far a list of amounts is given away.
use Rattle.std.specs.Prelude.{ℕ, ◌+◌, ℤ, pos, ◌+ℤ◌, ◌≤ℤ◌, int_lt, Bool, true, false, List, ◌∷◌, slice_index_or, if◌then◌else◌}
use Rattle.std.specs.Ordering.{int_eq}
use Rattle.sums.specs.declared.pairs.Pair.{Pair}
use Rattle.sums.specs.declared.pairs.Progress.{Progress}

-- an element in front of others, if a test holds
abbrev pub cons_if : {X : Type 0} → Bool → X → List X → List X
cons_if true x xs = x ∷ xs
cons_if false x xs = xs

-- a pair in front of others, if its amount is positive
abbrev pub cons_positive : ℕ → ℕ → ℤ → List Pair → List Pair
cons_positive i j amount ps = cons_if (int_lt (pos 0) amount) (record { first = i; second = j; amount = amount }) ps

-- no more is given of the amount at the index than it has
pub record IsWithin (amounts : List ℤ) (p : Progress) : Type 0 where
  pub from : pos 0 ≤ℤ p.given
  pub upto : p.given ≤ℤ slice_index_or amounts p.index (pos 0)

-- the next amount begins where one is given whole
abbrev pub progress_after : List ℤ → Progress → ℤ → Progress
progress_after amounts p more =
    if int_eq (p.given +ℤ more) (slice_index_or amounts p.index (pos 0)) then record {
      index = p.index + 1;
      given = pos 0;
    }
    else record { index = p.index; given = p.given +ℤ more }
