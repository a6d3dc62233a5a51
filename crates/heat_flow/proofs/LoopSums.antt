-- A sum that a loop forms in 128 bits.
use Rattle.heat_flow.proofs.Words.{+ℤ-*ℤ, IsWithin, int_sum_from, int_sum_from-more, ints, pos, w128, ℤ, ◌*ℤ◌, ◌+ℤ◌, ◌<ℤ◌}
use Rattle.std.proofs.Common.{List, ap₂, arith, get_or, length, of_z, sym, take, to_z, ℕ, ◌+◌, ◌<◌, ◌^◌, ◌∙◌, ◌≡◌}

-- the sum of f over the first i elements, each of which adds at most so much
pub record SumSoFar {X : Type 0} (f : ℕ → X → ℤ) (most : ℤ) (xs : List X) (i : ℕ) (total : ℤ) : Type 0 where
  pub sum : total ≡ int_sum_from f 0 (take i xs)
  pub range : IsWithin (pos i *ℤ most) total

pub SumSoFar-more : {X : Type 0} (f : ℕ → X → ℤ) (most : ℤ) (xs : List X) (i : ℕ) (d : X) (total value : ℤ)
    → i < length xs
    → (pos (i + 1) *ℤ most) <ℤ pos (2 ^ 127) → SumSoFar f most xs i total → value ≡ f i (get_or xs i d)
    → IsWithin most value
    → SumSoFar f most xs (i + 1) (to_z w128 (of_z w128 (total +ℤ to_z w128 (of_z w128 value))))
SumSoFar-more f most xs i d total value within room so_far is range =
    let split = +ℤ-*ℤ (pos i) (pos 1) most in
    let from = so_far.range.from in
    let upto = so_far.range.upto in
    let next : to_z w128 (of_z w128 (total +ℤ to_z w128 (of_z w128 value))) ≡ total +ℤ value
    = omega (arith, ints, range.from, range.upto) in
    record {
      sum = next ∙ ap₂ ◌+ℤ◌ so_far.sum is ∙ sym (int_sum_from-more f xs i d within);
      range = record { from = omega (arith, ints, range.from); upto = omega (arith, ints, range.upto) };
    }
