-- A valuation at a line, at a stream and at a branch; numbers of a range.
use Rattle.network_values.proofs.Words.{Case, HasShape, IsBelow, IsValuation, IsWholeValuation, Network, Solves, Stream, Valuation, all_made, first_value}
use Rattle.network_values.proofs.Words.{get_or-map, get_or-range_with_len, get_or_from_slice_get, length-range_with_len, made_by, no_value, range_with_len}
use Rattle.network_values.proofs.Words.{rational_zero, slice_get_within, take-length, value_at}
use Rattle.network_values.proofs.ValuationLemmas.{branch_positive}
use Rattle.std.proofs.Common.{All, Contains, List, Some, [], ap, arith, get_or, get_or-take, length, refl, slice_get, subst, suc, sym, zero, ℕ, ◌<◌, ◌∙◌, ◌∷◌}
use Rattle.std.proofs.Common.{◌≡◌}

-- ---- ranges

pub item_at : {X : Type 0} (xs : List X) (i : ℕ) → i < length xs → (x : X) × (slice_get xs i ≡ Some x)
item_at [] i within = absurd (omega (arith, within))
item_at (x ∷ xs) zero within = (x, refl)
item_at (x ∷ xs) (suc i) within = item_at xs i (omega (arith, within))

pub All-range : (P : ℕ → Type 0) (n : ℕ) → ((k : ℕ) → k < n → P k) → All P (range_with_len 0 n)
All-range P n each k d inside =
    let within : k < n = omega (arith, inside, length-range_with_len 0 n) in
    subst P (sym (get_or-range_with_len 0 n k d within ∙ omega arith)) (each k within)

pub Contains-range : (n k : ℕ) → k < n → Contains (range_with_len 0 n) k
Contains-range n k within =
    (k, omega (arith, within, length-range_with_len 0 n), get_or-range_with_len 0 n k k within ∙ omega arith)

-- ---- a stream's own branch

-- it carries the stream
pub own_value : {case : Case} {network : Network} {n : ℕ} {values : Valuation}
    → IsValuation case network n values → (i : ℕ) (s : Stream)
    → slice_get case.streams i ≡ Some s → value_at values i ≡ first_value s
own_value {case} {network} {n} {values} is i s at =
    let within = slice_get_within case.streams i s at in
    sym (get_or-take (length case.streams) values i no_value within) ∙ ap (λ vs. get_or vs i no_value) is.own
    ∙ get_or-map first_value case.streams i s no_value within
    ∙ ap first_value (get_or_from_slice_get case.streams i s s at)

-- ---- a valuation of all lines

module _ {case : Case} {network : Network} {values : Valuation} (whole : IsWholeValuation case network values) where
  pub all_solved : All (Solves case network values) network.lines
  all_solved = subst (All (Solves case network values)) (take-length network.lines) whole.solved

  pub branch_above : HasShape case network → (branch : ℕ) → branch < length network.branches
      → IsBelow rational_zero (value_at values branch).cp
  branch_above shape branch within =
      let lines = ap (λ ls. length (made_by ls)) (take-length network.lines) in
      branch_positive case network (length network.lines) values whole branch (omega (arith, within, all_made shape.made_once, lines))
