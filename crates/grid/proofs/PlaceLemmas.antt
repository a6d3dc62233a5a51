-- Neighbours on a grid.
use Rattle.grid.proofs.Words.{AllPairs, Contains, IsInterval, by_lt_z, cases_eq, cases_lt, get_or_from_slice_get, ints, slice_get_within, ℤ, ◌<ℤ◌, ◌≤ℤ◌}
use Rattle.std.proofs.Common.{List, ap, arith, get_or, subst₂, sym, ⊎_elim, ◌+◌, ◌∙◌, ◌≡◌}

pub interval_falls : (grid : List ℤ) (high low : ℤ) → AllPairs (λ a b. b <ℤ a) grid
    → IsInterval grid high low → low <ℤ high
interval_falls grid high low falls h =
    let within = slice_get_within grid (h.index + 1) low h.to in
    let fall = falls h.index (h.index + 1) low (omega arith) within in
    let is_high = get_or_from_slice_get grid h.index high low h.from in
    let is_low = get_or_from_slice_get grid (h.index + 1) low low h.to in
    subst₂ (λ a b. b <ℤ a) is_high is_low fall

pub interval_ends : (grid : List ℤ) (high low : ℤ) → IsInterval grid high low → Contains grid high × Contains grid low
interval_ends grid high low h = (
  (h.index, slice_get_within grid h.index high h.from, get_or_from_slice_get grid h.index high high h.from),
  (h.index + 1, slice_get_within grid (h.index + 1) low h.to, get_or_from_slice_get grid (h.index + 1) low low h.to),
)

-- no place lies strictly between two neighbours
pub interval_below : (grid : List ℤ) (high low x : ℤ) → AllPairs (λ a b. b <ℤ a) grid
    → IsInterval grid high low → Contains grid x → x <ℤ high → x ≤ℤ low
interval_below grid high low x falls h (k, within, is) less =
    let to = slice_get_within grid (h.index + 1) low h.to in
    let from = slice_get_within grid h.index high h.from in
    let is_high = get_or_from_slice_get grid h.index high x h.from in
    let is_low = get_or_from_slice_get grid (h.index + 1) low x h.to in
    ⊎_elim (λ early.
    ⊎_elim (λ e. let same : x ≡ high = sym is ∙ ap (λ n. get_or grid n x) e ∙ is_high in absurd (omega (arith, ints)))
    (λ other. let fall = falls k h.index x (omega (arith, other)) from in absurd (omega (arith, ints)))
    (cases_eq k h.index))
    (λ late.
    ⊎_elim (λ e. let same : x ≡ low = sym is ∙ ap (λ n. get_or grid n x) e ∙ is_low in omega (arith, ints)) (λ other.
    let fall = falls (h.index + 1) k x (omega (arith, other)) within in
    omega (arith, ints)) (cases_eq k (h.index + 1)))
    (cases_lt k (h.index + 1))

pub interval_above : (grid : List ℤ) (high low x : ℤ) → AllPairs (λ a b. b <ℤ a) grid
    → IsInterval grid high low → Contains grid x → low <ℤ x → high ≤ℤ x
interval_above grid high low x falls h at more =
    by_lt_z x high (λ less. let below = interval_below grid high low x falls h at less in absurd (omega (arith, ints)))
    (λ most. most)
