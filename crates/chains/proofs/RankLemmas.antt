-- The ranks of parts on the places of a case: heat passes from a part to those of greater rank, or of the same one.
use Rattle.chains.proofs.Words.{All-slice_get, AllPairs-head, AllPairs-tail, Case, Decides-int_eq, IsComplete, IsGrid, IsInterval, IsOnPlaces, Part}
use Rattle.chains.proofs.Words.{Side, StaysValid-IsComplete, Stream, and_from, and_parts, cases_eq, cases_lt, get_or_from_slice_get, high_end, int_eq}
use Rattle.chains.proofs.Words.{int_eq-false, int_le-from, int_le-true, interval_falls, ints, none-some, or_cases, or_left, or_right, passes_heat}
use Rattle.chains.proofs.Words.{place_index, rank_count, rank_of, same_Some, shifted_level, slice_get_read, slice_get_within, stream_ends}
use Rattle.std.proofs.Common.{AllPairs, Contains, List, Some, [], ap, ap₂, arith, if◌then◌else◌, int_le, length, map, refl, slice_get, subst, subst₂}
use Rattle.std.proofs.Common.{suc, sym, true, zero, ℕ, ℤ, ⊎_elim, ◌&&◌, ◌*◌, ◌++◌, ◌+◌, ◌<ℤ◌, ◌<◌, ◌∙◌, ◌∷◌, ◌≡◌, ◌≤ℤ◌, ◌≤◌}

-- the grid of a case has a place
some_end : (streams : List Stream) (levels : List ℤ) → 0 < length streams
    → (x : ℤ) × Contains (stream_ends streams ++ levels) x
some_end [] levels some = absurd (omega (arith, some))
some_end (s ∷ ss) levels some = (high_end s, (0, omega arith, refl))

pub places_some : (c : Case) (places : List ℤ) → IsComplete c → IsGrid c places → 0 < length places
places_some c places complete grid =
    let some = (StaysValid-IsComplete c complete).streams.some in
    let (x, found) = some_end c.streams (map shifted_level c.utilities) some in
    let (k, within, is) = grid.every x found in omega (arith, within)

-- the index of a place is where it stands
pub place_index-at : (places : List ℤ) → AllPairs (λ a b. b <ℤ a) places → (i : ℕ) (x : ℤ)
    → slice_get places i ≡ Some x → place_index places x ≡ i
place_index-at [] falls i x at = absurd (none-some x at)
place_index-at (g ∷ places) falls zero x at =
    ap (λ b. if b then 0 else suc (place_index places x)) ((Decides-int_eq g x).1 (same_Some g x at))
place_index-at (g ∷ places) falls (suc i) x at =
    let below = All-slice_get (λ y. y <ℤ g) places i x (AllPairs-head (λ a b. b <ℤ a) g places falls) at in
    ap (λ b. if b then 0 else suc (place_index places x)) (int_eq-false g x (λ e. absurd (omega (arith, ints))))
    ∙ ap suc (place_index-at places (AllPairs-tail (λ a b. b <ℤ a) g places falls) i x at)

module _ (places : List ℤ) (falls : AllPairs (λ a b. b <ℤ a) places) where
  -- the earlier of two places is the higher
  higher : (i j : ℕ) (x y : ℤ) → slice_get places i ≡ Some x → slice_get places j ≡ Some y → i < j → y <ℤ x
  higher i j x y from to before =
      subst₂ (λ a b. b <ℤ a) (get_or_from_slice_get places i x x from) (get_or_from_slice_get places j y x to)
      (falls i j x before (slice_get_within places j y to))

  as_high : (i j : ℕ) (x y : ℤ) → slice_get places i ≡ Some x → slice_get places j ≡ Some y → i ≤ j → y ≤ℤ x
  as_high i j x y from to before =
      ⊎_elim (λ e. let same : x ≡ y = same_Some x y (sym from ∙ ap (slice_get places) e ∙ to) in omega (arith, ints))
      (λ other. let less = higher i j x y from to (omega (arith, before, other)) in omega (arith, ints)) (cases_eq i j)

  as_early : (i j : ℕ) (x y : ℤ) → slice_get places i ≡ Some x → slice_get places j ≡ Some y → y ≤ℤ x → i ≤ j
  as_early i j x y from to low =
      ⊎_elim (λ late. let less = higher j i y x to from late in absurd (omega (arith, ints))) (λ early. early)
      (cases_lt j i)

-- ---- ranks

-- a part whose high and low stand at two indexes, the same or neighbours; its rank is the sum of the two
record StandsAt (places : List ℤ) (p : Part) (upper lower : ℕ) : Type 0 where
  pub high_at : slice_get places upper ≡ Some p.high
  pub low_at : slice_get places lower ≡ Some p.low
  pub from : upper ≤ lower
  pub upto : lower ≤ upper + 1
  pub rank : rank_of places p ≡ upper + lower

module _ (c : Case) (places : List ℤ) (falls : AllPairs (λ a b. b <ℤ a) places) where
  stands_at : (side : Side) (p : Part) → IsOnPlaces c places side p
      → (upper : ℕ) × (lower : ℕ) × StandsAt places p upper lower
  stands_at side p h = ⊎_elim at_place between h.ends
    where
      at_place : (p.high ≡ p.low) × Contains places p.high → (upper : ℕ) × (lower : ℕ) × StandsAt places p upper lower
      at_place (level, (k, within, is)) =
          let at : slice_get places k ≡ Some p.high
          = slice_get_read places (length places) k p.high refl within (sym is) in
          let stands_at_k = place_index-at places falls k p.high at in
          let one_place = (Decides-int_eq p.high p.low).1 level in
          let rank : rank_of places p ≡ 2 * k + 0 =
          ap₂ (λ n b. 2 * n + (if b then 0 else 1)) stands_at_k one_place in
          let low = subst (λ t. slice_get places k ≡ Some t) level at in (
            k,
            k,
            record {
              high_at = at;
              low_at = low;
              from = omega arith;
              upto = omega arith;
              rank = omega (arith, rank);
            },
          )

      between : IsInterval places p.high p.low → (upper : ℕ) × (lower : ℕ) × StandsAt places p upper lower
      between i =
          let less = interval_falls places p.high p.low falls i in
          let rank : rank_of places p ≡ 2 * i.index + 1 =
          ap₂ (λ n b. 2 * n + (if b then 0 else 1)) (place_index-at places falls i.index p.high i.from)
          (int_eq-false p.high p.low (λ e. absurd (omega (arith, ints)))) in (
            i.index,
            i.index + 1,
            record {
              high_at = i.from;
              low_at = i.to;
              from = omega arith;
              upto = omega arith;
              rank = omega (arith, rank);
            },
          )

  pub rank_within : (side : Side) (p : Part) → IsOnPlaces c places side p → rank_of places p < rank_count places
  rank_within side p h =
      let (upper, lower, at) = stands_at side p h in
      let within = slice_get_within places lower p.low at.low_at in
      omega (arith, within, at.from, at.rank)

  -- heat passes downward by rank
  pub passes-rank : (side other : Side) (p q : Part) → IsOnPlaces c places side p
      → IsOnPlaces c places other q → passes_heat p q ≡ true
      → rank_of places p ≤ rank_of places q
  passes-rank side other p q h k passes =
      ⊎_elim
      (λ down.
      let (upper, lower, at) = stands_at side p h in
      let (high, low, to) = stands_at other q k in
      let le = as_early places falls lower high p.low q.high at.low_at to.high_at (int_le-true q.high p.low down) in
      omega (arith, le, at.from, at.rank, to.from, to.rank))
      (λ same.
      let ends = and_parts (int_eq p.high q.high) (int_eq p.low q.low) same in
      let same_high = (Decides-int_eq p.high q.high).0 ends.0 in
      let same_low = (Decides-int_eq p.low q.low).0 ends.1 in
      let rank : rank_of places p ≡ rank_of places q =
      ap₂ (λ high low. 2 * place_index places high + (if int_eq high low then 0 else 1)) same_high same_low in
      omega (arith, rank)) (or_cases (int_le q.high p.low) (int_eq p.high q.high && int_eq p.low q.low) passes)

  pub rank-passes : (side other : Side) (p q : Part) → IsOnPlaces c places side p
      → IsOnPlaces c places other q → rank_of places p ≤ rank_of places q
      → passes_heat p q ≡ true
  rank-passes side other p q h k le =
      let (upper, lower, at) = stands_at side p h in
      let (high, low, to) = stands_at other q k in
      ⊎_elim
      (λ late.
      let same_upper : upper ≡ high = omega (arith, late, le, at.from, at.upto, at.rank, to.from, to.upto, to.rank) in
      let same_lower : lower ≡ low = omega (arith, late, le, at.from, at.upto, at.rank, to.from, to.upto, to.rank) in
      let highs : p.high ≡ q.high
      = same_Some p.high q.high (sym at.high_at ∙ ap (slice_get places) same_upper ∙ to.high_at) in
      let lows : p.low ≡ q.low = same_Some p.low q.low (sym at.low_at ∙ ap (slice_get places) same_lower ∙ to.low_at) in
      let same_ends = and_from (int_eq p.high q.high) (int_eq p.low q.low) ((Decides-int_eq p.high q.high).1 highs)
      ((Decides-int_eq p.low q.low).1 lows) in
      or_right (int_le q.high p.low) (int_eq p.high q.high && int_eq p.low q.low) same_ends) (λ early.
      or_left (int_le q.high p.low) (int_eq p.high q.high && int_eq p.low q.low)
      (int_le-from q.high p.low (as_high places falls lower high p.low q.high at.low_at to.high_at early)))
      (cases_lt high lower)
