-- Two parts whose spans overlap reach.
use Rattle.corner_flow.proofs.HeatLemmas.{above, counts_higher, counts_lower, from_place, from_stream, stands-level, stands_falls}
use Rattle.corner_flow.proofs.SideLemmas.{AreStandardParts, IsStandardPart, StandsOn, ends_on}
use Rattle.corner_flow.proofs.StandardLemmas.{end_of}
use Rattle.corner_flow.proofs.Words.{Case, Cold, Contains, Decides-int_eq, Hot, IsInterval, Part, and_from, begin_of, both_ways, by_lt_z, cases_Bool, cases_lt}
use Rattle.corner_flow.proofs.Words.{one_times, zero_times, clamps, cold_target, counts_above, deficit_over-bound, false_from_ne_true, false≢true, heat_over}
use Rattle.corner_flow.proofs.Words.{heats_of, hot_target, hot_target-between, if◌then◌else◌, int_eq, int_le, int_le-false, int_le-from, int_lt-false}
use Rattle.corner_flow.proofs.Words.{int_lt-from, int_sum_by, int_sum_by-map, int_sum_from, int_sum_from-by, int_sum_from-le_each, int_sum_from-zero}
use Rattle.corner_flow.proofs.Words.{interval_above, interval_below, interval_ends, interval_falls, ints, is_stream, le-ltb, lt-ltb, nat_lt, or_parts, overlap}
use Rattle.corner_flow.proofs.Words.{part_heat, part_over, passes_heat, pos, slice_get, stands_above, sum_side, take-map, ℤ, ◌+ℤ◌, ◌<ℤ◌, ◌≤ℤ◌}
use Rattle.std.proofs.Common.{Bool, List, Some, [], ap, ap₂, arith, false, inl, inr, refl, suc, sym, take, true, zero, zero-add, ℕ, ⊎_elim, ◌&&◌, ◌+◌, ◌∙◌, ◌∷◌}
use Rattle.std.proofs.Common.{◌≡◌}

-- ---- the spans before an index

int_sum_by-take : {X : Type 0} (f : X → ℤ) (n m : ℕ) (xs : List X)
    → int_sum_by f (take n xs) ≡ int_sum_from (λ k x. if nat_lt k (m + n) then f x else pos 0) m xs
int_sum_by-take f zero m [] = refl
int_sum_by-take f (suc n) m [] = refl
int_sum_by-take f zero m (x ∷ xs) =
    sym (int_sum_from-zero (λ k y. if nat_lt k (m + zero) then f y else pos 0) m (x ∷ xs)
    (λ k y le. ap (λ b. if b then f y else pos 0) (le-ltb k (m + zero) (omega arith))))
int_sum_by-take f (suc n) m (x ∷ xs) =
    ap₂ ◌+ℤ◌ (sym (ap (λ b. if b then f x else pos 0) (lt-ltb m (m + suc n) (omega arith)))) (int_sum_by-take f n (suc m) xs
    ∙ ap (λ e. int_sum_from (λ k y. if nat_lt k e then f y else pos 0) (suc m) xs) {x = suc m + n} {y = m + suc n} (omega arith))

-- what the parts before an index have
abbrev pub heat_before : ℤ → ℕ → ℕ → Part → ℤ
heat_before target n k p = if nat_lt k n then part_heat target p else pos 0

begin_of-heats : (target : ℤ) (parts : List Part) (n : ℕ)
    → begin_of (heats_of target parts) n ≡ int_sum_from (heat_before target n) 0 parts
begin_of-heats target parts n =
    ap (int_sum_by (λ x. x)) (take-map (part_heat target) n parts)
    ∙ int_sum_by-map (λ x. x) (part_heat target) (take n parts)
    ∙ int_sum_by-take (part_heat target) n 0 parts ∙ ap (λ e. int_sum_from (heat_before target e) 0 parts) (zero-add n)

-- ---- parts that do not reach

-- a hot part that does not reach a cold part lies below its high, and not on the same interval
apart : (p q : Part) → passes_heat p q ≡ false → (p.low <ℤ q.high) × (p.high ≡ q.high → p.low ≡ q.low → ⊥)
apart p q h =
    let parts = or_parts (int_le q.high p.low) (int_eq p.high q.high && int_eq p.low q.low) h in
    let lower = parts.0 in (
      omega (arith, ints),
      λ e f. both_ways (int_eq p.high q.high && int_eq p.low q.low) parts.1
          (and_from (int_eq p.high q.high) (int_eq p.low q.low) ((Decides-int_eq p.high q.high).1 e) ((Decides-int_eq p.low q.low).1 f)),
    )

pub heat_of_stream : (target : ℤ) (p : Part) → is_stream p.source ≡ true → part_heat target p ≡ p.least
heat_of_stream target p e = ap (λ b. if b then p.least else target) e

pub heat_of_utility : (target : ℤ) (p : Part) → is_stream p.source ≡ false → part_heat target p ≡ target
heat_of_utility target p e = ap (λ b. if b then p.least else target) e

part_over-le : (from_itself : Bool) (place target : ℤ) (p : Part) → pos 0 ≤ℤ p.least → pos 0 ≤ℤ target
    → (pos 0 ≤ℤ part_over from_itself place target p) × (part_over from_itself place target p ≤ℤ part_heat target p)
part_over-le from_itself place target p h k = either (is_stream p.source) (stands_above from_itself place p)
  where
    either : (b d : Bool) → (pos 0 ≤ℤ (if b then (if d then p.least else pos 0) else target))
        × ((if b then (if d then p.least else pos 0) else target) ≤ℤ (if b then p.least else target))
    either true true = (omega (arith, ints), omega (arith, ints))
    either true false = (omega (arith, ints), omega (arith, ints))
    either false d = (omega (arith, ints), omega (arith, ints))

module _ {c : Case} {hot cold : List Part} (s : AreStandardParts c hot cold) (from_itself : Bool) (place : ℤ)
    (on : Contains s.grid place) where
  -- the hot heat above a place stands before a hot part that does not stand above it
  hot_before : (i : ℕ) (p : Part) → slice_get hot i ≡ Some p → stands_above from_itself place p ≡ false
      → counts_above from_itself place (end_of c Hot) ≡ true
      → (hot_target c.streams +ℤ sum_side Hot (heat_over from_itself place) c.streams)
      ≤ℤ begin_of (heats_of (hot_target c.streams) hot) i
  hot_before i p at missed top =
      let target = hot_target c.streams in
      let each = int_sum_from-le_each (λ k q. part_over from_itself place target q) (heat_before target i) hot
      (λ k q other.
      let part = (s.sides Hot).each k q other in
      ⊎_elim (λ early.
      let heat = (part_over-le from_itself place target q part.bounded.least.from
      (hot_target-between c.streams s.valid.are_streams).from).1 in
      let here = ap (λ b. if b then part_heat target q else pos 0) (lt-ltb k i early) in
      omega (arith, ints)) (λ late.
      let falls = (s.sides Hot).falls i k p q at other late in
      let past = ap (λ b. if b then part_heat target q else pos 0) (le-ltb k i late) in
      let not_above : stands_above from_itself place q ≡ true → ⊥
      = λ e. false≢true (sym missed ∙ stands_falls from_itself place p q falls.0 falls.1 e) in
      let none : part_over from_itself place target q ≡ pos 0
      = ⊎_elim (λ h. from_stream from_itself place target q h.source_is
      ∙ zero_times (above from_itself place q) q.least
      (ap (λ b. if b then pos 1 else pos 0) (false_from_ne_true (stands_above from_itself place q) not_above)))
      (λ h. absurd (not_above (stands-level from_itself place (end_of c Hot) q h.high h.low ∙ top)))
      part.kind in
      omega (arith, ints)) (cases_lt k i)) in
      let plain = int_sum_from-by (part_over from_itself place target) 0 hot in
      let sum = (s.sides Hot).sum from_itself place target on in
      let begin = begin_of-heats target hot i in omega (arith, ints)

  -- the cold heat up to a part that stands above a place lies above the place
  cold_upto : (j : ℕ) (q : Part) → slice_get cold j ≡ Some q → stands_above from_itself place q ≡ true
      → counts_above from_itself place (end_of c Cold) ≡ false
      → begin_of (heats_of (cold_target c.streams) cold) (suc j)
      ≤ℤ sum_side Cold (heat_over from_itself place) c.streams
  cold_upto j q at stands bottom =
      let target = cold_target c.streams in
      let each = int_sum_from-le_each (heat_before target (suc j)) (λ k r. part_over from_itself place (pos 0) r) cold
      (λ k r other.
      let part = (s.sides Cold).each k r other in
      ⊎_elim (λ early.
      let falls = (s.sides Cold).falls k j r q other at (omega (arith, early)) in
      let here = ap (λ b. if b then part_heat target r else pos 0) (lt-ltb k (suc j) early) in
      let higher = stands_falls from_itself place r q falls.0 falls.1 stands in
      ⊎_elim (λ h.
      let whole = heat_of_stream target r h.source_is in
      let all = from_stream from_itself place (pos 0) r h.source_is
      ∙ one_times (above from_itself place r) r.least (ap (λ b. if b then pos 1 else pos 0) higher) in
      omega (arith, ints))
      (λ h. absurd (false≢true
      (sym bottom ∙ sym (stands-level from_itself place (end_of c Cold) r h.high h.low) ∙ higher)))
      part.kind) (λ late.
      let heat = (part_over-le from_itself place (pos 0) r part.bounded.least.from (omega (arith, ints))).0 in
      let past = ap (λ b. if b then part_heat target r else pos 0) (le-ltb k (suc j) late) in
      omega (arith, ints)) (cases_lt k (suc j))) in
      let plain = int_sum_from-by (part_over from_itself place (pos 0)) 0 cold in
      let sum = (s.sides Cold).sum from_itself place (pos 0) on in
      let begin = begin_of-heats target cold (suc j) in omega (arith, ints)

  -- so the spans of two parts with a place between them do not overlap
  no_overlap : (i j : ℕ) (p q : Part) → slice_get hot i ≡ Some p → slice_get cold j ≡ Some q
      → stands_above from_itself place p ≡ false
      → stands_above from_itself place q ≡ true → counts_above from_itself place (end_of c Hot) ≡ true
      → counts_above from_itself place (end_of c Cold) ≡ false
      → pos 0 <ℤ overlap (heats_of (hot_target c.streams) hot) (heats_of (cold_target c.streams) cold) i j → ⊥
  no_overlap i j p q at other missed stands top bottom positive =
      let begin = hot_before i p at missed top in
      let end = cold_upto j q other stands bottom in
      let bound = deficit_over-bound from_itself c.streams place (s.grid_end place on) in
      omega (arith, ints, clamps)

module _ {c : Case} {hot cold : List Part} (s : AreStandardParts c hot cold) where
  -- of two parts that do not reach the hot one lies below the low of a cold one on an interval
  lower : (p q : Part) → StandsOn s.grid p → IsInterval s.grid q.high q.low → passes_heat p q ≡ false → p.high ≤ℤ q.low
  lower p q (inl level) k missed =
      let (below, differ) = apart p q missed in
      let same = level.0 in
      let at_most = interval_below s.grid q.high q.low p.high s.grid_falls k level.1 (omega (arith, ints)) in
      omega (arith, ints)
  lower p q (inr h) k missed =
      let (below, differ) = apart p q missed in
      let mine = interval_ends s.grid p.high p.low h in
      let other = interval_ends s.grid q.high q.low k in
      let at_most = interval_below s.grid q.high q.low p.low s.grid_falls k mine.1 below in
      by_lt_z p.low q.low (λ less. interval_above s.grid p.high p.low q.low s.grid_falls h other.1 less) (λ most.
      let step = interval_falls s.grid p.high p.low s.grid_falls h in
      let up = interval_above s.grid q.high q.low p.high s.grid_falls k mine.0 (omega (arith, ints)) in
      let down = interval_above s.grid p.high p.low q.high s.grid_falls h other.0 below in
      absurd (differ (omega (arith, ints)) (omega (arith, ints))))

  -- two parts whose spans overlap reach
  pub overlap-passes : (i j : ℕ) (p q : Part) → slice_get hot i ≡ Some p → slice_get cold j ≡ Some q
      → pos 0 <ℤ overlap (heats_of (hot_target c.streams) hot) (heats_of (cold_target c.streams) cold) i j
      → passes_heat p q ≡ true
  overlap-passes i j p q at other positive =
      ⊎_elim (λ e. e) (λ missed. absurd (never missed ((s.sides Hot).each i p at) ((s.sides Cold).each j q other))) (cases_Bool (passes_heat p q))
    where
      never : passes_heat p q ≡ false → IsStandardPart c s.grid Hot p → IsStandardPart c s.grid Cold q → ⊥
      never missed x y = split y.ends
        where
          below : p.low <ℤ q.high
          below = (apart p q missed).0

          on : Contains s.grid q.low
          on = (ends_on s.grid q y.ends).1

          split : StandsOn s.grid q → ⊥
          split (inl level) =
              let same = level.0 in
              let from = x.from in
              let upto = y.upto in
              no_overlap s true q.low on i j p q at other (int_le-false q.low p.low (omega (arith, ints, below)))
              (int_le-from q.low q.low (omega (arith, ints)))
              (from_place q.low (end_of c Hot) (omega (arith, ints))) (counts_lower true q.low (end_of c Cold) (omega (arith, ints, below))) positive
          split (inr interval) =
              let falls = interval_falls s.grid q.high q.low s.grid_falls interval in
              let under = lower p q x.ends interval missed in
              let from = y.from in
              let upto = y.upto in
              no_overlap s false q.low on i j p q at other (int_lt-false q.low p.high under) (int_lt-from q.low q.high falls)
              (counts_higher false q.low (end_of c Hot) (omega (arith, ints))) (int_lt-false q.low (end_of c Cold) from) positive
