-- There are fewer overlaps of two rows of spans than spans: from each one to the next at least one of the indices rises, and none falls.
use Rattle.corner_flow.proofs.Words.{Case, IsCornerFlow, IsOverlap, ListsOverlaps, NotNegative, Pair, Part, Transfer, as_pair, begin_of-rises, cases_lt, clamps}
use Rattle.corner_flow.proofs.Words.{cold_target, heats_of, hot_target, ints, length-map, pair_before, part_heat, ℤ}
use Rattle.std.proofs.Common.{All, AllPairs, List, [], arith, get_or, inl, inr, length, map, suc, zero, ℕ, ⊎_elim, ◌+◌, ◌-◌, ◌<◌, ◌∷◌, ◌≤◌}

module _ (us vs : List ℤ) (us_some : NotNegative us) (vs_some : NotNegative vs) where
  -- where the first index rises, the second does not fall
  not_back : (p q : Pair) → IsOverlap us vs p → IsOverlap us vs q → p.first < q.first → q.second < p.second → ⊥
  not_back p q one other rises falls =
      let firsts = begin_of-rises us us_some (suc p.first) q.first (omega (arith, rises)) in
      let seconds = begin_of-rises vs vs_some (suc q.second) p.second (omega (arith, falls)) in
      let p_some = one.positive in
      let p_is = one.amount in
      let q_some = other.positive in
      let q_is = other.amount in
      omega (arith, ints, clamps, firsts, seconds, p_some, p_is, q_some, q_is)

  both_rise : (p q : Pair) → IsOverlap us vs p → IsOverlap us vs q → pair_before p q
      → p.first + p.second < q.first + q.second
  both_rise p q one other (inl rises) =
      ⊎_elim (λ falls. absurd (not_back p q one other rises falls)) (λ order. omega (arith, rises, order)) (cases_lt q.second p.second)
  both_rise p q one other (inr same) = omega (arith, same.0, same.1)

  index_upto : (ps : List Pair) → AllPairs pair_before ps → All (IsOverlap us vs) ps → (i : ℕ) (d : Pair)
      → i < length ps
      → i ≤ (get_or ps i d).first + (get_or ps i d).second
  index_upto ps ordered each zero d within = omega arith
  index_upto ps ordered each (suc i) d within =
      let before = index_upto ps ordered each i d (omega (arith, within)) in
      let rise =
      both_rise (get_or ps i d) (get_or ps (suc i) d) (each i d (omega (arith, within))) (each (suc i) d within) (ordered i (suc i) d (omega arith) within) in
      omega (arith, before, rise)

  few_overlaps : (ps : List Pair) → ListsOverlaps us vs ps → length ps ≤ length us + length vs - 1
  few_overlaps [] lists = omega arith
  few_overlaps (p ∷ ps) lists =
      let n = length ps in
      let within : n < length (p ∷ ps) = omega arith in
      let last = lists.each n p within in
      let upto = index_upto (p ∷ ps) lists.ordered lists.each n p within in
      omega (arith, upto, last.first_within, last.second_within)

-- the corner flow has fewer transfers than there are parts
pub fewer_than_parts : (c : Case) (hot cold : List Part) (transfers : List Transfer)
    → NotNegative (heats_of (hot_target c.streams) hot)
    → NotNegative (heats_of (cold_target c.streams) cold) → IsCornerFlow c hot cold transfers
    → length transfers ≤ length hot + length cold - 1
fewer_than_parts c hot cold transfers hot_some cold_some corner = omega (
  arith,
  few_overlaps (heats_of (hot_target c.streams) hot) (heats_of (cold_target c.streams) cold) hot_some cold_some (map as_pair transfers) corner,
  length-map transfers as_pair,
  length-map hot (part_heat (hot_target c.streams)),
  length-map cold (part_heat (cold_target c.streams)),
)
