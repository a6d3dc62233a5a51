-- The corner flow is a heat flow in which the utilities give and take the targets, and it is of least cost.
use Rattle.corner_flow.proofs.HeatLemmas.{above, cost-at_least, cost-hot_utility, from_place, from_stream, from_utility, is_reached, sum_above, target_of}
use Rattle.corner_flow.proofs.ReachLemmas.{heat_of_stream, heat_of_utility, overlap-passes}
use Rattle.corner_flow.proofs.SideLemmas.{AreStandardParts, IsStandardPart}
use Rattle.corner_flow.proofs.StandardLemmas.{end_of}
use Rattle.corner_flow.proofs.Words.{All-map, Case, Cold, Hot, IsBetween, IsCornerFlow, IsFlowOf, IsHeat, IsLeastCost, IsOverlap, KeepsRanges, ListsOverlaps}
use Rattle.corner_flow.proofs.Words.{one_times, NotNegative, Pair, Part, Side, Transfer, UtilityHeat, as_pair, as_transfer, blank, both_reach, cold_target}
use Rattle.corner_flow.proofs.Words.{cold_target-between, cost_of, get_or-map, get_or_from_slice_get, heat_at, heat_over, heats_of, hot_target}
use Rattle.corner_flow.proofs.Words.{hot_target-between, if◌then◌else◌, int_sum_by, int_sum_by-map, int_sum_from-by, ints, is_forbidden, is_stream, length-map}
use Rattle.corner_flow.proofs.Words.{not-true, overlaps_first, overlaps_second, pair_before, part_heat, parts_of, pos, reach_between, slice_get}
use Rattle.corner_flow.proofs.Words.{slice_get-get_or, slice_get_within, some_overlaps, sum_side, ℤ, ◌+ℤ◌, ◌<ℤ◌, ◌==◌, ◌≤ℤ◌}
use Rattle.std.proofs.Common.{List, Some, [], ap, ap₂, arith, get_or, length, map, not, refl, subst, subst₂, sym, true, ℕ, ⊎_elim, ◌&&◌, ◌<◌, ◌∙◌, ◌∷◌, ◌≡◌}

pub as_pair-as_transfer : (ps : List Pair) → map as_pair (map as_transfer ps) ≡ ps
as_pair-as_transfer [] = refl
as_pair-as_transfer (p ∷ ps) = ap (λ qs. p ∷ qs) (as_pair-as_transfer ps)

module _ {c : Case} {hot cold : List Part} (s : AreStandardParts c hot cold) where
  target_within : (side : Side) → IsHeat (target_of side c.streams)
  target_within Hot =
      let h = hot_target-between c.streams s.valid.are_streams in
      record { from = h.from; upto = omega (arith, ints, h.upto) }
  target_within Cold =
      let h = cold_target-between c.streams s.valid.are_streams in
      record { from = h.from; upto = omega (arith, ints, h.upto) }

  -- ---- the heats of a side

  abbrev heats : Side → List ℤ
  heats side = heats_of (target_of side c.streams) (parts_of side hot cold)

  -- the heat of a part is within its range
  part_range : (side : Side) (p : Part) → IsStandardPart c s.grid side p
      → IsBetween p.least p.most (part_heat (target_of side c.streams) p)
  part_range side p h =
      let target = target_of side c.streams in
      ⊎_elim (λ k. let heat = heat_of_stream target p k.source_is in omega (arith, ints, k.fixed)) (λ k.
      let heat = heat_of_utility target p k.source_is in
      let within = target_within side in
      record { from = omega (arith, ints, within.from, k.least); upto = omega (arith, ints, within.upto, k.most) })
      h.kind

  pub heats-not_negative : (side : Side) → NotNegative (heats side)
  heats-not_negative side =
      let parts = parts_of side hot cold in
      All-map (λ x. pos 0 ≤ℤ x) (part_heat (target_of side c.streams)) parts (λ k d within.
      let part = (s.sides side).each k (get_or parts k d) (slice_get-get_or parts k d within) in
      let range = part_range side (get_or parts k d) part in
      omega (arith, ints, range.from, part.bounded.least.from))

  -- they add up to the target and all heat of the streams
  heats-sum : (side : Side)
      → int_sum_by (λ x. x) (heats side)
      ≡ target_of side c.streams +ℤ sum_side side (heat_over true (end_of c Cold)) c.streams
  heats-sum side =
      let target = target_of side c.streams in
      let parts = parts_of side hot cold in
      let bottom = end_of c Cold in
      int_sum_by-map (λ x. x) (part_heat target) parts ∙ sym (int_sum_from-by (part_heat target) 0 parts)
      ∙ sum_above s side (λ a p. part_heat target p) true bottom target (s.ends Cold) (λ a p at h. ⊎_elim (λ k. heat_of_stream target p k.source_is
      ∙ sym (from_stream true bottom target p k.source_is
      ∙ one_times (above true bottom p) p.least (is_reached true bottom p.low (from_place bottom p.low h.from))))
      (λ k. heat_of_utility target p k.source_is ∙ sym (from_utility true bottom target p k.source_is))
      h.kind)

  same_total : int_sum_by (λ x. x) (heats Hot) ≡ int_sum_by (λ x. x) (heats Cold)
  same_total =
      let given = heats-sum Hot in
      let taken = heats-sum Cold in
      omega (arith, ints, s.lowest)

  -- ---- the corner flow

  module _ (ts : List Transfer) (lists : IsCornerFlow c hot cold ts) where
    transfer_heat : (side : Side) (a : ℕ) → a < length (heats side) → heat_at side ts a ≡ get_or (heats side) a (pos 0)
    transfer_heat Hot a within = sym (int_sum_by-map (λ p. if p.first == a then p.amount else pos 0) as_pair ts)
        ∙ overlaps_first (heats Hot) (heats Cold) (map as_pair ts) (heats-not_negative Hot) (heats-not_negative Cold) same_total lists a within
    transfer_heat Cold b within = sym (int_sum_by-map (λ p. if p.second == b then p.amount else pos 0) as_pair ts)
        ∙ overlaps_second (heats Hot) (heats Cold) (map as_pair ts) (heats-not_negative Hot) (heats-not_negative Cold) same_total lists b within

    -- each part gives or takes its heat
    gives : (side : Side) (a : ℕ) (p : Part) → slice_get (parts_of side hot cold) a ≡ Some p
        → heat_at side ts a ≡ part_heat (target_of side c.streams) p
    gives side a p at =
        let parts = parts_of side hot cold in
        let within = slice_get_within parts a p at in
        transfer_heat side a (rw length-map within)
        ∙ get_or-map (part_heat (target_of side c.streams)) parts a p (pos 0) within
        ∙ ap (part_heat (target_of side c.streams)) (get_or_from_slice_get parts a p p at)

    ranges : (side : Side) → KeepsRanges side (parts_of side hot cold) ts
    ranges side a p at =
        subst (IsBetween p.least p.most) (sym (gives side a p at)) (part_range side p ((s.sides side).each a p at))

    pub corner-heat : (side : Side) → UtilityHeat side (parts_of side hot cold) ts (target_of side c.streams)
    corner-heat side a p at utility =
        gives side a p at ∙ heat_of_utility (target_of side c.streams) p (not-true (is_stream p.source) utility)

    pub corner-is_flow : IsFlowOf c hot cold ts
    corner-is_flow =
        let each = λ (k : ℕ) (d : Transfer) (within : k < length ts). subst (IsOverlap (heats Hot) (heats Cold)) (get_or-map as_pair ts k d (as_pair d) within)
        (lists.each k (as_pair d) (rw length-map within)) in
        record {
          positive = λ k d within. (each k d within).positive;
          hot_indexes = λ k d within. rw length-map at (each k d within).first_within;
          cold_indexes = λ k d within. rw length-map at (each k d within).second_within;
          joined = λ k d within.
              let t = get_or ts k d in
              let e = each k d within in
              let from = slice_get-get_or hot t.hot blank (rw length-map at e.first_within) in
              let to = slice_get-get_or cold t.cold blank (rw length-map at e.second_within) in
              let p = get_or hot t.hot blank in
              let q = get_or cold t.cold blank in
              let passes = overlap-passes s t.hot t.cold p q from to (subst (λ z. pos 0 <ℤ z) e.amount e.positive) in
              ap₂ (both_reach c) from to
              ∙ ap₂ (λ x y. x && not y) passes (ap (λ fs. is_forbidden fs p.source q.source) s.standard.free);
          ordered = λ i j d before within.
              subst₂ pair_before (get_or-map as_pair ts i d (as_pair d) (omega (arith, before, within))) (get_or-map as_pair ts j d (as_pair d) within)
              (lists.ordered i j (as_pair d) before (rw length-map within));
          hot_ranges = ranges Hot;
          cold_ranges = ranges Cold;
        }

    pub corner-cost : cost_of hot cold ts ≡ hot_target c.streams
    corner-cost =
        cost-hot_utility s ts (hot_target c.streams) (cold_target c.streams) (corner-heat Hot) (corner-heat Cold)

  -- ---- there is one, and its cost is the least

  pub least_cost : IsLeastCost (reach_between c hot cold) hot cold (hot_target c.streams)
  least_cost =
      let (pairs, lists) = some_overlaps (heats Hot) (heats Cold) (heats-not_negative Hot) (heats-not_negative Cold) in
      let ts = map as_transfer pairs in
      let corner : IsCornerFlow c hot cold ts
      = subst (ListsOverlaps (heats Hot) (heats Cold)) (sym (as_pair-as_transfer pairs)) lists in
      record { transfers = ts; flow = corner-is_flow ts corner; costs = corner-cost ts corner; least = cost-at_least s }
