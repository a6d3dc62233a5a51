-- The depths are read at the ranks of the parts.
use Rattle.chains.proofs.DepthLemmas.{AreDepths-read, ranks_high, ranks_within}
use Rattle.chains.proofs.Words.{get_or_default, range_with_len, rank_count, rank_of, used_among}
use Rattle.std.proofs.Common.{ap, ap₂, arith, get_or, length, map, max, ◌++◌, ◌+◌, ◌<◌, ◌∙◌, ◌≡◌}
use Rattle.std.proofs.lemmas.List.FromFn.{length-map-range_with_len}
use Rattle.chains.proofs.depths.depths_of.Goals as goal

pub used_above-requires-clause-hot : goal.used_above-requires-clause-hot
used_above-requires-clause-hot c =
    let places = c.args.places.now in
    let hot = c.args.parts.now.hot in
    ranks_high places hot c.args.parts.now.cold _ hot _ c.rank_count-ranks.ensures
    (c.deref.ensures.value ∙ (c.in_ok-hot.ensures.value ∙ ap (map (rank_of places)) c.as_slice.ensures)) c.requires.hot

pub used_above-requires-clause-cold : goal.used_above-requires-clause-cold
used_above-requires-clause-cold c =
    let places = c.args.places.now in
    let cold = c.args.parts.now.cold in
    let ranks_are =
    c.deref-2.ensures.value ∙ (c.in_ok-cold.ensures.value ∙ ap (map (rank_of places)) c.as_slice-2.ensures) in
    ranks_high places c.args.parts.now.hot cold _ cold _ c.rank_count-ranks.ensures ranks_are c.requires.cold

pub at_ranks-requires : goal.at_ranks-requires
at_ranks-requires c =
    let places = c.args.places.now in
    let hot = c.args.parts.now.hot in
    let each = length-map-range_with_len (used_among (c.deref.result.now ++ c.deref-2.result.now)) 0
    (c.rank_count-ranks.result + 1) in
    let count : length c.deref-3.result.now ≡ rank_count places + 1
    = omega (
      arith,
      ap length c.deref-3.ensures.value,
      ap length c.in_ok-above.ensures,
      each,
      c.rank_count-ranks.ensures,
    ) in
    let is = c.deref-4.ensures.value ∙ (c.in_ok-hot.ensures.value ∙ ap (map (rank_of places)) c.as_slice.ensures) in
    ranks_within places hot c.args.parts.now.cold hot _ _ is count c.requires.hot

pub at_ranks-requires-2 : goal.at_ranks-requires-2
at_ranks-requires-2 c =
    let places = c.args.places.now in
    let cold = c.args.parts.now.cold in
    let each = length-map-range_with_len (used_among (c.deref.result.now ++ c.deref-2.result.now)) 0
    (c.rank_count-ranks.result + 1) in
    let count : length c.deref-5.result.now ≡ rank_count places + 1
    = omega (
      arith,
      ap length c.deref-5.ensures.value,
      ap length c.in_ok-above.ensures,
      each,
      c.rank_count-ranks.ensures,
    ) in
    let is = c.deref-6.ensures.value ∙ (c.in_ok-cold.ensures.value ∙ ap (map (rank_of places)) c.as_slice-2.ensures) in
    ranks_within places c.args.parts.now.hot cold cold _ _ is count c.requires.cold

pub index-requires : goal.index-requires
index-requires c =
    let each = length-map-range_with_len (used_among (c.deref.result.now ++ c.deref-2.result.now)) 0
    (c.rank_count-ranks.result + 1) in
    omega (arith, c.deref-3.ensures.len, ap length c.deref-3.ensures.value, ap length c.in_ok-above.ensures, each)

pub returns : goal.returns
returns c =
    let places = c.args.places.now in
    let above = c.in_ok-above.above.items in
    let ranks = c.rank_count-ranks.result in
    let each = length-map-range_with_len (used_among (c.deref.result.now ++ c.deref-2.result.now)) 0 (ranks + 1) in
    let within : ranks < length above = omega (arith, ap length c.in_ok-above.ensures, each) in
    let ranked = map (rank_of places) in
    let both_lists = ap₂ ◌++◌ c.deref.ensures.value c.deref-2.ensures.value in
    let table = c.in_ok-above.ensures
    ∙ ap₂ (λ rs n. map (used_among rs) (range_with_len 0 (n + 1))) both_lists c.rank_count-ranks.ensures in
    let at_end =
    get_or_default above ranks c.index.result.now 0 within ∙ ap (λ n. get_or above n 0) c.rank_count-ranks.ensures in
    let last = c.index.ensures ∙ at_end in
    let hot_ranks = c.in_ok-hot.ensures.value ∙ ap ranked c.as_slice.ensures in
    let cold_ranks = c.in_ok-cold.ensures.value ∙ ap ranked c.as_slice-2.ensures in
    let hot_depths = c.in_ok-hot_depths.ensures
    ∙ ap₂ (λ xs rs. map (λ r. get_or xs r 0) rs) c.deref-3.ensures.value c.deref-4.ensures.value in
    let cold_depths = c.in_ok-cold_depths.ensures
    ∙ ap₂ (λ xs rs. map (λ r. get_or xs r 0) rs) c.deref-5.ensures.value c.deref-6.ensures.value in
    AreDepths-read places c.args.parts.now.hot c.args.parts.now.cold above c.in_ok-hot.hot.items c.in_ok-cold.cold.items
    _ hot_ranks cold_ranks table c.requires.hot c.requires.cold hot_depths cold_depths
    (c.max.ensures ∙ ap (λ n. max n 1) last)
