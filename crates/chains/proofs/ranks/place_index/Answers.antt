-- The place at the temperature is the first one that is not above it.
use Rattle.chains.proofs.PlaceLemmas.{IsParted-falls, place_index-none, place_index-there}
use Rattle.chains.proofs.Words.{IsPartitionPoint-from_clause, get_or_default, int_lt, pos}
use Rattle.chains.proofs.ranks.place_index.Goals.{After-partition_point-index, else-index-places-via-else-index-places}
use Rattle.chains.proofs.ranks.place_index.Goals.{else-index-places-via-then-index-places+else-places-index}
use Rattle.std.proofs.Common.{arith, false, get_or, length, rules, sym, true, ℕ, ℤ, ◌<◌, ◌∙◌, ◌≡◌, ◌≤◌}
use Rattle.chains.proofs.ranks.place_index.Goals as goal

-- how many places are above the temperature
parted : (c : After-partition_point-index)
    → ((j : ℕ) (d : ℤ) → j < c.partition_point-index.result
    → int_lt c.args.temperature (get_or c.args.places.now j d) ≡ true)
    × ((j : ℕ) (d : ℤ) → c.partition_point-index.result ≤ j → j < length c.args.places.now
    → int_lt c.args.temperature (get_or c.args.places.now j d) ≡ false)
parted c =
    let places = c.args.places.now in
    let t = c.args.temperature in
    let k = c.partition_point-index.result in
    let parted = IsParted-falls places c.requires t in
    let point = IsPartitionPoint-from_clause (λ place. int_lt t place) places k
    c.partition_point-index.ensures.partitioned parted (λ a r q k. search rules) in (
      λ j d less.
          point.0 j d (omega (arith, less, c.partition_point-index.ensures.bound)) less,
      λ j d upto within. point.1 j d upto
          within,
    )

pub returns-then-places-index-clause-value : goal.returns-then-places-index-clause-value
returns-then-places-index-clause-value c =
    let places = c.args.places.now in
    let t = c.args.temperature in
    let k = c.partition_point-index.result in
    let point = parted (goal.at.returns-then-places-index-clause-value c).After-partition_point-index in
    let is : get_or places k (pos 0) ≡ t = search rules in
    let at_index = get_or_default places k t (pos 0) c.if-index-places.true ∙ is in
    let index_is = place_index-there places c.requires t k point.0 point.1 c.if-index-places.true at_index in
    sym index_is

pub returns-else-index-places-clause-value : goal.returns-else-index-places-clause-value
returns-else-index-places-clause-value c =
    let places = c.args.places.now in
    let t = c.args.temperature in
    let k = c.partition_point-index.result in
    let point = parted (goal.at.returns-else-index-places-clause-value c).After-partition_point-index in
    sym (place_index-none places c.requires t k point.0 point.1 (elim c.else-index-places.branch [
      | else-index-places-via-then-index-places+else-places-index w ↦
          λ within is. let at = get_or_default places k (pos 0) t within ∙ is in
          w.if-places-index.false (cc at)
      | else-index-places-via-else-index-places w ↦ λ within is. absurd (omega (arith, within, w.if-index-places.false))
    ]))
