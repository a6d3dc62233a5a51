use Rattle.chains.proofs.Words.{All, MOST_PLACES, rank_of}
use Rattle.std.proofs.Common.{map, take, ◌*◌, ◌+◌, ◌≡◌, ◌≤◌}
use Rattle.chains.proofs.ranks.ranks_of.Given as goal

abbrev pub invariant-loop-part : goal.invariant-loop-part
invariant-loop-part l = record {
  value : l.ranks.items ≡ map (rank_of l.places) (take l.part-index l.parts);
  within : All (λ r. r ≤ 2 * MOST_PLACES + 1) l.ranks.items;
}
