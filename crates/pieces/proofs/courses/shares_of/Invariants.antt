use Rattle.pieces.proofs.Words.{filter_map, share_at}
use Rattle.std.proofs.Common.{take, ◌≡◌}
use Rattle.pieces.proofs.courses.shares_of.Given as goal

abbrev pub invariant-loop-share : goal.invariant-loop-share
invariant-loop-share l = l.shares ≡ filter_map (share_at l.index) (take l.share-index l.own)
