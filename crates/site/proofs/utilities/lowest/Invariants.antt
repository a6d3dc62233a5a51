use Rattle.std.proofs.Common.{fold, take, ◌≡◌}
use Rattle.site.proofs.Words.{int_min}
use Rattle.site.proofs.utilities.lowest.Given as goal

abbrev pub invariant-loop-place : goal.invariant-loop-place
invariant-loop-place l = l.lowest ≡ fold int_min l.initial.lowest (take l.place-index l.places)
