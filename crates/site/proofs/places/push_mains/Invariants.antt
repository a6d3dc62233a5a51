use Rattle.site.proofs.Words.{main_places}
use Rattle.std.proofs.Common.{take, ◌++◌, ◌≡◌}
use Rattle.site.proofs.places.push_mains.Given as goal

abbrev pub invariant-loop-main : goal.invariant-loop-main
invariant-loop-main l =
    l.places.items ≡ l.initial.places.items ++ main_places l.contribution (take l.main-index l.mains)
