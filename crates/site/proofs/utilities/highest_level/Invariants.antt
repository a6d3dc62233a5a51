use Rattle.std.proofs.Common.{fold, map, take, ◌≡◌}
use Rattle.site.proofs.Words.{int_max}
use Rattle.site.proofs.utilities.highest_level.Given as goal

abbrev pub invariant-loop-main : goal.invariant-loop-main
invariant-loop-main l =
    l.highest ≡ fold int_max l.initial.highest (map (λ main. main.level) (take l.main-index l.mains))
