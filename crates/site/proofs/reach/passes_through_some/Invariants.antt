use Rattle.site.proofs.Words.{list_any, passes_through}
use Rattle.std.proofs.Common.{false, take, ◌≡◌}
use Rattle.site.proofs.reach.passes_through_some.Given as goal

abbrev pub invariant-loop-main : goal.invariant-loop-main
invariant-loop-main l = list_any (passes_through l.contribution l.fn.hot l.fn.cold) (take l.main-index l.mains) ≡ false
