use Rattle.std.proofs.Common.{AllPairs, take, ◌≢◌}
use Rattle.stream_case.proofs.validity.are_distinct_forbids.Given as goal

abbrev pub invariant-loop-index : goal.invariant-loop-index
invariant-loop-index l = AllPairs (λ f g. f ≢ g) (take l.index l.forbids)
