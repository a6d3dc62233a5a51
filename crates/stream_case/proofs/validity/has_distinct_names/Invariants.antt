use Rattle.std.proofs.Common.{AllPairs, take, ◌≢◌}
use Rattle.stream_case.proofs.Words.{names_of, with_utilities}
use Rattle.stream_case.proofs.validity.has_distinct_names.Given as goal

abbrev pub invariant-loop-index : goal.invariant-loop-index
invariant-loop-index l = AllPairs (λ a b. a ≢ b) (take l.index (names_of (with_utilities l.case l.utilities)))
