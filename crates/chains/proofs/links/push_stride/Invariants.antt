use Rattle.chains.proofs.Words.{range_with_len, stride_link}
use Rattle.std.proofs.Common.{map, ◌++◌, ◌≡◌}
use Rattle.chains.proofs.links.push_stride.Given as goal

abbrev pub invariant-loop-step : goal.invariant-loop-step
invariant-loop-step l =
    l.links.items ≡ l.initial.links.items ++ map (stride_link l.group.first_node l.stride) (range_with_len 0 l.step)
