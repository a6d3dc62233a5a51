use Rattle.std.proofs.Common.{◌*◌, ◌++◌, ◌≡◌}
use Rattle.study.proofs.Words.{drawn_streams, state_after}
use Rattle.study.proofs.sample.push_streams.Given as goal

abbrev pub invariant-loop-index : goal.invariant-loop-index
invariant-loop-index l = record {
  streams : l.streams.items ≡ l.initial.streams.items ++ drawn_streams l.side l.initial.generator.state l.index;
  state : l.generator.state ≡ state_after l.initial.generator.state (3 * l.index);
}
