use Rattle.network_text.proofs.Words.{exchangers_of, misses_pass}
use Rattle.std.proofs.Common.{false, length, take, ℕ, ◌<◌, ◌≡◌}
use Rattle.network_text.proofs.given.Given.first_missing.Given as goal

abbrev pub invariant-loop-index : goal.invariant-loop-index
invariant-loop-index l = record {
  count : l.exchanger ≡ length (exchangers_of (take l.index l.self.network.lines));
  none : (k : ℕ) → k < l.index → misses_pass l.self.network k ≡ false;
}
