use Rattle.flow_net.proofs.Words.{potential_at, rise_of}
use Rattle.std.proofs.Common.{length, ℕ, ◌+ℤ◌, ◌<◌, ◌≡◌, ◌≤◌}
use Rattle.flow_net.proofs.search.Search.raise.Given as goal

abbrev pub invariant-loop-node : goal.invariant-loop-node
invariant-loop-node l = record {
  flow : l.routing.flow ≡ l.initial.routing.flow;
  residuals : l.routing.residuals ≡ l.initial.routing.residuals;
  routed : l.routing.routed ≡ l.initial.routing.routed;
  one_each : length l.routing.potentials.items ≡ length l.initial.routing.potentials.items;
  raised : (v : ℕ) → v < l.node
      → potential_at l.routing.potentials.items v
      ≡ potential_at l.initial.routing.potentials.items v +ℤ rise_of l.self v;
  left : (v : ℕ) → l.node ≤ v
      → potential_at l.routing.potentials.items v ≡ potential_at l.initial.routing.potentials.items v;
}
