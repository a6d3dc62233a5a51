use Rattle.flow_net.proofs.Words.{AreResiduals, CanCarry, IsWithinRooms, sent_along_path}
use Rattle.std.proofs.Common.{drop, take, ◌≡◌}
use Rattle.flow_net.proofs.routing.Routing.augment.Given as goal

abbrev pub invariant-loop-arc : goal.invariant-loop-arc
invariant-loop-arc l = record {
  rooms : IsWithinRooms l.problem.net.now.links l.self.flow.items;
  residuals : AreResiduals l.problem.net.now.links l.self.flow.items l.problem.adjacency.arcs.items
      l.self.residuals.items;
  can_carry : CanCarry l.problem.net.now.links l.self.flow.items (drop l.arc-index l.path) l.amount;
  sent : l.self.flow.items ≡ sent_along_path l.initial.self.flow.items (take l.arc-index l.path) l.amount;
  potentials : l.self.potentials ≡ l.initial.self.potentials;
  routed : l.self.routed ≡ l.initial.self.routed;
}
