use Rattle.flow_net.proofs.SentFlow.{next_arc, next_carried, next_carries, next_rooms, next_sent, no_arc}
use Rattle.flow_net.proofs.StandingLemmas.{Stands-augmented, Stands-same}
use Rattle.flow_net.proofs.Words.{AreResiduals, CanCarry, IsBottleneck, IsWithinRooms, carry, ints, sent_along_path, take_all}
use Rattle.flow_net.proofs.Words.{to_z-of_z}
use Rattle.std.proofs.Common.{ap, arith, drop, get_or, of_z, pos, rules, set, subst, sym, to_z, w64, ◌+ℤ◌, ◌+◌, ◌-ℤ◌, ◌∙◌, ◌≡◌, ◌≤ℤ◌}
use Rattle.flow_net.proofs.routing.Routing.augment.Goals as goal

pub carry-carried-requires-clause-carried : goal.carry-carried-requires-clause-carried
carry-carried-requires-clause-carried c =
    let links = c.args.problem.now.net.now.links in
    let inv = c.loop-arc.invariant in
    let path = c.args.path.now in
    let i = c.loop-arc.arc-index in
    let k = (get_or path i no_arc).link in
    let is = next_arc links c.loop-arc.self.flow.items path _ i c.loop-arc-test.true inv.rooms inv.can_carry in
    let read = next_carried links c.loop-arc.self.flow.items path _ i c.loop-arc-test.true inv.rooms inv.can_carry
    c.index.result.now c.index.ensures in
    let from = inv.rooms.not_negative k is.below in
    let upto = inv.rooms.upto_room k is.below in
    let room = (c.requires.standing.problem.net.links k is.below).room.upto in
    record { from = omega (arith, ints); upto = omega (arith, ints) }

pub set_flow-requires-clause-link : goal.set_flow-requires-clause-link
set_flow-requires-clause-link c =
    let inv = c.loop-arc.invariant in
    let next =
    next_arc c.args.problem.now.net.now.links c.loop-arc.self.flow.items c.args.path.now _ c.loop-arc.arc-index
    c.loop-arc-test.true inv.rooms inv.can_carry in
    next.below

pub loop-arc-preserved : goal.loop-arc-preserved
loop-arc-preserved c =
    let links = c.args.problem.now.net.now.links in
    let path = c.args.path.now in
    let m = to_z w64 (of_z w64 c.bottleneck-amount.result) in
    let i = c.loop-arc.arc-index in
    let flow = c.loop-arc.self.flow.items in
    let within = c.loop-arc-test.true in
    let inv = c.loop-arc.invariant in
    let a = get_or path i no_arc in
    let read = next_carried links flow path m i within inv.rooms inv.can_carry c.index.result.now c.index.ensures in
    let from : pos 0 ≤ℤ m = omega (arith, ints) in
    let kept_index = to_z-of_z w64 c.index.result.now (search rules) in
    let kept = to_z-of_z w64 c.carry-carried.result (search rules) in
    let value = kept ∙ (c.carry-carried.ensures ∙ ap (λ x. carry a x m) (kept_index ∙ read)) in
    let sent = c.set_flow.ensures.flow ∙ ap (set flow a.link) value in record {
      rooms =
          subst (IsWithinRooms links) (sym sent) (next_rooms links flow path m i within inv.rooms inv.can_carry from);
      residuals = c.set_flow.ensures.residuals;
      can_carry =
          let carries = next_carries links flow path m i within inv.rooms inv.can_carry in
          subst (λ f. CanCarry links f (drop (i + 1) path) m) (sym sent) carries;
      sent = sent ∙ next_sent links flow path m i within inv.rooms inv.can_carry c.args.self.now.flow.items inv.sent;
      potentials = c.set_flow.ensures.potentials ∙ inv.potentials;
      routed = c.set_flow.ensures.routed ∙ inv.routed;
    }

pub returns-clause-standing : goal.returns-clause-standing
returns-clause-standing c =
    let p = c.args.problem.now in
    let r = c.args.self.now in
    let path = c.args.path.now in
    let m = c.bottleneck-amount.result in
    let kept : to_z w64 (of_z w64 m) ≡ m = to_z-of_z w64 m (search rules) in
    let inv = c.loop-arc.invariant in
    let all_taken = take_all c.loop-arc.arc-index path c.loop-arc-test.false in
    let flow =
    inv.sent
    ∙ (ap (λ xs. sent_along_path r.flow.items xs (to_z w64 (of_z w64 m))) all_taken
    ∙ ap (sent_along_path r.flow.items path) kept) in
    let opened =
    subst (λ f. AreResiduals p.net.now.links f p.adjacency.arcs.items c.loop-arc.self.residuals.items) flow
    inv.residuals in
    Stands-same p _ _ _ _ _ _ _ flow (ap (λ v. v.items) inv.potentials) (omega (arith, ints))
    (Stands-augmented p r c.requires.standing path c.requires.path m c.bottleneck-amount.ensures _ opened)

pub returns-clause-amount : goal.returns-clause-amount
returns-clause-amount c =
    let m = c.bottleneck-amount.result in
    let is : m
    ≡ to_z w64 (of_z w64 (to_z w64 (of_z w64 c.loop-arc.self.routed) +ℤ to_z w64 (of_z w64 m)))
    -ℤ c.args.self.now.routed
    = omega (arith, ints) in
    subst (IsBottleneck c.args.problem.now c.args.self.now c.args.path.now) is c.bottleneck-amount.ensures
