use Rattle.flow_net.proofs.routing.Routing.residual.Goals.{After-as_slice}
use Rattle.flow_net.proofs.Words.{flow_on, get_or_read, ints, link_at}
use Rattle.std.proofs.Common.{ap, arith, pos, ◌≡◌}
use Rattle.flow_net.proofs.routing.Routing.residual.Goals as goal

-- the room of the arc's link, and the flow on it, as the code has them
record IsRead (c : After-as_slice) : Type 0 where
  flow : c.index-carried.result.now ≡ flow_on c.args.self.now.flow.items c.args.arc.now.link
  link : link_at c.as_slice.result.now c.args.arc.now.link
      ≡ link_at c.args.problem.now.net.now.links c.args.arc.now.link

read : (c : After-as_slice) → IsRead c
read c = record {
  flow =
      get_or_read c.args.self.now.flow.items c.args.arc.now.link c.index-carried.result.now (omega arith)
      c.index-carried.ensures (pos 0);
  link = ap (λ xs. link_at xs c.args.arc.now.link) c.as_slice.ensures;
}

pub overflow_sub-result : goal.overflow_sub-result
overflow_sub-result c =
    let k = c.args.arc.now.link in
    let r = read (goal.at.overflow_sub-result c).After-as_slice in
    let room_is = ap (λ l. l.room) r.link in
    let below = c.requires.arc.below in
    let from = c.requires.standing.routes.rooms.not_negative k below in
    let upto = c.requires.standing.routes.rooms.upto_room k below in
    let room = (c.requires.standing.problem.net.links k below).room.upto in
    omega (arith, ints)

pub returns-then-arc : goal.returns-then-arc
returns-then-arc c =
    let k = c.args.arc.now.link in
    let r = read (goal.at.returns-then-arc c).After-as_slice in
    let room_is = ap (λ l. l.room) r.link in
    let below = c.requires.arc.below in
    let from = c.requires.standing.routes.rooms.not_negative k below in
    let upto = c.requires.standing.routes.rooms.upto_room k below in
    let room = (c.requires.standing.problem.net.links k below).room.upto in
    rw c.if-arc.true (omega (arith, ints))
