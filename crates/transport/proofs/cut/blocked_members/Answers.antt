use Rattle.transport.proofs.AroundLimits.{IsAround-parts}
use Rattle.transport.proofs.CutLemmas.{within_demand, within_supply}
use Rattle.transport.proofs.cut.blocked_members.Goals as goal

-- the filler is reached
pub returns-in_ok-members_of : goal.returns-in_ok-members_of
returns-in_ok-members_of c reach paths =
    let parts = c.args.parts.now in
    let g = IsAround-parts parts c.args.inner.now c.requires.inner c.requires.few_nodes c.requires.few_links in
    let filler = rw c.ends_behind.ensures at c.if-reached-ends_behind.true in
    within_demand parts.hot parts.cold c.args.inner.now g c.args.reached.now c.requires.blocked reach paths c.in_ok-members_of.field-0 filler
    (rw (c.as_slice-hot.ensures, c.as_slice-cold.ensures) at c.in_ok-members_of.ensures)

-- it is not
pub returns-in_ok-members_of-2 : goal.returns-in_ok-members_of-2
returns-in_ok-members_of-2 c reach paths =
    let parts = c.args.parts.now in
    let g = IsAround-parts parts c.args.inner.now c.requires.inner c.requires.few_nodes c.requires.few_links in
    let filler = rw c.ends_behind.ensures at c.if-reached-ends_behind.false in
    within_supply parts.hot parts.cold c.args.inner.now g c.args.reached.now c.requires.blocked reach paths c.in_ok-members_of-2.field-0 filler
    (rw c.as_slice-hot.ensures at c.in_ok-members_of-2.ensures)
