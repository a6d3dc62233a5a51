use Rattle.first_fault.proofs.Reading.{fault_here, one_more}
use Rattle.std.proofs.Common.{sym, ◌∙◌}
use Rattle.rows.proofs.collector.read_rows.Goals as goal

pub returns-in-Some-clause-fault : goal.returns-in-Some-clause-fault
returns-in-Some-clause-fault g c =
    let left = rw c.if-branch.true at c.in_ok-read.ensures.found in
    let (reads, same, _) = c.loop-row.invariant in
    let fails = sym c.in_ok-why.ensures.cause ∙ c.in-Some.is in
    fault_here reads left (rw same at fails)

pub loop-row-preserved : goal.loop-row-preserved
loop-row-preserved g c =
    let left = rw c.if-branch.true at c.in_ok-read.ensures.found in
    let (reads, same, _) = c.loop-row.invariant in
    let passes = sym c.in_ok-why.ensures.cause ∙ c.in_default.is in
    let gives = rw c.in_default.is at c.in_ok-why.ensures.taken in
    let more = one_more reads left (rw same at passes) (rw same at gives) in
    (more, c.in_ok-why.ensures.same ∙ same, c.in_ok-why.ensures.sound)
