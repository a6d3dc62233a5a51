use Rattle.certify.proofs.Words.{HoldsOfFlow, IsFirstOf, cold_parts, flow_causes, hot_parts, to_z-of_z, w128}
use Rattle.std.proofs.Common.{FitsSigned, IfOk, rules, subst, sym, ℤ}
use Rattle.certify.proofs.check.check_over.Goals as goal

pub returns-in-Flow : goal.returns-in-Flow
returns-in-Flow c =
    let s = c.args.setting.now in
    let fits : FitsSigned w128 c.in-Flow.cost = search rules in
    let answer =
    subst (λ (n : ℤ). IfOk c.check_flow.result (IsFirstOf flow_causes (HoldsOfFlow s.case.now (hot_parts s) (cold_parts s) n c.as_slice-uses.result.now
    c.as_slice-moves.result.now c.as_slice-gives.result.now c.as_slice-takes.result.now))) (to_z-of_z w128 c.in-Flow.cost fits) c.check_flow.ensures.first in
    rw (c.in-Flow.is, sym c.as_slice-uses.ensures, sym c.as_slice-moves.ensures, sym c.as_slice-gives.ensures, sym c.as_slice-takes.ensures)
    answer
