use Rattle.commands.proofs.Words.{Balance, IfOk-weaker, IsAccepted, IsAuditOf, IsValidNetwork, IsVerdict, SaysExactly}
use Rattle.std.proofs.Common.{inl, inr, subst}
use Rattle.network_audit.specs.declared.verdict.Verdict.TheVariants as verdict
use Rattle.commands.proofs.audit.show_audit.Goals as goal

-- where a verdict is exact, what it accepts is so
accepted_is : (balance : Balance) (P : Type 0) → SaysExactly (verdict.Accepted balance) P → P
accepted_is balance P (inl none) = absurd none
accepted_is balance P (inr both) = both.0 tt

pub show_accepted-requires-clause-valid : goal.show_accepted-requires-clause-valid
show_accepted-requires-clause-valid c =
    let balance = c.in-Accepted.balance in
    let valid = subst (λ a. SaysExactly (verdict.Accepted balance) (IsValidNetwork a.case a.network))
    c.in_ok-auditor.ensures c.in-Accepted.ensures.valid in
    accepted_is balance (IsValidNetwork c.args.case c.args.network) valid

pub returns-in-Accepted : goal.returns-in-Accepted
returns-in-Accepted c =
    let case = c.args.case in
    let network = c.args.network in
    let balance = c.in-Accepted.balance in
    let verdict = verdict.Accepted balance in
    IfOk-weaker c.show_accepted.result (IsAccepted case network balance) (IsAuditOf case network)
    (λ shown shows. record {
      verdict = verdict;
      is_verdict =
          subst (λ a. IsVerdict a.case a.network verdict) c.in_ok-auditor.ensures c.in-Accepted.ensures.verdict;
      valid =
          subst (λ a. SaysExactly verdict (IsValidNetwork a.case a.network)) c.in_ok-auditor.ensures c.in-Accepted.ensures.valid;
      excess = c.in-Accepted.ensures.excess;
      shows = shows;
    })
    c.show_accepted.ensures
