-- The outcomes of reading a report, and its end.
use Rattle.certify.proofs.Words.{Given, IsOutcome, Report, ReportFault, Statement, end_fault, report_in}
use Rattle.std.proofs.Common.{Err, IsErrAnd, List, None, Ok, Result, Some, refl, subst, sym, ℕ, ◌+◌, ◌≡◌}
use Rattle.certify.specs.declared.given.Given.TheVariants as gave
use Rattle.certify.specs.declared.fault.ReportFault.TheVariants as fault
use Rattle.certify.specs.declared.fault.ReportWhy.TheVariants as why

-- want of memory is no outcome
pub no_outcome : (statements : List Statement) (r : Result Report ReportFault)
    → IsErrAnd r (λ f. f ≡ fault.OutOfMemory) → IsOutcome statements r
no_outcome statements (Ok report) h = absurd h
no_outcome statements (Err f) h = subst (λ (g : ReportFault). IsOutcome statements (Err g)) (sym h) tt

-- ---- the end

pub whole-end : (number : ℕ) (given : Given) (r : Report) → given ≡ gave.Whole r → end_fault number given ≡ None
whole-end number given r is = rw is refl

pub whole-value : (given : Given) (r : Report) → given ≡ gave.Whole r → r ≡ report_in given
whole-value given r is = rw is refl

pub early-end : (number : ℕ) (given : Given) → ((r : Report) → given ≡ gave.Whole r → ⊥)
    → end_fault number given ≡ Some (number + 1, why.Ended)
early-end number gave.Nothing none = refl
early-end number gave.Infeasible none = refl
early-end number (gave.Whole r) none = absurd (none r refl)
