use Rattle.certify.proofs.Prices.{report_prices}
use Rattle.certify.proofs.Reading.{early-end, whole-end, whole-value}
use Rattle.certify.proofs.Words.{Reads, end_here, fault_here, grammar, nothing_left, one_more, passed_over, statement_next, statements_of, value_here, with_any}
use Rattle.std.proofs.Common.{ap, arith, subst, sym, ◌∙◌}
use Rattle.certify.proofs.reader.read_report.Goals as goal

pub loop-rest-preserved-then-is_passed_over : goal.loop-rest-preserved-then-is_passed_over
loop-rest-preserved-then-is_passed_over c =
    let over = sym c.is_passed_over.ensures ∙ c.if-is_passed_over.true in
    let same = passed_over c.loop-rest.rest.now c.first_line.result.0.now c.first_line.result.1.now c.first_line.ensures.line c.in_ok-statement.ensures over in
    record {
      reads =
          subst (λ left. Reads grammar (statements_of c.args.bytes.now) left c.loop-rest.given c.loop-rest.number) same
          c.loop-rest.invariant.reads;
      few = omega (arith, c.loop-rest.invariant.few, c.first_line.ensures.shorter);
    }

pub returns-in-Err-clause-outcome : goal.returns-in-Err-clause-outcome
returns-in-Err-clause-outcome c =
    let counts = sym c.is_passed_over.ensures ∙ c.if-is_passed_over.false in
    fault_here c.loop-rest.invariant.reads
    (statement_next c.loop-rest.rest.now c.first_line.result.0.now c.first_line.result.1.now c.first_line.ensures.line c.in_ok-statement.ensures counts)
    c.in-Err.ensures

pub loop-rest-preserved : goal.loop-rest-preserved
loop-rest-preserved c =
    let counts = sym c.is_passed_over.ensures ∙ c.if-is_passed_over.false in
    let at = statement_next c.loop-rest.rest.now c.first_line.result.0.now c.first_line.result.1.now c.first_line.ensures.line
    c.in_ok-statement.ensures counts in
    let next = c.in_ok-given-in-Ok.ensures.with ∙ sym (ap (with_any c.loop-rest.given) c.in-Ok.ensures.1) in
    record {
      reads = one_more c.loop-rest.invariant.reads at c.in-Ok.ensures.0 next;
      few = omega (arith, c.loop-rest.invariant.few, c.first_line.ensures.shorter);
    }

pub returns-in-Whole-clause-outcome : goal.returns-in-Whole-clause-outcome
returns-in-Whole-clause-outcome c =
    let whole = c.in-Whole.is in
    let end = whole-end c.loop-rest.number c.loop-rest.given c.in-Whole.report whole in
    value_here c.loop-rest.invariant.reads (nothing_left c.loop-rest.rest.now c.loop-rest-test.ensures) end
    (whole-value c.loop-rest.given c.in-Whole.report whole)

pub returns-in-Whole-clause-prices : goal.returns-in-Whole-clause-prices
returns-in-Whole-clause-prices c =
    report_prices (statements_of c.args.bytes.now) c.in-Whole.report (returns-in-Whole-clause-outcome c)

pub returns-in_default : goal.returns-in_default
returns-in_default c =
    let early = early-end c.loop-rest.number c.loop-rest.given c.in_default.not-Whole in
    record { outcome = end_here c.loop-rest.invariant.reads (nothing_left c.loop-rest.rest.now c.loop-rest-test.ensures) early; prices = tt }
