use Rattle.std.proofs.Common.{Some, ap, arith, get_or, sym, ◌∙◌}
use Rattle.stream_case.proofs.Words.{digits_more, digits_value_more, nat_tests, take_all}
use Rattle.stream_case.proofs.DigitLemmas.{all_read, digit, empty, no_digit, small, too_long}
use Rattle.stream_case.proofs.digits.natural_of.Goals.{then-is_empty-via-else-is_empty+then-text-most, then-is_empty-via-then-is_empty}
use Rattle.stream_case.proofs.digits.natural_of.Goals as goal

pub returns-then-is_empty-clause-number : goal.returns-then-is_empty-clause-number
returns-then-is_empty-clause-number c = elim c.then-is_empty.branch [
  | then-is_empty-via-then-is_empty w ↦ sym (empty c.args.most c.args.text.now (grind (arith, nat_tests)))
  | then-is_empty-via-else-is_empty+then-text-most w ↦ sym (too_long c.args.most c.args.text.now (omega arith))
]

pub returns-then-not-is_ascii_digit-clause-number : goal.returns-then-not-is_ascii_digit-clause-number
returns-then-not-is_ascii_digit-clause-number c = sym
    (no_digit c.args.most c.args.text.now c.loop-digit.digit-index c.loop-digit-test.true (sym c.is_ascii_digit.ensures.value ∙ c.if-not-is_ascii_digit.true))

pub overflow_mul-number : goal.overflow_mul-number
overflow_mul-number c =
    let s = small 37 c.args.text.now c.loop-digit.digit-index (omega arith) c.loop-digit.invariant.digits in
    omega (arith, s)

pub overflow_add-number : goal.overflow_add-number
overflow_add-number c =
    let s = small 37 c.args.text.now c.loop-digit.digit-index (omega arith) c.loop-digit.invariant.digits in
    let d = digit (get_or c.args.text.now c.loop-digit.digit-index 0) (sym c.is_ascii_digit.ensures.value ∙ c.if-not-is_ascii_digit.false) in
    omega (arith, s, d)

pub loop-digit-preserved : goal.loop-digit-preserved
loop-digit-preserved c =
    let d = digit (get_or c.args.text.now c.loop-digit.digit-index 0) (sym c.is_ascii_digit.ensures.value ∙ c.if-not-is_ascii_digit.false) in
    record {
      digits =
          digits_more 10 c.args.text.now c.loop-digit.digit-index c.loop-digit-test.true c.loop-digit.invariant.digits (omega (arith, d));
      value = omega (arith, d, digits_value_more 10 c.args.text.now c.loop-digit.digit-index c.loop-digit-test.true);
    }

pub returns-clause-number : goal.returns-clause-number
returns-clause-number c =
    let whole = take_all c.loop-digit.digit-index c.args.text.now c.loop-digit-test.false in
    let read = all_read c.args.most c.args.text.now (grind (arith, nat_tests)) c.if-text-most.false (rw whole at c.loop-digit.invariant.digits) in
    ap Some (rw whole at c.loop-digit.invariant.value) ∙ sym read

pub returns-clause-small : goal.returns-clause-small
returns-clause-small c =
    omega (arith, small c.args.most c.args.text.now c.loop-digit.digit-index (omega arith) c.loop-digit.invariant.digits)
