use Rattle.std.proofs.Common.{◌^◌, get_or, arith, ◌+◌, ◌*◌}
use Rattle.std.proofs.lemmas.Int.Digits.{digits_more, digits_value_more}
use Rattle.edits.proofs.FileNames.{digit_at, no_digit, digit_minus, value_past, from_not_lt}
use Rattle.edits.proofs.names.value_of.Goals as goal

pub returns-then-not-is_ascii_digit-clause-value : goal.returns-then-not-is_ascii_digit-clause-value
returns-then-not-is_ascii_digit-clause-value c = λ all.
    let one = digit_at c.args.digits.now c.loop-digit.digit-index all c.loop-digit-test.true in
    absurd (omega (arith, one, no_digit (get_or c.args.digits.now c.loop-digit.digit-index 0) c.if-not-is_ascii_digit.ensures.cases))

pub returns-in_err-checked_mul-clause-value : goal.returns-in_err-checked_mul-clause-value
returns-in_err-checked_mul-clause-value c =
    let past = from_not_lt (c.loop-digit.value * 10) (2 ^ 64) c.in_err-checked_mul.ensures in
    rw c.from_residual.ensures (λ all. value_past c.args.digits.now c.loop-digit.digit-index c.loop-digit.value c.loop-digit-test.true c.loop-digit.invariant.value (omega (arith, past)))

pub returns-in_err-value-clause-value : goal.returns-in_err-value-clause-value
returns-in_err-value-clause-value c =
    let d = get_or c.args.digits.now c.loop-digit.digit-index 0 in
    let past = from_not_lt (c.in_ok-checked_mul.field-0 + c.from.result) (2 ^ 64) c.in_err-value.ensures in
    let digit = digit_minus d c.if-not-is_ascii_digit.ensures.cases in
    rw c.from_residual-in_err-value.ensures (λ all. value_past c.args.digits.now c.loop-digit.digit-index c.loop-digit.value c.loop-digit-test.true c.loop-digit.invariant.value
    (omega (arith, past, digit, c.from.ensures, c.in_ok-checked_mul.ensures.1)))

pub loop-digit-preserved : goal.loop-digit-preserved
loop-digit-preserved c = record {
  digits = digits_more 10 c.args.digits.now c.loop-digit.digit-index c.loop-digit-test.true c.loop-digit.invariant.digits c.if-not-is_ascii_digit.ensures.bound;
  small = omega (arith, c.in_ok-value.ensures.0, c.in_ok-value.ensures.1);
  value =
      let more = digits_value_more 10 c.args.digits.now c.loop-digit.digit-index c.loop-digit-test.true in
      let digit = digit_minus (get_or c.args.digits.now c.loop-digit.digit-index 0) c.if-not-is_ascii_digit.ensures.cases in
      omega (arith, more, digit, c.loop-digit.invariant.value, c.from.ensures, c.in_ok-checked_mul.ensures.1, c.in_ok-value.ensures.1);
}
