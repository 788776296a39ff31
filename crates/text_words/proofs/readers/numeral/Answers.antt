use Rattle.std.proofs.Common.{arith}
use Rattle.std.proofs.lemmas.Int.Digits.{digits_value_more, digits_more}
use Rattle.std.proofs.lemmas.List.{take_all}
use Rattle.text_words.proofs.Numerals.{AllDigits-at, front_fits}
use Rattle.text_words.proofs.readers.numeral.Goals as goal

pub returns-in_err-digit : goal.returns-in_err-digit
returns-in_err-digit c =
    rw c.from_residual.ensures (λ h. c.in_err-digit.ensures.value
    (rw c.from.ensures (AllDigits-at c.args.radix c.args.digits.now c.loop-digit.digit-index h.0.1 (omega arith))))

pub returns-in_err-checked_mul : goal.returns-in_err-checked_mul
returns-in_err-checked_mul c =
    rw c.from_residual-in_err-checked_mul.ensures
    (λ h. let f = front_fits c.args.radix c.args.digits.now c.loop-digit.digit-index (omega arith) (omega arith) h.1 in grind arith)

pub returns-in_err-value : goal.returns-in_err-value
returns-in_err-value c =
    rw c.from_residual-in_err-value.ensures (λ h. let f =
    front_fits c.args.radix c.args.digits.now c.loop-digit.digit-index (omega arith) (omega arith) h.1 in grind arith)

pub loop-digit-preserved : goal.loop-digit-preserved
loop-digit-preserved c =
    let v = digits_value_more c.args.radix c.args.digits.now c.loop-digit.digit-index (omega arith) in
    record {
      digits = digits_more c.args.radix c.args.digits.now c.loop-digit.digit-index (omega arith) c.loop-digit.invariant.digits
          (grind arith);
      value = grind arith;
      fits = grind arith;
    }

pub returns : goal.returns
returns c =
    let all = take_all c.loop-digit.digit-index c.args.digits.now (omega arith) in
    let so_far = rw all at c.loop-digit.invariant in
    (((grind arith, so_far.digits), grind arith), so_far.value)
