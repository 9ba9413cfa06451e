use Rattle.std.proofs.Common.{get_or, sym, ◌∙◌, arith, rules}
use Rattle.text.proofs.Decimals.{digits_bad, digits_more, digits_end, no_digit, a_digit}
use Rattle.text.proofs.numbers.decimal_value.Goals as goal

pub returns-in_err-digit : goal.returns-in_err-digit
returns-in_err-digit c =
    c.from_residual.ensures
    ∙ sym
    (c.loop-c.invariant.1
    ∙ digits_bad c.args.word.now c.loop-c.c-index c.loop-c.n c.loop-c-test.true (no_digit (get_or c.args.word.now c.loop-c.c-index 0) (search rules)))

pub loop-c-preserved : goal.loop-c-preserved
loop-c-preserved c =
    let digit = a_digit (get_or c.args.word.now c.loop-c.c-index 0) c.in_ok-digit.digit (search rules) (search rules) in (
      omega arith,
      c.loop-c.invariant.1 ∙ digits_more c.args.word.now c.loop-c.c-index c.loop-c.n c.min-n.result c.loop-c-test.true digit.0 (omega (arith, digit.1)),
    )

pub returns : goal.returns
returns c = sym (c.loop-c.invariant.1 ∙ digits_end c.args.word.now c.loop-c.c-index c.loop-c.n c.loop-c-test.false c.loop-c.invariant.0)
