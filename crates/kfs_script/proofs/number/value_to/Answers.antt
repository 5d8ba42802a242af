use Rattle.std.proofs.Common.{◌<◌, ◌+◌, ◌-◌, ◌*◌, ◌∙◌, get_or, arith}
use Rattle.kfs_script.proofs.DigitLaws.{too_great}
use Rattle.kfs_script.proofs.number.value_to.Goals as goal

-- a value that doesn't fit is above each limit
pub returns-in_err-value-clause-value : goal.returns-in_err-value-clause-value
returns-in_err-value-clause-value c =
    let great : c.args.limit < 10 * c.loop-digit.value + (get_or c.args.digits.now c.loop-digit.digit-index 0 - 48) = omega (arith, c.in_err-value.ensures) in
    c.from_residual.ensures ∙ too_great c.args.limit c.loop-digit.value c.args.digits.now c.loop-digit.digit-index c.loop-digit-test.true great c.loop-digit.invariant

pub returns-in_err-value-2-clause-value : goal.returns-in_err-value-2-clause-value
returns-in_err-value-2-clause-value c =
    let great : c.args.limit < 10 * c.loop-digit.value + (get_or c.args.digits.now c.loop-digit.digit-index 0 - 48) = omega (arith, c.in_ok-value.ensures, c.in_err-value-2.ensures) in
    c.from_residual-in_err-value-2.ensures ∙ too_great c.args.limit c.loop-digit.value c.args.digits.now c.loop-digit.digit-index c.loop-digit-test.true great c.loop-digit.invariant
