use mathlib.Core.Path.{◌∙◌}
use native.Mathlib.Omega.{arith}
use Rattle.cases.proofs.Decimals.{decimal-no_digit, begun-more, begun-large, begun-all}
use Rattle.cases.proofs.value_of.Goals as goal

pub returns-in_err-to_digit : goal.returns-in_err-to_digit
returns-in_err-to_digit c = λ l. c.from_residual.ensures ∙ decimal-no_digit c.args.digits.now c.loop-b.b-index c.loop-b-test.true (rw (← c.from.ensures) c.in_err-to_digit.ensures.value)

pub returns-then-value-from : goal.returns-then-value-from
returns-then-value-from c = λ l. begun-large c.args.digits.now _ _
    (begun-more c.args.digits.now _ _ _ _ c.loop-b-test.true c.loop-b.invariant.0 c.from.ensures c.in_ok-to_digit.ensures.value)
    (omega (arith, c.if-value-from.true, c.from-in-loop-b.ensures, c.from-in-loop-b-2.ensures))

pub loop-b-preserved : goal.loop-b-preserved
loop-b-preserved c =
    (begun-more c.args.digits.now _ _ _ _ c.loop-b-test.true c.loop-b.invariant.0 c.from.ensures (rw c.from-in-loop-b.ensures c.in_ok-to_digit.ensures.value), omega arith)

pub returns : goal.returns
returns c = λ l. begun-all c.args.digits.now _ _ c.loop-b.invariant.0 c.loop-b-test.false l c.loop-b.invariant.1
