use mathlib.Core.Path.{sym}
use native.Mathlib.Omega.{arith}
use lib.ListN.{length-set}
use Rattle.std.proofs.Common.{rules, tests}
use Rattle.cases.proofs.Decimals.{next-part, last-some, last-none, read-next, read-bad, read-short, read-long, read-all}
use Rattle.cases.proofs.read_numbers.Goals as goal

pub loop-value-preserved : goal.loop-value-preserved
loop-value-preserved c = let k = c.in_ok-next.ensures.steps in
    read-next c.args.line.now 0 _ _ _ _ c.loop-value.invariant k.0 _ _ _ (next-part _ (λ f x r q h. search (rules, tests)) c.loop-value.texts c.next.new.self c.in_ok-next.field-0 k) _ (sym c.in_ok-value.ensures) (omega arith)

pub returns-in_err-value-clause-none : goal.returns-in_err-value-clause-none
returns-in_err-value-clause-none c = let k = c.in_ok-next.ensures.steps in
    rw c.from_residual-in_err-value.ensures
    (read-bad c.args.line.now _ _ _ _ _ c.loop-value.invariant k.0 _ _ (next-part _ (λ f x r q h. search (rules, tests)) c.loop-value.texts c.next.new.self c.in_ok-next.field-0 k) (sym c.in_err-value.ensures))

pub returns-in_err-next-clause-none : goal.returns-in_err-next-clause-none
returns-in_err-next-clause-none c = rw c.from_residual.ensures (read-short c.args.line.now _ _ _ _ _ c.loop-value.invariant c.in_err-next.ensures.steps.0 (simp length-set (omega arith)))

pub returns-clause-some : goal.returns-clause-some
returns-clause-some c = rw c.then_some.ensures
    (last-some _ c.loop-value.texts c.next-2.new.self _ _ c.next-2.ensures.steps c.is_none.ensures _ (λ d. read-all c.args.line.now _ _ _ _ _ c.loop-value.invariant d (omega arith) (omega arith)))

pub returns-clause-none : goal.returns-clause-none
returns-clause-none c = rw c.then_some.ensures
    (last-none _ c.loop-value.texts c.next-2.new.self _ _ c.next-2.ensures.steps c.is_none.ensures _ (λ d. read-long c.args.line.now _ _ _ _ _ c.loop-value.invariant d (omega arith)))
