use mathlib.Core.Path.{◌≡◌, sym, ap, ◌∙◌}
use native.Mathlib.Omega.{arith}
use borrow.Author.Rules.{rules}
use Rattle.std.specs.Prelude.{Ok, Err}
use Rattle.refusals.specs.declared.Refusal.TheVariants.{Malformed}
use Rattle.definition.specs.Decoding.{decode}
use Rattle.decode.specs.View.{counted_of, count_in}
use Rattle.stack_analysis.proofs.Entries.{too_long_lem, too-high, not-whole, short-log, may-walk, few}
use Rattle.stack_analysis.proofs.early.Goals as goal
use Rattle.stack_analysis.proofs.early.Goals.{In_ok-needed}

pub returns-then-length-gt10000 : goal.returns-then-length-gt10000
returns-then-length-gt10000 c R log k l = rw c.into.ensures (too_long_lem R _ _ _ log c.if-length-gt10000.true)

pub returns-then-sum-from : goal.returns-then-sum-from
returns-then-sum-from c R log k l = rw (c.into-then-sum-from.ensures, c.from.ensures, c.from-2.ensures, c.items-limit.ensures) (too-high R _ _ _ log _ k (omega arith) (omega (arith, c.from.ensures, c.from-2.ensures, c.items-limit.ensures, c.from-3.ensures)))

-- what is counted
counted : (c : In_ok-needed) → counted_of (Ok c.in_ok-needed.field-0) ≡ count_in (decode c.args.fragment.now)
counted c = ap counted_of (sym c.in_ok-needed.was) ∙ c.count_instructions.ensures

pub overflow_mul-needed : goal.overflow_mul-needed
overflow_mul-needed c = record { fits = omega (arith, few _ _ (counted (goal.at.overflow_mul-needed c).In_ok-needed) (omega arith)) }

pub returns-in_err-needed : goal.returns-in_err-needed
returns-in_err-needed c R log k l =
    let e : c.from_residual.result ≡ Err (record { offset = c.in_err-needed.field-0.0.offset; refusal = Malformed }) = search rules in
    rw e (not-whole R _ _ _ log _ k (omega arith) (omega (arith, c.from.ensures, c.from-2.ensures, c.items-limit.ensures, c.from-3.ensures)) _ (ap counted_of (sym c.in_err-needed.was) ∙ c.count_instructions.ensures))

pub returns-then-needed-lent : goal.returns-then-needed-lent
returns-then-needed-lent c R log k l =
    rw c.into-then-needed-lent.ensures (short-log R _ _ _ log _ k (omega arith) (omega (arith, c.from.ensures, c.from-2.ensures, c.items-limit.ensures, c.from-3.ensures)) _ (counted (goal.at.returns-then-needed-lent c).In_ok-needed) _ l c.if-needed-lent.true)

pub returns : goal.returns
returns c R log k l =
    may-walk R _ _ _ log _ k (omega arith) (omega (arith, c.from.ensures, c.from-2.ensures, c.items-limit.ensures, c.from-3.ensures)) _ (counted (goal.at.returns c).In_ok-needed) _ l c.if-needed-lent.false
