use native.Mathlib.Omega.{arith}
use borrow.Author.Rules.{rules}
use denote.Enum.Bare.{same_false}
use lib.ListN.{get_or}
use mathlib.Core.Path.{◌∙◌, sym}
use Rattle.words.proofs.Words.{digit-none, digit-some, code-length, code-high, code-low, code-modelled, code-unmodelled}
use Rattle.opcodes.specs.contracts.Class.{the_type}
use Rattle.words.proofs.Classes.{class-by_number}
use Rattle.opcodes.specs.declared.Class.TheVariants.{Unmodelled}
use Rattle.words.proofs.unmodelled_read.Goals as goal

pub returns-in_default : goal.returns-in_default
returns-in_default c = code-length c.args.word.now c.requires.opens c.requires.begins (λ e. omega arith)

pub returns-in_default-2 : goal.returns-in_default-2
returns-in_default-2 c = code-length c.args.word.now c.requires.opens c.requires.begins (λ e. omega arith)

pub returns-in_err-digit : goal.returns-in_err-digit
returns-in_err-digit c = rw c.from_residual.ensures (code-high c.args.word.now c.requires.opens c.requires.begins (omega arith) (digit-none (get_or c.args.word.now 2 0) _ c.digit.ensures.same c.in_err-digit.was))

pub returns-in_err-code : goal.returns-in_err-code
returns-in_err-code c = rw c.from_residual-in_err-code.ensures (code-low c.args.word.now c.requires.opens c.requires.begins (omega arith) _ (digit-some (get_or c.args.word.now 2 0) _ c.digit.ensures.same _ c.in_ok-digit.was) (digit-none (get_or c.args.word.now 3 0) _ c.digit-2.ensures.same c.in_err-code.was))

pub returns-then-eq : goal.returns-then-eq
returns-then-eq c = code-unmodelled c.args.word.now c.requires.opens c.requires.begins (omega arith) _ (digit-some (get_or c.args.word.now 2 0) _ c.digit.ensures.same _ c.in_ok-digit.was) _ (digit-some (get_or c.args.word.now 3 0) _ c.digit-2.ensures.same _ c.in_ok-code.was) _ c.class_of.ensures (search rules)

pub returns-else-eq : goal.returns-else-eq
returns-else-eq c = code-modelled c.args.word.now c.requires.opens c.requires.begins (omega arith) _ (digit-some (get_or c.args.word.now 2 0) _ c.digit.ensures.same _ c.in_ok-digit.was) _ (digit-some (get_or c.args.word.now 3 0) _ c.digit-2.ensures.same _ c.in_ok-code.was) _ c.class_of.ensures (λ e. same_false the_type _ _ (sym c.eq.ensures ∙ c.if-eq.false) (class-by_number c.class_of.result Unmodelled e))
