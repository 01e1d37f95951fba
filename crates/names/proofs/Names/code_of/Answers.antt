use borrow.Author.Rules.{rules}
use mathlib.Core.Path.{ap}
use lib.ListN.{get_or}
use Rattle.names.proofs.Tables.{code-empty, code-named, code_none}
use Rattle.names.proofs.Names.code_of.Goals as goal

pub returns-then-is_empty : goal.returns-then-is_empty
returns-then-is_empty c = code-empty c.args.word.now (search rules)

pub returns-then-eq : goal.returns-then-eq
returns-then-eq c = code-named c.args.word.now _ _ c.name.ensures _ c.eq.ensures (search rules) (search rules) c.if-eq.true

pub returns-else-eq : goal.returns-else-eq
returns-else-eq c = code_none c.args.word.now _ _ c.name.ensures _ c.eq.ensures c.args.self.now.codes.now c.args.self.now.codes_right (ap (λ n. get_or c.args.self.now.codes.now n 0) c.place_of.ensures.same) c.if-eq.false
