use Rattle.std.proofs.Common.{rules}
use Rattle.cases.proofs.Decimals.{decimal-empty}
use Rattle.cases.proofs.number.Goals as goal

pub returns-then-is_empty : goal.returns-then-is_empty
returns-then-is_empty c = decimal-empty c.args.text.now (search rules)
