use Rattle.std.proofs.Common.{rules}
use Rattle.lines.proofs.Fragments.{printed-by}
use Rattle.lines.proofs.mark_lines.Goals as goal

pub returns-clause-text : goal.returns-clause-text
returns-clause-text c = search (rules, printed-by)
