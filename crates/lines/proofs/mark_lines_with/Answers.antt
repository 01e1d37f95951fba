use Rattle.definition_rules.specs.Maps.{printed_with}
use Rattle.lines.proofs.mark_lines_with.Goals as goal

pub returns-clause-text : goal.returns-clause-text
unfolding printed_with
returns-clause-text c = c.of.ensures.text _ _ c.mark_with.ensures
