use Rattle.stackmark.proofs.Inputs.{inputs}
use Rattle.stackmark.proofs.marked.Goals as goal

pub returns : goal.returns
returns c = inputs _ _ _ c.min.ensures c.mark_lines.ensures.text
