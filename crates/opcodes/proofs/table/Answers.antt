use Rattle.std.proofs.Common.{refl}
use Rattle.definition.specs.Classes.{class_number}
use Rattle.opcodes.proofs.Numbering.{built-in-rows}
use Rattle.opcodes.proofs.table.Goals as goal

pub returns : goal.returns
unfolding class_number
returns c = built-in-rows _ refl tt
