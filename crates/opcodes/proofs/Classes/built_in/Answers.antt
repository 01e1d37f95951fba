use Rattle.std.proofs.Common.{refl}
use Rattle.definition.specs.Classes.{class_number}
use Rattle.opcodes.proofs.Numbering.{built-in-rows}
use Rattle.opcodes.proofs.Classes.built_in.Goals as goal

-- the rule is tested once at all of the table's 256 entries

pub returns : goal.returns
unfolding class_number
returns c = built-in-rows _ refl tt

pub invariant_of-result : goal.invariant_of-result
unfolding class_number
invariant_of-result c = record { good = (built-in-rows _ refl tt).good }
