use Rattle.std.proofs.Common.{rules, tests}
use Rattle.limits.proofs.Operations.{counting-next}
use Rattle.limits.proofs.validate_txscript_bytecode_limits.Goals as goal

pub loop-opcode-preserved : goal.loop-opcode-preserved
loop-opcode-preserved c = counting-next _ _ _ c.in-Some.opcode _ _ c.loop-opcode.invariant c.type_inv.bytecode (search (rules, tests)) c.from-count.ensures
