use Rattle.std.proofs.Common.{◌-◌, length}
use Rattle.limits.proofs.Operations.{Counting}
use Rattle.limits.proofs.validate_txscript_bytecode_limits.Given as goal

abbrev pub invariant-loop-opcode : goal.invariant-loop-opcode
invariant-loop-opcode l = Counting l.bytecode l.offset l.count

abbrev pub decreases-loop-opcode : goal.decreases-loop-opcode
decreases-loop-opcode l = length l.bytecode - l.offset
