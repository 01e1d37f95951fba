use Rattle.std.proofs.Common.{◌-◌, length}
use Rattle.decode.proofs.Codes.{Counting}
use Rattle.decode.proofs.count_instructions.Given as goal

abbrev pub invariant-loop-next : goal.invariant-loop-next
invariant-loop-next l = Counting l.fragment l.offset l.count

abbrev pub decreases-loop-next : goal.decreases-loop-next
decreases-loop-next l = length l.fragment - l.offset
