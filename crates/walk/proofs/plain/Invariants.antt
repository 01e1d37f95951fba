use Rattle.std.proofs.Common.{◌-◌, length}
use Rattle.walk.specs.Runs.{rules_in, stand, running}
use Rattle.walk.proofs.Loop.{Walking, living}
use Rattle.walk.proofs.plain.Given as goal

-- Its stacks are lent, so of the walk itself the loop has where it stands, `l.w.1.1.0`, and the peak, `l.w.1.1.1.0`.

abbrev pub invariant-loop-instruction : goal.invariant-loop-instruction
invariant-loop-instruction l = Walking (rules_in l.rules) l.code l.initial.log (stand l.fn.w running) l.log (living l.stacks l.w.1.1.0 l.w.1.1.1.0)

abbrev pub decreases-loop-instruction : goal.decreases-loop-instruction
decreases-loop-instruction l = length l.code - l.w.1.1.0.at
