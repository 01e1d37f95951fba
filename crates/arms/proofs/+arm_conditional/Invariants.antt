use Rattle.std.proofs.Common.{◌+◌, ◌-◌, ◌*◌, length}
use Rattle.walk.specs.Runs.{rules_in}
use Rattle.arms.proofs.Cycle.{Arming}
use Rattle.arms.proofs.+arm_conditional.Given as goal

abbrev pub decreases-arm : goal.decreases-arm
decreases-arm l = 2 * (length l.code.now - l.w.now.place.at)

abbrev pub decreases-conditional : goal.decreases-conditional
decreases-conditional l = 2 * (length l.code.now - l.w.now.place.at) + 1

abbrev pub invariant-arm-loop-log : goal.invariant-arm-loop-log
invariant-arm-loop-log l = Arming (rules_in l.rules) l.code l.depth l.initial.w l.initial.log l.w l.log

abbrev pub decreases-arm-loop-log : goal.decreases-arm-loop-log
decreases-arm-loop-log l = length l.code - l.w.place.at
