use Rattle.std.proofs.Common.{ℕ, ◌-◌, length}
use Rattle.walk.specs.Runs.{rules_in, stand, dead_walk, running}
use Rattle.walk.proofs.Loop.{Walking}
use Rattle.walk.proofs.skip.Given as goal

abbrev pub invariant-loop-instruction : goal.invariant-loop-instruction
invariant-loop-instruction l =
    (peak : ℕ) → Walking (rules_in l.rules) l.code l.initial.log (stand (dead_walk l.initial.place peak) running) l.log (stand (dead_walk l.place peak) running)

abbrev pub decreases-loop-instruction : goal.decreases-loop-instruction
decreases-loop-instruction l = length l.code - l.place.at
