use Prim.Native.Nat.{◌+◌}
use Rattle.slots.specs.Parts.{apart}
use Rattle.stack.specs.Parts.{Moves}
use Rattle.stack.proofs.Stacks.copy_slots.Given as goal

abbrev pub invariant-loop-k : goal.invariant-loop-k
invariant-loop-k l = Moves (apart l.from l.to) l.to (l.to + l.k) l.initial.self l.self
