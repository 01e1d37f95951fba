use native.Mathlib.Omega.{arith}
use Rattle.stack.proofs.Fresh.{fresh}
use Rattle.slots.proofs.Blanks.{blank-sound}
use Rattle.stack.proofs.Stacks.new.Goals as goal

pub invariant_of-result : goal.invariant_of-result
invariant_of-result c = record { room = omega arith; sound = blank-sound }

pub returns : goal.returns
returns c = fresh _ _ c.requires
