use native.Mathlib.Omega.{arith}
use Rattle.stack.proofs.Moves.{moves-none, moves-next}
use Rattle.stack.proofs.Stacks.copy_slots.Goals as goal

pub loop-k-init : goal.loop-k-init
loop-k-init c = moves-none _ _ _

pub loop-k-preserved : goal.loop-k-preserved
loop-k-preserved c = moves-next _ _ _ _ c.args.count (omega arith) (omega arith) _ _ c.loop-k.invariant c.copy_slot.ensures
