use native.Mathlib.Omega.{arith}
use Rattle.slots.proofs.Codes.{canon-sufficient}
use Rattle.stack.proofs.Stacks.try_push_code.Goals as goal

pub push_slot-requires : goal.push_slot-requires
push_slot-requires c = canon-sufficient _ _ (omega arith) c.requires
