use Rattle.slots.proofs.Codes.{exact-canon}
use Rattle.stack.proofs.Stacks.try_push_exact.Goals as goal

pub push_slot-requires : goal.push_slot-requires
push_slot-requires c = exact-canon _ _ c.requires.held c.requires.bytes_value
