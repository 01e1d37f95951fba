use Rattle.stack.proofs.Tests.{yields, done-of}
use Rattle.stack.proofs.Indices.{zk-drop-done}
use Rattle.stack.proofs.Stacks.zk_drop.Goals as goal

pub returns : goal.returns
returns c = yields c.push_slot.ensures _ (zk-drop-done _ _ _ _ (done-of _ _ _ c.try_drop_items.ensures _ c.in_ok-try_drop_items.was))
