use borrow.Author.Rules.{rules}
use Rattle.stack.proofs.Tests.{has, full, fits}
use Rattle.stack.proofs.Mains.{tuck-full, tuck-done}
use Rattle.stack.proofs.Stacks.try_tuck.Goals as goal

pub returns-in_err-room : goal.returns-in_err-room
returns-in_err-room c = full _ _ _ _ c.room.ensures _ c.in_err-room.was _ (search rules) _ (tuck-full _ _ _ _ (has c.args.self.now _ _ c.needs-2.ensures _ c.in_ok-needs-2.was))

pub returns : goal.returns
returns c = let s = c.args.self.now in
    let v = c.copy_slot.ensures in
    let w = c.turn_slots.ensures in
    record { same = rw (w.mains, w.alts, v.mains, v.alts) (tuck-done _ _ _ _ (has s _ _ c.needs-2.ensures _ c.in_ok-needs-2.was) (fits s _ _ _ c.room.ensures _ c.in_ok-room.was) c.args.limit.low _ _ v.placed w.placed) }
