use borrow.Author.Rules.{rules}
use Rattle.stack.proofs.Tests.{dry, has, full}
use Rattle.stack.proofs.Mains.{copy-short, copy-full, copy-done}
use Rattle.stack.proofs.Stacks.try_extend_from_within.Goals as goal

pub returns-in_err-needs : goal.returns-in_err-needs
returns-in_err-needs c = dry _ _ _ c.needs.ensures _ c.in_err-needs.was _ (search rules) _ (copy-short _ _ _ _ _ _)

pub returns-in_err-room : goal.returns-in_err-room
returns-in_err-room c = full _ _ _ _ c.room.ensures _ c.in_err-room.was _ (search rules) _ (copy-full _ _ _ _ _ _ (has c.args.self.now _ _ c.needs.ensures _ c.in_ok-needs.was))

pub returns : goal.returns
returns c = let s = c.args.self.now in
    let v = c.copy_slots.ensures in
    record { same = rw (v.mains, v.alts) (copy-done _ _ _ _ _ _ (has s _ _ c.needs.ensures _ c.in_ok-needs.was) c.requires.0 (search rules) c.args.limit.low _ v.placed) }
