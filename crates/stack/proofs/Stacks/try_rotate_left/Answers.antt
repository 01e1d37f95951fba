use borrow.Author.Rules.{rules}
use Rattle.stack.proofs.Tests.{dry, has}
use Rattle.stack.proofs.Mains.{rotate-short, rotate-done}
use Rattle.stack.proofs.Stacks.try_rotate_left.Goals as goal

pub returns-in_err-needs : goal.returns-in_err-needs
returns-in_err-needs c = dry _ _ _ c.needs.ensures _ c.in_err-needs.was _ (search rules) _ (rotate-short _ _ _ _ _)

pub returns : goal.returns
returns c = let s = c.args.self.now in
    let v = c.turn_slots.ensures in
    record { same = rw (v.mains, v.alts) (rotate-done _ _ _ _ _ (has s _ _ c.needs.ensures _ c.in_ok-needs.was) c.requires s.room _ v.placed) }
