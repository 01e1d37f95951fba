use borrow.Author.Rules.{rules}
use Rattle.stack.proofs.Tests.{dry, has}
use Rattle.stack.proofs.Mains.{nip-short, nip-done}
use Rattle.stack.proofs.Stacks.try_nip.Goals as goal

pub returns-in_err-needs : goal.returns-in_err-needs
returns-in_err-needs c = dry _ _ _ c.needs.ensures _ c.in_err-needs.was _ (search rules) _ (nip-short _ _ _)

pub returns : goal.returns
returns c = let s = c.args.self.now in
    let v = c.copy_slot.ensures in
    record { same = rw (v.mains, v.alts) (nip-done _ _ _ (has s _ _ c.needs.ensures _ c.in_ok-needs.was) s.room _ v.placed) }
