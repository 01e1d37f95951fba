use mathlib.Core.Path.{sym}
use Rattle.stack.proofs.Alts.{from-alt-short, from-alt-done}
use Rattle.stack.proofs.Stacks.try_move_from_alt.Goals as goal

pub returns-then-self-eq0 : goal.returns-then-self-eq0
returns-then-self-eq0 c = record { same = sym (from-alt-short _ _ _ c.if-self-eq0.true) }

pub returns : goal.returns
returns c = let s = c.args.self.now in
    let v = c.copy_slot.ensures in
    record { same = rw (v.mains, v.alts) (from-alt-done _ _ _ c.if-self-eq0.false s.room _ v.placed) }
