use mathlib.Core.Path.{sym}
use Rattle.std.proofs.Common.{rules}
use Rattle.stack.proofs.Joins.{join-main, join-alt, joins}
use Rattle.stack.proofs.Stacks.try_join.Goals.{then-self-other-via-then-self-other, then-self-other-via-else-self-other+then-self-other-2}
use Rattle.stack.proofs.Stacks.try_join.Goals as goal

pub returns-then-self-other : goal.returns-then-self-other
returns-then-self-other c = record {
  same = sym (elim c.then-self-other.branch [
    | then-self-other-via-then-self-other w ↦ join-main _ _ _ _ _ _ w.if-self-other.true
    | then-self-other-via-else-self-other+then-self-other-2 w ↦ join-alt _ _ _ _ _ _ w.if-self-other.false w.if-self-other-2.true
  ]);
}

pub invariant_of-self : goal.invariant_of-self
invariant_of-self c = record { room = c.args.self.now.room; sound = search (rules, joins) }

pub returns : goal.returns
returns c = record { same = search (rules, joins) }
