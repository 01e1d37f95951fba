use mathlib.Core.Path.{sym}
use borrow.Author.Rules.{rules}
use Rattle.stack.proofs.Tests.{dry, has}
use Rattle.stack.proofs.Mains.{drop-short, drop-is}
use Rattle.stack.proofs.Stacks.try_drop_items.Goals as goal

pub returns-in_err-needs : goal.returns-in_err-needs
returns-in_err-needs c = dry _ _ _ c.needs.ensures _ c.in_err-needs.was _ (search rules) _ (drop-short _ _ _ _)

pub returns : goal.returns
returns c = let s = c.args.self.now in
    record { same = sym (drop-is _ _ _ _ (has s _ _ c.needs.ensures _ c.in_ok-needs.was)) }
