use borrow.Author.Rules.{rules}
use Rattle.stack.proofs.Tests.{yields, refuses}
use Rattle.stack.proofs.Pops.{on-at, on-refused}
use Rattle.stack.specs.View.{slots_of}
use Rattle.stack.proofs.Stacks.try_roll.Goals as goal

pub returns-in_err-n : goal.returns-in_err-n
returns-in_err-n c = let s = c.args.self.now in
    refuses _ _ (search rules) _ _ (on-refused (slots_of s) s.mains s.alts _ c.top_count.ensures _ c.in_err-n.was _)

pub returns : goal.returns
returns c = let s = c.args.self.now in
    yields c.try_rotate_left.ensures _ (on-at (slots_of s) s.mains s.alts _ c.top_count.ensures _ c.in_ok-n.was _)
