use borrow.Author.Rules.{rules}
use Rattle.stack.proofs.Tests.{yields_step, refuses_step}
use Rattle.stack.proofs.Indices.{pick-at, pick-refused}
use Rattle.stack.specs.View.{slots_of}
use Rattle.stack.proofs.Stacks.try_pick.Goals as goal

pub returns-in_err-n : goal.returns-in_err-n
returns-in_err-n c = let s = c.args.self.now in
    refuses_step _ _ (search rules) _ _ _ _ (λ R i g. pick-refused R i (slots_of s) s.mains s.alts _ c.top_count.ensures _ c.in_err-n.was)

pub returns : goal.returns
returns c = let s = c.args.self.now in
    yields_step c.try_extend_from_within.ensures _ _ _ (λ R i g. pick-at R i (slots_of s) s.mains s.alts _ c.top_count.ensures _ c.in_ok-n.was _ g)
