use mathlib.Core.Path.{refl}
use native.Mathlib.Omega.{arith}
use borrow.Author.Rules.{rules}
use Rattle.stack.proofs.Tests.{yields_step, dry_step, refuses_step, has}
use Rattle.stack.proofs.Indices.{zk-dry, zk-other, zk-r0, zk-short, zk-at, zk-refused}
use Rattle.stack.specs.View.{slots_of}
use Rattle.stack.proofs.Stacks.try_zk.Goals as goal

pub returns-in_err-needs : goal.returns-in_err-needs
returns-in_err-needs c = dry_step _ _ _ c.needs.ensures _ c.in_err-needs.was _ (search rules) _ _ (λ R i g h. zk-dry R i _ g _ _ _ h)

pub returns-in_err-count-in-42-2 : goal.returns-in_err-count-in-42-2
returns-in_err-count-in-42-2 c = let s = c.args.self.now in
    refuses_step c.in_err-count-in-42-2.field-0.0 _ (search rules) _ _ _ _ (λ R i g. zk-refused R i _ g (slots_of s) s.mains s.alts (has s _ _ c.needs.ensures _ c.in_ok-needs.was) c.in-42.is c.if-self-lt3.false _ c.top_count.ensures _ (search rules))

pub returns-in-43 : goal.returns-in-43
returns-in-43 c = let s = c.args.self.now in
    yields_step c.zk_drop.ensures _ _ _ (λ R i g. zk-r0 R i _ g (slots_of s) s.mains s.alts (has s _ _ c.needs.ensures _ c.in_ok-needs.was) c.in-43.is)

pub returns-in-42 : goal.returns-in-42
returns-in-42 c = let s = c.args.self.now in
    refuses_step _ _ refl _ _ _ _ (λ R i g. zk-short R i _ g (slots_of s) s.mains s.alts (has s _ _ c.needs.ensures _ c.in_ok-needs.was) c.in-42.is c.if-self-lt3.true)

pub returns-in_ok-count-in-42-2 : goal.returns-in_ok-count-in-42-2
returns-in_ok-count-in-42-2 c = let s = c.args.self.now in
    yields_step c.zk_drop-in-42-2.ensures _ _ _ (λ R i g. zk-at R i _ g (slots_of s) s.mains s.alts (has s _ _ c.needs.ensures _ c.in_ok-needs.was) c.in-42.is c.if-self-lt3.false _ c.top_count.ensures c.in_ok-count-in-42-2.count (search rules))

pub returns-in_default : goal.returns-in_default
returns-in_default c = let s = c.args.self.now in
    refuses_step _ _ refl _ _ _ _ (λ R i g. zk-other R i _ g (slots_of s) s.mains s.alts (has s _ _ c.needs.ensures _ c.in_ok-needs.was) (s.sound.canon _) (λ e. omega (arith, c.in_default)) (λ e. omega (arith, c.in_default)))
