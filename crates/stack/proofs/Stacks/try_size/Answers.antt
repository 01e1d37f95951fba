use borrow.Author.Rules.{rules}
use Prim.Native.Nat.{◌-◌}
use lib.ListN.{get_or}
use Rattle.stack.proofs.Tests.{yields_step, dry_step, has}
use Rattle.stack.proofs.Indices.{size-held, size-short, size-is}
use Rattle.stack.specs.View.{slots_of}
use Rattle.stack.proofs.Stacks.try_size.Goals as goal

pub returns-in_err-needs : goal.returns-in_err-needs
returns-in_err-needs c = dry_step _ _ _ c.needs.ensures _ c.in_err-needs.was _ (search rules) _ _ (λ R i g h. size-short R i _ g _ _ _ h)

pub try_push-requires : goal.try_push-requires
try_push-requires c = size-held (get_or c.args.self.now.codes (c.args.self.now.mains - 1) 0) _ c.size_value-length.ensures

pub returns : goal.returns
returns c = let s = c.args.self.now in
    yields_step c.try_push.ensures _ _ _ (λ R i g. size-is R i _ g (slots_of s) s.mains s.alts (has s _ _ c.needs.ensures _ c.in_ok-needs.was) _ c.size_value-length.ensures)
