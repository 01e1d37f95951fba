use borrow.Author.Rules.{rules}
use Rattle.stack.proofs.Tests.{has, which-dry}
use Rattle.stack.proofs.Pops.{pops-short, pops-at, pops-none}
use Rattle.stack.proofs.Stacks.top_count.Goals as goal

pub returns-in_err-needs : goal.returns-in_err-needs
returns-in_err-needs c = let s = c.args.self.now in
    let k = which-dry s _ _ c.needs.ensures _ c.in_err-needs.was in
    pops-short _ _ _ k.0 _ k.1 _ (search rules)

pub returns-in_err-read_index : goal.returns-in_err-read_index
returns-in_err-read_index c = let s = c.args.self.now in
    pops-none _ _ _ (has s _ _ c.needs.ensures _ c.in_ok-needs.was) _ c.slot_value.ensures _ c.read_index.ensures.same _ c.in_err-read_index.was _ (search rules)

pub returns : goal.returns
returns c = let s = c.args.self.now in
    pops-at _ _ _ (has s _ _ c.needs.ensures _ c.in_ok-needs.was) _ c.slot_value.ensures _ c.read_index.ensures.same _ c.in_ok-read_index.was
