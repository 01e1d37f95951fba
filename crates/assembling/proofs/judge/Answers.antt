use borrow.Author.Rules.{rules}
use borrow.Author.Tests.{tests}
use Rattle.std.proofs.lemmas.Fn.{always_returns_same}
use Rattle.assembling.proofs.Judging.{space, judging-none, judging-strange, judging-more}
use Rattle.assembling.proofs.judge.Goals as goal

pub loop-word-init : goal.loop-word-init
loop-word-init c = judging-none c.args.listing.now _ _ (λ e. search rules) (search rules) (search rules)

pub returns-in_default : goal.returns-in_default
returns-in_default c =
    let first = (c.in-Some.ensures.steps.2 space (always_returns_same _ _ _ (λ a r q k. search (rules, tests)))).1 in
    judging-strange c.args.listing.now _ _ c.loop-word.offset c.loop-word.size c.loop-word.invariant c.in-Some.ensures.steps.0 c.in-Some.word.now _ _ c.in-Some.ensures.steps.1 first
    c.in_default.ensures

pub loop-word-preserved : goal.loop-word-preserved
loop-word-preserved c =
    let first = (c.in-Some.ensures.steps.2 space (always_returns_same _ _ _ (λ a r q k. search (rules, tests)))).1 in
    judging-more c.args.listing.now _ _ c.loop-word.offset c.loop-word.size c.loop-word.invariant c.in-Some.ensures.steps.0 c.in-Some.word.now _ _ c.in-Some.ensures.steps.1 first
    _ c.in-Some-word_size.ensures
