use borrow.Author.Rules.{rules}
use borrow.Author.Tests.{tests}
use Rattle.std.proofs.lemmas.Fn.{always_returns_same}
use Rattle.assembling.proofs.Judging.{space}
use Rattle.assembling.proofs.Assembling.{words-start, word_good, words_more}
use Rattle.assembling.proofs.put_words.Goals as goal

pub loop-word-init : goal.loop-word-init
loop-word-init c = words-start c.args.text.now c.args.listing.now _ _ (λ e. search rules) (search rules) (search rules)

pub put_bytes-requires : goal.put_bytes-requires
put_bytes-requires c =
    let first = (c.in-Some.ensures.steps.2 space (always_returns_same _ _ _ (λ a r q k. search (rules, tests)))).1 in
    word_good c.args.text.now c.args.listing.now _ _ c.loop-word.text c.loop-word.invariant c.requires c.in-Some.ensures.steps.0 c.in-Some.word.now _ _ c.in-Some.ensures.steps.1 first

pub loop-word-preserved : goal.loop-word-preserved
loop-word-preserved c =
    let first = (c.in-Some.ensures.steps.2 space (always_returns_same _ _ _ (λ a r q k. search (rules, tests)))).1 in
    words_more c.args.text.now c.args.listing.now _ _ c.loop-word.text c.loop-word.invariant c.requires c.in-Some.ensures.steps.0 c.in-Some.word.now _ _ c.in-Some.ensures.steps.1 first
    c.put_bytes.new.text c.put_bytes.ensures
