use borrow.Author.Rules.{rules}
use mathlib.Core.Path.{◌≡◌, ◌∙◌, ap}
use Rattle.std.specs.Prelude.{Err}
use Rattle.refusals.specs.View.{answer_of}
use Rattle.refusals.specs.declared.Refused.{Refused}
use Rattle.definition_listings.specs.Listing.{unwritten}
use Rattle.assembling.proofs.Assembling.{gives-good, assembled-strange, assembled-short, assembled-done}
use Rattle.text.proofs.Puts.{whole}
use Rattle.assembling.proofs.assemble.Goals as goal

pub returns-in_err-size : goal.returns-in_err-size
returns-in_err-size c =
    let e : c.from_residual.result ≡ Err c.in_err-size.field-0.0 = search rules in
    rw e (assembled-strange c.args.listing.now c.args.out.now c.judge.result c.judge.ensures _ c.in_err-size.was)

pub returns-then-out-size : goal.returns-then-out-size
returns-then-out-size c =
    ap (λ (r : Refused). unwritten (answer_of r) c.args.out.now) c.into.ensures
    ∙ assembled-short c.args.listing.now c.args.out.now c.judge.result c.judge.ensures _ c.in_ok-size.was c.if-out-size.true

pub put_words-requires : goal.put_words-requires
put_words-requires c = gives-good c.args.listing.now c.args.out.now c.judge.result c.judge.ensures _ c.in_ok-size.was

pub returns : goal.returns
returns c =
    assembled-done c.args.listing.now c.args.out.now c.judge.result c.judge.ensures _ c.in_ok-size.was _ c.if-out-size.false
    (λ r. search rules ∙ whole c.new.ensures.as_lent c.new.ensures.empty c.put_words.ensures r)
