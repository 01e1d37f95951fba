use borrow.Author.Rules.{rules}
use native.Mathlib.Omega.{arith}
use mathlib.Core.Path.{◌≡◌, ◌∙◌}
use lib.ListN.{length}
use Rattle.std.specs.Prelude.{Err}
use Rattle.refusals.specs.declared.Refusal.TheVariants.{Malformed}
use Rattle.text.proofs.Puts.{whole}
use Rattle.listing.specs.View.{listing_of}
use Rattle.listing.proofs.Listed.{refused-whole, listed-malformed-at, listed-short, listed-done}
use Rattle.listing.proofs.list.Goals as goal

pub returns-in_err-size : goal.returns-in_err-size
returns-in_err-size c =
    let e : c.from_residual.result ≡ Err (record { offset = c.in_err-size.field-0.0.offset; refusal = Malformed }) = search rules in
    rw e (listed-malformed-at c.args.fragment.now c.args.out.now c.in_err-size.field-0.0 c.in_err-size.ensures)

pub returns-then-out-size : goal.returns-then-out-size
returns-then-out-size c =
    let f = c.args.fragment.now in
    let m = c.in_ok-size.ensures in
    rw c.into.ensures (listed-short f c.args.out.now m.0 (omega (arith, c.if-out-size.true, m.1)))

pub returns-in_err-put_listing : goal.returns-in_err-put_listing
returns-in_err-put_listing c = refused-whole c.args.fragment.now c.in_ok-size.ensures.0 c.in_err-put_listing.ensures.same

pub returns : goal.returns
returns c =
    let f = c.args.fragment.now in
    let m = c.in_ok-size.ensures in
    let n : length (listing_of f) ≡ c.in_ok-size.size = omega (arith, c.if-out-size.false, m.1) in
    listed-done f c.args.out.now m.0 _ _ n c.if-out-size.false
    (search rules ∙ whole c.new.ensures.as_lent c.new.ensures.empty c.in_ok-put_listing.ensures.puts (omega (arith, n, c.if-out-size.false)))
