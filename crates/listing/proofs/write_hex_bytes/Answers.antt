use borrow.Author.Rules.{rules}
use native.Mathlib.Omega.{arith}
use Rattle.listing.proofs.Hex.{hex-next, hex-all}
use Rattle.listing.proofs.write_hex_bytes.Goals as goal

pub loop-j-preserved : goal.loop-j-preserved
loop-j-preserved c =
    hex-next c.args.place.now c.args.bytes.now c.loop-j.place c.requires c.loop-j.j c.loop-j.invariant c.hex_digit.result c.hex_digit-in-loop-j.result
    c.loop-j-test.true (search rules) c.hex_digit.ensures c.hex_digit-in-loop-j.ensures

pub returns : goal.returns
returns c =
    hex-all c.args.place.now c.args.bytes.now c.loop-j.place c.requires c.loop-j.j c.loop-j.invariant (omega (arith, c.loop-j-test.false, c.loop-j.auto.j-end))
