use Rattle.listing.proofs.Hex.{HexTo}
use Rattle.listing.proofs.write_hex_bytes.Given as goal

abbrev pub invariant-loop-j : goal.invariant-loop-j
invariant-loop-j l = HexTo l.initial.place l.bytes l.place l.j
