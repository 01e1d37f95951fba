use Rattle.std.proofs.Common.{◌≡◌}
use Rattle.definition.specs.Decoding as Decoding
use Rattle.decode.proofs.Numbers.{below}
use Rattle.decode.proofs.number.Given as goal

abbrev pub invariant-loop-byte : goal.invariant-loop-byte
invariant-loop-byte l = below l.byte-iterator.iter.rest.now l.number ≡ Decoding.number l.bytes
