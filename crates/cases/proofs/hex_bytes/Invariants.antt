use Rattle.std.proofs.Common.{◌≤◌, length}
use Rattle.cases.proofs.hex_bytes.Given as goal

abbrev pub invariant-loop-pair : goal.invariant-loop-pair
invariant-loop-pair l = l.count ≤ length l.code
