use Prim.Native.Nat.{◌≤◌}
use lib.ListN.{length}
use Rattle.places.proofs.Sittings.{Counts}
use Rattle.places.proofs.write_sitting.Given as goal

abbrev pub invariant-loop-k : goal.invariant-loop-k
invariant-loop-k l = (Counts l.initial.out l.fn.s.counts l.k l.out) × (l.k ≤ length l.fn.s.counts)
