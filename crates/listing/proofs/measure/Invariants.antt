use lib.ListN.{length}
use Prim.Native.Nat.{◌-◌, ◌≤◌}
use Rattle.listing.proofs.Listed.{MeasuredTo}
use Rattle.listing.proofs.measure.Given as goal

abbrev pub invariant-loop-instruction : goal.invariant-loop-instruction
invariant-loop-instruction l = MeasuredTo l.fragment l.room l.offset l.size × (l.size ≤ l.room)

abbrev pub decreases-loop-instruction : goal.decreases-loop-instruction
decreases-loop-instruction l = length l.fragment - l.offset
