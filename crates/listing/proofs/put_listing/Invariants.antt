use lib.ListN.{length}
use Prim.Native.Nat.{◌-◌}
use Rattle.listing.proofs.Listed.{ListedTo}
use Rattle.listing.proofs.put_listing.Given as goal

abbrev pub invariant-loop-instruction : goal.invariant-loop-instruction
invariant-loop-instruction l = ListedTo l.fragment l.initial.text l.offset l.text

abbrev pub decreases-loop-instruction : goal.decreases-loop-instruction
decreases-loop-instruction l = length l.fragment - l.offset
