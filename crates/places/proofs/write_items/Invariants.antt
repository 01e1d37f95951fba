use Rattle.places.proofs.Items.{Listing}
use Rattle.places.proofs.write_items.Given as goal

abbrev pub invariant-loop-k : goal.invariant-loop-k
invariant-loop-k l = Listing l.fn.e.items l.initial.items l.k l.items
