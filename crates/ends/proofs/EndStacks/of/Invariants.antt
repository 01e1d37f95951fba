use Rattle.stack.specs.View.{slots_of}
use Rattle.ends.proofs.Packing.{Ending}
use Rattle.ends.proofs.EndStacks.of.Given as goal

abbrev pub invariant-loop-k : goal.invariant-loop-k
invariant-loop-k l = Ending (slots_of l.stacks) l.mains l.k l.items
