use Rattle.header.proofs.Entries.{Greatest}
use Rattle.header.proofs.most_parameters.Given as goal

abbrev pub invariant-loop-k : goal.invariant-loop-k
invariant-loop-k l = Greatest l.paper l.k-end l.k l.most
