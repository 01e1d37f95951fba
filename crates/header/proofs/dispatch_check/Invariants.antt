use Rattle.header.proofs.Entries.{Dispatching}
use Rattle.header.proofs.dispatch_check.Given as goal

abbrev pub invariant-loop-entry : goal.invariant-loop-entry
invariant-loop-entry l = Dispatching l.limit l.paper l.entry-end l.entry
