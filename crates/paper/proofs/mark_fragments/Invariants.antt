use Rattle.walk.specs.Runs.{rules_in}
use Rattle.paper.specs.View.{items_of}
use Rattle.paper.proofs.Markings.{Marking}
use Rattle.paper.proofs.mark_fragments.Given as goal

abbrev pub invariant-loop-k : goal.invariant-loop-k
invariant-loop-k l = Marking (rules_in l.rules) l.paper l.initial.log l.k l.rows l.peak l.log (items_of l.accepted)
