use Rattle.std.proofs.Common.{replicate}
use Rattle.log_rows.proofs.Rows.{Grown}
use Rattle.log_rows.proofs.push_same.Given as goal

abbrev pub invariant-loop : goal.invariant-loop
invariant-loop g l = Grown l.initial.line.items (replicate l.counter l.byte) l.line.items l.counter
