use Rattle.std.proofs.Common.{◌-◌}
use Rattle.log_rows.proofs.Rows.{Scaling}
use Rattle.log_rows.proofs.scale_of.Given as goal

abbrev pub invariant-loop-row : goal.invariant-loop-row
invariant-loop-row l = Scaling l.peak l.log l.from l.count l.scale (l.row - l.from)
