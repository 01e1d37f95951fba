use Rattle.std.proofs.Common.{◌≤◌}
use Rattle.cases.proofs.Decimals.{Begun}
use Rattle.cases.proofs.value_of.Given as goal

abbrev pub invariant-loop-b : goal.invariant-loop-b
invariant-loop-b l = Begun l.digits l.b-index l.value × (l.value ≤ 4294967295)
