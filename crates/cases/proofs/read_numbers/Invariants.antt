use Rattle.cases.proofs.Decimals.{Read}
use Rattle.cases.proofs.read_numbers.Given as goal

abbrev pub invariant-loop-value : goal.invariant-loop-value
invariant-loop-value l = Read l.line l.value-index l.value-items l.texts.done l.texts.rest.now
