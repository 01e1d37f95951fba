use Rattle.sums.proofs.Summing.{Summing}
use Rattle.sums.proofs.sums.Given as goal

abbrev pub invariant-loop-number : goal.invariant-loop-number
invariant-loop-number l = Summing l.pairs l.number-index l.counts l.sum
