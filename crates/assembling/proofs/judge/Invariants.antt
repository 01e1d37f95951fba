use Rattle.assembling.proofs.Judging.{Judging}
use Rattle.assembling.proofs.judge.Given as goal

abbrev pub invariant-loop-word : goal.invariant-loop-word
invariant-loop-word l = Judging l.listing l.word-iterator.done l.word-iterator.rest.now l.offset l.size
