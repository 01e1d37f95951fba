use Rattle.assembling.proofs.Assembling.{WordsTo}
use Rattle.assembling.proofs.put_words.Given as goal

abbrev pub invariant-loop-word : goal.invariant-loop-word
invariant-loop-word l = WordsTo l.initial.text l.listing l.word-iterator.done l.word-iterator.rest.now l.text
