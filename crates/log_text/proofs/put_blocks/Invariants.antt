use Rattle.opcodes.specs.Classes.{rows_of as class_rows}
use Rattle.log_text.proofs.Blocks.{Blocking}
use Rattle.log_text.proofs.put_blocks.Given as goal

abbrev pub invariant-loop-k : goal.invariant-loop-k
invariant-loop-k l = Blocking l.initial.out (class_rows l.paper.classes) l.paper.bytes.now l.paper.log.now l.accepted l.out l.from l.k
