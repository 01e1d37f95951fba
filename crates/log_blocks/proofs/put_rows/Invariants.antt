use Rattle.opcodes.specs.Classes.{rows_of}
use Rattle.log_blocks.proofs.Rows.{Rowing}
use Rattle.log_blocks.proofs.put_rows.Given as goal

abbrev pub invariant-loop-j : goal.invariant-loop-j
invariant-loop-j l = Rowing l.initial.out (rows_of l.fragment.classes) l.fragment.bytes.now l.fragment.log.now l.scale l.from l.count l.out l.depth l.j
