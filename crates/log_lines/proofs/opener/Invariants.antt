use Prim.Native.Nat.{◌+◌, ◌≤◌}
use Rattle.opcodes.specs.Classes.{rows_of}
use Rattle.log_lines.proofs.Conditionals.{Opening}
use Rattle.log_lines.proofs.opener.Given as goal

abbrev pub invariant-loop-n : goal.invariant-loop-n
invariant-loop-n l = Opening (rows_of l.fragment.classes) l.fragment.bytes.now l.fragment.log.now l.from l.count l.n l.inner × (l.n + l.inner ≤ l.count)
