use native.Mathlib.Omega.{arith}
use Rattle.opcodes.specs.Classes.{rows_of}
use Rattle.log_lines.proofs.Conditionals.{opening-end, opening-plain}
use Rattle.log_lines.proofs.opener.Goals as goal

pub loop-n-preserved : goal.loop-n-preserved
loop-n-preserved c = (
  opening-plain (rows_of c.args.fragment.classes) c.args.fragment.bytes.now c.args.fragment.log.now c.args.from c.args.count c.loop-n.n c.loop-n.inner c.loop-n.invariant.0 (omega arith) c.class_of_row.result c.class_of_row.ensures
      c.in_default.not-EndIf c.in_default.not-If c.in_default.not-NotIf c.in_default.not-Else,
  omega (arith, c.loop-n.invariant.1),
)

pub returns-clause-same : goal.returns-clause-same
returns-clause-same c = opening-end (rows_of c.args.fragment.classes) c.args.fragment.bytes.now c.args.fragment.log.now c.args.from c.args.count c.loop-n.n c.loop-n.inner c.loop-n.invariant.0 (omega arith)
