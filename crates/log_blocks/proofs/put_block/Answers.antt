use mathlib.Core.List.{◌++◌}
use mathlib.Core.Path.{ap, ◌∙◌}
use Rattle.definition.specs.Basics.{Bytes}
use Rattle.definition_rules.specs.Maps.{rules_by}
use Rattle.opcodes.specs.Classes.{rows_of}
use Rattle.log_rows.specs.Rows.{rows}
use Rattle.log_lines.specs.Log.{start, verdict_line}
use Rattle.log_blocks.specs.Blocks.{block}
use Rattle.log_blocks.proofs.Rows.{block-put}
use Rattle.definition.specs.Stacks.{Rules}
use Rattle.stack_analysis.specs.View.{Told, told}
use Rattle.stack_analysis.specs.declared.Heights.{Heights}
use Rattle.text.proofs.Puts.{puts_as}
use Rattle.log_blocks.proofs.put_block.Goals as goal

pub returns-clause-same : goal.returns-clause-same
unfolding block
returns-clause-same c = λ options.
    let x = c.args in
    let R : Rules = rules_by (rows_of x.paper.classes) options in
    let t : Told Heights = told x.verdict in
    puts_as
    (ap (λ p. start x.paper.bytes.now x.k ++ rows R c.fragment_bytes-bytes.result.now x.paper.log.now p.1 x.from p.0 ++ verdict_line R c.fragment_bytes-bytes.result.now x.paper.log.now x.from t) c.rows_and_peak-rows.ensures
    ∙ ap (λ (b : Bytes). start x.paper.bytes.now x.k ++ rows R b x.paper.log.now t.peak x.from t.rows ++ verdict_line R b x.paper.log.now x.from t) c.fragment_bytes-bytes.ensures)
    (block-put (c.deref.ensures.0 ∙ c.start.ensures) c.put.ensures (c.put_table.ensures.same options) (c.deref-2.ensures.0 ∙ c.verdict_line.ensures options) c.put-2.ensures)
