use mathlib.Core.Path.{◌∙◌}
use Rattle.definition_rules.specs.Maps.{rules_by}
use Rattle.opcodes.specs.Classes.{rows_of}
use Rattle.log_blocks.proofs.Rows.{table-some, table-none}
use Rattle.log_blocks.proofs.put_table.Goals as goal

pub returns-then-count-gt0-clause-same : goal.returns-then-count-gt0-clause-same
returns-then-count-gt0-clause-same c = λ options.
    table-some (rules_by (rows_of c.args.fragment.classes) options) c.args.fragment.bytes.now c.args.fragment.log.now c.args.peak c.args.from c.args.count c.scale_of-scale.result
    c.if-count-gt0.true c.scale_of-scale.ensures.same (c.deref.ensures.0 ∙ c.heading.ensures) c.put.ensures (c.put_rows.ensures.same options)

pub returns-else-count-gt0-clause-same : goal.returns-else-count-gt0-clause-same
returns-else-count-gt0-clause-same c = λ options.
    table-none c.args.out.now (rules_by (rows_of c.args.fragment.classes) options) c.args.fragment.bytes.now c.args.fragment.log.now c.args.peak c.args.from c.args.count c.if-count-gt0.false
