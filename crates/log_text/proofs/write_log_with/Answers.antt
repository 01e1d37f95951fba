use Rattle.definition_rules.specs.Maps.{built_in_options, rules_by}
use Rattle.opcodes.specs.Classes.{rows_of as class_rows}
use Rattle.walk.specs.Runs.{options_of}
use Rattle.log_text.proofs.Texts.{logs-refused, logs-with}
use Rattle.log_text.proofs.write_log_with.Goals as goal

pub returns-in-Ok : goal.returns-in-Ok
returns-in-Ok c =
    let a = c.args in
    logs-with a.map.now (options_of a.options) c.rules.ensures.judged a.paper.now a.log.now c.in-Ok.is c.write_log_rows.ensures

pub returns-in-Err : goal.returns-in-Err
returns-in-Err c =
    let a = c.args in
    logs-refused a.map.now (options_of a.options) c.rules.ensures.judged a.paper.now a.log.now c.in-Err.is (rules_by (class_rows c.built_in.result) built_in_options)
    (c.write_marked.ensures built_in_options _ (c.refused-marked.ensures a.log.now))
