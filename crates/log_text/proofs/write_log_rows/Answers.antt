use Rattle.walk.specs.Runs.{rules_in}
use Rattle.log_text.proofs.Texts.{logs-marked}
use Rattle.log_text.proofs.write_log_rows.Goals as goal

pub returns : goal.returns
returns c =
    let a = c.args in
    logs-marked a.paper.now a.log.now (rules_in a.rules) c.mark_rows-marked.ensures
    (c.write_marked.ensures (record { limit = a.rules.limit.items; examined = a.rules.examined }) _ c.mark_rows-marked.ensures)
