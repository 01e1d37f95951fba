use Rattle.walk.specs.Runs.{rules_in}
use Rattle.paper.proofs.Markings.{paper-replays}
use Rattle.paper.proofs.mark_paper_rows.Goals as goal

pub returns-clause-replayed : goal.returns-clause-replayed
returns-clause-replayed c = let a = c.args in
    paper-replays (rules_in a.rules) a.rules.limit.low a.paper.now a.log.now _ _ c.mark_rows.ensures.verdict c.mark_rows.ensures.logged
