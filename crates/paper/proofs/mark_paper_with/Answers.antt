use Rattle.walk.specs.Runs.{options_of}
use Rattle.paper.proofs.WithMap.{replays-with}
use Rattle.paper.proofs.mark_paper_with.Goals as goal

pub returns-clause-replayed : goal.returns-clause-replayed
returns-clause-replayed c = let a = c.args in
    replays-with a.map.now (options_of a.options) a.paper.now a.log.now _ _ c.mark_with.ensures.verdict c.mark_with.ensures.logged
