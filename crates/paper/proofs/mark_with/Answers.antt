use Rattle.walk.specs.Runs.{options_of}
use Rattle.paper.proofs.WithMap.{holds-without, holds-with}
use Rattle.paper.proofs.mark_with.Goals as goal

pub returns-in-Ok : goal.returns-in-Ok
returns-in-Ok c =
    holds-with c.args.map.now (options_of c.args.options) c.args.paper.now c.args.log.now c.rules.ensures.judged _ c.in-Ok.is c.mark_rows.ensures

pub returns-in-Err : goal.returns-in-Err
returns-in-Err c =
    holds-without c.args.map.now (options_of c.args.options) c.args.paper.now c.args.log.now c.rules.ensures.judged _ c.in-Err.is (c.refused.ensures c.args.log.now)
