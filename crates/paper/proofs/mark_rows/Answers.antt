use Rattle.std.proofs.Common.{not, ap}
use Rattle.walk.specs.Runs.{rules_in}
use Rattle.paper.proofs.Markings.{few-fragments, paper-long, paper-bad, paper-over, paper-marked}
use Rattle.paper.proofs.mark_rows.Goals as goal

pub returns-then-length-gt8000 : goal.returns-then-length-gt8000
returns-then-length-gt8000 c = let a = c.args in
    paper-long (rules_in a.rules) a.paper.now a.log.now _ c.if-length-gt8000.true (c.refused.ensures a.log.now)

pub returns-then-not-header_ok : goal.returns-then-not-header_ok
returns-then-not-header_ok c = let a = c.args in
    paper-bad (rules_in a.rules) a.paper.now a.log.now _ c.if-length-gt8000.false _ c.header_ok.ensures (ap not c.if-not-header_ok.true) (c.refused-then-not-header_ok.ensures a.log.now)

pub mark_fragments-requires : goal.mark_fragments-requires
mark_fragments-requires c = few-fragments c.args.paper.now _ c.header_ok.ensures (ap not c.if-not-header_ok.false)

pub returns-in-Err : goal.returns-in-Err
returns-in-Err c = let a = c.args in
    paper-over (rules_in a.rules) a.paper.now a.log.now _ c.if-length-gt8000.false _ c.header_ok.ensures (ap not c.if-not-header_ok.false) _ c.items-limit.ensures _ c.dispatch_check.ensures
    c.in-Err.over c.in-Err.is (c.refused-in-Err.ensures a.log.now)

pub returns-in-Ok : goal.returns-in-Ok
returns-in-Ok c = let a = c.args in
    paper-marked (rules_in a.rules) a.paper.now a.log.now _ c.if-length-gt8000.false _ c.header_ok.ensures (ap not c.if-not-header_ok.false) _ c.items-limit.ensures _ c.dispatch_check.ensures
    c.in-Ok.is c.mark_fragments.ensures
