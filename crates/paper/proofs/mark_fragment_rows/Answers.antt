use Rattle.std.proofs.Common.{rules, tests, arith, ◌++◌, ◌-◌, ◌≤◌, ◌<◌, ◌≡◌, length}
use lib.ListN.{take, drop}
use Rattle.definition.specs.Papers.{fragments}
use Rattle.definition.specs.Refusals.{bad_header}
use Rattle.definition.specs.Walk.{refused_verdict}
use Rattle.walk.specs.Runs.{rules_in}
use Rattle.stack_analysis.specs.View.{told, told_of, heights_of}
use Rattle.stack_analysis.specs.declared.Heights.{Heights}
use Rattle.std.specs.Prelude.{Err}
use Rattle.paper.proofs.Fragments.{FragmentMarks, no-fragment, marks-fragment}
use Rattle.paper.proofs.mark_fragment_rows.Goals as goal
use Rattle.paper.proofs.mark_fragment_rows.Goals.{After-into, After-analyze_heights_rows}

-- 19
none : (c : After-into) → let a = c.args in FragmentMarks (rules_in a.rules) a.paper.now a.k a.rows a.log.now (Err c.into.result) a.log.now
none c = let a = c.args in
    let e : told {E = Heights} (Err c.into.result) ≡ told_of heights_of (refused_verdict 0 bad_header 0) = search rules in
    no-fragment (rules_in a.rules) a.paper.now a.k a.rows a.log.now (search (rules, tests)) (Err c.into.result) e

pub returns-in_default-clause-same : goal.returns-in_default-clause-same
returns-in_default-clause-same c = (none c).same

pub returns-in_default-clause-logged : goal.returns-in_default-clause-logged
returns-in_default-clause-logged c = (none c).logged

-- the fragment is there
there : (c : After-analyze_heights_rows) → c.args.k < length (fragments c.args.paper.now)
there c =
    let not_past : length (fragments c.args.paper.now) ≤ c.args.k → ⊥ = search (rules, tests) in
    omega arith

-- its analysis, and its rows where they have room
marks : (c : After-analyze_heights_rows) → let a = c.args in let from = c.rows_start-from.result in
    FragmentMarks (rules_in a.rules) a.paper.now a.k a.rows a.log.now c.analyze_heights_rows.result
    (take from a.log.now ++ (c.analyze_heights_rows.new.log ++ drop (length a.log.now - from) (drop from a.log.now)))
marks c = let a = c.args in
    marks-fragment (rules_in a.rules) a.paper.now a.k a.rows a.log.now (there c) _ _ _ (search (rules, tests)) (search (rules, tests)) (search (rules, tests))
    _ c.rows_start-from.ensures _ _ c.analyze_heights_rows.ensures.same c.analyze_heights_rows.ensures.logged

pub returns-clause-same : goal.returns-clause-same
returns-clause-same c = (marks (goal.at.returns-clause-same c).After-analyze_heights_rows).same

pub returns-clause-logged : goal.returns-clause-logged
returns-clause-logged c = (marks (goal.at.returns-clause-logged c).After-analyze_heights_rows).logged

pub returns-clause-room : goal.returns-clause-room
returns-clause-room c = (marks (goal.at.returns-clause-room c).After-analyze_heights_rows).room
