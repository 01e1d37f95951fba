use borrow.Author.Rules.{rules}
use mathlib.Core.Path.{◌≡◌, sym, ap, ◌∙◌}
use Rattle.std.specs.Prelude.{Ok, Err}
use Rattle.definition.specs.Refusals.{accepted}
use Rattle.definition.specs.Walk.{Arm}
use Rattle.ends.proofs.Packing.{ends-back}
use Rattle.ends.specs.declared.EndStacks.{EndStacks}
use Rattle.ends.specs.View.{packed_end, end_stacks_of}
use Rattle.stack.specs.View.{view}
use Rattle.walk.specs.Runs.{rules_in}
use Rattle.stack_analysis.specs.View.{Verdict, end_as, arm_in, verdict_in, verdict_of}
use Rattle.stack_analysis.proofs.Entries.{refused-form, accepted-form, packed-within, replayed-by}
use Rattle.stack_analysis.proofs.analyze_rows.Goals as goal
use Rattle.stack_analysis.proofs.analyze_rows.Goals.{After-map-end}

pub returns-in_err-rows-clause-same : goal.returns-in_err-rows-clause-same
returns-in_err-rows-clause-same c =
    let e : c.from_residual.result ≡ Err c.in_err-rows.field-0.0 = search rules in
    rw e (refused-form packed_end _ c.in_err-rows.field-0.0 (ap (verdict_in view) (sym c.in_err-rows.was) ∙ c.analyze_stacks.ensures.same))

pub returns-in_err-rows-clause-shows : goal.returns-in_err-rows-clause-shows
returns-in_err-rows-clause-shows c =
    let e : c.from_residual.result ≡ Err c.in_err-rows.field-0.0 = search rules in
    rw e (ap (verdict_in view) (sym c.in_err-rows.was) ∙ c.analyze_stacks.ensures.same)

-- by the stacks that the walk ends with
abbrev packed : After-map-end → Verdict EndStacks
packed c = Ok (record { rows = c.in_ok-rows.field-0.rows; peak = c.in_ok-rows.field-0.peak; end = c.map-end.result })

stood : (c : After-map-end) → verdict_in view (Ok c.in_ok-rows.field-0) ≡ verdict_in view c.analyze_stacks.result
stood c = ap (verdict_in view) (sym c.in_ok-rows.was)

pub returns-clause-same : goal.returns-clause-same
returns-clause-same c =
    let h : c.map-end.result ≡ end_as packed_end (arm_in view c.in_ok-rows.field-0.end) = search rules in
    accepted-form packed_end _ c.in_ok-rows.field-0 (stood c ∙ c.analyze_stacks.ensures.same) _ h

-- and the packed form shows them
shown : (c : After-map-end) → verdict_of (packed c) ≡ verdict_in view c.analyze_stacks.result
shown c =
    let h : arm_in end_stacks_of c.map-end.result ≡ arm_in view c.in_ok-rows.field-0.end = search (rules, ends-back) in
    ap (λ (x : Arm). record { answer = accepted; rows = c.in_ok-rows.field-0.rows; peak = c.in_ok-rows.field-0.peak; end = x }) h ∙ stood c

pub returns-clause-shows : goal.returns-clause-shows
returns-clause-shows c = shown c ∙ c.analyze_stacks.ensures.same

pub returns-clause-within : goal.returns-clause-within
returns-clause-within c = search (rules, packed-within)

pub returns-clause-replayed : goal.returns-clause-replayed
returns-clause-replayed c = let a = c.args in
    replayed-by (rules_in a.rules) a.rules.limit.low a.fragment.now a.main a.alt a.log.now (packed c) _ (shown c ∙ c.analyze_stacks.ensures.same) c.analyze_stacks.ensures.logged
