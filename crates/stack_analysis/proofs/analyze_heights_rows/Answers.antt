use borrow.Author.Rules.{rules}
use mathlib.Core.Path.{◌≡◌, sym, ap, ◌∙◌}
use Rattle.std.specs.Prelude.{Err}
use Rattle.stack.specs.View.{view}
use Rattle.stack_analysis.specs.View.{end_as, arm_in, heights_of, verdict_in}
use Rattle.stack_analysis.proofs.Entries.{refused-form, accepted-form, heights-form}
use Rattle.stack_analysis.proofs.analyze_heights_rows.Goals as goal

pub returns-in_err-rows-clause-same : goal.returns-in_err-rows-clause-same
returns-in_err-rows-clause-same c =
    let e : c.from_residual.result ≡ Err c.in_err-rows.field-0.0 = search rules in
    rw e (refused-form heights_of _ c.in_err-rows.field-0.0 (ap (verdict_in view) (sym c.in_err-rows.was) ∙ c.analyze_stacks.ensures.same))

pub returns-clause-same : goal.returns-clause-same
returns-clause-same c =
    let h : c.map-end.result ≡ end_as heights_of (arm_in view c.in_ok-rows.field-0.end) = search (rules, heights-form) in
    accepted-form heights_of _ c.in_ok-rows.field-0 (ap (verdict_in view) (sym c.in_ok-rows.was) ∙ c.analyze_stacks.ensures.same) _ h
