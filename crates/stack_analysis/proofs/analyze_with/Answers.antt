use borrow.Author.Rules.{rules}
use mathlib.Core.Path.{◌≡◌, sym, ap, ◌∙◌}
use Rattle.definition.specs.Walk.{Marked}
use Rattle.ends.specs.View.{packed_end}
use Rattle.walk.specs.Runs.{options_of}
use Rattle.stack_analysis.specs.View.{told_of}
use Rattle.stack_analysis.proofs.WithMap.{with_rules, without_rules, replayed-with}
use Rattle.stack_analysis.proofs.analyze_with.Goals as goal
use Rattle.stack_analysis.proofs.analyze_with.Goals.{After-into}

pub returns-in-Ok-clause-same : goal.returns-in-Ok-clause-same
returns-in-Ok-clause-same c =
    c.analyze_rows.ensures.same ∙ sym (ap (λ (m : Marked). told_of packed_end m.verdict) (with_rules _ _ _ _ _ _ c.rules.ensures.judged c.in-Ok.is))

pub returns-in-Ok-clause-shows : goal.returns-in-Ok-clause-shows
returns-in-Ok-clause-shows c =
    c.analyze_rows.ensures.shows ∙ sym (ap (λ (m : Marked). m.verdict) (with_rules _ _ _ _ _ _ c.rules.ensures.judged c.in-Ok.is))

pub returns-in-Ok-clause-logged : goal.returns-in-Ok-clause-logged
returns-in-Ok-clause-logged c =
    c.analyze_rows.ensures.logged ∙ sym (ap (λ (m : Marked). m.log) (with_rules _ _ _ _ _ _ c.rules.ensures.judged c.in-Ok.is))

pub returns-in-Ok-clause-replayed : goal.returns-in-Ok-clause-replayed
returns-in-Ok-clause-replayed c = let a = c.args in
    let e = with_rules _ (options_of a.options) a.fragment.now a.main a.alt a.log.now c.rules.ensures.judged c.in-Ok.is in
    replayed-with a.map.now (options_of a.options) a.fragment.now a.main a.alt a.log.now _ _
    (c.analyze_rows.ensures.shows ∙ sym (ap (λ (m : Marked). m.verdict) e))
    (c.analyze_rows.ensures.logged ∙ sym (ap (λ (m : Marked). m.log) e))

-- 28 or 29
rejected : (c : After-into) → c.into.result ≡ record { rows = 0; refused = record { offset = 0; refusal = c.in-Err.refusal } }
rejected c = search rules

pub returns-in-Err-clause-same : goal.returns-in-Err-clause-same
returns-in-Err-clause-same c = let a = c.args in
    rw (rejected c) (sym (ap (λ (m : Marked). told_of packed_end m.verdict) (without_rules _ (options_of a.options) a.fragment.now a.main a.alt a.log.now c.rules.ensures.judged c.in-Err.is)))

pub returns-in-Err-clause-shows : goal.returns-in-Err-clause-shows
returns-in-Err-clause-shows c = let a = c.args in
    rw (rejected c) (sym (ap (λ (m : Marked). m.verdict) (without_rules _ (options_of a.options) a.fragment.now a.main a.alt a.log.now c.rules.ensures.judged c.in-Err.is)))

pub returns-in-Err-clause-logged : goal.returns-in-Err-clause-logged
returns-in-Err-clause-logged c = let a = c.args in
    sym (ap (λ (m : Marked). m.log) (without_rules _ (options_of a.options) a.fragment.now a.main a.alt a.log.now c.rules.ensures.judged c.in-Err.is))
