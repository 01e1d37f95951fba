use mathlib.Core.Path.{refl, ap, sym, subst, ◌∙◌}
use native.Mathlib.Omega.{arith}
use Rattle.definition.specs.Walk.{Marked}
use Rattle.walk.specs.Runs.{rules_in}
use Rattle.stack_analysis.specs.Entry.{MayWalk, Starts}
use Rattle.stack_analysis.proofs.Entries.{walk-ends, ready-start}
use Rattle.stack_analysis.proofs.analyze_stacks.Goals as goal
use Rattle.stack_analysis.proofs.analyze_stacks.Goals.{In_ok-early}

-- nothing is against the walk
may : (c : In_ok-early) → let a = c.args in MayWalk (rules_in a.rules) a.fragment.now a.main a.alt a.log.now
may c = let a = c.args in
    subst (Starts (rules_in a.rules) a.fragment.now a.main a.alt a.log.now) c.in_ok-early.was (c.early.ensures (rules_in a.rules) a.log.now refl refl)

pub start-w-requires : goal.start-w-requires
start-w-requires c = let m = may (goal.at.start-w-requires c).In_ok-early in
    omega (arith, m.low, c.args.rules.limit.low)

pub arm-ended-requires-clause-ready : goal.arm-ended-requires-clause-ready
arm-ended-requires-clause-ready c = let m = may (goal.at.arm-ended-requires-clause-ready c).In_ok-early in
    ready-start _ _ _ _ _ c.start-w.ensures m.short m.room

pub returns-clause-same : goal.returns-clause-same
returns-clause-same c = let m = may (goal.at.returns-clause-same c).In_ok-early in
    c.conclude.ensures ∙ sym (ap (λ (x : Marked). x.verdict) (m.same ∙ walk-ends _ _ _ _ _ _ _ _ _ c.arm-ended.ensures c.start-w.ensures))

pub returns-clause-logged : goal.returns-clause-logged
returns-clause-logged c = let m = may (goal.at.returns-clause-logged c).In_ok-early in
    sym (ap (λ (x : Marked). x.log) (m.same ∙ walk-ends _ _ _ _ _ _ _ _ _ c.arm-ended.ensures c.start-w.ensures))
