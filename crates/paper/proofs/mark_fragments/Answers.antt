use Rattle.std.proofs.Common.{arith, rules, ◌≡◌, ap, sym, subst, refl, ◌*◌, ◌<◌, length, Err}
use Rattle.definition.specs.Papers.{fragments}
use Rattle.walk.specs.Runs.{rules_in}
use Rattle.stack_analysis.specs.View.{Verdict}
use Rattle.stack_analysis.specs.declared.Heights.{Heights}
use Rattle.paper.specs.View.{fragment_analysis}
use Rattle.paper.proofs.Fragments.{Marks, fragment-marks}
use Rattle.paper.proofs.Markings.{marking-more, marking-stops, marking-end, Marking}
use Rattle.paper.proofs.mark_fragments.Goals as goal
use Rattle.paper.proofs.mark_fragments.Goals.{After-mark_fragment_rows}

-- one more is left
more : (c : After-mark_fragment_rows) → c.loop-k.k < length (fragments c.args.paper.now)
more c = omega arith

-- what `mark_fragment_rows` promises of fragment k
marked : (c : After-mark_fragment_rows) (v : Verdict Heights) → c.mark_fragment_rows.result ≡ v
    → Marks (fragment_analysis (rules_in c.args.rules) c.args.paper.now c.loop-k.k c.loop-k.rows c.loop-k.log) (3 * c.loop-k.rows) c.loop-k.log v c.mark_fragment_rows.new.log
marked c v e =
    subst (λ (x : Verdict Heights). Marks (fragment_analysis (rules_in c.args.rules) c.args.paper.now c.loop-k.k c.loop-k.rows c.loop-k.log) (3 * c.loop-k.rows) c.loop-k.log x c.mark_fragment_rows.new.log) e
    (fragment-marks _ _ _ _ _ (more c) _ _ (record { same = c.mark_fragment_rows.ensures.same; logged = c.mark_fragment_rows.ensures.logged; room = c.mark_fragment_rows.ensures.room }) c.loop-k.invariant.room)

pub returns-in-Err : goal.returns-in-Err
returns-in-Err c =
    let d = (goal.at.returns-in-Err c).After-mark_fragment_rows in
    marking-stops _ _ _ _ _ _ _ _ c.loop-k.invariant (more d) c.in-Err.fragment _ (marked d _ c.in-Err.is) c.mark_fragment_rows.auto.log (omega arith) _ (ap Err c.rejected.ensures) refl

pub loop-k-preserved : goal.loop-k-preserved
loop-k-preserved c =
    let d = (goal.at.loop-k-preserved c).After-mark_fragment_rows in
    subst (Marking _ _ _ _ _ _ _) (sym (search rules))
    (marking-more _ _ _ _ _ _ _ _ c.loop-k.invariant (more d) c.in-Ok.fragment _ (marked d _ c.in-Ok.is) c.mark_fragment_rows.auto.log c.max-peak.result (omega arith))

pub returns : goal.returns
returns c = marking-end _ _ _ _ _ _ _ _ c.loop-k.invariant (omega arith) (omega arith) _ refl refl
