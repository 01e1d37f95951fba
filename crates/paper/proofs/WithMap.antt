-- Marking by a map and a limit: the answer is that of the definition, `mark_paper_with`, and every replay agrees with each verdict.
use mathlib.Core.List.{List}
use mathlib.Core.Path.{◌≡◌, sym, ap, subst, ◌∙◌}
use Prim.Native.Nat.{ℕ}
use Rattle.std.specs.Prelude.{Result, Ok, Err, IsOk}
use Rattle.definition.specs.Basics.{Bytes}
use Rattle.definition_rules.specs.Maps.{Options, rules_of, judged, mark_paper_with}
use Rattle.definition.specs.Papers.{fragments, PaperMarked, refused_paper, mark_paper, EachTrue}
use Rattle.definition.specs.Papers as P
use Rattle.definition_rules.proofs.UnderEveryMap.{true_of_paper_under_every_map}
use Rattle.refusals.specs.View.{refusal_of}
use Rattle.refusals.specs.declared.Refusal.{Refusal}
use Rattle.walk.specs.Runs.{rules_in}
use Rattle.walk.specs.declared.Rules.{Rules}
use Rattle.maps.specs.View.{rules_or_refusal}
use Rattle.maps.proofs.Judged.{judged-ok, judged-err}
use Rattle.paper.specs.View.{PaperVerdict, paper_of, Holds}
use Rattle.paper.specs.declared.Marked.{Marked}
use Rattle.paper.proofs.Markings.{accepted-number}

module _ (map : Bytes) (options : Options) (p : Bytes) (log : List ℕ) where
  module _ {o : Result Rules Refusal} (j : rules_or_refusal o ≡ judged map options Err Ok) (r : Marked) where
    -- 28 or 29
    pub holds-without : {x : Refusal} → o ≡ Err x → Holds (refused_paper 0 (refusal_of x) log) r log → Holds (mark_paper_with map options p log) r log
    unfolding mark_paper_with
    holds-without h q = subst (λ (m : PaperMarked). Holds m r log) (sym (judged-err (λ x. refused_paper 0 x log) (λ R. mark_paper R p log) map options j h)) q

    -- by the rules
    pub holds-with : {x : Rules} → o ≡ Ok x → {new : List ℕ} → Holds (mark_paper (rules_in x) p log) r new → Holds (mark_paper_with map options p log) r new
    unfolding mark_paper_with
    holds-with h {new} q = subst (λ (m : PaperMarked). Holds m r new) (sym (judged-ok (λ x. refused_paper 0 x log) (λ R. mark_paper R p log) map options j h)) q

  pub replays-with : (v : PaperVerdict) (new : List ℕ) → paper_of v ≡ (mark_paper_with map options p log).paper → new ≡ (mark_paper_with map options p log).log
      → IsOk v → EachTrue (rules_of map options) 0 (fragments p) (mark_paper_with map options p log).verdicts new
  replays-with v new e l h =
      subst (λ out. EachTrue (rules_of map options) 0 (fragments p) (mark_paper_with map options p log).verdicts out) (sym l)
      (true_of_paper_under_every_map map options p log (sym (ap (λ (u : P.PaperVerdict). u.verdict.answer.number) e) ∙ accepted-number v h))
