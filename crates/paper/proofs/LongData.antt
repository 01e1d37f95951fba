-- Request L3 of the code: two calls of `mark_paper` on related papers, with the same log, answer with the same struct and leave the
-- same log. Each is fixed by the clauses `same` and `logged` of its promise.
use mathlib.Core.List.{List}
use mathlib.Core.Path.{◌≡◌, sym, ap, ◌∙◌}
use Prim.Native.Nat.{ℕ}
use Rattle.definition.specs.Basics.{Bytes}
use Rattle.definition_long_data.specs.Blank.{Blanked, RelatedPapers}
use Rattle.definition.specs.Papers as P
use Rattle.definition.specs.Papers.{PaperMarked, mark_paper}
use Rattle.definition.specs.Stacks.{built_in}
use Rattle.definition_long_data.proofs.Blanked.{long_data_tells_nothing_of_papers}
use Rattle.std.specs.Prelude.{Ok, Err}
use Rattle.refusals.proofs.OneForm.{answer-one, refused-some}
use Rattle.paper.specs.View.{PaperVerdict, paper_of}

-- what `mark_paper` promises of its answer and of the log afterwards
pub record PaperMarkedAs (paper : Bytes) (log : List ℕ) (r : PaperVerdict) (out : List ℕ) : Type 0 where
  pub same : paper_of r ≡ (mark_paper built_in paper log).paper
  pub logged : out ≡ (mark_paper built_in paper log).log

-- the definition's verdict fixes the code's
pub paper_one : (v w : PaperVerdict) → paper_of v ≡ paper_of w → v ≡ w
unfolding paper_of
paper_one (Ok a) (Ok b) e = ap (λ (v : P.PaperVerdict). Ok (record { rows = v.verdict.rows; peak = v.verdict.peak })) e
paper_one (Err x) (Err y) e =
    let r : x.refused ≡ y.refused = answer-one x.refused y.refused (ap (λ (v : P.PaperVerdict). v.verdict.answer) e) in
    let n : x.rows ≡ y.rows = ap (λ (v : P.PaperVerdict). v.verdict.rows) e in
    let k : x.entry ≡ y.entry = ap (λ (v : P.PaperVerdict). v.entry) e in
    (λ i. Err (record { entry = k i; rows = n i; refused = r i }))
paper_one (Ok a) (Err y) e = absurd (refused-some y.refused (sym (ap (λ (v : P.PaperVerdict). v.verdict.answer.number) e)))
paper_one (Err x) (Ok b) e = absurd (refused-some x.refused (ap (λ (v : P.PaperVerdict). v.verdict.answer.number) e))

pub mark_paper_tells_nothing : (p q : Bytes) → RelatedPapers Blanked p q → (log : List ℕ) (r s : PaperVerdict) (r_out s_out : List ℕ)
    → PaperMarkedAs p log r r_out → PaperMarkedAs q log s s_out → (r ≡ s) × (r_out ≡ s_out)
mark_paper_tells_nothing p q h log r s r_out s_out a b =
    let e : mark_paper built_in p log ≡ mark_paper built_in q log = long_data_tells_nothing_of_papers built_in p q h log in
    (paper_one r s (a.same ∙ ap (λ (m : PaperMarked). m.paper) e ∙ sym b.same), a.logged ∙ ap (λ (m : PaperMarked). m.log) e ∙ sym b.logged)
