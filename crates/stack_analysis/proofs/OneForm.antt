-- What is told of a verdict fixes it: the free choice is nil.
use mathlib.Core.Path.{◌≡◌, sym, ap}
use Rattle.std.specs.Prelude.{Ok, Err}
use Rattle.refusals.proofs.OneForm.{answer-one, refused-some}
use Rattle.stack_analysis.specs.View.{Verdict, Told, told}

pub told_one : {E : Type 0} → (v w : Verdict E) → told v ≡ told w → v ≡ w
told_one {E} (Ok a) (Ok b) e = ap (λ (t : Told E). Ok (record { rows = t.rows; peak = t.peak; end = t.end })) e
told_one {E} (Err a) (Err b) e =
    let r : a.refused ≡ b.refused = answer-one a.refused b.refused (ap (λ (t : Told E). t.answer) e) in
    let n : a.rows ≡ b.rows = ap (λ (t : Told E). t.rows) e in
    (λ i. Err (record { rows = n i; refused = r i }))
told_one {E} (Ok a) (Err b) e = absurd (refused-some b.refused (sym (ap (λ (t : Told E). t.answer.number) e)))
told_one {E} (Err a) (Ok b) e = absurd (refused-some a.refused (ap (λ (t : Told E). t.answer.number) e))
