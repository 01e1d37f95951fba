-- Laws of the line of a verdict: a refusal's case by its number.
use mathlib.Core.Bool.{false}
use mathlib.Core.Path.{◌≡◌, ap, sym, ◌∙◌}
use Prim.Native.Nat.{ℕ}
use borrow.Author.Tests.{ne_eqb}
use lib.Dec.{eqb}
use Rattle.refusals.proofs.OneForm.{refused_back, refused-is, refused-some}
use Rattle.refusals.specs.View.{answer_of}
use Rattle.refusals.specs.declared.Refused.{Refused}
use Rattle.refusals.specs.declared.Refusal.{Refusal}
use Rattle.refusals.specs.declared.Refusal.TheVariants.{Malformed, ArmsDiffer}

-- the refusal of this number, with the figures of `r`
abbrev pub refusal_by : Refused → ℕ → Refusal
refusal_by r n = (refused_back (record { number = n; offset = r.offset; first = (answer_of r).first; second = (answer_of r).second })).refusal

pub number-is : (r : Refused) {n : ℕ} → (answer_of r).number ≡ n → r.refusal ≡ refusal_by r n
number-is r e = sym (ap (λ (x : Refused). x.refusal) (refused-is r)) ∙ ap (refusal_by r) e

pub number-0 : (r : Refused) → eqb (answer_of r).number 0 ≡ false
number-0 r = ne_eqb (answer_of r).number 0 (refused-some r)

pub number-3 : (r : Refused) → (r.refusal ≡ Malformed → ⊥) → eqb (answer_of r).number 3 ≡ false
number-3 r h = ne_eqb (answer_of r).number 3 (λ e. h (number-is r e))

pub number-12 : (r : Refused) → (r.refusal ≡ ArmsDiffer → ⊥) → eqb (answer_of r).number 12 ≡ false
number-12 r h = ne_eqb (answer_of r).number 12 (λ e. h (number-is r e))

pub ruleset refusals = (number-0, number-3, number-12)
