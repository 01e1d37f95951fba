-- What the tests for items and for room leave: an operation is refused as its definition says, or goes on.
use mathlib.Core.Bool.{Bool, true, false}
use mathlib.Core.Path.{◌≡◌, refl, sym, ◌∙◌}
use Prim.Native.Nat.{ℕ, ◌+◌, ◌≤◌, ◌<◌}
use native.Mathlib.Omega.{arith}
use borrow.Author.Tests.{ltb-true, ltb-false}
use lib.Dec.{ltb}
use Rattle.std.specs.Prelude.{Result, Ok, Err}
use Rattle.definition.specs.Basics.{pick}
use Rattle.definition.specs.Refusals.{main_dry, stacks_full}
use Rattle.definition.specs.Classes.{Ordinary}
use Rattle.definition.specs.Decoding.{Instruction}
use Rattle.definition.specs.Stacks as S
use Rattle.definition.specs.Walk.{Item, marking}
use Rattle.refusals.specs.View.{refusal_of}
use Rattle.refusals.specs.declared.Refusal.{Refusal}
use Rattle.refusals.specs.declared.Refusal.TheVariants.{MainDry, StacksFull}
use Rattle.stack.specs.View.{view, Yields, YieldsStep}
use Rattle.stack.specs.Parts.{needed, roomy}
use Rattle.stack.specs.declared.Stacks.{Stacks}

-- which of the two a test gave
module _ (low high : ℕ) (f : Refusal) (x : Result Unit Refusal) (e : x ≡ pick (ltb low high) (Err f) (Ok tt)) where
  said : (r : Refusal) → x ≡ Err r → (low < high) × (x ≡ Err f)
  said r g = by (ltb low high) refl
    where
      by : (t : Bool) → ltb low high ≡ t → (low < high) × (x ≡ Err f)
      by true k = (ltb-true low high k, e ∙ rw k)
      by false k = absurd (let z : ◌≡◌ {A = Result Unit Refusal} (Ok tt) (Err r) = sym (e ∙ rw k) ∙ g in let y : ◌≡◌ {A = ℕ} 0 1 = cc in omega arith)

  passed : (u : Unit {0}) → x ≡ Ok u → high ≤ low
  passed u g = by (ltb low high) refl
    where
      by : (t : Bool) → ltb low high ≡ t → high ≤ low
      by true k = absurd (let z : ◌≡◌ {A = Result Unit Refusal} (Err f) (Ok u) = sym (e ∙ rw k) ∙ g in let y : ◌≡◌ {A = ℕ} 0 1 = cc in omega arith)
      by false k = ltb-false low high k

module _ (s : Stacks) (n : ℕ) (x : Result Unit Refusal) (e : x ≡ needed n s) where
  -- refused for want of items
  pub dry : (f : Refusal) → x ≡ Err f → (r : Result Unit Refusal) → r ≡ x → (o : S.Outcome Item) → (s.mains < n → o ≡ S.refused (main_dry n s.mains)) → Yields r s o
  dry f g r z o k = let y = said s.mains n (MainDry n s.mains) x e f g in record { same = rw (z, y.1) (sym (k y.0)) }

  said-dry : (f : Refusal) → x ≡ Err f → (s.mains < n) × (x ≡ Err (MainDry n s.mains))
  said-dry = said s.mains n (MainDry n s.mains) x e

  pub which-dry : (f : Refusal) → x ≡ Err f → (s.mains < n) × (f ≡ MainDry n s.mains)
  which-dry f g = let y = said-dry f g in let z : ◌≡◌ {A = Result Unit Refusal} (Err f) (Err (MainDry n s.mains)) = sym g ∙ y.1 in (y.0, cc)

  pub has : (u : Unit {0}) → x ≡ Ok u → n ≤ s.mains
  has = passed s.mains n (MainDry n s.mains) x e

module _ (s : Stacks) (more limit : ℕ) (x : Result Unit Refusal) (e : x ≡ roomy more limit s) where
  -- refused for want of room
  pub full : (f : Refusal) → x ≡ Err f → (r : Result Unit Refusal) → r ≡ x → (o : S.Outcome Item)
      → (limit < s.mains + s.alts + more → o ≡ S.refused (stacks_full (s.mains + s.alts + more) limit)) → Yields r s o
  full f g r z o k = let y = said limit (s.mains + s.alts + more) (StacksFull (s.mains + s.alts + more) limit) x e f g in record { same = rw (z, y.1) (sym (k y.0)) }

  pub fits : (u : Unit {0}) → x ≡ Ok u → s.mains + s.alts + more ≤ limit
  fits = passed limit (s.mains + s.alts + more) (StacksFull (s.mains + s.alts + more) limit) x e

-- what an operation that another one begins with yielded
module _ (x : Result Unit Refusal) (u : Stacks) (o : S.Outcome Item) (k : Yields x u o) where
  pub done-of : (v : Unit {0}) → x ≡ Ok v → o ≡ S.done (view u)
  done-of v e = sym k.same ∙ rw e

  -- it was refused, and what begins with it is refused as well
  pub refused : (f : Refusal) → x ≡ Err f → (r : Result Unit Refusal) → r ≡ x → (p : S.Outcome Item) → (o ≡ S.refused (refusal_of f) → p ≡ S.refused (refusal_of f)) → Yields r u p
  refused f e r z p h = record { same = rw (z, e) (sym (h (sym k.same ∙ rw e))) }

-- the same outcome, by its definition
pub yields : {r : Result Unit Refusal} {t : Stacks} {x : S.Outcome Item} → Yields r t x → (o : S.Outcome Item) → o ≡ x → Yields r t o
yields k o e = record { same = k.same ∙ sym e }

pub yields_step : {r : Result Unit Refusal} {t : Stacks} {x : S.Outcome Item} → Yields r t x → (limit : ℕ) (o : Ordinary) (s : S.Stacks Item)
    → ((R : S.Rules) (i : Instruction) → R.limit ≡ limit → S.step marking R i o s ≡ x) → YieldsStep r t limit o s
yields_step v limit o s k = record { same = λ R i e. v.same ∙ sym (k R i e) }

-- refused for what was found
pub refuses : (f : Refusal) (r : Result Unit Refusal) → r ≡ Err f → (s : Stacks) (o : S.Outcome Item) → o ≡ S.refused (refusal_of f) → Yields r s o
refuses f r e s o k = record { same = rw e (sym k) }

pub refuses_step : (f : Refusal) (r : Result Unit Refusal) → r ≡ Err f → (s : Stacks) (limit : ℕ) (o : Ordinary) (t : S.Stacks Item)
    → ((R : S.Rules) (i : Instruction) → R.limit ≡ limit → S.step marking R i o t ≡ S.refused (refusal_of f)) → YieldsStep r s limit o t
refuses_step f r e s limit o t k = record { same = λ R i g. rw e (sym (k R i g)) }

-- a step refused for want of items
pub dry_step : (s : Stacks) (n : ℕ) (x : Result Unit Refusal) → x ≡ needed n s → (f : Refusal) → x ≡ Err f → (r : Result Unit Refusal) → r ≡ x → (limit : ℕ) (o : Ordinary)
    → ((R : S.Rules) (i : Instruction) → R.limit ≡ limit → s.mains < n → S.step marking R i o (view s) ≡ S.refused (main_dry n s.mains)) → YieldsStep r s limit o (view s)
dry_step s n x e f g r z limit o k =
    let y = said-dry s n x e f g in
    refuses_step (MainDry n s.mains) r (z ∙ y.1) s limit o (view s) (λ R i q. k R i q y.0)
