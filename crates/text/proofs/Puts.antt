-- Laws of texts put into lent bytes: nothing, one behind another, a line from where it was written, and a text that has room.
use mathlib.Core.List.{[], ◌++◌}
use mathlib.Core.Path.{◌≡◌, refl, ap, subst, ◌∙◌}
use Prim.Native.Nat.{◌+◌, ◌≤◌}
use native.Mathlib.Omega.{arith}
use lib.ListN.{length, take, drop, length-append}
use lib.Seq.{paste-zero, take_at}
use Rattle.definition.specs.Basics.{Bytes}
use Rattle.text.specs.View.{Puts}
use Rattle.text.specs.declared.Lent.{Lent}
use Rattle.text.proofs.Texts.{then-written}

-- a text by another name
pub puts_as : {a b : Lent} {s t : Bytes} → s ≡ t → Puts a s b → Puts a t b
puts_as {a} {b} e p = subst (λ (x : Bytes). Puts a x b) e p

-- nothing
pub puts-none : (a : Lent) → Puts a [] a
puts-none a = record {
  same = refl;
  sized = refl;
  counted = omega (arith, a.counted);
  written = λ r. record { ends = omega arith; holds = paste-zero a.bytes.now a.size [] };
}

-- one text behind another
pub then-puts : {a b c : Lent} {s t : Bytes} → Puts a s b → Puts b t c → Puts a (s ++ t) c
then-puts {a} {b} {c} {s} {t} p q = record {
  same = q.same ∙ p.same;
  sized = q.sized ∙ p.sized;
  counted = omega (arith, p.counted, q.counted, length-append s t);
  written = λ h.
      let first = p.written (omega (arith, h, length-append s t)) in
      let second = q.written (omega (arith, h, length-append s t, first.ends, p.sized)) in
      then-written (omega (arith, h)) first second;
}

-- the bytes of a line that was empty before
pub line-puts : {a b : Lent} {t shown items before : Bytes} → before ≡ [] → items ≡ before ++ t → shown ≡ items → Puts a shown b → Puts a t b
line-puts {t = t} e w u p = puts_as (u ∙ w ∙ ap (λ (l : Bytes). l ++ t) e) p

-- a text from the start of the lent bytes on, where it has room
pub whole : {a b : Lent} {t lent : Bytes} → a.bytes.now ≡ lent → a.size ≡ 0 → Puts a t b → length t ≤ length lent → b.bytes.now ≡ t ++ drop (length t) lent
whole {a} {b} {t} {lent} e z p h =
    let k : a.size + length t ≤ length a.bytes.now = omega (arith, ap length e, z, h) in
    let n : a.size + length t ≡ length t = omega (arith, z) in
    (p.written k).holds ∙ ap (λ m. take a.size a.bytes.now ++ t ++ drop m a.bytes.now) n ∙ ap (λ m. take m a.bytes.now ++ t ++ drop (length t) a.bytes.now) z
    ∙ ap (λ (l : Bytes). t ++ drop (length t) l) e

-- and its size, with what the bytes begin with
pub front : {a b : Lent} {t lent : Bytes} → a.bytes.now ≡ lent → a.size ≡ 0 → Puts a t b → length t ≤ length lent → (take b.size b.bytes.now ≡ t) × (b.size ≡ length t)
front {a} {b} {t} {lent} e z p h =
    let n : b.size ≡ length t = (p.written (omega (arith, ap length e, z, h))).ends ∙ omega (arith, z) in
    (ap (λ m. take m b.bytes.now) n ∙ ap (take (length t)) (whole e z p h) ∙ take_at t (drop (length t) lent) (length t) refl, n)
