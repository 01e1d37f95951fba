-- Laws of texts: one written behind another, and numbers in decimal.
use mathlib.Core.Bool.{Bool, true, false}
use mathlib.Core.List.{[], ◌∷◌, ◌++◌, append_assoc}
use mathlib.Core.Path.{◌≡◌, refl, sym, ap, subst, ◌∙◌}
use Prim.Native.Nat.{ℕ, zero, suc, ◌+◌, ◌-◌, ◌/◌, ◌%◌, ◌^◌, ◌≤◌, ◌<◌}
use native.Mathlib.Omega.{arith}
use borrow.Author.Tests.{lt-ltb, le-ltb, ltb-true, ltb-false}
use borrow.Rule.Slice.PartMut.{put_mid}
use lib.Dec.{ltb}
use lib.ListN.{length, take, drop, length-append}
use lib.Seq.{take_at, drop-append-add, drop-drop, length-take-le}
use Rattle.std.specs.Fmt as Fmt
use Rattle.std.proofs.lemmas.Fmt.{decimal_by_steps}
use Rattle.definition.specs.Basics.{Bytes, pick}
use Rattle.definition.specs.Lines.{decimal_within, decimal}
use Rattle.text.specs.View.{placed, Written}

-- a text by another name
pub written_as : {lent : Bytes} {at : ℕ} {t u : Bytes} {new : Bytes} {next : ℕ} → t ≡ u → Written lent at t new next
    → Written lent at u new next
written_as {lent} {at} {t} {u} {new} {next} e w = subst (λ (x : Bytes). Written lent at x new next) e w

-- One text behind another

module _ (lent : Bytes) (at : ℕ) (s : Bytes) (within : at ≤ length lent) where
  length-head : length (take at lent ++ s) ≡ at + length s
  length-head = length-append (take at lent) s ∙ ap (λ n. n + length s) (length-take-le at lent within)

  placed-then : (t : Bytes) → placed (placed lent at s) (at + length s) t ≡ placed lent at (s ++ t)
  placed-then t =
      let h : Bytes = take at lent ++ s in
      let r : Bytes = drop (at + length s) lent in
      let e : take (at + length s) (h ++ r) ≡ h = take_at h r (at + length s) length-head in
      let n : at + length s + length t ≡ at + length (s ++ t) = omega (arith, length-append s t) in
      let d : drop (at + length s + length t) (h ++ r) ≡ drop (at + length (s ++ t)) lent =
      ap (λ m. drop (m + length t) (h ++ r)) (sym length-head)
      ∙ drop-append-add h r (length t)
      ∙ drop-drop (length t) (at + length s) lent
      ∙ ap (λ m. drop m lent) n in
      ap (λ (l : Bytes). l ++ t ++ drop (at + length s + length t) (h ++ r)) e
      ∙ ap (λ (l : Bytes). h ++ t ++ l) d
      ∙ ap (λ (l : Bytes). l ++ drop (at + length (s ++ t)) lent) (append_assoc (take at lent) s t)

pub then-written : {lent : Bytes} {at : ℕ} {s : Bytes} {mid : Bytes} {between : ℕ} {t : Bytes} {new : Bytes} {next : ℕ}
    → at ≤ length lent → Written lent at s mid between → Written mid between t new next → Written lent at (s ++ t) new next
then-written {lent} {at} {s} {mid} {between} {t} {new} {next} within w v = record {
  ends = v.ends ∙ omega (arith, w.ends, length-append s t);
  holds = v.holds ∙ ap (λ (l : Bytes). placed l between t) w.holds ∙ ap (λ n. placed (placed lent at s) n t) w.ends ∙ placed-then lent at s within t;
}

-- a part of lent bytes in which a text was written
pub part-written : (lent : Bytes) (at end : ℕ) (t new : Bytes) → end ≡ at + length t → new ≡ t → Written lent at t (put_mid at (end - at) lent new) end
part-written lent at end t new j e =
    let m : end - at ≡ length t = omega arith in
    record {
      ends = j;
      holds = rw (e, m) (sym (append_assoc (take at lent) t (drop (length t) (drop at lent)))
          ∙ ap (λ (x : Bytes). take at lent ++ t ++ x) (drop-drop (length t) at lent));
    }

-- Numbers in decimal

-- what counts down makes no difference where it is enough
enough : (f g n : ℕ) → n ≤ f → n ≤ g → decimal_within f n ≡ decimal_within g n
enough zero zero n h l = refl
enough zero (suc g) n h l = ap (λ b. pick b [] (decimal_within g (n / 10)) ++ ((48 + n % 10) ∷ [])) (sym (lt-ltb n 10 (omega arith)))
enough (suc f) zero n h l = ap (λ b. pick b [] (decimal_within f (n / 10)) ++ ((48 + n % 10) ∷ [])) (lt-ltb n 10 (omega arith))
enough (suc f) (suc g) n h l =
    ap (λ (t : Bytes). pick (ltb n 10) [] t ++ ((48 + n % 10) ∷ [])) (enough f g (n / 10) (omega arith) (omega arith))

-- one digit; all but the last, and the last
pub decimal-one : (n : ℕ) → n < 10 → decimal n ≡ (48 + n) ∷ []
unfolding decimal
decimal-one zero h = refl
decimal-one (suc n) h =
    let e : suc n % 10 ≡ suc n = omega arith in
    ap (λ b. pick b [] (decimal_within n (suc n / 10)) ++ ((48 + suc n % 10) ∷ [])) (lt-ltb (suc n) 10 h) ∙ ap (λ d. (48 + d) ∷ []) e

pub decimal-more : (n : ℕ) → 10 ≤ n → decimal n ≡ decimal (n / 10) ++ ((48 + n % 10) ∷ [])
unfolding decimal
decimal-more zero h = absurd (omega arith)
decimal-more (suc n) h =
    ap (λ b. pick b [] (decimal_within n (suc n / 10)) ++ ((48 + suc n % 10) ∷ [])) (le-ltb (suc n) 10 h)
    ∙ ap (λ (t : Bytes). t ++ ((48 + suc n % 10) ∷ [])) (enough n (suc n / 10) (suc n / 10) (omega arith) (omega arith))

-- how many digits
pub decimal-length : (k n : ℕ) → n < 10 ^ suc k → length (decimal n) ≤ suc k
decimal-length zero n h = omega (arith, ap length (decimal-one n (omega arith)))
decimal-length (suc k) n h = by (λ l. decimal-length k (n / 10) l) (ltb n 10) refl
  where
    by : (n / 10 < 10 ^ suc k → length (decimal (n / 10)) ≤ suc k) → (b : Bool) → ltb n 10 ≡ b → length (decimal n) ≤ suc (suc k)
    by less true e = omega (arith, ap length (decimal-one n (ltb-true n 10 e)))
    by less false e =
        let l : length (decimal (n / 10)) ≤ suc k = less (omega arith) in
        omega (arith, l, ap length (decimal-more n (ltb-false n 10 e)), length-append (decimal (n / 10)) ((48 + n % 10) ∷ []))

pub decimal-20 : (n : ℕ) → n < 2 ^ 64 → length (decimal n) ≤ 20
decimal-20 n h = decimal-length 19 n (omega arith)

-- what prints a number writes this decimal
pub decimal-printed : (n : ℕ) → n < 2 ^ 64 → Fmt.decimal n ≡ decimal n
decimal-printed n h = decimal_by_steps (λ m ds. ds ≡ decimal m) one more n h
  where
    one : (m : ℕ) → m < 10 → (48 + m) ∷ [] ≡ decimal m
    one m l = sym (decimal-one m l)

    more : (m : ℕ) (ds : Bytes) → 10 ≤ m → ds ≡ decimal (m / 10) → ds ++ ((48 + m % 10) ∷ []) ≡ decimal m
    more m ds l e = ap (λ (x : Bytes). x ++ ((48 + m % 10) ∷ [])) e ∙ sym (decimal-more m l)

pub ruleset printed = (decimal-printed, decimal-20)
