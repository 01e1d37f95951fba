-- The number form of Section 1, both ways. For n below 2 ^ 63, n and -n are read back from the bytes that are written for
-- them (`plus_read`, `minus_read`; zero has one form, `minus_zero`). Bytes that are read as a number are those that are
-- written for it (`read_written`). First, numbers and refusals by example (`numbers_by_example`, `not_read`).
use mathlib.Core.Bool.{Bool, true, false, ◌&&◌, ◌||◌, not, or-true, or-false}
use mathlib.Core.Path.{◌≡◌, refl, ap}
use mathlib.Core.List.{[], ◌∷◌}
use mathlib.Core.Option.{none, some}
use Prim.Native.Nat.{ℕ, zero, suc, ◌+◌, ◌-◌, ◌*◌, ◌/◌, ◌%◌, ◌^◌, ◌≤◌, ◌<◌}
use native.Mathlib.Nat.{pow-succ', pow-le-pow_right}
use native.Mathlib.Omega.{arith}
use borrow.Author.Tests.{ltb-true, ltb-false, leb-true, leb-false, eqb-true, eqb-false, lt-ltb, le-ltb, le-leb, ne_eqb}
use lib.Dec.{ltb, leb, eqb, lit<}
use lib.ListN.{length}
use Rattle.definition.specs.Basics.{Bytes, pick}
use Rattle.definition.specs.Decoding.{number, Integer, plus, minus, digits, signed, serialize, last, minimal, value, deserialize}
use Rattle.definition.specs.Replay.{AreBytes}

-- By example

-- i is written as l, and l is read as i
abbrev BothWays : Integer → Bytes → Type 0
BothWays i l = (serialize i ≡ l) × (deserialize l ≡ some i)

-- -1 is 81, -128 is 80 80, 128 is 80 00, 255 is ff 00, -255 is ff 80
pub numbers_by_example :
    BothWays (minus 1) (0x81 ∷ []) ×
    BothWays (minus 128) (0x80 ∷ 0x80 ∷ []) ×
    BothWays (plus 128) (0x80 ∷ 0x00 ∷ []) ×
    BothWays (plus 255) (0xff ∷ 0x00 ∷ []) ×
    BothWays (minus 255) (0xff ∷ 0x80 ∷ [])
unfolding serialize deserialize
numbers_by_example = ((refl, refl), (refl, refl), (refl, refl), (refl, refl), (refl, refl))

-- "Reading refuses over 8 bytes": 2 ^ 63 takes 9, above and below zero; "and a last byte of 00 or 80": 00, 80, 7f 00, 7f 80
pub not_read :
    (deserialize (serialize (plus (2 ^ 63))) ≡ none) ×
    (deserialize (serialize (minus (2 ^ 63))) ≡ none) ×
    (deserialize (0x00 ∷ []) ≡ none) ×
    (deserialize (0x80 ∷ []) ≡ none) ×
    (deserialize (0x7f ∷ 0x00 ∷ []) ≡ none) ×
    (deserialize (0x7f ∷ 0x80 ∷ []) ≡ none)
unfolding serialize deserialize
not_read = (refl, refl, refl, refl, refl, refl)

-- In number form

-- 00 or 80
abbrev Sign : ℕ → Type 0
Sign sign = (sign ≤ 0x80) × (sign % 0x80 ≡ 0)

-- These bytes are n, which is above 0, in number form with this sign. The last of them is at `top`, counted from 0; fewer
-- have no room for n and the sign.
record NumberForm (sign n : ℕ) (l : Bytes) : Type 0 where
  top : ℕ
  top-last : length l ≡ suc top
  bytes : AreBytes l
  numbered : number l ≡ n + sign * 256 ^ top
  sign_bit : (sign ≤ last l) × (last l < sign + 0x80)
  least : minimal l ≡ true
  needed : 0x80 * 256 ^ top ≤ 256 * n

-- Writing

-- one digit
form-one : (sign n : ℕ) → Sign sign → 1 ≤ n → n < 256 → NumberForm sign n (signed sign (n ∷ []))
form-one sign n s pos lt = by (ltb n 0x80) refl
  where
    by : (t : Bool) → ltb n 0x80 ≡ t → NumberForm sign n (pick t ((n + sign) ∷ []) (n ∷ sign ∷ []))
    by true e =
        let h : n < 0x80 = ltb-true n 0x80 e in
        record {
          top = 0;
          top-last = refl;
          bytes = omega arith;
          numbered = omega arith;
          sign_bit = omega arith;
          least = rw (ne_eqb (n + sign) 0x00 (λ q. omega arith), ne_eqb (n + sign) 0x80 (λ q. omega arith));
          needed = omega arith;
        }
    by false e =
        let h : 0x80 ≤ n = ltb-false n 0x80 e in
        record {
          top = 1;
          top-last = refl;
          bytes = omega arith;
          numbered = omega arith;
          sign_bit = omega arith;
          least = rw (le-leb 0x80 n h);
          needed = omega arith;
        }

least_more : (b c : ℕ) (l : Bytes) → minimal (c ∷ l) ≡ true → minimal (b ∷ c ∷ l) ≡ true
least_more b c [] h = rw (h, or-true (leb 0x80 b))
least_more b c (d ∷ l) h = h

-- one byte more, the lowest
form-byte : (sign n m b : ℕ) (l : Bytes) → NumberForm sign n l → b < 256 → m ≡ b + 256 * n → NumberForm sign m (b ∷ l)
form-byte sign n m b [] f lt e = absurd (omega (arith, f.top-last))
form-byte sign n m b (c ∷ l) f lt e =
    let p : 256 ^ suc f.top ≡ 256 * 256 ^ f.top = pow-succ' 256 f.top in
    record {
      top = suc f.top;
      top-last = ap suc f.top-last;
      bytes = (lt, f.bytes);
      numbered = rw p (omega arith);
      sign_bit = f.sign_bit;
      least = least_more b c l f.least;
      needed = omega arith;
    }

-- one digit more, the lowest
form-more : (sign n m b : ℕ) (l : Bytes) → NumberForm sign n (signed sign l) → b < 256 → m ≡ b + 256 * n → NumberForm sign m (signed sign (b ∷ l))
form-more sign n m b [] f lt e = absurd (omega (arith, f.top-last))
form-more sign n m b (c ∷ l) f lt e = form-byte sign n m b (signed sign (c ∷ l)) f lt e

digits-zero : (most : ℕ) → digits most 0 ≡ []
digits-zero zero = refl
digits-zero (suc most) = refl

-- the digits of n with a sign are in number form, for any `most` that is enough
form-digits : (sign most n : ℕ) → Sign sign → n ≤ most → 1 ≤ n → NumberForm sign n (signed sign (digits most n))
form-digits sign zero n s h pos = absurd (omega arith)
form-digits sign (suc most) zero s h pos = absurd (omega arith)
form-digits sign (suc most) (suc n) s h pos = by (suc n / 256) refl (form-digits sign most (suc n / 256) s (omega arith))
  where
    by : (d : ℕ) → suc n / 256 ≡ d → (1 ≤ d → NumberForm sign d (signed sign (digits most d)))
        → NumberForm sign (suc n) (signed sign (suc n % 256 ∷ digits most d))
    by zero e rest =
        let m : suc n % 256 ≡ suc n = omega arith in
        rw (digits-zero most, m) (form-one sign (suc n) s pos (omega arith))
    by (suc d) e rest = form-more sign (suc d) (suc n) (suc n % 256) (digits most (suc d)) (rest (omega arith)) (omega arith) (omega arith)

form-written : (sign n : ℕ) → Sign sign → 1 ≤ n → NumberForm sign n (signed sign (digits n n))
form-written sign n s pos = form-digits sign n n s (omega arith) pos

-- Reading

-- a number below 2 ^ 63 has at most 8 bytes
form-short : (sign n : ℕ) (l : Bytes) → NumberForm sign n l → n < 2 ^ 63 → length l ≤ 8
form-short sign n l f h = by (leb f.top 7) refl
  where
    by : (t : Bool) → leb f.top 7 ≡ t → length l ≤ 8
    by true e = omega (arith, leb-true f.top 7 e, f.top-last)
    by false e =
        let p : 256 ^ 8 ≤ 256 ^ f.top = pow-le-pow_right (lit< tt) (leb-false f.top 7 e) in
        absurd (omega (arith, f.needed))

form-plus : (n : ℕ) (l : Bytes) → NumberForm 0x00 n l → length l ≤ 8 → deserialize l ≡ some (plus n)
unfolding deserialize
form-plus n l f h =
    let e : number l ≡ n = omega (arith, f.numbered) in
    rw (le-leb (length l) 8 h, f.least, lt-ltb (last l) 0x80 f.sign_bit.1, e)

form-minus : (n : ℕ) (l : Bytes) → NumberForm 0x80 n l → length l ≤ 8 → deserialize l ≡ some (minus n)
unfolding deserialize
form-minus n l f h =
    let t : length l - 1 ≡ f.top = omega (arith, f.top-last) in
    let e : number l - 0x80 * 256 ^ f.top ≡ n = omega (arith, f.numbered) in
    rw (le-leb (length l) 8 h, f.least, le-ltb (last l) 0x80 f.sign_bit.0, t, e)

-- What is written is read back

-- what is written is bytes
pub bytes_written : (i : Integer) → AreBytes (serialize i)
unfolding serialize
bytes_written (plus zero) = tt
bytes_written (plus (suc n)) = (form-written 0x00 (suc n) (omega arith) (omega arith)).bytes
bytes_written (minus zero) = tt
bytes_written (minus (suc n)) = (form-written 0x80 (suc n) (omega arith) (omega arith)).bytes

-- n
pub plus_read : (n : ℕ) → n < 2 ^ 63 → deserialize (serialize (plus n)) ≡ some (plus n)
unfolding serialize deserialize
plus_read zero h = refl
plus_read (suc n) h =
    let f : NumberForm 0x00 (suc n) (serialize (plus (suc n))) = form-written 0x00 (suc n) (omega arith) (omega arith) in
    form-plus (suc n) (serialize (plus (suc n))) f (form-short 0x00 (suc n) (serialize (plus (suc n))) f h)

-- n below zero
pub minus_read : (n : ℕ) → 1 ≤ n → n < 2 ^ 63 → deserialize (serialize (minus n)) ≡ some (minus n)
unfolding serialize
minus_read n pos h =
    let f : NumberForm 0x80 n (serialize (minus n)) = form-written 0x80 n (omega arith) pos in
    form-minus n (serialize (minus n)) f (form-short 0x80 n (serialize (minus n)) f h)

-- "zero is empty", below zero too, and empty is read as zero
pub minus_zero : (serialize (minus 0) ≡ []) × (deserialize [] ≡ some (plus 0))
unfolding serialize deserialize
minus_zero = (refl, refl)

-- What is read is what is written

-- these bytes are what is written for n, which is above 0, with this sign
record Written (l : Bytes) : Type 0 where
  sign : ℕ
  n : ℕ
  sign-is : Sign sign
  above : 1 ≤ n
  same : (most : ℕ) → n ≤ most → signed sign (digits most n) ≡ l

digits_step : (most m b n : ℕ) → 1 ≤ m → m % 256 ≡ b → m / 256 ≡ n → digits (suc most) m ≡ b ∷ digits most n
digits_step most zero b n pos p q = absurd (omega arith)
digits_step most (suc m) b n pos p q = rw (p, q)

signed-step : (sign b most n : ℕ) → 1 ≤ n → n ≤ most → signed sign (b ∷ digits most n) ≡ b ∷ signed sign (digits most n)
signed-step sign b zero n pos h = absurd (omega arith)
signed-step sign b (suc most) zero pos h = absurd (omega arith)
signed-step sign b (suc most) (suc n) pos h = refl

-- one digit
written_one : (sign n : ℕ) (l : Bytes) → Sign sign → 1 ≤ n → n < 256 → signed sign (n ∷ []) ≡ l → Written l
written_one sign n l s pos lt e = record { sign = sign; n = n; sign-is = s; above = pos; same = by }
  where
    by : (most : ℕ) → n ≤ most → signed sign (digits most n) ≡ l
    by zero h = absurd (omega arith)
    by (suc most) h = rw (digits_step most n n 0 pos (omega arith) (omega arith), digits-zero most) e

-- one byte more, the lowest
written-more : (b : ℕ) (l : Bytes) → b < 256 → Written l → Written (b ∷ l)
written-more b l lt w = record { sign = w.sign; n = b + 256 * w.n; sign-is = w.sign-is; above = omega (arith, w.above); same = by }
  where
    by : (most : ℕ) → b + 256 * w.n ≤ most → signed w.sign (digits most (b + 256 * w.n)) ≡ b ∷ l
    by zero h = absurd (omega (arith, w.above))
    by (suc most) h =
        let above : 1 ≤ w.n = w.above in
        let fits : w.n ≤ most = omega arith in
        let step : digits (suc most) (b + 256 * w.n) ≡ b ∷ digits most w.n = digits_step most (b + 256 * w.n) b w.n (omega arith) (omega arith) (omega arith) in
        rw (step, signed-step w.sign b most w.n above fits, w.same most fits)

-- a byte that is 00 or 80, and one that is not
sign-byte : (b : ℕ) → not (eqb b 0x00 || eqb b 0x80) ≡ false → Sign b
sign-byte b = by (eqb b 0x00) (eqb b 0x80) refl refl
  where
    by : (x y : Bool) → eqb b 0x00 ≡ x → eqb b 0x80 ≡ y → not (x || y) ≡ false → Sign b
    by true y p q h = let e : b ≡ 0x00 = eqb-true b 0x00 p in omega arith
    by false true p q h = let e : b ≡ 0x80 = eqb-true b 0x80 q in omega arith
    by false false p q h = let z : ◌≡◌ {A = ℕ} 0 1 = cc in absurd (omega arith)

no-sign-byte : (b : ℕ) → not (eqb b 0x00 || eqb b 0x80) ≡ true → (b ≡ 0x00 → ⊥) × (b ≡ 0x80 → ⊥)
no-sign-byte b = by (eqb b 0x00) (eqb b 0x80) refl refl
  where
    by : (x y : Bool) → eqb b 0x00 ≡ x → eqb b 0x80 ≡ y → not (x || y) ≡ true → (b ≡ 0x00 → ⊥) × (b ≡ 0x80 → ⊥)
    by true y p q h = let z : ◌≡◌ {A = ℕ} 0 1 = cc in absurd (omega arith)
    by false true p q h = let z : ◌≡◌ {A = ℕ} 0 1 = cc in absurd (omega arith)
    by false false p q h = (eqb-false b 0x00 p, eqb-false b 0x80 q)

-- a last byte that is neither 00 nor 80
written_last : (b : ℕ) → b < 256 → not (eqb b 0x00 || eqb b 0x80) ≡ true → Written (b ∷ [])
written_last b lt m = by (ltb b 0x80) refl (no-sign-byte b m)
  where
    by : (t : Bool) → ltb b 0x80 ≡ t → (b ≡ 0x00 → ⊥) × (b ≡ 0x80 → ⊥) → Written (b ∷ [])
    by true e n =
        let z : b + 0x00 ≡ b = omega arith in
        written_one 0x00 b (b ∷ []) (omega arith) (omega (arith, n.0)) lt (rw (e, z))
    by false e n =
        let h : 0x80 ≤ b = ltb-false b 0x80 e in
        let z : b - 0x80 + 0x80 ≡ b = omega arith in
        written_one 0x80 (b - 0x80) (b ∷ []) (omega arith) (omega (arith, n.1)) (omega arith) (rw (lt-ltb (b - 0x80) 0x80 (omega arith), z))

-- 00 or 80, behind a byte with its top bit set
written-sign : (b c : ℕ) → b < 256 → Sign c → leb 0x80 b ≡ true → Written (b ∷ c ∷ [])
written-sign b c lt s h =
    let g : 0x80 ≤ b = leb-true 0x80 b h in
    written_one c b (b ∷ c ∷ []) s (omega arith) lt (rw (le-ltb b 0x80 g))

written-least : (b : ℕ) (l : Bytes) → AreBytes (b ∷ l) → minimal (b ∷ l) ≡ true → Written (b ∷ l)
written-least b [] bs m = written_last b bs.0 m
written-least b (c ∷ []) bs m = by (not (eqb c 0x00 || eqb c 0x80)) refl m
  where
    by : (t : Bool) → not (eqb c 0x00 || eqb c 0x80) ≡ t → (leb 0x80 b || t) ≡ true → Written (b ∷ c ∷ [])
    by true e h = written-more b (c ∷ []) bs.0 (written_last c bs.1.0 e)
    by false e h = written-sign b c bs.0 (sign-byte c e) (rw (← (or-false (leb 0x80 b))) h)
written-least b (c ∷ d ∷ l) bs m = written-more b (c ∷ d ∷ l) bs.0 (written-least c (d ∷ l) bs.1 m)

accepted : (s t : Bool) (x i : Integer) → pick (s && t) (some x) none ≡ some i → (s ≡ true) × (t ≡ true)
accepted true true x i e = (refl, refl)
accepted true false x i e = let z : ◌≡◌ {A = ℕ} 0 1 = cc in absurd (omega arith)
accepted false t x i e = let z : ◌≡◌ {A = ℕ} 0 1 = cc in absurd (omega arith)

same-plus : (l : Bytes) (n : ℕ) (i : Integer) → NumberForm 0x00 n l → signed 0x00 (digits n n) ≡ l → length l ≤ 8
    → deserialize l ≡ some i → serialize i ≡ l
unfolding serialize
same-plus l n i f same h e = let q : plus n ≡ i = cc (form-plus n l f h) in rw (← q) same

same-minus : (l : Bytes) (n : ℕ) (i : Integer) → NumberForm 0x80 n l → signed 0x80 (digits n n) ≡ l → length l ≤ 8
    → deserialize l ≡ some i → serialize i ≡ l
unfolding serialize
same-minus l n i f same h e = let q : minus n ≡ i = cc (form-minus n l f h) in rw (← q) same

same-written : (l : Bytes) (i : Integer) → Written l → length l ≤ 8 → deserialize l ≡ some i → serialize i ≡ l
same-written l i w h e = by (ltb w.sign 0x80) refl
  where
    same : signed w.sign (digits w.n w.n) ≡ l
    same = w.same w.n (omega arith)

    f : NumberForm w.sign w.n l
    f = rw (← same) (form-written w.sign w.n w.sign-is w.above)

    by : (t : Bool) → ltb w.sign 0x80 ≡ t → serialize i ≡ l
    by true p =
        let s : w.sign ≡ 0x00 = omega (arith, ltb-true w.sign 0x80 p, w.sign-is) in
        same-plus l w.n i (rw s at f) (rw s at same) h e
    by false p =
        let s : w.sign ≡ 0x80 = omega (arith, ltb-false w.sign 0x80 p, w.sign-is) in
        same-minus l w.n i (rw s at f) (rw s at same) h e

pub read_written : (l : Bytes) (i : Integer) → AreBytes l → deserialize l ≡ some i → serialize i ≡ l
unfolding serialize deserialize
read_written [] i bs e = let q : plus 0 ≡ i = cc in rw (← q)
read_written (b ∷ l) i bs e = by (accepted (leb (length (b ∷ l)) 8) (minimal (b ∷ l)) (value (b ∷ l)) i e)
  where
    by : (leb (length (b ∷ l)) 8 ≡ true) × (minimal (b ∷ l) ≡ true) → serialize i ≡ b ∷ l
    by a = same-written (b ∷ l) i (written-least b l bs a.1) (leb-true (length (b ∷ l)) 8 a.0) e
