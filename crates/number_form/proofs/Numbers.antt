-- The number form: a number as a value, and a value read as an index.
use mathlib.Core.Bool.{Bool, true, false, not, ◌||◌, or-true, or-false}
use mathlib.Core.Path.{◌≡◌, refl, sym, ap, subst⁻¹, ◌∙◌}
use mathlib.Core.List.{[], ◌∷◌}
use mathlib.Core.Option.{none, some}
use Prim.Native.Nat.{ℕ, zero, suc, ◌+◌, ◌-◌, ◌*◌, ◌/◌, ◌%◌, ◌^◌, ◌≤◌, ◌<◌}
use native.Mathlib.Nat.{pow-succ', one-le-pow}
use native.Mathlib.Omega.{arith}
use borrow.Author.Tests.{le-leb, lt-leb, lt-ltb, le-ltb, eq-eqb, ne_eqb, eqb-false, ltb-true, ltb-false}
use lib.Dec.{leb, ltb, eqb, lit<}
use lib.ListN.{length}
use lib.Pow.{pow_pos, shr-shr, mod-pow-add, shl_exact}
use Rattle.definition.specs.Basics.{Bytes, pick}
use Rattle.definition.specs.Decoding.{number, plus, digits, signed, serialize, last, minimal, value, deserialize, index_read}
use Rattle.definition.specs.Decoding as D
use Rattle.definition.specs.Stacks.{readable}
use Rattle.definition.specs.Walk.{known, marking}
use Rattle.definition.specs.Replay.{AreBytes}
use Rattle.decode.specs.View.{low_bytes, item_of, value_of, Held}
use Rattle.number_form.specs.View.{read_of, indexed}
use Rattle.decode.specs.declared.Value.TheVariants.{Unknown, Exact}
use Rattle.std.specs.Prelude.{Result, Ok, Err}
use Rattle.number_form.specs.declared.NoIndex.{NoIndex}
use Rattle.number_form.specs.declared.NoIndex.TheVariants as I
use Rattle.decode.proofs.Bytes.{length-low}
use Rattle.decode.proofs.Values.{held-known, item-of-known}

-- A number as a value

number-signed : (l : Bytes) → number (signed 0 l) ≡ number l
number-signed [] = refl
number-signed (b ∷ []) = by (ltb b 0x80)
  where
    by : (t : Bool) → number (pick t ((b + 0) ∷ []) (b ∷ 0 ∷ [])) ≡ b + 256 * 0
    by true = omega arith
    by false = omega arith
number-signed (b ∷ c ∷ l) = ap (λ (n : ℕ). b + 256 * n) (number-signed (c ∷ l))

number_digits : (most n : ℕ) → n ≤ most → number (digits most n) ≡ n
number_digits zero n h = omega arith
number_digits (suc most) zero h = refl
number_digits (suc most) (suc n) h = rw (number_digits most (suc n / 256) (omega arith)) (omega arith)

bytes_signed : (l : Bytes) → AreBytes l → AreBytes (signed 0 l)
bytes_signed [] h = tt
bytes_signed (b ∷ []) h = by (ltb b 0x80)
  where
    by : (t : Bool) → AreBytes (pick t ((b + 0) ∷ []) (b ∷ 0 ∷ []))
    by true = omega arith
    by false = omega arith
bytes_signed (b ∷ c ∷ l) h = (h.0, bytes_signed (c ∷ l) h.1)

bytes-digits : (most n : ℕ) → AreBytes (digits most n)
bytes-digits zero n = tt
bytes-digits (suc most) zero = tt
bytes-digits (suc most) (suc n) = (omega arith, bytes-digits most (suc n / 256))

pub bytes-serialize : (n : ℕ) → AreBytes (serialize (plus n))
unfolding serialize
bytes-serialize n = bytes_signed (digits n n) (bytes-digits n n)

pub number-serialize : (n : ℕ) → number (serialize (plus n)) ≡ n
unfolding serialize
number-serialize n = number-signed (digits n n) ∙ number_digits n n (omega arith)

-- The length of a number that needs k bytes and a last one below 80.

pow-positive : (k : ℕ) → 1 ≤ 256 ^ k
pow-positive k = one-le-pow k 256 (lit< tt)

digits-zero : (most : ℕ) → digits most 0 ≡ []
digits-zero zero = refl
digits-zero (suc most) = refl

length-one : (k b : ℕ) → 128 * 256 ^ k ≤ 256 * b → b < 128 * 256 ^ k → b < 256 → length (signed 0 (b ∷ [])) ≡ suc k
length-one k b low high lt = by k (ltb b 0x80) refl low high
  where
    by : (k : ℕ) (t : Bool) → ltb b 0x80 ≡ t → 128 * 256 ^ k ≤ 256 * b → b < 128 * 256 ^ k → length (pick t ((b + 0) ∷ []) (b ∷ 0 ∷ [])) ≡ suc k
    by zero true e low high = refl
    by (suc k) true e low high =
        let p : 256 ^ suc k ≡ 256 * 256 ^ k = pow-succ' 256 k in
        absurd (omega (arith, pow-positive k, ltb-true b 0x80 e))
    by zero false e low high = absurd (omega (arith, ltb-false b 0x80 e))
    by (suc zero) false e low high = refl
    by (suc (suc k)) false e low high =
        let p : 256 ^ suc (suc k) ≡ 256 * (256 * 256 ^ k) = rw (pow-succ' 256 (suc k), pow-succ' 256 k) in
        absurd (omega (arith, pow-positive k))

low-next : (k n : ℕ) → 128 * 256 ^ suc k ≤ 256 * n → 0 < n / 256 → 128 * 256 ^ k ≤ 256 * (n / 256)
low-next zero n h pos = omega arith
low-next (suc k) n h pos =
    let p : 256 ^ suc (suc k) ≡ 256 * (256 * 256 ^ k) = rw (pow-succ' 256 (suc k), pow-succ' 256 k) in
    let q : 256 ^ suc k ≡ 256 * 256 ^ k = pow-succ' 256 k in
    omega arith

-- n takes k + 1 bytes
abbrev Takes : ℕ → ℕ → Type 0
Takes k n = (128 * 256 ^ k ≤ 256 * n) × (n < 128 * 256 ^ k)

length-step : (most : ℕ) → ((k n : ℕ) → n ≤ most → Takes k n → length (signed 0 (digits most n)) ≡ suc k)
    → (k n d : ℕ) → n ≤ most → Takes k (suc n) → suc n / 256 ≡ d → length (signed 0 (suc n % 256 ∷ digits most d)) ≡ suc k
length-step most rec k n zero h t e =
    let m : suc n % 256 ≡ suc n = omega arith in
    rw (digits-zero most, m) (length-one k (suc n) t.0 t.1 (omega arith))
length-step zero rec k n (suc m) h t e = absurd (omega arith)
length-step (suc most) rec zero n (suc m) h t e = absurd (omega arith)
length-step (suc most) rec (suc k) n (suc m) h t e =
    let p : 256 ^ suc k ≡ 256 * 256 ^ k = pow-succ' 256 k in
    let l : 128 * 256 ^ k ≤ 256 * (suc n / 256) = low-next k (suc n) t.0 (omega arith) in
    ap suc (rec k (suc m) (omega arith) (omega arith))

length-signed : (most k n : ℕ) → n ≤ most → Takes k n → length (signed 0 (digits most n)) ≡ suc k
length-signed zero k n h t = absurd (omega (arith, pow-positive k))
length-signed (suc most) k zero h t = absurd (omega (arith, pow-positive k))
length-signed (suc most) k (suc n) h t = length-step most (length-signed most) k n (suc n / 256) (omega arith) t refl

length-serialize : (k n : ℕ) → Takes k n → length (serialize (plus n)) ≡ suc k
unfolding serialize
length-serialize k n t = length-signed n k n (omega arith) t

pub value-zero : (n : ℕ) → n ≡ 0 → Exact 0 n ≡ value_of (known (serialize (plus n)))
unfolding serialize
value-zero n e = rw e

pub value-exact : (k n : ℕ) → k < 8 → Takes k n → Exact (suc k) n ≡ value_of (known (serialize (plus n)))
value-exact k n h t =
    let e : length (serialize (plus n)) ≡ suc k = length-serialize k n t in
    sym (rw (e, le-leb (suc k) 8 h, e, number-serialize n))

pub value-unknown : (n : ℕ) → Takes 8 n → Unknown ≡ value_of (known (serialize (plus n)))
value-unknown n t = rw (length-serialize 8 n t)

-- what `number_value` gives is held, and stands for the number
pub held_number : (n : ℕ) → Held (value_of (known (serialize (plus n))))
held_number n = held-known (serialize (plus n)) (bytes-serialize n)

pub item-of-number : (n : ℕ) → item_of (value_of (known (serialize (plus n)))) ≡ known (serialize (plus n))
item-of-number n = item-of-known (serialize (plus n)) (bytes-serialize n)

-- A value read as an index

last-low : (k n : ℕ) → last (low_bytes (suc k) n) ≡ n / 2 ^ (8 * k) % 256
last-low zero n = omega arith
last-low (suc k) n =
    let e : 8 + 8 * k ≡ 8 * suc k = omega arith in
    last-low k (n / 256) ∙ ap (λ (x : ℕ). x % 256) (shr-shr n 8 (8 * k)) ∙ rw e

number-low-mod : (k n : ℕ) → number (low_bytes k n) ≡ n % 2 ^ (8 * k)
number-low-mod zero n = omega arith
number-low-mod (suc k) n =
    let e : 8 * k + 8 ≡ 8 * suc k = omega arith in
    let m : n % 2 ^ (8 * suc k) ≡ n / 256 % 2 ^ (8 * k) * 256 + n % 256 = rw (← e) (mod-pow-add n (8 * k) 8) in
    rw (number-low-mod k (n / 256), m) (omega arith)

minimal-good : (l : Bytes) → (last l % 128 ≡ 0 → ⊥) → minimal l ≡ true
minimal-good [] h = refl
minimal-good (b ∷ []) h = rw (ne_eqb b 0x00 (λ e. h (omega arith)), ne_eqb b 0x80 (λ e. h (omega arith)))
minimal-good (b ∷ c ∷ []) h = rw (ne_eqb c 0x00 (λ e. h (omega arith)), ne_eqb c 0x80 (λ e. h (omega arith)), or-true (leb 0x80 b))
minimal-good (b ∷ c ∷ d ∷ l) h = minimal-good (c ∷ d ∷ l) h

-- a byte that is 00 or 80
sign-only : (b : ℕ) → b < 256 → b % 128 ≡ 0 → (eqb b 0x00 || eqb b 0x80) ≡ true
sign-only b lt h = by (eqb b 0x00) refl
  where
    by : (t : Bool) → eqb b 0x00 ≡ t → (t || eqb b 0x80) ≡ true
    by true e = refl
    by false e = eq-eqb b 0x80 (omega (arith, eqb-false b 0x00 e))

minimal-more : (k n : ℕ) → last (low_bytes (suc (suc k)) n) % 128 ≡ 0 → minimal (low_bytes (suc (suc k)) n) ≡ leb 0x80 (last (low_bytes (suc k) n))
minimal-more zero n h = rw (sign-only (n / 256 % 256) (omega arith) h, or-false (leb 0x80 (n % 256)))
minimal-more (suc k) n h = minimal-more k (n / 256) h

-- the laws of `last_byte` and `minimal`, over the length
pub last_of : (len w n : ℕ) → 1 ≤ len → w ≡ len → n / 2 ^ ((w - 1) * 8) % 256 ≡ last (low_bytes len n)
last_of zero w n h e = absurd (omega arith)
last_of (suc k) w n h e =
    let q : (w - 1) * 8 ≡ 8 * k = omega arith in
    rw q (sym (last-low k n))

minimal-one : (n : ℕ) → last (low_bytes 1 n) % 128 ≡ 0 → minimal (low_bytes 1 n) ≡ false
minimal-one n h = rw (sign-only (n % 256) (omega arith) h)

pub minimal-not-one : (len n b : ℕ) → b ≡ last (low_bytes len n) → b % 128 ≡ 0 → len ≡ 1 → false ≡ minimal (low_bytes len n)
minimal-not-one len n b e h q =
    subst⁻¹ (λ (m : ℕ). last (low_bytes m n) % 128 ≡ 0 → false ≡ minimal (low_bytes m n)) q (λ g. sym (minimal-one n g)) (rw e at h)

pub minimal-last : (len n b : ℕ) → b ≡ last (low_bytes len n) → (b % 128 ≡ 0 → ⊥) → not (eqb (b % 128) 0) ≡ minimal (low_bytes len n)
minimal-last len n b e h = rw (ne_eqb (b % 128) 0 h) (sym (minimal-good (low_bytes len n) (rw (← e) h)))

module _ (len n b c : ℕ) (e : b ≡ last (low_bytes len n)) (h : b % 128 ≡ 0) (pos : 1 ≤ len) (more : len ≡ 1 → ⊥) (f : c ≡ last (low_bytes (len - 1) n)) where
  pub minimal-before : leb 0x80 c ≡ minimal (low_bytes len n)
  minimal-before = by len e pos more f
    where
      by : (len : ℕ) → b ≡ last (low_bytes len n) → 1 ≤ len → (len ≡ 1 → ⊥) → c ≡ last (low_bytes (len - 1) n) → leb 0x80 c ≡ minimal (low_bytes len n)
      by zero e pos q f = absurd (omega arith)
      by (suc zero) e pos q f = absurd (q refl)
      by (suc (suc k)) e pos q f =
          let m : suc (suc k) - 1 ≡ suc k = omega arith in
          ap (leb 0x80) (f ∙ ap (λ (j : ℕ). last (low_bytes j n)) m) ∙ sym (minimal-more k n (rw e at h))

-- reading, by the tests that lead to each answer
abbrev Read : ℕ → ℕ → Result ℕ NoIndex
Read len n = indexed (index_read (deserialize (low_bytes len n)))

deserialize-good : (len n : ℕ) → len ≤ 8 → minimal (low_bytes len n) ≡ true → deserialize (low_bytes len n) ≡ some (value (low_bytes len n))
unfolding deserialize
deserialize-good len n h m = rw (length-low len n, le-leb len 8 h, m)

deserialize-bad : (len n : ℕ) → len ≤ 8 → minimal (low_bytes len n) ≡ false → deserialize (low_bytes len n) ≡ none
unfolding deserialize
deserialize-bad len n h m = rw (length-low len n, le-leb len 8 h, m)

deserialize-long : (len n : ℕ) → 8 < len → deserialize (low_bytes len n) ≡ none
unfolding deserialize
deserialize-long len n h = rw (length-low len n, lt-leb len 8 h)

pub read-zero : (len n : ℕ) → len ≡ 0 → Ok 0 ≡ Read len n
unfolding deserialize
read-zero len n e = rw e

pub read-long : (len n : ℕ) → 8 < len → Err I.NoNumber ≡ Read len n
read-long len n h = rw (deserialize-long len n h)

pub read-not-minimal : (len n : ℕ) → len ≤ 8 → minimal (low_bytes len n) ≡ false → Err I.NoNumber ≡ Read len n
read-not-minimal len n h m = rw (deserialize-bad len n h m)

pub read-negative : (len n b : ℕ) → len ≤ 8 → minimal (low_bytes len n) ≡ true → b ≡ last (low_bytes len n) → 128 ≤ b → Err I.Negative ≡ Read len n
read-negative len n b h m e g = rw (deserialize-good len n h m, le-ltb (last (low_bytes len n)) 0x80 (omega arith))

pub shift-positive : (e : ℕ) → e < 64 → 0 < (1 * 2 ^ e) % 2 ^ 64
shift-positive e h = rw (shl_exact {a = 1} 1 e 64 (omega arith) (omega arith)) (omega (arith, pow_pos e))

-- where the last byte is below 80, its top bit is not needed
number-below-sign : (len w n : ℕ) → 1 ≤ len → len ≤ 8 → w ≡ len → last (low_bytes len n) < 128 → n % ((1 * 2 ^ (w * 8 - 1)) % 2 ^ 64) ≡ number (low_bytes len n)
number-below-sign zero w n pos h q lt = absurd (omega arith)
number-below-sign (suc k) w n pos h q lt =
    let a : w * 8 - 1 ≡ 7 + 8 * k = omega arith in
    let b : 8 * suc k ≡ 8 + 8 * k = omega arith in
    let x : (1 * 2 ^ (7 + 8 * k)) % 2 ^ 64 ≡ 2 ^ (7 + 8 * k) = shl_exact 1 (7 + 8 * k) 64 (omega arith) (omega arith) ∙ omega arith in
    let l : n / 2 ^ (8 * k) % 256 < 128 = rw (← (last-low k n)) lt in
    let y : n / 2 ^ (8 * k) % 128 ≡ n / 2 ^ (8 * k) % 256 = omega arith in
    rw (a, x, number-low-mod (suc k) n, b, mod-pow-add n 7 (8 * k), mod-pow-add n 8 (8 * k), y)

pub read-index : (len w n b : ℕ) → 1 ≤ len → len ≤ 8 → w ≡ len → minimal (low_bytes len n) ≡ true → b ≡ last (low_bytes len n) → b < 128
    → Ok (n % ((1 * 2 ^ (w * 8 - 1)) % 2 ^ 64)) ≡ Read len n
read-index len w n b pos h q m e g =
    rw (deserialize-good len n h m, lt-ltb (last (low_bytes len n)) 0x80 (omega arith), number-below-sign len w n pos h q (omega arith))

-- the answer for an index, and what follows it
pub answer-reads : (x : D.Index) (i : Result ℕ NoIndex) → i ≡ indexed x → (read_of i ≡ readable marking x) × (i ≡ indexed x)
answer-reads x i e = (ap read_of e ∙ by x, e)
  where
    by : (x : D.Index) → read_of (indexed x) ≡ readable marking x
    by D.not_known = refl
    by D.no_number = refl
    by D.negative = refl
    by (D.index n) = refl
