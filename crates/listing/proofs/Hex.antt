-- Bytes in hexadecimal, written digit by digit, and a word of data.
use mathlib.Core.List.{[], ◌∷◌, ◌++◌, append-nil}
use mathlib.Core.Path.{◌≡◌, refl, sym, ap, ◌∙◌}
use Prim.Native.Nat.{ℕ, zero, suc, ◌+◌, ◌*◌, ◌/◌, ◌%◌, ◌<◌}
use native.Mathlib.Omega.{arith}
use lib.ListN.{length, get_or, set, length-set, length-append, drop_of_length-le}
use lib.Seq.{paste, paste-zero}
use Rattle.std.proofs.lemmas.List.Edits.{paste_more, paste_all}
use Rattle.definition.specs.Basics.{Bytes}
use Rattle.definition_listings.specs.Hex.{hex_digit}
use Rattle.definition_listings.specs.Listing.{hex_bytes, data_word}
use Rattle.text.specs.View.{Puts}
use Rattle.text.specs.declared.Lent.{Lent}
use Rattle.text.proofs.Puts.{puts_as, then-puts}

pub hex-length : (l : Bytes) → length (hex_bytes l) ≡ 2 * length l
hex-length [] = refl
hex-length (b ∷ l) = omega (arith, hex-length l)

-- the two digits of byte j

high_of : (l : Bytes) (j : ℕ) → j < length l → get_or (hex_bytes l) (2 * j) 0 ≡ hex_digit (get_or l j 0 / 16 % 16)
high_of [] j h = absurd (omega arith)
high_of (b ∷ l) zero h = refl
high_of (b ∷ l) (suc j) h =
    let e : 2 * suc j ≡ suc (suc (2 * j)) = omega arith in
    ap (λ n. get_or (hex_bytes (b ∷ l)) n 0) e ∙ high_of l j (omega arith)

low_of : (l : Bytes) (j : ℕ) → j < length l → get_or (hex_bytes l) (2 * j + 1) 0 ≡ hex_digit (get_or l j 0 % 16)
low_of [] j h = absurd (omega arith)
low_of (b ∷ l) zero h = refl
low_of (b ∷ l) (suc j) h =
    let e : 2 * suc j + 1 ≡ suc (suc (2 * j + 1)) = omega arith in
    ap (λ n. get_or (hex_bytes (b ∷ l)) n 0) e ∙ low_of l j (omega arith)

-- the first j bytes are written
pub record HexTo (before l place : Bytes) (j : ℕ) : Type 0 where
  pub same : length place ≡ length before
  pub holds : place ≡ paste before 0 (hex_bytes l) (2 * j)

pub hex-start : (before l : Bytes) → HexTo before l before 0
hex-start before l = record { same = refl; holds = paste-zero before 0 (hex_bytes l) }

-- one letter more
letter : (before t place : Bytes) (k i v : ℕ) → place ≡ paste before 0 t k → k < length before → k < length t → i ≡ k → v ≡ get_or t k 0
    → set place i v ≡ paste before 0 t (k + 1)
letter before t place k i v e h g p q =
    let o : i ≡ 0 + k = omega arith in
    ap (λ (x : Bytes). set x i v) e ∙ ap (λ n. set (paste before 0 t k) n v) o ∙ ap (set (paste before 0 t k) (0 + k)) q ∙ paste_more before 0 t k 0 (omega arith) g

module _ (before l place : Bytes) (room : length before ≡ 2 * length l) (j : ℕ) (to : HexTo before l place j) where
  pub hex-next : (high low : ℕ) → j < length l → get_or l j 0 < 256 → high ≡ hex_digit (get_or l j 0 / 16) → low ≡ hex_digit (get_or l j 0 % 16)
      → HexTo before l (set (set place (2 * j) high) (2 * j + 1) low) (j + 1)
  hex-next high low h small p q =
      let t = hex_bytes l in
      let d : get_or l j 0 / 16 ≡ get_or l j 0 / 16 % 16 = omega arith in
      let one : set place (2 * j) high ≡ paste before 0 t (2 * j + 1)
      = letter before t place (2 * j) (2 * j) high to.holds (omega arith) (omega (arith, hex-length l)) refl (p ∙ ap hex_digit d ∙ sym (high_of l j h)) in
      let m : 2 * j + 1 + 1 ≡ 2 * (j + 1) = omega arith in
      record {
        same = length-set (set place (2 * j) high) (2 * j + 1) low ∙ length-set place (2 * j) high ∙ to.same;
        holds = letter before t (set place (2 * j) high) (2 * j + 1) (2 * j + 1) low one (omega arith) (omega (arith, hex-length l)) refl (q ∙ sym (low_of l j h))
            ∙ ap (paste before 0 t) m;
      }

  pub hex-all : j ≡ length l → place ≡ hex_bytes l
  hex-all h =
      let n : 2 * j ≡ length (hex_bytes l) = omega (arith, hex-length l) in
      to.holds ∙ paste_all before 0 (hex_bytes l) (2 * j) n
      ∙ ap (λ (r : Bytes). hex_bytes l ++ r) (drop_of_length-le before {i = 0 + 2 * j} (omega arith)) ∙ append-nil (hex_bytes l)

-- a word of data that is not empty
data-word : (l : Bytes) → (length l ≡ 0 → ⊥) → data_word l ≡ (60 ∷ []) ++ hex_bytes l ++ (62 ∷ [])
data-word [] n = absurd (n refl)
data-word (b ∷ l) n = refl

pub data-puts : {a b c d : Lent} (l : Bytes) → (length l ≡ 0 → ⊥) → Puts a (60 ∷ []) b → Puts b (hex_bytes l) c → Puts c (62 ∷ []) d → Puts a (data_word l) d
data-puts l n u v w = puts_as (sym (data-word l n)) (then-puts (then-puts u v) w)

-- how many letters it has
pub data-some : (l : Bytes) → (length l ≡ 0 → ⊥) → 2 * length l + 2 ≡ length (data_word l)
data-some l n = omega (arith, ap length (data-word l n), length-append (hex_bytes l) (62 ∷ []), hex-length l)
