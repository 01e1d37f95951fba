-- The bytes of words, put into lent bytes.
use mathlib.Core.Bool.{Bool, true, false, ◌&&◌}
use mathlib.Core.List.{[], ◌∷◌, ◌++◌, append-nil}
use mathlib.Core.Option.{Option, none, some}
use mathlib.Core.Path.{◌≡◌, refl, sym, ap, ◌∙◌}
use Prim.Native.Nat.{ℕ, zero, suc, ◌<◌, ◌+◌, ◌-◌, ◌*◌, ◌/◌, ◌≤◌}
use native.Mathlib.Omega.{arith}
use lib.Dec.{leb, leb→le}
use lib.ListN.{length, take, drop, get_or, set, length-take, length-drop, drop_of_length-le}
use lib.Seq.{paste}
use Rattle.std.proofs.lemmas.List.Edits.{paste_more, paste_all}
use mir.Facts.{and_yes}
use Rattle.definition.specs.Basics.{Bytes, pick}
use Rattle.definition_listings.specs.Assembling.{on_read, digit_read, hex_read, word_read}
use Rattle.definition_listings.specs.Shortest.{in_form}
use Rattle.text.specs.View.{Puts}
use Rattle.text.specs.declared.Lent.{Lent}
use Rattle.text.proofs.Puts.{puts_as, then-puts}
use Rattle.words.specs.View.{opens, data_letters, DataWord, head_of, bytes_of}
use Rattle.names.proofs.Tables.{never, holds}
use Rattle.words.proofs.Words.{hex-length, data-known}
use Rattle.words.proofs.Sizes.{data_of, data-read}

-- a digit's value is at most 15
digit-bound : (c x : ℕ) → digit_read c ≡ some x → x ≤ 15
digit-bound c x e = number (leb 48 c && leb c 57) refl e
  where
    letter : (b : Bool) → leb 97 c && leb c 102 ≡ b → pick b (some (c - 87)) none ≡ some x → x ≤ 15
    letter true q e =
        let t = and_yes (leb 97 c) (leb c 102) (holds (leb 97 c && leb c 102) q) in
        let i : c - 87 ≡ x = cc in
        omega (arith, i, leb→le c 102 t.1)
    letter false q e = never (cc)

    number : (b : Bool) → leb 48 c && leb c 57 ≡ b → pick b (some (c - 48)) (pick (leb 97 c && leb c 102) (some (c - 87)) none) ≡ some x → x ≤ 15
    number true q e =
        let t = and_yes (leb 48 c) (leb c 57) (holds (leb 48 c && leb c 57) q) in
        let i : c - 48 ≡ x = cc in
        omega (arith, i, leb→le c 57 t.1)
    number false q e = letter (leb 97 c && leb c 102) refl e

-- byte j of letters in hexadecimal, by its two digits
pub record DigitsOf (l b : Bytes) (j : ℕ) : Type 0 where
  pub high : ℕ
  pub low : ℕ
  pub first : digit_read (get_or l (2 * j) 0) ≡ some high
  pub second : digit_read (get_or l (2 * j + 1) 0) ≡ some low
  pub small : high ≤ 15
  pub less : low ≤ 15
  pub is : 16 * high + low ≡ get_or b j 0

-- two digits of the front are those of byte 0
first_of : (c d x y : ℕ) (l m b : Bytes) → digit_read c ≡ some x → digit_read d ≡ some y → (16 * x + y) ∷ m ≡ b → DigitsOf (c ∷ d ∷ l) b 0
first_of c d x y l m b p q i =
    record { high = x; low = y; first = p; second = q; small = digit-bound c x p; less = digit-bound d y q; is = ap (λ (k : Bytes). get_or k 0 0) i }

-- and those of byte j behind them are of byte j + 1
later_of : (c d z : ℕ) (l m b : Bytes) (j : ℕ) → z ∷ m ≡ b → DigitsOf l m j → DigitsOf (c ∷ d ∷ l) b (suc j)
later_of c d z l m b j i o =
    let f : 2 * suc j ≡ suc (suc (2 * j)) = omega arith in
    let g : 2 * suc j + 1 ≡ suc (suc (2 * j + 1)) = omega arith in
    record {
      high = o.high;
      low = o.low;
      first = ap (λ n. digit_read (get_or (c ∷ d ∷ l) n 0)) f ∙ o.first;
      second = ap (λ n. digit_read (get_or (c ∷ d ∷ l) n 0)) g ∙ o.second;
      small = o.small;
      less = o.less;
      is = o.is ∙ ap (λ (k : Bytes). get_or k (suc j) 0) i;
    }

pub digits_of : (l b : Bytes) (j : ℕ) → hex_read l ≡ some b → j < length b → DigitsOf l b j
digits_of [] b j e h =
    let i : [] ≡ b = cc in
    absurd (omega (arith, ap length i))
digits_of (c ∷ []) b j e h = never (cc)
digits_of (c ∷ d ∷ l) b zero e h = by (digit_read c) (digit_read d) (hex_read l) refl refl e
  where
    by : (x y : Option ℕ) (r : Option Bytes) → digit_read c ≡ x → digit_read d ≡ y
        → on_read x (λ x. on_read y (λ y. on_read r (λ bs. some ((16 * x + y) ∷ bs)))) ≡ some b → DigitsOf (c ∷ d ∷ l) b 0
    by none y r p q e = never (cc)
    by (some x) none r p q e = never (cc)
    by (some x) (some y) none p q e = never (cc)
    by (some x) (some y) (some m) p q e = first_of c d x y l m b p q (cc)
digits_of (c ∷ d ∷ l) b (suc j) e h = by (digit_read c) (digit_read d) (hex_read l) e (λ m. digits_of l m j)
  where
    by : (x y : Option ℕ) (r : Option Bytes) → on_read x (λ x. on_read y (λ y. on_read r (λ bs. some ((16 * x + y) ∷ bs)))) ≡ some b
        → ((m : Bytes) → r ≡ some m → j < length m → DigitsOf l m j) → DigitsOf (c ∷ d ∷ l) b (suc j)
    by none y r e f = never (cc)
    by (some x) none r e f = never (cc)
    by (some x) (some y) none e f = never (cc)
    by (some x) (some y) (some m) e f =
        let i : (16 * x + y) ∷ m ≡ b = cc in
        later_of c d (16 * x + y) l m b j i (f m refl (omega (arith, ap length i)))

-- letters that are bytes, and the bytes that they give
module _ (l : Bytes) (digits : hex_read l ≡ some (in_form (hex_read l))) where
  pub data-length : length (in_form (hex_read l)) ≡ length l / 2
  data-length = omega (arith, hex-length l (in_form (hex_read l)) digits)

  -- byte j, where there is room for all of them
  module _ (before : Bytes) (room : length before ≡ length l / 2) (j : ℕ) (within : j < length before) where
    byte : DigitsOf l (in_form (hex_read l)) j
    byte = digits_of l (in_form (hex_read l)) j digits (omega (arith, data-length))

    pub high-fits : (high : ℕ) → ((d : ℕ) → digit_read (get_or l (2 * j) 0) ≡ some d → high ≡ d) → high ≤ 15
    high-fits high p = omega (arith, p byte.high byte.first, byte.small)

    pub low-fits : (low : ℕ) → ((d : ℕ) → digit_read (get_or l (2 * j + 1) 0) ≡ some d → low ≡ d) → low ≤ 15
    low-fits low q = omega (arith, q byte.low byte.second, byte.less)

    pub data-next : (place : Bytes) (high low : ℕ) → ((d : ℕ) → digit_read (get_or l (2 * j) 0) ≡ some d → high ≡ d)
        → ((d : ℕ) → digit_read (get_or l (2 * j + 1) 0) ≡ some d → low ≡ d) → place ≡ paste before 0 (in_form (hex_read l)) j
        → set place j (16 * high + low) ≡ paste before 0 (in_form (hex_read l)) (j + 1)
    data-next place high low p q e =
        let v : 16 * high + low ≡ get_or (in_form (hex_read l)) j 0 = omega (arith, p byte.high byte.first, q byte.low byte.second, byte.is) in
        let o : j ≡ 0 + j = omega arith in
        ap (λ (x : Bytes). set x j (16 * high + low)) e ∙ ap (set (paste before 0 (in_form (hex_read l)) j) j) v
        ∙ ap (λ n. set (paste before 0 (in_form (hex_read l)) j) n (get_or (in_form (hex_read l)) j 0)) o
        ∙ paste_more before 0 (in_form (hex_read l)) j 0 (omega arith) (omega (arith, data-length))

  pub data-all : (before place : Bytes) (j : ℕ) → length before ≡ length l / 2 → j ≡ length before → place ≡ paste before 0 (in_form (hex_read l)) j
      → place ≡ in_form (hex_read l)
  data-all before place j room h e =
      e ∙ paste_all before 0 (in_form (hex_read l)) j (omega (arith, data-length))
      ∙ ap (λ (r : Bytes). in_form (hex_read l) ++ r) (drop_of_length-le before {i = 0 + j} (omega arith)) ∙ append-nil (in_form (hex_read l))

-- The push of a word of data

-- the letters between the first and the last, and what is known of them
module _ (w : Bytes) (begins : opens w ≡ true) (good : word_read w ≡ some (bytes_of w)) where
  abbrev pub letters : Bytes
  letters = take (length w - 1 - 1) (drop 1 w)

  known : DataWord w (length w / 2 - 1)
  known = data-known w begins (bytes_of w) good

  letters-are : data_letters w (length w / 2 - 1) ≡ letters
  letters-are = let e : 2 * (length w / 2 - 1) ≡ length w - 1 - 1 = omega (arith, known.letters) in ap (λ n. take n (drop 1 w)) e

  pub two : 2 ≤ length w
  two = omega (arith, known.letters)

  half : length letters / 2 ≡ length w / 2 - 1
  half = omega (arith, length-take (length w - 1 - 1) (drop 1 w), length-drop 1 w, known.letters)

  pub few : length letters / 2 ≤ 4294967295
  few = omega (arith, half, known.most)

  pub digits : hex_read letters ≡ some (in_form (hex_read letters))
  digits = rw letters-are at known.bytes

  push-bytes : bytes_of w ≡ head_of (length letters / 2) ++ in_form (hex_read letters)
  push-bytes =
      ap in_form (data-read w (length w / 2 - 1) known)
      ∙ ap (λ n. head_of n ++ data_of w (length w / 2 - 1) known) (sym half)
      ∙ ap (λ (l : Bytes). head_of (length letters / 2) ++ in_form (hex_read l)) letters-are

  pub push-puts : {a b d : Lent} → Puts a (head_of (length letters / 2)) b → Puts b (in_form (hex_read letters)) d → Puts a (bytes_of w) d
  push-puts p q = puts_as (sym push-bytes) (then-puts p q)
