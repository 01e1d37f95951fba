-- Laws of the rows: how many digits stand in a column, what a bar stands for, bytes in hexadecimal.
use mathlib.Core.Bool.{Bool, true, false, ◌||◌, not}
use mathlib.Core.List.{List, [], ◌∷◌, ◌++◌, append_assoc, append-nil}
use mathlib.Core.Path.{◌≡◌, refl, sym, ap, subst, ◌∙◌}
use Prim.Native.Nat.{ℕ, suc, ◌+◌, ◌-◌, ◌*◌, ◌≤◌, ◌<◌, max}
use native.Mathlib.Omega.{arith}
use borrow.Author.Tests.{ltb-true, ltb-false, ne_eqb}
use lib.Dec.{T, ltb, ltb→lt, nltb→le, eqb}
use lib.ListN.{length, take, get_or, get_or-eq_default, replicate, length-append, length-replicate, length-take, replicate-append-replicate}
use lib.Seq.{take-suc, take_all}
use Rattle.definition.specs.Basics.{Bytes, pick}
use Rattle.definition.specs.Classes.{Class, ordinary, unmodelled, classes, class_at}
use Rattle.definition.specs.Lines.{text, decimal}
use Rattle.definition_listings.specs.Hex.{hex_byte}
use Rattle.opcodes.proofs.Every.{every, at}
use Rattle.text.proofs.Texts.{decimal-length}
use Rattle.log_rows.specs.Rows.{main_at, alt_at, total_of, greatest, scale_of, blanks, hex, instruction, bytes_field, row, is_if, is_else, is_endif}

-- how many digits stand in a column

pub digits_5 : (n : ℕ) → n ≤ 65535 → length (decimal n) ≤ 5
digits_5 n h = decimal-length 4 n (omega arith)

pub digits_6 : (n : ℕ) → n ≤ 131070 → length (decimal n) ≤ 6
digits_6 n h = decimal-length 5 n (omega arith)

pub ruleset columns = (digits_5, digits_6)

-- bytes in hexadecimal, one text behind the other
pub hex-append : (s t : Bytes) → hex (s ++ t) ≡ hex s ++ hex t
hex-append [] t = refl
hex-append (b ∷ s) t = ap (λ (l : Bytes). 32 ∷ (hex_byte b ++ l)) (hex-append s t)

-- one more byte in hexadecimal
pub hex-push : (l : Bytes) (b : ℕ) → hex (l ++ (b ∷ [])) ≡ hex l ++ (32 ∷ hex_byte b)
hex-push [] b = refl
hex-push (c ∷ l) b = ap (λ (x : Bytes). 32 ∷ (hex_byte c ++ x)) (hex-push l b) ∙ ap (λ (x : Bytes). 32 ∷ x) (sym (append_assoc (hex_byte c) (hex l) (32 ∷ hex_byte b)))

-- how long that is
pub hex-length : (l : Bytes) → length (hex l) ≡ 3 * length l
hex-length [] = refl
hex-length (b ∷ l) = omega (arith, hex-length l, length-append (hex_byte b) (hex l))

-- what is shown of bytes: the instruction's 4, and those of a field of 12 columns, with the blanks behind
pub instruction-is : (l line : Bytes) → line ≡ pick (ltb 4 (length l)) (hex (take 4 l) ++ text " ..") (hex l) → line ≡ instruction l
unfolding instruction
instruction-is l line = by (ltb 4 (length l)) refl
  where
    by : (b : Bool) → ltb 4 (length l) ≡ b → line ≡ pick b (hex (take 4 l) ++ text " ..") (hex l) → line ≡ hex (take 4 l) ++ pick b (text " ..") []
    by true e h = h
    by false e h = h ∙ ap hex (sym (take_all 4 l (ltb-false 4 (length l) e))) ∙ sym (append-nil (hex (take 4 l)))

pub field-is : (l line new : Bytes) → line ≡ pick (ltb 4 (length l)) (hex (take 3 l) ++ text " ..") (hex l) → new ≡ line ++ replicate (12 - length line) 32 → new ≡ bytes_field l
unfolding bytes_field
field-is l line new = by (ltb 4 (length l)) refl
  where
    by : (b : Bool) → ltb 4 (length l) ≡ b → line ≡ pick b (hex (take 3 l) ++ text " ..") (hex l) → new ≡ line ++ replicate (12 - length line) 32
        → new ≡ pick b (hex (take 3 l) ++ text " ..") (hex l ++ blanks (12 - 3 * length l))
    by true e h g =
        let n : 12 - length line ≡ 0 =
        omega (arith, ap length h, length-append (hex (take 3 l)) (text " .."), hex-length (take 3 l), length-take 3 l, ltb-true 4 (length l) e) in
        g ∙ rw n (append-nil line) ∙ h
    by false e h g = g ∙ rw (h, hex-length l) refl

pub ruleset shown = (instruction-is, field-is)

-- what a whole bar stands for: the rows before `from + j` are seen

module _ (peak : ℕ) (log : List ℕ) (from count : ℕ) where
  abbrev pub Scaling : ℕ → ℕ → Type 0
  Scaling scale j = max scale (greatest log (from + j) (count - j)) ≡ scale_of peak log from count

  pub scaling-none : (scale : ℕ) → scale ≡ max 8 peak → Scaling scale 0
  scaling-none scale e =
      let f : from + 0 ≡ from = omega arith in
      let g : count - 0 ≡ count = omega arith in
      rw (e, f, g)

  pub scaling-more : (scale j row main alt total scale' : ℕ) → Scaling scale j → j < count → row ≡ from + j → main ≡ main_at log row
      → alt ≡ alt_at log row → total ≡ total_of main alt → scale' ≡ max scale total → Scaling scale' (j + 1)
  scaling-more scale j row main alt total scale' i h r m a t s =
      let e : count - j ≡ suc (count - (j + 1)) = omega arith in
      let f : from + j + 1 ≡ from + (j + 1) = omega arith in
      let g : greatest log (from + j) (count - j) ≡ max total (greatest log (from + (j + 1)) (count - (j + 1))) =
      ap (greatest log (from + j)) e
      ∙ ap (λ x. max (total_of (main_at log (from + j)) (alt_at log (from + j))) (greatest log x (count - (j + 1)))) f
      ∙ ap (λ x. max x (greatest log (from + (j + 1)) (count - (j + 1)))) (sym (t ∙ rw (m, a, r))) in
      omega (arith, i, g, s)

  pub scaling-end : (scale j : ℕ) → Scaling scale j → count ≤ j → scale ≡ scale_of peak log from count
  scaling-end scale j i h =
      let e : count - j ≡ 0 = omega arith in
      let g : greatest log (from + j) (count - j) ≡ 0 = ap (greatest log (from + j)) e in
      omega (arith, i, g)

-- a line that has grown by a text of so many bytes
pub record Grown (before more now : Bytes) (size : ℕ) : Type 0 where
  pub items : now ≡ before ++ more
  pub len : length more ≡ size

-- one more byte, and one more byte in hexadecimal
pub same-more : {before now new : Bytes} {n : ℕ} (b : ℕ) → Grown before (replicate n b) now n → new ≡ now ++ (b ∷ []) → Grown before (replicate (n + 1) b) new (n + 1)
same-more {before} {now} {new} {n} b g e = record {
  items = e ∙ ap (λ (x : Bytes). x ++ (b ∷ [])) g.items ∙ append_assoc before (replicate n b) (b ∷ []) ∙ ap (λ (x : Bytes). before ++ x) (replicate-append-replicate n 1 b);
  len = length-replicate (n + 1) b;
}

pub hex-more : {before now mid new : Bytes} (l : Bytes) (j : ℕ) → Grown before (hex (take j l)) now (3 * j) → j < length l → mid ≡ now ++ (32 ∷ []) → new ≡ mid ++ hex_byte (get_or l j 0)
    → Grown before (hex (take (j + 1) l)) new (3 * (j + 1))
hex-more {before} {now} {mid} {new} l j g h u v =
    let b : ℕ = get_or l j 0 in
    let n : suc j ≡ j + 1 = omega arith in
    let t : hex (take (j + 1) l) ≡ hex (take j l) ++ (32 ∷ hex_byte b) = ap (λ m. hex (take m l)) (sym n) ∙ ap hex (take-suc l j 0 h) ∙ hex-push (take j l) b in
    record {
      items = v ∙ ap (λ (x : Bytes). x ++ hex_byte b) (u ∙ ap (λ (x : Bytes). x ++ (32 ∷ [])) g.items)
          ∙ append_assoc (before ++ hex (take j l)) (32 ∷ []) (hex_byte b)
          ∙ append_assoc before (hex (take j l)) (32 ∷ hex_byte b)
          ∙ ap (λ (x : Bytes). before ++ x) (sym t);
      len = omega (arith, ap length t, length-append (hex (take j l)) (32 ∷ hex_byte b), g.len);
    }

-- a row of the log by its place
pub scaling-row : (peak : ℕ) (log : List ℕ) (from count scale row main alt total scale' : ℕ) → Scaling peak log from count scale (row - from) → from ≤ row → row < from + count
    → main ≡ main_at log row → alt ≡ alt_at log row → total ≡ total_of main alt → scale' ≡ max scale total → Scaling peak log from count scale' (row + 1 - from)
scaling-row peak log from count scale row main alt total scale' i l h m a t s =
    let k : row - from + 1 ≡ row + 1 - from = omega arith in
    subst (Scaling peak log from count scale') k (scaling-more peak log from count scale (row - from) row main alt total scale' i (omega arith) (omega arith) m a t s)

pub ruleset loops = (same-more, scaling-row)

-- which numbers are those of IF or NOTIF, of ELSE, of ENDIF

abbrev same : Bool → Bool → Bool
same a b = pick a b (not b)

is_same : (a b : Bool) → T (same a b) → a ≡ b
is_same true true t = refl
is_same true false t = absurd t
is_same false true t = absurd t
is_same false false t = refl

-- tried at all class numbers; past them a class is unmodelled
by_number : (test : Class → Bool) (number : ℕ → Bool) → T (every (λ n. same (test (class_at n)) (number n)) 32 0)
    → test (ordinary unmodelled) ≡ false → ((n : ℕ) → 32 ≤ n → number n ≡ false) → (n : ℕ) → test (class_at n) ≡ number n
by_number test number t e z n = by (ltb n 32) refl
  where
    by : (b : Bool) → ltb n 32 ≡ b → test (class_at n) ≡ number n
    by true k = is_same (test (class_at n)) (number n) (at (λ x. same (test (class_at x)) (number x)) 32 0 n t (omega arith) (omega (arith, ltb→lt n 32 (rw k tt))))
    by false k =
        let h : 32 ≤ n = nltb→le n 32 (rw k tt) in
        ap test (get_or-eq_default classes (ordinary unmodelled) h) ∙ e ∙ sym (z n h)

pub if-number : (n : ℕ) → is_if (class_at n) ≡ (eqb n 3 || eqb n 4)
if-number = by_number is_if (λ n. eqb n 3 || eqb n 4) tt refl (λ n h. rw (ne_eqb n 3 (λ e. omega arith), ne_eqb n 4 (λ e. omega arith)))

pub else-number : (n : ℕ) → is_else (class_at n) ≡ eqb n 5
else-number = by_number is_else (λ n. eqb n 5) tt refl (λ n h. ne_eqb n 5 (λ e. omega arith))

pub endif-number : (n : ℕ) → is_endif (class_at n) ≡ eqb n 6
endif-number = by_number is_endif (λ n. eqb n 6) tt refl (λ n h. ne_eqb n 6 (λ e. omega arith))
