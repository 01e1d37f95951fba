-- Reading a word: data in hexadecimal, an unmodelled code, a name.
use mathlib.Core.Bool.{Bool, true, false, not, ◌&&◌}
use mathlib.Core.List.{List, [], ◌∷◌, ◌++◌}
use mathlib.Core.Option.{Option, none, some}
use mathlib.Core.Path.{◌≡◌, refl, sym, ap, subst, ◌∙◌}
use Prim.Native.Nat.{ℕ, suc, ◌+◌, ◌-◌, ◌*◌, ◌/◌, ◌%◌, ◌≤◌, ◌<◌}
use native.Mathlib.Omega.{arith}
use borrow.Author.Tests.{lt-leb, eq-eqb, ne_eqb, eqb-true, leb-true, leb-false, not-true, not-false}
use lib.Dec.{leb, eqb}
use lib.ListN.{length, take, drop, get_or, length-append, length-take, length-drop, drop_of_length-le}
use lib.Seq.{drop-cons, take-suc, take_all, take_at, get_or-drop, get_or-append_seam}
use Rattle.definition.specs.Basics.{Bytes, pick}
use Rattle.definition.specs.Classes.{class_number}
use Rattle.definition_listings.specs.Assembling.{same, on_read, digit_read, hex_read, before_end, push_read, unmodelled_read, code_in, word_read}
use Rattle.definition_listings.specs.Shortest.{push_of, in_form}
use Rattle.definition_listings.specs.OpcodeNames.{Named, name_table}
use Rattle.std.specs.Prelude as R
use Rattle.std.specs.Prelude.{is_some}
use Rattle.names.specs.View.{code_option}
use Rattle.words.specs.View.{opens, hex_code, digit_option, all_digits, data_letters, DataWord, Reads}
use Rattle.names.proofs.Tables.{never}

-- Hexadecimal

abbrev hex_of : Option ℕ → Option ℕ → Option Bytes → Option Bytes
hex_of x y r = on_read x (λ x. on_read y (λ y. on_read r (λ bs. some ((16 * x + y) ∷ bs))))

-- letters that are not all digits are no bytes
pub hex-strange : (l : Bytes) → all_digits l ≡ false → hex_read l ≡ none
hex-strange [] e = cc
hex-strange (c ∷ []) e = refl
hex-strange (c ∷ d ∷ l) e = by (digit_read c) (digit_read d) (all_digits l) (hex_read l) e (hex-strange l)
  where
    by : (x y : Option ℕ) (b : Bool) (r : Option Bytes) → is_some (digit_option x) && (is_some (digit_option y) && b) ≡ false → (b ≡ false → r ≡ none) → hex_of x y r ≡ none
    by none y b r e f = refl
    by (some x) none b r e f = refl
    by (some x) (some y) b r e f = rw (f e)

-- an even number of digits are bytes
pub hex-bytes : (l : Bytes) (n : ℕ) → all_digits l ≡ true → length l ≡ 2 * n → hex_read l ≡ some (in_form (hex_read l))
hex-bytes [] n e h = refl
hex-bytes (c ∷ []) n e h = absurd (omega arith)
hex-bytes (c ∷ d ∷ l) n e h = by (digit_read c) (digit_read d) (all_digits l) (hex_read l) e (λ f. hex-bytes l (n - 1) f (omega arith))
  where
    by : (x y : Option ℕ) (b : Bool) (r : Option Bytes) → is_some (digit_option x) && (is_some (digit_option y) && b) ≡ true → (b ≡ true → r ≡ some (in_form r)) → hex_of x y r ≡ some (in_form (hex_of x y r))
    by none y b r e f = cc
    by (some x) none b r e f = cc
    by (some x) (some y) b none e f = let z : none ≡ some [] = f e in cc
    by (some x) (some y) b (some l) e f = refl

-- two digits to a byte
pub hex-length : (l b : Bytes) → hex_read l ≡ some b → length l ≡ 2 * length b
hex-length [] b e = let i : [] ≡ b = cc in rw (← i) refl
hex-length (c ∷ []) b e = cc
hex-length (c ∷ d ∷ l) b e = by (digit_read c) (digit_read d) (hex_read l) e (hex-length l)
  where
    by : (x y : Option ℕ) (r : Option Bytes) → hex_of x y r ≡ some b → ((m : Bytes) → r ≡ some m → length l ≡ 2 * length m) → suc (suc (length l)) ≡ 2 * length b
    by none y r e f = cc
    by (some x) none r e f = cc
    by (some x) (some y) none e f = cc
    by (some x) (some y) (some m) e f =
        let i : (16 * x + y) ∷ m ≡ b = cc in
        omega (arith, f m refl, ap length i)

-- The letters before `>`

before-end : (l : Bytes) → before_end (l ++ (62 ∷ [])) ≡ some l
before-end [] = refl
before-end (c ∷ []) = refl
before-end (c ∷ d ∷ l) = ap (λ (r : Option Bytes). on_read r (λ w. some (c ∷ w))) (before-end (d ∷ l))

before-is : (m l : Bytes) → before_end m ≡ some l → m ≡ l ++ (62 ∷ [])
before-is [] l e = cc
before-is (c ∷ []) l e = by (eqb c 62) refl e
  where
    by : (b : Bool) → eqb c 62 ≡ b → pick b (some []) none ≡ some l → c ∷ [] ≡ l ++ (62 ∷ [])
    by true q e = let i : [] ≡ l = cc in rw (← i) (ap (λ n. n ∷ []) (eqb-true c 62 q))
    by false q e = cc
before-is (c ∷ d ∷ m) l e = by (before_end (d ∷ m)) e (before-is (d ∷ m))
  where
    by : (r : Option Bytes) → on_read r (λ w. some (c ∷ w)) ≡ some l → ((k : Bytes) → r ≡ some k → d ∷ m ≡ k ++ (62 ∷ [])) → c ∷ d ∷ m ≡ l ++ (62 ∷ [])
    by none e f = cc
    by (some k) e f =
        let i : c ∷ k ≡ l = cc in
        rw (← i) (ap (λ (x : Bytes). c ∷ x) (f k refl))

-- Pushes that have a form

push-none : (b : Bytes) → 4294967295 < length b → push_of b ≡ none
unfolding push_of
push-none b h =
    rw (lt-leb (length b) 0x4b (omega arith), lt-leb (length b) 255 (omega arith), lt-leb (length b) 65535 (omega arith), lt-leb (length b) 4294967295 h)

push-most : (b p : Bytes) → push_of b ≡ some p → length b ≤ 4294967295
push-most b p e = by (leb (length b) 4294967295) refl
  where
    by : (t : Bool) → leb (length b) 4294967295 ≡ t → length b ≤ 4294967295
    by true q = leb-true (length b) 4294967295 q
    by false q = absurd (let z : ◌≡◌ {A = ℕ} 0 1 = cc (push-none b (leb-false (length b) 4294967295 q)) in omega arith)

-- A word that begins with `<`

abbrev data_read : Bytes → Option Bytes
data_read m = on_read (before_end m) (λ l. on_read (hex_read l) push_read)

-- what stands behind the `<` of a word of data
record DataIn (m : Bytes) : Type 0 where
  letters : Bytes
  bytes : Bytes
  ends : m ≡ letters ++ (62 ∷ [])
  hex : hex_read letters ≡ some bytes
  least : 1 ≤ length bytes
  most : length bytes ≤ 4294967295

data-in : (m p : Bytes) → data_read m ≡ some p → DataIn m
data-in m p e = by (before_end m) refl e
  where
    pushed : (l b : Bytes) → m ≡ l ++ (62 ∷ []) → hex_read l ≡ some b → push_read b ≡ some p → DataIn m
    pushed l [] q h e = never (cc)
    pushed l (c ∷ b) q h e = record { letters = l; bytes = c ∷ b; ends = q; hex = h; least = omega arith; most = push-most (c ∷ b) p e }

    read : (l : Bytes) (r : Option Bytes) → m ≡ l ++ (62 ∷ []) → hex_read l ≡ r → on_read r push_read ≡ some p → DataIn m
    read l none q h e = never (cc)
    read l (some b) q h e = pushed l b q h e

    by : (r : Option Bytes) → before_end m ≡ r → on_read r (λ l. on_read (hex_read l) push_read) ≡ some p → DataIn m
    by none q e = never (cc)
    by (some l) q e = read l (hex_read l) (before-is m l q) refl e

opens-least : (w : Bytes) → opens w ≡ true → 1 ≤ length w
opens-least [] e = never (cc)
opens-least (c ∷ w) e = omega arith

some-push : (b : Bytes) → 1 ≤ length b → push_read b ≡ push_of b
some-push [] h = absurd (omega arith)
some-push (c ∷ b) h = refl

module _ (w : Bytes) (begins : opens w ≡ true) where
  word-data : word_read w ≡ data_read (drop 1 w)
  unfolding word_read
  word-data =
      ap (λ b. pick b (data_read (drop 1 w)) (pick (same (take 2 w) (48 ∷ 120 ∷ [])) (on_read (hex_read (drop 2 w)) unmodelled_read) (code_in name_table w))) begins

  unless : (DataIn (drop 1 w) → ⊥) → word_read w ≡ none
  unless n = word-data ∙ by (data_read (drop 1 w)) refl
    where
      by : (r : Option Bytes) → data_read (drop 1 w) ≡ r → r ≡ none
      by none e = refl
      by (some p) e = absurd (n (data-in (drop 1 w) p e))

  data-length : (d : DataIn (drop 1 w)) → length w ≡ 2 * length d.bytes + 2
  data-length d =
      omega (arith, length-drop 1 w, opens-least w begins, ap length d.ends, length-append d.letters (62 ∷ []), hex-length d.letters d.bytes d.hex)

  pub data-odd : (length w % 2 ≡ 0 → ⊥) → word_read w ≡ none
  data-odd n = unless (λ d. n (omega (arith, data-length d)))

  pub data-short : length w < 4 → word_read w ≡ none
  data-short h = unless (λ d. omega (arith, data-length d, d.least))

  pub data-unended : (get_or w (length w - 1) 0 ≡ 62 → ⊥) → word_read w ≡ none
  data-unended n = unless λ d.
      let k : length w - 1 ≡ 1 + length d.letters = omega (arith, data-length d, hex-length d.letters d.bytes d.hex) in
      n (rw (k, ← (get_or-drop 1 w (length d.letters) 0), d.ends, get_or-append_seam d.letters 62 [] 0))

  letters-are : (d : DataIn (drop 1 w)) → take (length w - 1 - 1) (drop 1 w) ≡ d.letters
  letters-are d =
      rw d.ends (take_at d.letters (62 ∷ []) (length w - 1 - 1) (omega (arith, data-length d, hex-length d.letters d.bytes d.hex)))

  pub data-crooked : (r : Bool) → r ≡ all_digits (take (length w - 1 - 1) (drop 1 w)) → not r ≡ true → word_read w ≡ none
  data-crooked r e n = unless λ d.
      let z : ◌≡◌ {A = ℕ} 0 1 = cc (hex-strange d.letters (ap all_digits (sym (letters-are d)) ∙ sym e ∙ not-true r n), d.hex) in
      omega arith

  pub data-long : 4294967295 < length w / 2 - 1 → word_read w ≡ none
  data-long h = unless (λ d. omega (arith, data-length d, d.most))

  -- the letters of n bytes and `>`
  word-is : (n : ℕ) → drop 1 w ≡ data_letters w n ++ (62 ∷ []) → (b : Bytes) → hex_read (data_letters w n) ≡ some b → 1 ≤ length b → word_read w ≡ push_of b
  word-is n s b h least =
      word-data ∙ ap (λ (r : Option Bytes). on_read r (λ l. on_read (hex_read l) push_read)) (ap before_end s ∙ before-end (data_letters w n))
      ∙ ap (λ (r : Option Bytes). on_read r push_read) h ∙ some-push b least

  pub data-good : length w % 2 ≡ 0 → 4 ≤ length w → get_or w (length w - 1) 0 ≡ 62 → (r : Bool) → r ≡ all_digits (take (length w - 1 - 1) (drop 1 w)) → not r ≡ false
      → length w / 2 - 1 ≤ 4294967295 → DataWord w (length w / 2 - 1)
  data-good even least last r digits so most =
      let n = length w / 2 - 1 in
      let i : length w - 1 - 1 ≡ 2 * n = omega arith in
      let m = drop 1 w in
      let k : suc (2 * n) ≡ length m = omega (arith, length-drop 1 w) in
      let g : get_or m (2 * n) 0 ≡ 62 = get_or-drop 1 w (2 * n) 0 ∙ ap (λ j. get_or w j 0) (omega arith) ∙ last in
      let s : m ≡ data_letters w n ++ (62 ∷ [])
      = sym (take_all (length m) m (omega arith)) ∙ ap (λ j. take j m) (sym k) ∙ take-suc m (2 * n) 0 (omega arith) ∙ ap (λ x. data_letters w n ++ (x ∷ [])) g in
      let a : all_digits (data_letters w n) ≡ true = ap (λ j. all_digits (take j m)) (sym i) ∙ sym digits ∙ not-false r so in
      let t : length (data_letters w n) ≡ 2 * n = length-take (2 * n) m ∙ omega (arith) in
      let h : hex_read (data_letters w n) ≡ some (in_form (hex_read (data_letters w n))) = hex-bytes (data_letters w n) n a t in
      record {
        bytes = h;
        letters = omega arith;
        least = omega arith;
        most = most;
        word = word-is n s (in_form (hex_read (data_letters w n))) h (omega (arith, hex-length (data_letters w n) (in_form (hex_read (data_letters w n))) h));
      }

  -- a word that is in the form is a word of data, by its length
  pub data-known : (p : Bytes) → word_read w ≡ some p → DataWord w (length w / 2 - 1)
  data-known p e =
      let n = length w / 2 - 1 in
      let d = data-in (drop 1 w) p (sym word-data ∙ e) in
      let i : 2 * n ≡ length w - 1 - 1 = omega (arith, data-length d) in
      let l : data_letters w n ≡ d.letters = ap (λ j. take j (drop 1 w)) i ∙ letters-are d in
      let h : hex_read (data_letters w n) ≡ some d.bytes = ap hex_read l ∙ d.hex in
      let b : in_form (hex_read (data_letters w n)) ≡ d.bytes = ap in_form h in
      record {
        bytes = h ∙ ap some (sym b);
        letters = omega (arith, data-length d);
        least = omega (arith, data-length d, d.least);
        most = omega (arith, data-length d, d.most);
        word = word-is n (d.ends ∙ ap (λ (x : Bytes). x ++ (62 ∷ [])) (sym l)) d.bytes h d.least ∙ ap push_of (sym b);
      }

-- Digits

module _ (c : ℕ) (r : R.Option ℕ) (is : r ≡ digit_option (digit_read c)) where
  pub digit-none : r ≡ R.None → digit_read c ≡ none
  digit-none e = by (digit_read c) (sym is ∙ e)
    where
      by : (o : Option ℕ) → digit_option o ≡ R.None → o ≡ none
      by none e = refl
      by (some d) e = cc

  pub digit-some : (d : ℕ) → r ≡ R.Some d → digit_read c ≡ some d
  digit-some d e = by (digit_read c) (sym is ∙ e)
    where
      by : (o : Option ℕ) → digit_option o ≡ R.Some d → o ≡ some d
      by none e = cc
      by (some f) e = let i : f ≡ d = cc in ap some i

-- A word that begins with `0x`

hex_code-least : (w : Bytes) → hex_code w ≡ true → 2 ≤ length w
hex_code-least [] e = never (cc)
hex_code-least (c ∷ []) e = by (eqb c 48) e
  where
    by : (b : Bool) → b && false ≡ true → 2 ≤ 1
    by true e = never (cc)
    by false e = never (cc)
hex_code-least (c ∷ d ∷ w) e = omega arith

module _ (w : Bytes) (other : opens w ≡ false) (begins : hex_code w ≡ true) where
  word-code : word_read w ≡ on_read (hex_read (drop 2 w)) unmodelled_read
  unfolding word_read
  word-code =
      ap (λ b. pick b (data_read (drop 1 w)) (pick (hex_code w) (on_read (hex_read (drop 2 w)) unmodelled_read) (code_in name_table w))) other
      ∙ ap (λ b. pick b (on_read (hex_read (drop 2 w)) unmodelled_read) (code_in name_table w)) begins

  pub code-length : (length w ≡ 4 → ⊥) → word_read w ≡ none
  code-length n = word-code ∙ by (hex_read (drop 2 w)) refl
    where
      by : (r : Option Bytes) → hex_read (drop 2 w) ≡ r → on_read r unmodelled_read ≡ none
      by none e = refl
      by (some []) e = refl
      by (some (b ∷ [])) e = absurd (n (omega (arith, hex_code-least w begins, length-drop 2 w, hex-length (drop 2 w) (b ∷ []) e)))
      by (some (b ∷ c ∷ l)) e = refl

  module _ (four : length w ≡ 4) where
    digits-two : drop 2 w ≡ get_or w 2 0 ∷ get_or w 3 0 ∷ []
    digits-two = drop-cons w 2 0 (omega arith) ∙ ap (λ (l : Bytes). get_or w 2 0 ∷ l) (drop-cons w 3 0 (omega arith) ∙ ap (λ (l : Bytes). get_or w 3 0 ∷ l) (drop_of_length-le w {i = 4} (omega arith)))

    word_two : word_read w ≡ on_read (hex_of (digit_read (get_or w 2 0)) (digit_read (get_or w 3 0)) (some [])) unmodelled_read
    word_two = word-code ∙ ap (λ (l : Bytes). on_read (hex_read l) unmodelled_read) digits-two

    pub code-high : digit_read (get_or w 2 0) ≡ none → word_read w ≡ none
    code-high e = word_two ∙ ap (λ (o : Option ℕ). on_read (hex_of o (digit_read (get_or w 3 0)) (some [])) unmodelled_read) e

    module _ (x : ℕ) (high : digit_read (get_or w 2 0) ≡ some x) where
      word-one : word_read w ≡ on_read (hex_of (some x) (digit_read (get_or w 3 0)) (some [])) unmodelled_read
      word-one = word_two ∙ ap (λ (o : Option ℕ). on_read (hex_of o (digit_read (get_or w 3 0)) (some [])) unmodelled_read) high

      pub code-low : digit_read (get_or w 3 0) ≡ none → word_read w ≡ none
      code-low e = word-one ∙ ap (λ (o : Option ℕ). on_read (hex_of (some x) o (some [])) unmodelled_read) e

      module _ (y : ℕ) (low : digit_read (get_or w 3 0) ≡ some y) where
        word-class : word_read w ≡ pick (eqb (class_number (16 * x + y)) 0) (some ((16 * x + y) ∷ [])) none
        word-class = word-one ∙ ap (λ (o : Option ℕ). on_read (hex_of (some x) o (some [])) unmodelled_read) low

        pub code-modelled : (r : ℕ) → r ≡ class_number (16 * x + y) → (r ≡ 0 → ⊥) → word_read w ≡ none
        code-modelled r e n =
            word-class ∙ ap (λ b. pick b (some ((16 * x + y) ∷ [])) none) (ne_eqb (class_number (16 * x + y)) 0 (λ z. n (e ∙ z)))

        pub code-unmodelled : (r : ℕ) → r ≡ class_number (16 * x + y) → r ≡ 0 → word_read w ≡ some ((16 * x + y) ∷ [])
        code-unmodelled r e z =
            word-class ∙ ap (λ b. pick b (some ((16 * x + y) ∷ [])) none) (eq-eqb (class_number (16 * x + y)) 0 (sym e ∙ z))

-- A name

abbrev Single : Option Bytes → Type 0
Single none = Unit {0}
Single (some []) = ⊥
Single (some (c ∷ [])) = Unit {0}
Single (some (c ∷ d ∷ l)) = ⊥

code-single : (l : List Named) (w : Bytes) → Single (code_in l w)
code-single [] w = tt
code-single (n ∷ l) w = by (same n.name w) (code-single l w)
  where
    by : (b : Bool) → Single (code_in l w) → Single (pick b (some (n.code ∷ [])) (code_in l w))
    by true s = tt
    by false s = s

read_name : (w : Bytes) → opens w ≡ false → hex_code w ≡ false → word_read w ≡ code_in name_table w
unfolding word_read
read_name w o h =
    ap (λ b. pick b (data_read (drop 1 w)) (pick (hex_code w) (on_read (hex_read (drop 2 w)) unmodelled_read) (code_in name_table w))) o
    ∙ ap (λ b. pick b (on_read (hex_read (drop 2 w)) unmodelled_read) (code_in name_table w)) h

pub word-name : (w : Bytes) (r : R.Option ℕ) (h : Bool) → opens w ≡ false → h ≡ hex_code w → h ≡ false → r ≡ code_option (code_in name_table w) → Reads r w
word-name w r h o q k e =
    subst (λ (x : R.Option ℕ). Reads x w) (sym e) (by (code_in name_table w) (read_name w o (sym q ∙ k)) (code-single name_table w))
  where
    by : (o : Option Bytes) → word_read w ≡ o → Single o → Reads (code_option o) w
    by none e s = e
    by (some []) e s = absurd s
    by (some (c ∷ [])) e s = e
    by (some (c ∷ d ∷ l)) e s = absurd s
