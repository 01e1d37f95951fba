-- How many bytes a word has.
use mathlib.Core.Bool.{Bool, true, false, not}
use mathlib.Core.List.{[], ◌∷◌, ◌++◌}
use mathlib.Core.Option.{none, some}
use mathlib.Core.Path.{◌≡◌, refl, sym, ap, subst, ◌∙◌}
use Prim.Native.Nat.{ℕ, ◌+◌, ◌-◌, ◌*◌, ◌/◌, ◌%◌, ◌≤◌, ◌<◌}
use native.Mathlib.Omega.{arith}
use borrow.Author.Tests.{le-leb, lt-leb, leb-false}
use lib.Dec.{leb}
use lib.ListN.{length, take, drop, get_or, length-append, length-take, length-drop}
use Rattle.definition.specs.Basics.{Bytes, pick}
use Rattle.definition_listings.specs.Assembling.{hex_read, word_read}
use Rattle.definition_listings.specs.Shortest.{push_of, in_form, lowest_first}
use Rattle.definition_listings.specs.OpcodeNames.{name_table}
use Rattle.std.specs.Prelude as R
use Rattle.words.specs.View.{opens, all_digits, data_letters, DataWord, Reads, head_of, bytes_of, Counted, Sized}
use Rattle.names.proofs.Tables.{never}
use Rattle.words.proofs.Words.{hex-length, data-good}

-- The head of a push

module _ (n : ℕ) where
  pub head-4b : n ≤ 0x4b → head_of n ≡ n ∷ []
  head-4b h = rw (le-leb n 0x4b h)

  pub head-4c : 0x4b < n → n ≤ 255 → head_of n ≡ 0x4c ∷ lowest_first 1 n
  head-4c g h = rw (lt-leb n 0x4b g, le-leb n 255 h)

  pub head-4d : 255 < n → n ≤ 65535 → head_of n ≡ 0x4d ∷ lowest_first 2 n
  head-4d g h = rw (lt-leb n 0x4b (omega arith), lt-leb n 255 g, le-leb n 65535 h)

  pub head-4e : 65535 < n → head_of n ≡ 0x4e ∷ lowest_first 4 n
  head-4e g = rw (lt-leb n 0x4b (omega arith), lt-leb n 255 (omega arith), lt-leb n 65535 g)

-- a push is its head and its data
pub push-is : (b : Bytes) → length b ≤ 4294967295 → push_of b ≡ some (head_of (length b) ++ b)
unfolding push_of
push-is b h = by (leb (length b) 0x4b) (leb (length b) 255) (leb (length b) 65535) (leb (length b) 4294967295) (le-leb (length b) 4294967295 h)
  where
    n : ℕ
    n = length b

    by : (t u v m : Bool) → m ≡ true
        → pick t (some (n ∷ b)) (pick u (some (0x4c ∷ lowest_first 1 n ++ b)) (pick v (some (0x4d ∷ lowest_first 2 n ++ b)) (pick m (some (0x4e ∷ lowest_first 4 n ++ b)) none)))
        ≡ some (pick t (n ∷ []) (pick u (0x4c ∷ lowest_first 1 n) (pick v (0x4d ∷ lowest_first 2 n) (0x4e ∷ lowest_first 4 n))) ++ b)
    by true u v m e = refl
    by false true v m e = refl
    by false false true m e = refl
    by false false false true e = refl
    by false false false false e = cc

-- A word of data, by the number of its bytes

module _ (w : Bytes) (n : ℕ) (d : DataWord w n) where
  abbrev pub data_of : Bytes
  data_of = in_form (hex_read (data_letters w n))

  pub data-size : length data_of ≡ n
  data-size =
      omega (arith, hex-length (data_letters w n) data_of d.bytes, length-take (2 * n) (drop 1 w), length-drop 1 w, d.letters)

  pub data-read : word_read w ≡ some (head_of n ++ data_of)
  data-read =
      d.word ∙ push-is data_of (omega (arith, data-size, d.most)) ∙ ap (λ m. some (head_of m ++ data_of)) data-size

-- no head is longer than its data and two bytes
head-most : (n : ℕ) → length (head_of n) ≤ n + 2
head-most n = by (leb n 0x4b) (leb n 255) (leb n 65535) refl refl refl
  where
    by : (t u v : Bool) → leb n 0x4b ≡ t → leb n 255 ≡ u → leb n 65535 ≡ v
        → length (pick t (n ∷ []) (pick u (0x4c ∷ lowest_first 1 n) (pick v (0x4d ∷ lowest_first 2 n) (0x4e ∷ lowest_first 4 n)))) ≤ n + 2
    by true u v p q r = omega arith
    by false true v p q r = omega arith
    by false false true p q r = omega (arith, leb-false n 255 q)
    by false false false p q r = omega (arith, leb-false n 65535 r)

pub head-least : (n : ℕ) → 1 ≤ length (head_of n)
head-least n = by (leb n 0x4b) (leb n 255) (leb n 65535)
  where
    by : (t u v : Bool) → 1 ≤ length (pick t (n ∷ []) (pick u (0x4c ∷ lowest_first 1 n) (pick v (0x4d ∷ lowest_first 2 n) (0x4e ∷ lowest_first 4 n))))
    by true u v = omega arith
    by false true v = omega arith
    by false false true = omega arith
    by false false false = omega arith

no_word : word_read [] ≡ none
unfolding word_read name_table
no_word = refl

word-least : (w b : Bytes) → word_read w ≡ some b → 1 ≤ length w
word-least [] b e = never (cc (no_word))
word-least (c ∷ w) b e = omega arith

sized-by : (w b : Bytes) → word_read w ≡ some b → 1 ≤ length b → length b ≤ length w → Counted w (length b)
sized-by w b e g h =
    let i : bytes_of w ≡ b = ap in_form e in
    record { size = ap length (sym i); good = e ∙ ap some (sym i); least = g; most = h }

-- a code is one byte
pub sized-read : (w : Bytes) (r : R.Option ℕ) → Reads r w → (s : R.Option ℕ) → (r ≡ R.None → s ≡ R.None) → ((c : ℕ) → r ≡ R.Some c → s ≡ R.Some 1) → Sized w s
sized-read w R.None is s n c = subst (Sized w) (sym (n refl)) is
sized-read w (R.Some c) is s n m = subst (Sized w) (sym (m c refl)) (sized-by w (c ∷ []) is (omega arith) (word-least w (c ∷ []) is))

sized-push : (w : Bytes) (n : ℕ) → DataWord w n → (k : ℕ) → k ≡ length (head_of n) + n → Counted w k
sized-push w n d k h =
    let l : length (head_of n ++ data_of w n d) ≡ k = length-append (head_of n) (data_of w n d) ∙ omega (arith, data-size w n d) in
    subst (Counted w) l (sized-by w (head_of n ++ data_of w n d) (data-read w n d) (omega (arith, head-least n)) (omega (arith, head-most n, d.letters)))

-- a word of data that is in the form
pub sized-data : (w : Bytes) (k : ℕ) → opens w ≡ true → length w % 2 ≡ 0 → 4 ≤ length w → get_or w (length w - 1) 0 ≡ 62
    → (r : Bool) → r ≡ all_digits (take (length w - 1 - 1) (drop 1 w)) → not r ≡ false → length w / 2 - 1 ≤ 4294967295
    → k ≡ length (head_of (length w / 2 - 1)) + (length w / 2 - 1) → Counted w k
sized-data w k begins even least last r digits so most h =
    sized-push w (length w / 2 - 1) (data-good w begins even least last r digits so most) k h
