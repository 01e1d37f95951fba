-- Laws of the words of a row: the word of its data, and of its code.
use mathlib.Core.Bool.{Bool, true, false}
use mathlib.Core.List.{[], ◌∷◌, ◌++◌, append_assoc}
use mathlib.Core.Path.{◌≡◌, refl, sym, ap, ◌∙◌}
use Prim.Native.Nat.{ℕ, ◌-◌, ◌≤◌, ◌<◌}
use native.Mathlib.Omega.{arith}
use borrow.Author.Tests.{lt-ltb, le-ltb, ltb-true, ltb-false, le-leb, lt-leb, leb-true, leb-false}
use lib.Dec.{T, leb, ltb, leb→le}
use lib.ListN.{length, replicate, take, drop, length-append, length-take}
use Rattle.std.specs.Prelude.{min, Some, None, Ok, Err}
use Rattle.definition.specs.Basics.{Bytes, pick}
use Rattle.definition.specs.Classes.{class_number}
use Rattle.definition.specs.Decoding.{Code, instructions}
use Rattle.definition.specs.Lines.{text}
use Rattle.definition_listings.specs.Listing.{hex_bytes, data_word, code_word}
use Rattle.definition_listings.specs.OpcodeNames.{name_table, name_of}
use Rattle.definition.specs.Replay.{AreBytes}
use Rattle.decode.specs.View.{Decoded, decoded_at, code_at, data_start}
use Rattle.decode.specs.declared.Instruction.{Instruction}
use Rattle.decode.specs.declared.Malformed.{Malformed}
use Rattle.decode.proofs.Codes.{InstructionAt, code-start, code-instruction, code-ends, code-malformed}
use Rattle.listing.proofs.Decoded.{data-least, data-literal}
use Rattle.listing.proofs.Hex.{hex-length}
use Rattle.opcodes.proofs.Every.{every, at}
use Rattle.text.specs.View.{Puts}
use Rattle.text.specs.declared.Lent.{Lent}
use Rattle.text.proofs.Puts.{front, puts_as, puts-none, then-puts}
use Rattle.log_rows.specs.Rows.{indented, shown_data, first_word, word}

-- data of more than 8 bytes
pub data-cut : {a b c d : Lent} (l : Bytes) → 8 < length l → Puts a (text "<") b → Puts b (hex_bytes (take 6 l)) c → Puts c (text "..>") d → Puts a (shown_data l) d
unfolding shown_data
data-cut l h u v w = rw (lt-ltb 8 (length l) h) (then-puts (then-puts u v) w)

-- data of at most 8 bytes
pub data-short : {a b : Lent} (l : Bytes) → length l ≤ 8 → Puts a (data_word l) b → Puts a (shown_data l) b
unfolding shown_data
data-short l h u = rw (le-ltb 8 (length l) h) u

-- data of at most 8 bytes have 18 letters at most
data-18 : (l : Bytes) → length l ≤ 8 → length (data_word l) ≤ 18
data-18 [] h = omega arith
data-18 (b ∷ l) h = omega (arith, hex-length (b ∷ l), length-append (hex_bytes (b ∷ l)) (text ">"))

-- and so has what is shown of more
shown-18 : (l : Bytes) → length (shown_data l) ≤ 18
unfolding shown_data
shown-18 l = by (ltb 8 (length l)) refl
  where
    by : (b : Bool) → ltb 8 (length l) ≡ b → length (pick b (text "<" ++ hex_bytes (take 6 l) ++ text "..>") (data_word l)) ≤ 18
    by true e =
        omega (arith, ltb-true 8 (length l) e, hex-length (take 6 l), length-take 6 l, length-append (text "<" ++ hex_bytes (take 6 l)) (text "..>"), length-append (text "<") (hex_bytes (take 6 l)))
    by false e = data-18 l (ltb-false 8 (length l) e)

-- the word of a code has 24 letters at most

abbrev short : ℕ → Bool
short code = leb (length (code_word code)) 24

all_short : T (every short 256 0)
unfolding name_of name_table class_number
all_short = tt

code-24 : (code : ℕ) → code < 256 → length (code_word code) ≤ 24
code-24 code h = leb→le (length (code_word code)) 24 (at short 256 0 code all_short (omega arith) (omega arith))

-- a word in 26 columns, by the bytes that it was put into
pub indented-is : (line : Bytes) (right : ℕ) {a b : Lent} {w lent letters spaced new : Bytes} {size : ℕ} → a.bytes.now ≡ lent → a.size ≡ 0 → Puts a w b → length w ≤ length lent
    → size ≡ b.size → letters ≡ b.bytes.now → spaced ≡ line ++ replicate (min right (26 - size)) 32 → new ≡ spaced ++ take size letters
    → new ≡ line ++ indented right w
unfolding indented
indented-is line right {w = w} e z p h s l k n =
    let f = front e z p h in
    n ∙ rw (k, l, s, f.0, f.1) (append_assoc line (replicate (min right (26 - length w)) 32) w)

-- the word of an instruction, by what `decode_at` finds in its bytes
module _ (s : Bytes) where
  word_of : (c : Code) → code_at s 0 ≡ c → first_word (instructions c) ≡ word s
  unfolding word
  word_of c e = ap (λ (x : Code). first_word (instructions x)) (sym (code-start s ∙ e))

  module _ (bytes : AreBytes s) (i : Instruction) (e : decoded_at s 0 ≡ Ok (Some i)) where
    pub stands : InstructionAt s 0 i
    stands = code-instruction s 0 bytes i e

    pub data-before : i.opcode ≤ 0x4e → data_start s 0 ≤ i.next
    data-before h = data-least s 0 i stands e h

    pub word-code : 0x4e < i.opcode → code_word i.opcode ≡ word s
    word-code h =
        ap (λ b. pick b (shown_data stands.literal) (code_word i.opcode)) (sym (lt-leb i.opcode 0x4e h)) ∙ word_of _ stands.code

    pub word-data : i.opcode ≤ 0x4e → shown_data (take (i.next - data_start s 0) (drop (data_start s 0) s)) ≡ word s
    word-data h =
        ap shown_data (sym (data-literal s 0 i stands e h))
        ∙ ap (λ b. pick b (shown_data stands.literal) (code_word i.opcode)) (sym (le-leb i.opcode 0x4e h))
        ∙ word_of _ stands.code

  pub word_end : (a : Lent) → decoded_at s 0 ≡ Ok None → Puts a (word s) a
  word_end a e = puts_as (word_of _ (code-ends s 0 e).0) (puts-none a)

  pub word-malformed : (a : Lent) (m : Malformed) → decoded_at s 0 ≡ Err m → Puts a (word s) a
  word-malformed a m e = puts_as (word_of _ (code-malformed s 0 e).0) (puts-none a)

  -- it has 26 letters at most
  pub word-26 : AreBytes s → length (word s) ≤ 26
  word-26 bytes = by (decoded_at s 0) refl
    where
      of-instruction : (i : Instruction) → decoded_at s 0 ≡ Ok (Some i) → (b : Bool) → leb i.opcode 0x4e ≡ b → length (word s) ≤ 26
      of-instruction i e true l =
          omega (arith, ap length (word-data bytes i e (leb-true i.opcode 0x4e l)), shown-18 (take (i.next - data_start s 0) (drop (data_start s 0) s)))
      of-instruction i e false l =
          omega (arith, ap length (word-code bytes i e (leb-false i.opcode 0x4e l)), code-24 i.opcode (stands bytes i e).opcode_byte)

      by : (r : Decoded) → decoded_at s 0 ≡ r → length (word s) ≤ 26
      by (Ok (Some i)) e = of-instruction i e (leb i.opcode 0x4e) refl
      by (Ok None) e = omega (arith, ap length (word_of _ (code-ends s 0 e).0))
      by (Err m) e = omega (arith, ap length (word_of _ (code-malformed s 0 e).0))
