-- Document 02, L4: "Listings as people write them": the words, and the lister.
use Rattle.std.specs.Prelude.{List, [], ◌∷◌, ◌++◌, ℕ, leb, eqb, length, drop}
use Rattle.std.proofs.Math.Option.{Option, none, some}
use Rattle.definition.specs.Basics.{Bytes, pick}
use Rattle.definition.specs.Classes.{class_number}
use Rattle.definition.specs.Decoding.{Instruction, decode, instructions, malformed_at}
use Rattle.definition_listings.specs.Hex.{hex_byte}
use Rattle.definition.specs.Lines.{text}
use Rattle.definition_listings.specs.OpcodeNames.{name_of}
use Rattle.definition.specs.Refusals.{Answer, refused_at, malformed_fragment, output_short}

-- bytes in hexadecimal, "small letters"
abbrev pub hex_bytes : Bytes → Bytes
hex_bytes [] = []
hex_bytes (b ∷ l) = hex_byte b ++ hex_bytes l

-- "A data push is `<` and its bytes in hexadecimal .. and `>` ..; data of 0 bytes is `Op0`"
abbrev pub data_word : Bytes → Bytes
data_word [] = text "Op0"
data_word (b ∷ l) = text "<" ++ hex_bytes (b ∷ l) ++ text ">"

-- "A modelled opcode that isn't a data push is its name there .. Unmodelled codes are `0x` and two digits"
abbrev pub code_word : ℕ → Bytes
code_word code = pick (eqb (class_number code) 0) (text "0x" ++ hex_byte code) (name_of code)

-- the word of an instruction; 00 to 4e are the data pushes
abbrev pub word_of : Instruction → Bytes
word_of i = pick (leb i.opcode 0x4e) (data_word i.literal) (code_word i.opcode)

-- the words of instructions, "parted by one space"
abbrev pub parted : List Instruction → Bytes
parted [] = []
parted (i ∷ []) = word_of i
parted (i ∷ j ∷ is) = word_of i ++ text " " ++ parted (j ∷ is)

-- The lent output

-- number and offset, the bytes written, and the output afterwards
pub record Converted : Type 0 where
  pub number : ℕ
  pub offset : ℕ
  pub size : ℕ
  pub out : Bytes

-- "refusals leave a lent output as it was"
abbrev pub unwritten : Answer → Bytes → Converted
unwritten answer out = record { number = answer.number; offset = answer.offset; size = 0; out = out }

-- "and success its rest"; "27 output short, when the lent buffer can't take the whole result"
abbrev pub put : Bytes → Bytes → Converted
put result out =
    pick (leb (length result) (length out))
    (record { number = 0; offset = 0; size = length result; out = result ++ drop (length result) out })
    (unwritten (refused_at 0 output_short) out)

-- "26 or 3 before 27"
abbrev pub on_decoded : Option ℕ → Bytes → Bytes → Converted
on_decoded none result out = put result out
on_decoded (some offset) result out = unwritten (refused_at offset malformed_fragment) out

-- the lister
unfoldable pub listed : Bytes → Bytes → Converted
listed fragment out = on_decoded (malformed_at (decode fragment)) (parted (instructions (decode fragment))) out
