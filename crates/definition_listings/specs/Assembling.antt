-- Document 02, L4: the assembler.
use Rattle.std.specs.Prelude.{Bool, true, false, ◌&&◌, List, [], ◌∷◌, ◌++◌, ℕ, ◌+◌, ◌-◌, ◌*◌, leb, eqb, length, take, drop}
use Rattle.std.proofs.Math.Option.{Option, none, some}
use Rattle.definition.specs.Basics.{Bytes, pick}
use Rattle.definition.specs.Classes.{class_number}
use Rattle.definition.specs.Lines.{text}
use Rattle.definition_listings.specs.Listing.{Converted, unwritten, put}
use Rattle.definition_listings.specs.OpcodeNames.{Named, name_table}
use Rattle.definition.specs.Refusals.{refused_at, strange_word}
use Rattle.definition_listings.specs.Shortest.{push_of}

-- what is read next, where something was read before
abbrev pub on_read : {A B : Type 0} → Option A → (A → Option B) → Option B
on_read none next = none
on_read (some x) next = next x

-- a hexadecimal digit, 0 to 9 or a to f
abbrev pub digit_read : ℕ → Option ℕ
digit_read c = pick (leb 48 c && leb c 57) (some (c - 48)) (pick (leb 97 c && leb c 102) (some (c - 87)) none)

-- bytes in hexadecimal, two digits to a byte
abbrev pub hex_read : Bytes → Option Bytes
hex_read [] = some []
hex_read (c ∷ []) = none
hex_read (c ∷ d ∷ l) =
    on_read (digit_read c) (λ x. on_read (digit_read d) (λ y. on_read (hex_read l) (λ bs. some ((16 * x + y) ∷ bs))))

-- the letters in front of a `>` that comes last
abbrev pub before_end : Bytes → Option Bytes
before_end [] = none
before_end (c ∷ []) = pick (eqb c 62) (some []) none
before_end (c ∷ d ∷ l) = on_read (before_end (d ∷ l)) (λ w. some (c ∷ w))

-- a push of one byte or more; no bytes are written `Op0`
abbrev pub push_read : Bytes → Option Bytes
push_read [] = none
push_read (b ∷ l) = push_of (b ∷ l)

-- one code that is unmodelled
abbrev pub unmodelled_read : Bytes → Option Bytes
unmodelled_read [] = none
unmodelled_read (b ∷ []) = pick (eqb (class_number b) 0) (some (b ∷ [])) none
unmodelled_read (b ∷ c ∷ l) = none

-- two texts are the same
abbrev pub same : Bytes → Bytes → Bool
same [] [] = true
same [] (d ∷ m) = false
same (c ∷ l) [] = false
same (c ∷ l) (d ∷ m) = eqb c d && same l m

-- the code of this name
abbrev pub code_in : List Named → Bytes → Option Bytes
code_in [] w = none
code_in (n ∷ l) w = pick (same n.name w) (some (n.code ∷ [])) (code_in l w)

-- the bytes of a word, none for one "outside this form"
unfoldable pub word_read : Bytes → Option Bytes
word_read w =
    pick (same (take 1 w) (text "<")) (on_read (before_end (drop 1 w)) (λ l. on_read (hex_read l) push_read))
    (pick (same (take 2 w) (text "0x")) (on_read (hex_read (drop 2 w)) unmodelled_read)
    (code_in name_table w))

-- c in front of the first word
abbrev pub in_front : ℕ → List Bytes → List Bytes
in_front c [] = (c ∷ []) ∷ []
in_front c (w ∷ ws) = (c ∷ w) ∷ ws

-- "A listing is words parted by one space": one word more than there are spaces
abbrev pub words_from : Bytes → List Bytes
words_from [] = [] ∷ []
words_from (c ∷ l) = pick (eqb c 32) ([] ∷ words_from l) (in_front c (words_from l))

-- and an empty listing has none
abbrev pub words : Bytes → List Bytes
words [] = []
words (c ∷ l) = words_from (c ∷ l)

-- what becomes of a listing: a fragment, or a strange word at this offset
pub data Assembly : Type 0 where
  gives : Bytes → Assembly
  strange : ℕ → Assembly

-- a word at this offset, and what becomes of those behind it: "offset that of the first word outside this form"
abbrev pub on_word : Option Bytes → ℕ → Assembly → Assembly
on_word none at rest = strange at
on_word (some b) at (gives l) = gives (b ++ l)
on_word (some b) at (strange offset) = strange offset

-- the words, the first of them at this offset
abbrev pub assembly : ℕ → List Bytes → Assembly
assembly at [] = gives []
assembly at (w ∷ ws) = on_word (word_read w) at (assembly (at + length w + 1) ws)

-- "26 or 3 before 27"
abbrev pub on_assembly : Assembly → Bytes → Converted
on_assembly (gives l) out = put l out
on_assembly (strange offset) out = unwritten (refused_at offset strange_word) out

-- the assembler
unfoldable pub assembled : Bytes → Bytes → Converted
assembled listing out = on_assembly (assembly 0 (words listing)) out
