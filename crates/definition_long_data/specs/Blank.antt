-- Request L3, "Long data tells nothing". Words in quotes are the request's.
use Rattle.std.specs.Prelude.{Bool, true, ◌&&◌, List, [], ◌∷◌, ◌⊎◌, ◌≡◌, ℕ, zero, suc, ◌+◌, leb, eqb, length, take}
use Rattle.definition.specs.Basics.{Bytes, pick}
use Rattle.definition.specs.Decoding.{number, Instruction, Code, ends, malformed, then, decode}
use Rattle.definition.specs.Stacks.{Rules}
use Rattle.definition.specs.Walk.{analysis}
use Rattle.definition.specs.Papers.{Part, bytes_of, header_size, initialiser, entries, bodies, good_header, mark_paper}

-- "data of 9 or more bytes"
abbrev pub long : ℕ → Bool
long size = leb 9 size

-- how many bytes of length follow an opcode
abbrev pub length_bytes : ℕ → ℕ
length_bytes opcode = pick (eqb opcode 0x4c) 1 (pick (eqb opcode 0x4d) 2 (pick (eqb opcode 0x4e) 4 0))

-- how many bytes of data are to follow, whether they are all there or not; 0 for a code that stands alone
abbrev pub data_bytes : ℕ → Bytes → ℕ
data_bytes opcode rest = pick (leb 0x01 opcode && leb opcode 0x4b) opcode (number (take (length_bytes opcode) rest))

-- These bytes with 00 in place of long data. To the instruction before belong `kept` of them, which stay, and then `blanks`, which
-- become 00. 51 09 and nine times 07 become 51 09 and nine times 00; 4c 20 07 07, which is broken off, becomes 4c 20 00 00.
abbrev pub blank_from : ℕ → ℕ → Bytes → Bytes
blank_from kept blanks [] = []
blank_from zero zero (b ∷ rest) =
    b ∷ pick (long (data_bytes b rest)) (blank_from (length_bytes b) (data_bytes b rest) rest) (blank_from (length_bytes b + data_bytes b rest) 0 rest)
blank_from zero (suc blanks) (b ∷ rest) = 0x00 ∷ blank_from 0 blanks rest
blank_from (suc kept) blanks (b ∷ rest) = b ∷ blank_from kept blanks rest

-- a fragment, blanked
unfoldable pub blank : Bytes → Bytes
blank fragment = blank_from 0 0 fragment

-- "two fragments of the same length that decode to the same opcodes at the same offsets and differ only within data of 9 or more
-- bytes": they are blanked alike
abbrev pub Blanked : Bytes → Bytes → Type 0
Blanked f g = blank f ≡ blank g

-- Wider, on decoded code: two instructions whose data has one length, and differs only where it is long ..
pub record AlikeInstructions (i j : Instruction) : Type 0 where
  pub opcode : i.opcode ≡ j.opcode
  pub offset : i.offset ≡ j.offset
  pub size : length i.literal ≡ length j.literal
  pub literal : (i.literal ≡ j.literal) ⊎ (long (length i.literal) ≡ true)

-- .. one after another, to the end or to "a malformed pair breaking off at the same offset", whatever stands there ..
pub data AlikeCode : Code → Code → Type 0 where
  both_end : AlikeCode ends ends
  both_malformed : (offset : ℕ) → AlikeCode (malformed offset) (malformed offset)
  both_then : {i j : Instruction} {c d : Code} → AlikeInstructions i j → AlikeCode c d → AlikeCode (then i c) (then j d)

-- .. in fragments of one length
abbrev pub Alike : Bytes → Bytes → Type 0
Alike f g = (length f ≡ length g) × (AlikeCode (decode f) (decode g))

-- each of these parts of the two papers
abbrev pub EachPart : (Bytes → Bytes → Type 0) → Bytes → Bytes → List Part → Type 0
EachPart Related p q [] = Unit {0}
EachPart Related p q (x ∷ xs) = (Related (bytes_of p x) (bytes_of q x)) × (EachPart Related p q xs)

-- "whole papers with the same header that differ in the same way": of one length, with one header as far as there is one, and,
-- where it is good, with parts that are related. Bytes in no part may differ.
pub record RelatedPapers (Related : Bytes → Bytes → Type 0) (p q : Bytes) : Type 0 where
  pub size : length p ≡ length q
  pub header : take (header_size p) p ≡ take (header_size p) q
  pub parts : good_header p ≡ true → EachPart Related p q (initialiser p ∷ bodies (entries p))

-- The claim. "From the same start heights and the same lent log, the two verdicts are equal and so are the two logs. It holds for
-- refused fragments too .. and for whole papers": of either relation.
pub record TellsNothing (R : Rules) (Related : Bytes → Bytes → Type 0) : Type 0 where
  pub fragments : (f g : Bytes) → Related f g → (main alt : ℕ) (log : List ℕ) → analysis R f main alt log ≡ analysis R g main alt log
  pub papers : (p q : Bytes) → RelatedPapers Related p q → (log : List ℕ) → mark_paper R p log ≡ mark_paper R q log
