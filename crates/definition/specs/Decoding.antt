-- Section 1: decoding and the number form.
use Rattle.std.specs.Prelude.{Bool, true, ◌&&◌, ◌||◌, not, List, [], ◌∷◌, ℕ, zero, suc, ◌+◌, ◌-◌, ◌*◌, ◌/◌, ◌%◌, ◌^◌, ltb, leb, eqb, length, take, drop}
use Rattle.std.proofs.Math.Option.{Option, none, some}
use Rattle.definition.specs.Basics.{Bytes, pick}

-- Instructions

-- the number of these bytes, lowest first
abbrev pub number : Bytes → ℕ
number [] = 0
number (b ∷ l) = b + 256 * number l

-- "To the marker an instruction is its opcode, its offset and a literal, unknown or exact". Here the literal is all the
-- bytes that the instruction pushes, no bytes for one that pushes no literal; what the marker knows of it is `known` of Walk.
pub record Instruction : Type 0 where
  pub opcode : ℕ
  pub offset : ℕ
  pub literal : Bytes

-- what stands at the front: a whole instruction (how many bytes follow its opcode; its literal), or one whose length or
-- data bytes are missing
pub data Front : Type 0 where
  whole : ℕ → Bytes → Front
  short : Front

-- "00 pushes no bytes, 4f pushes 81, 51 to 60 push one byte, 01 to 10"; other codes that stand alone push no literal
abbrev pub alone : ℕ → Bytes
alone opcode =
    pick (eqb opcode 0x4f) (0x81 ∷ [])
    (pick (leb 0x51 opcode && leb opcode 0x60) ((opcode - 0x50) ∷ []) [])

-- `size` data bytes, after `before` bytes of length
abbrev pub pushes : ℕ → ℕ → Bytes → Front
pushes before size rest = pick (leb size (length rest)) (whole (before + size) (take size rest)) short

-- the data behind a length of n bytes: behind 4d, 02 00 aa bb cc is `whole 4` with aa bb, the length and two bytes of data
abbrev pub sized : ℕ → Bytes → Front
sized n rest = pick (leb n (length rest)) (pushes n (number (take n rest)) (drop n rest)) short

-- "Codes 01 to 4b are followed by that many data bytes; 4c, 4d, 4e by a length of 1, 2 or 4 bytes, lowest first, then
-- the data. All others stand alone."
unfoldable pub front : ℕ → Bytes → Front
front opcode rest =
    pick (leb 0x01 opcode && leb opcode 0x4b) (pushes 0 opcode rest)
    (pick (eqb opcode 0x4c) (sized 1 rest)
    (pick (eqb opcode 0x4d) (sized 2 rest)
    (pick (eqb opcode 0x4e) (sized 4 rest)
    (whole 0 (alone opcode)))))

-- "yields its instructions in order, then the end or 3": what a reading head on a fragment yields
pub data Code : Type 0 where
  ends : Code
  malformed : ℕ → Code
  then : Instruction → Code → Code

-- "Missing length or data bytes make the fragment malformed"; else the code goes on behind the instruction
abbrev pub on_front : Front → ℕ → ℕ → (ℕ → Code) → Code
on_front (whole after literal) opcode offset next = then (record { opcode = opcode; offset = offset; literal = literal }) (next after)
on_front short opcode offset next = malformed offset

-- The code of these bytes, the first of them at `offset`; `passing` of them belong to the instruction before. Of 02 aa bb 51 at
-- 0, 02 is an instruction with the literal aa bb, after which 2 bytes are passed, aa and bb; at 3 stands 51; then the code ends.
abbrev pub decode_from : ℕ → ℕ → Bytes → Code
decode_from passing offset [] = ends
decode_from zero offset (b ∷ rest) = on_front (front b rest) b offset (λ after. decode_from after (offset + 1) rest)
decode_from (suc passing) offset (b ∷ rest) = decode_from passing (offset + 1) rest

-- the code of a fragment
unfoldable pub decode : Bytes → Code
decode fragment = decode_from 0 0 fragment

-- the instructions before the end, or before where the fragment is malformed
abbrev pub instructions : Code → List Instruction
instructions ends = []
instructions (malformed offset) = []
instructions (then i code) = i ∷ instructions code

-- where the fragment is malformed, if it is
abbrev pub malformed_at : Code → Option ℕ
malformed_at ends = none
malformed_at (malformed offset) = some offset
malformed_at (then i code) = malformed_at code

-- Number form

-- a whole number: n, or n below zero
pub data Integer : Type 0 where
  plus : ℕ → Integer
  minus : ℕ → Integer

-- n in bytes, lowest first, with no 00 at the end: 300 is 2c 01; zero is empty. `most` is how many bytes at most: n are enough.
abbrev pub digits : ℕ → ℕ → Bytes
digits zero n = []
digits (suc most) zero = []
digits (suc most) (suc n) = suc n % 256 ∷ digits most (suc n / 256)

-- "top bit of the last byte is the sign": the sign, 00 or 80, into that bit, or into one more byte where the bit is taken.
-- 05 with 80 is 85; 80 with 00 is 80 00.
abbrev pub signed : ℕ → Bytes → Bytes
signed sign [] = []
signed sign (b ∷ []) = pick (ltb b 0x80) ((b + sign) ∷ []) (b ∷ sign ∷ [])
signed sign (b ∷ c ∷ l) = b ∷ signed sign (c ∷ l)

-- `serialize_i64`, of any whole number
unfoldable pub serialize : Integer → Bytes
serialize (plus n) = signed 0x00 (digits n n)
serialize (minus n) = signed 0x80 (digits n n)

-- the last byte, 0 if there is none
abbrev pub last : Bytes → ℕ
last [] = 0
last (b ∷ []) = b
last (b ∷ c ∷ l) = last (c ∷ l)

-- the last byte is neither 00 nor 80, "unless the byte before it has its top bit set"
abbrev pub minimal : Bytes → Bool
minimal [] = true
minimal (b ∷ []) = not (eqb b 0x00 || eqb b 0x80)
minimal (b ∷ c ∷ []) = leb 0x80 b || not (eqb c 0x00 || eqb c 0x80)
minimal (b ∷ c ∷ d ∷ l) = minimal (c ∷ d ∷ l)

-- What these bytes, in number form, stand for; the sign bit, 80 in the last byte, is taken off: 85 is minus 5, 85 - 80 being 5.
abbrev pub value : Bytes → Integer
value l = pick (ltb (last l) 0x80) (plus (number l)) (minus (number l - 0x80 * 256 ^ (length l - 1)))

-- `deserialize_i64`: "Reading refuses over 8 bytes", and what is not minimal
unfoldable pub deserialize : Bytes → Option Integer
deserialize l = pick (leb (length l) 8 && minimal l) (some (value l)) none

-- request L2, "the reading of an index should tell": an item read as an index. The first three cases are three refusals, 9, 24
-- and 25 (`readable` of Stacks).
pub data Index : Type 0 where
  not_known : Index
  no_number : Index
  negative : Index
  index : ℕ → Index

-- a number that is not negative is an index
abbrev pub index_read : Option Integer → Index
index_read none = no_number
index_read (some (plus n)) = index n
index_read (some (minus n)) = negative

-- the index in what is known of an item's bytes
abbrev pub index_of : Option Bytes → Index
index_of none = not_known
index_of (some l) = index_read (deserialize l)
