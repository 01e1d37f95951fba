-- What the structs and enums of this crate stand for in the definitions of document 01.
use Rattle.std.specs.Prelude.{[], ◌∷◌, ℕ, zero, suc, ◌+◌, ◌/◌, ◌%◌, ◌^◌, ◌≤◌, ◌<◌, length, drop, get_or, Option, Some, None, Result, Ok, Err}
use Rattle.std.proofs.Math.Option as Math
use Rattle.definition.specs.Basics.{Bytes}
use Rattle.definition_long_data.specs.Blank.{length_bytes}
use Rattle.definition.specs.Decoding.{number, Front, whole, short, front, Code, ends, malformed, then, decode_from, instructions, malformed_at}
use Rattle.definition.specs.Decoding as D
use Rattle.definition.specs.Refusals.{malformed_fragment, Answer, accepted, refused_at}
use Rattle.definition.specs.Walk.{Item, unknown, exact, known}
use Rattle.decode.specs.declared.Value.{Value}
use Rattle.decode.specs.declared.Value.TheVariants.{Unknown, Exact}
use Rattle.decode.specs.declared.Instruction.{Instruction}
use Rattle.decode.specs.declared.Malformed.{Malformed}

-- the len lowest bytes of n, the lowest first
abbrev pub low_bytes : ℕ → ℕ → Bytes
low_bytes zero n = []
low_bytes (suc len) n = n % 256 ∷ low_bytes len (n / 256)

-- the item that a value stands for
abbrev pub item_of : Value → Item
item_of Unknown = unknown
item_of (Exact len n) = exact (low_bytes len n)

-- the value of an item: its length, and its bytes as one number
abbrev pub value_of : Item → Value
value_of unknown = Unknown
value_of (exact l) = Exact (length l) (number l)

-- a value in the one form that `value_of` gives: at most 8 bytes, and no bit above them
abbrev pub Held : Value → Type 0
Held Unknown = Unit {0}
Held (Exact len n) = (len ≤ 8) × (n < 256 ^ len)

-- what `decode_at` answers: an instruction, the end, or where the fragment is malformed
abbrev pub Decoded : Type 0
Decoded = Result (Option Instruction) Malformed

-- what stands at an offset, by the definition's `front`
abbrev pub decoded_front : Front → ℕ → ℕ → Decoded
decoded_front (whole after literal) opcode offset =
    Ok (Some (record { opcode = opcode; offset = offset; literal = value_of (known literal); next = offset + 1 + after }))
decoded_front short opcode offset = Err (record { offset = offset })

abbrev pub decoded_rest : Bytes → ℕ → Decoded
decoded_rest [] offset = Ok None
decoded_rest (b ∷ rest) offset = decoded_front (front b rest) b offset

unfoldable pub decoded_at : Bytes → ℕ → Decoded
decoded_at fragment offset = decoded_rest (drop offset fragment) offset

-- what `opcode_at` answers of that: the opcode, and where the next instruction starts
abbrev pub opcode_of : Decoded → Result (Option (ℕ × ℕ)) Malformed
opcode_of (Ok (Some i)) = Ok (Some (i.opcode, i.next))
opcode_of (Ok None) = Ok None
opcode_of (Err m) = Err m

-- the code that a reading head at offset p of a fragment yields from there on
unfoldable pub code_at : Bytes → ℕ → Code
code_at s p = decode_from 0 p (drop p s)

-- where the data of the instruction at an offset begins: behind its opcode and the bytes of its length
abbrev pub data_start : Bytes → ℕ → ℕ
data_start fragment offset = offset + 1 + length_bytes (get_or fragment offset 0)

-- "yields its instructions in order, then the end or 3": one thing yielded
pub data Yield : Type 0 where
  instruction : ℕ → ℕ → Item → Yield
  the_end : Yield
  refused : Answer → Yield

-- an answer of `decode_at`: the instruction, the end, or 3 at its offset
abbrev pub yield_of : Decoded → Yield
yield_of (Ok (Some i)) = instruction i.opcode i.offset (item_of i.literal)
yield_of (Ok None) = the_end
yield_of (Err m) = refused (refused_at m.offset malformed_fragment)

-- "To the marker an instruction is its opcode, its offset and a literal, unknown or exact"
abbrev pub to_marker : D.Instruction → Yield
to_marker i = instruction i.opcode i.offset (known i.literal)

-- what code yields first
abbrev pub yielded : Code → Yield
yielded ends = the_end
yielded (malformed offset) = refused (refused_at offset malformed_fragment)
yielded (then i code) = to_marker i

-- the code left behind that; the end, and 3, stay
abbrev pub rest : Code → Code
rest ends = ends
rest (malformed offset) = malformed offset
rest (then i code) = code

-- how many instructions a fragment has, with 0; or 3 at its offset: "Missing length or data bytes make the fragment malformed"
pub record Count : Type 0 where
  pub answer : Answer
  pub count : ℕ

-- an answer of `count_instructions`
abbrev pub counted_of : Result ℕ Malformed → Count
counted_of (Ok count) = record { answer = accepted; count = count }
counted_of (Err m) = record { answer = refused_at m.offset malformed_fragment; count = 0 }

-- what is counted in code, by where it is malformed, if it is, and the number of its instructions
abbrev pub count_by : Math.Option ℕ → ℕ → Count
count_by Math.none count = record { answer = accepted; count = count }
count_by (Math.some offset) count = record { answer = refused_at offset malformed_fragment; count = 0 }

abbrev pub count_in : Code → Count
count_in code = count_by (malformed_at code) (length (instructions code))
