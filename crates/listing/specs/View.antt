-- What the answers of the lister stand for in the definitions of listings.
use Rattle.std.proofs.Math.Option.{Option, none, some}
use Rattle.std.specs.Prelude.{Result, Ok, Err, ℕ, ◌≡◌, ◌+◌, ◌-◌, ◌≤◌, ◌<◌, leb, eqb, min, length, take, drop}
use Rattle.definition.specs.Basics.{Bytes, pick}
use Rattle.definition.specs.Decoding.{decode, instructions, malformed_at}
use Rattle.definition_listings.specs.Listing.{data_word, code_word, parted}
use Rattle.decode.specs.View.{data_start}
use Rattle.decode.specs.declared.Instruction.{Instruction}
use Rattle.decode.specs.declared.Malformed.{Malformed}

-- how many bytes of length follow an opcode up to 4e
abbrev pub length_bytes : ℕ → ℕ
length_bytes opcode = pick (leb opcode 0x4b) 0 (pick (eqb opcode 0x4c) 1 (pick (eqb opcode 0x4d) 2 4))

-- an instruction stands in a fragment, a push with its data between the bytes of its length and the next instruction
pub record Stands (f : Bytes) (i : Instruction) : Type 0 where
  pub onward : i.offset < i.next
  pub within : i.next ≤ length f
  pub push : i.opcode ≤ 0x4e → data_start f i.offset ≤ i.next

-- the word of an instruction of a fragment
abbrev pub word_at : Bytes → Instruction → Bytes
word_at f i =
    pick (leb i.opcode 0x4e) (data_word (take (i.next - data_start f i.offset) (drop (data_start f i.offset) f))) (code_word i.opcode)

-- the listing of a fragment
abbrev pub listing_of : Bytes → Bytes
listing_of f = parted (instructions (decode f))

-- whether a fragment is whole, or where it is malformed
abbrev pub whole_or_malformed : Option ℕ → Result (Unit {0}) Malformed
whole_or_malformed none = Ok tt
whole_or_malformed (some offset) = Err (record { offset = offset })

-- an answer of `measure`: the listing's length, as far as it is within the room, or where the fragment is malformed
abbrev pub Measures : Result ℕ Malformed → Bytes → ℕ → Type 0
Measures (Ok size) f room = (malformed_at (decode f) ≡ none) × (min size (room + 1) ≡ min (length (listing_of f)) (room + 1))
Measures (Err m) f room = malformed_at (decode f) ≡ some m.offset
