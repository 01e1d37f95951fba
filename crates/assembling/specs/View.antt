-- What the answers of the assembler stand for in the definitions of listings.
use Rattle.std.specs.Prelude.{[], ◌≡◌, ℕ, length, Result, Ok, Err}
use Rattle.definition.specs.Basics.{Bytes}
use Rattle.definition_listings.specs.Assembling.{Assembly, gives, strange, words, assembly}
use Rattle.definition_listings.specs.Listing as L
use Rattle.refusals.specs.View.{answer_of}
use Rattle.refusals.specs.declared.Refusal.TheVariants.{StrangeWord}
use Rattle.refusals.specs.declared.Refused.{Refused}

-- an answer, how many bytes were written or a refusal, with the output afterwards
abbrev pub converted_of : Result ℕ Refused → Bytes → L.Converted
converted_of (Ok size) out = record { number = 0; offset = 0; size = size; out = out }
converted_of (Err refused) out = L.unwritten (answer_of refused) out

-- an answer of `judge`: how many bytes a listing gives, or where its first strange word is
abbrev pub judged_of : Assembly → Result ℕ Refused
judged_of (gives l) = Ok (length l)
judged_of (strange offset) = Err (record { offset = offset; refusal = StrangeWord })

-- the bytes that a listing gives
abbrev pub given_by : Assembly → Bytes
given_by (gives l) = l
given_by (strange offset) = []

-- what a listing gives
abbrev pub assembly_of : Bytes → Assembly
assembly_of l = assembly 0 (words l)

-- no word of a listing is strange
abbrev pub Good : Bytes → Type 0
Good l = assembly_of l ≡ gives (given_by (assembly_of l))
