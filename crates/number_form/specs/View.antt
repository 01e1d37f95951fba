-- What a result of `read_index` stands for in the definitions.
use Rattle.std.specs.Prelude.{ℕ, Result, Ok, Err}
use Rattle.definition.specs.Decoding as D
use Rattle.definition.specs.Refusals.{bad_index, crooked_number, negative_index}
use Rattle.definition.specs.Stacks as S
use Rattle.definition.specs.Walk.{Item}
use Rattle.refusals.specs.declared.Refusal.{Refusal}
use Rattle.refusals.specs.declared.Refusal.TheVariants.{BadIndex, CrookedNumber, NegativeIndex}
use Rattle.number_form.specs.declared.NoIndex.{NoIndex}
use Rattle.number_form.specs.declared.NoIndex.TheVariants as N

-- an answer of `read_index`, "an index (readable, not negative)": what follows with its value, or 9, 24 or 25
abbrev pub read_of : Result ℕ NoIndex → (ℕ → S.Outcome Item) → S.Outcome Item
read_of (Ok n) next = next n
read_of (Err N.Unknown) next = S.refused bad_index
read_of (Err N.NoNumber) next = S.refused crooked_number
read_of (Err N.Negative) next = S.refused negative_index

-- the answer for an index of the definition: where it is none, which of the three
abbrev pub indexed : D.Index → Result ℕ NoIndex
indexed D.not_known = Err N.Unknown
indexed D.no_number = Err N.NoNumber
indexed D.negative = Err N.Negative
indexed (D.index n) = Ok n

-- the refusal where a value is no index
abbrev pub index_refusal : NoIndex → Refusal
index_refusal N.Unknown = BadIndex
index_refusal N.NoNumber = CrookedNumber
index_refusal N.Negative = NegativeIndex
