-- What a refusal of the code stands for in the definitions.
use Rattle.std.specs.Prelude.{Result, Ok, Err}
use Rattle.definition.specs.Refusals as D
use Rattle.refusals.specs.declared.Refusal.{Refusal}
use Rattle.refusals.specs.declared.Refusal.TheVariants.{LongFragment, StartTooLarge, Malformed, ShortLog, Nesting, StacksFull, MainDry, AltDry, BadIndex, BadTag, Unmodelled, ArmsDiffer, StrayElse, SecondElse, StrayEndif, OpenIf, OpcodeCount, ScriptSize, BadHeader, DispatchTooLarge, LongPaper, TallyFull, BadSitting, CrookedNumber, NegativeIndex, StrangeWord, OutputShort, BadMap, BadLimit, LongElement}
use Rattle.refusals.specs.declared.Refused.{Refused}
use Rattle.refusals.specs.declared.Answer.{Answer}

-- a refusal, with its figures
abbrev pub refusal_of : Refusal → D.Refusal
refusal_of (LongFragment length) = D.long_fragment length
refusal_of (StartTooLarge sum limit) = D.start_too_large sum limit
refusal_of Malformed = D.malformed_fragment
refusal_of (ShortLog needed lent) = D.short_log needed lent
refusal_of Nesting = D.nesting
refusal_of (StacksFull wanted limit) = D.stacks_full wanted limit
refusal_of (MainDry needed had) = D.main_dry needed had
refusal_of AltDry = D.alt_dry
refusal_of BadIndex = D.bad_index
refusal_of BadTag = D.bad_tag
refusal_of (Unmodelled opcode) = D.unmodelled_opcode opcode
refusal_of ArmsDiffer = D.arms_differ
refusal_of StrayElse = D.stray_else
refusal_of SecondElse = D.second_else
refusal_of StrayEndif = D.stray_endif
refusal_of OpenIf = D.open_if
refusal_of (OpcodeCount count) = D.opcode_count count
refusal_of (ScriptSize length) = D.script_size length
refusal_of BadHeader = D.bad_header
refusal_of (DispatchTooLarge sum limit) = D.dispatch_too_large sum limit
refusal_of (LongPaper length) = D.long_paper length
refusal_of TallyFull = D.tally_full
refusal_of BadSitting = D.bad_sitting
refusal_of CrookedNumber = D.crooked_number
refusal_of NegativeIndex = D.negative_index
refusal_of StrangeWord = D.strange_word
refusal_of OutputShort = D.output_short
refusal_of BadMap = D.bad_map
refusal_of BadLimit = D.bad_limit
refusal_of (LongElement size) = D.long_element size

-- a refusal where it stands: number, offset and figures
abbrev pub answer_of : Refused → D.Answer
answer_of r = D.refused_at r.offset (refusal_of r.refusal)

-- accepted, or the refusal
abbrev pub answer_in : Result (Unit {0}) Refused → D.Answer
answer_in (Ok done) = D.accepted
answer_in (Err refused) = answer_of refused

-- the answer in numbers, field for field
abbrev pub numbers_of : Answer → D.Answer
numbers_of a = record { number = a.number; offset = a.offset; first = a.first; second = a.second }
