-- An answer's number and figures fix the refusal.
use mathlib.Core.List.{List, [], ◌∷◌}
use mathlib.Core.Path.{◌≡◌, refl, sym, ap, ◌∙◌}
use native.Mathlib.Omega.{arith}
use Prim.Native.Nat.{ℕ, ◌-◌}
use lib.ListN.{get_or}
use Rattle.definition.specs.Refusals as D
use Rattle.refusals.specs.View.{answer_of}
use Rattle.refusals.specs.declared.Refused.{Refused}
use Rattle.refusals.specs.declared.Refusal.{Refusal}
use Rattle.refusals.specs.declared.Refusal.TheVariants.{LongFragment, StartTooLarge, Malformed, ShortLog, Nesting, StacksFull, MainDry, AltDry, BadIndex, BadTag, Unmodelled, ArmsDiffer, StrayElse, SecondElse, StrayEndif, OpenIf, OpcodeCount, ScriptSize, BadHeader, DispatchTooLarge, LongPaper, TallyFull, BadSitting, CrookedNumber, NegativeIndex, StrangeWord, OutputShort, BadMap, BadLimit, LongElement}

-- the refusals in the order of their numbers, from 1, with these figures
abbrev by_number : ℕ → ℕ → List Refusal
by_number first second =
    LongFragment first ∷ StartTooLarge first second ∷ Malformed ∷ ShortLog first second ∷ Nesting ∷ StacksFull first second ∷
    MainDry first second ∷ AltDry ∷ BadIndex ∷ BadTag ∷ Unmodelled first ∷ ArmsDiffer ∷
    StrayElse ∷ SecondElse ∷ StrayEndif ∷ OpenIf ∷ OpcodeCount first ∷ ScriptSize first ∷
    BadHeader ∷ DispatchTooLarge first second ∷ LongPaper first ∷ TallyFull ∷ BadSitting ∷ CrookedNumber ∷
    NegativeIndex ∷ StrangeWord ∷ OutputShort ∷ BadMap ∷ BadLimit ∷ LongElement first ∷ []

abbrev pub refused_back : D.Answer → Refused
refused_back a = record { offset = a.offset; refusal = get_or (by_number a.first a.second) (a.number - 1) Malformed }

is-back : (offset : ℕ) (r : Refusal) → refused_back (answer_of (record { offset = offset; refusal = r })) ≡ record { offset = offset; refusal = r }
is-back offset (LongFragment first) = refl
is-back offset (StartTooLarge first second) = refl
is-back offset Malformed = refl
is-back offset (ShortLog first second) = refl
is-back offset Nesting = refl
is-back offset (StacksFull first second) = refl
is-back offset (MainDry first second) = refl
is-back offset AltDry = refl
is-back offset BadIndex = refl
is-back offset BadTag = refl
is-back offset (Unmodelled first) = refl
is-back offset ArmsDiffer = refl
is-back offset StrayElse = refl
is-back offset SecondElse = refl
is-back offset StrayEndif = refl
is-back offset OpenIf = refl
is-back offset (OpcodeCount first) = refl
is-back offset (ScriptSize first) = refl
is-back offset BadHeader = refl
is-back offset (DispatchTooLarge first second) = refl
is-back offset (LongPaper first) = refl
is-back offset TallyFull = refl
is-back offset BadSitting = refl
is-back offset CrookedNumber = refl
is-back offset NegativeIndex = refl
is-back offset StrangeWord = refl
is-back offset OutputShort = refl
is-back offset BadMap = refl
is-back offset BadLimit = refl
is-back offset (LongElement first) = refl

pub refused-is : (r : Refused) → refused_back (answer_of r) ≡ r
refused-is r = is-back r.offset r.refusal

-- two refusals that answer alike are one
pub answer-one : (r s : Refused) → answer_of r ≡ answer_of s → r ≡ s
answer-one r s e = sym (refused-is r) ∙ ap refused_back e ∙ refused-is s

-- and no refusal answers as acceptance does
number-set : (offset : ℕ) (r : Refusal) → (answer_of (record { offset = offset; refusal = r })).number ≡ 0 → ⊥
number-set offset (LongFragment first) e = absurd (omega (arith, e))
number-set offset (StartTooLarge first second) e = absurd (omega (arith, e))
number-set offset Malformed e = absurd (omega (arith, e))
number-set offset (ShortLog first second) e = absurd (omega (arith, e))
number-set offset Nesting e = absurd (omega (arith, e))
number-set offset (StacksFull first second) e = absurd (omega (arith, e))
number-set offset (MainDry first second) e = absurd (omega (arith, e))
number-set offset AltDry e = absurd (omega (arith, e))
number-set offset BadIndex e = absurd (omega (arith, e))
number-set offset BadTag e = absurd (omega (arith, e))
number-set offset (Unmodelled first) e = absurd (omega (arith, e))
number-set offset ArmsDiffer e = absurd (omega (arith, e))
number-set offset StrayElse e = absurd (omega (arith, e))
number-set offset SecondElse e = absurd (omega (arith, e))
number-set offset StrayEndif e = absurd (omega (arith, e))
number-set offset OpenIf e = absurd (omega (arith, e))
number-set offset (OpcodeCount first) e = absurd (omega (arith, e))
number-set offset (ScriptSize first) e = absurd (omega (arith, e))
number-set offset BadHeader e = absurd (omega (arith, e))
number-set offset (DispatchTooLarge first second) e = absurd (omega (arith, e))
number-set offset (LongPaper first) e = absurd (omega (arith, e))
number-set offset TallyFull e = absurd (omega (arith, e))
number-set offset BadSitting e = absurd (omega (arith, e))
number-set offset CrookedNumber e = absurd (omega (arith, e))
number-set offset NegativeIndex e = absurd (omega (arith, e))
number-set offset StrangeWord e = absurd (omega (arith, e))
number-set offset OutputShort e = absurd (omega (arith, e))
number-set offset BadMap e = absurd (omega (arith, e))
number-set offset BadLimit e = absurd (omega (arith, e))
number-set offset (LongElement first) e = absurd (omega (arith, e))

pub refused-some : (r : Refused) → (answer_of r).number ≡ 0 → ⊥
refused-some r e = number-set r.offset r.refusal e
