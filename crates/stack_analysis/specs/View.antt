-- What is told of a fragment's verdict, by the code's `Verdict<E>` and by the definition's: the end in a form E.
use Rattle.std.specs.Prelude.{Option, Some, None, Result, Ok, Err, ◌≡◌, ℕ, ◌+◌, ◌≤◌, length}
use Rattle.definition.specs.Refusals.{Answer, accepted}
use Rattle.definition.specs.Stacks.{Stacks}
use Rattle.definition.specs.Walk.{Item, Arm, dead, live, refused_verdict}
use Rattle.definition.specs.Walk as W
use Rattle.ends.specs.View.{end_stacks_of}
use Rattle.ends.specs.declared.EndStacks.{EndStacks}
use Rattle.refusals.specs.View.{refusal_of, answer_of}
use Rattle.stack_analysis.specs.declared.Accepted.{Accepted}
use Rattle.stack_analysis.specs.declared.Heights.{Heights}
use Rattle.stack_analysis.specs.declared.Rejected.{Rejected}

abbrev pub Verdict : Type 0 → Type 0
Verdict E = Result (Accepted E) Rejected

-- Number, offset and figures, the rows written, the peak, and the end, where there is one
pub record Told (E : Type 0) : Type 0 where
  pub answer : Answer
  pub rows : ℕ
  pub peak : ℕ
  pub end : Option E

-- By the code's verdict. "Refusals carry peak 0 and end none"
abbrev pub told : {E : Type 0} → Verdict E → Told E
told (Ok a) = record { answer = accepted; rows = a.rows; peak = a.peak; end = a.end }
told (Err r) = record { answer = answer_of r.refused; rows = r.rows; peak = 0; end = None }

-- By the definition's, where `form` makes the form of the end: nothing is left to choose

abbrev pub end_as : {E : Type 0} → (Stacks Item → E) → Arm → Option E
end_as form dead = None
end_as form (live s) = Some (form s)

abbrev pub told_of : {E : Type 0} → (Stacks Item → E) → W.Verdict → Told E
told_of form v = record { answer = v.answer; rows = v.rows; peak = v.peak; end = end_as form v.end }

-- the heights of stacks
abbrev pub heights_of : Stacks Item → Heights
heights_of s = record { main = length s.main; alt = length s.alt }

-- The verdict of the definition that the code's stands for, where `view` reads the stacks of the end

abbrev pub arm_in : {E : Type 0} → (E → Stacks Item) → Option E → Arm
arm_in view (Some e) = live (view e)
arm_in view None = dead

abbrev pub verdict_in : {E : Type 0} → (E → Stacks Item) → Verdict E → W.Verdict
verdict_in view (Ok a) = record { answer = accepted; rows = a.rows; peak = a.peak; end = arm_in view a.end }
verdict_in view (Err r) = refused_verdict r.refused.offset (refusal_of r.refused.refusal) r.rows

abbrev pub verdict_of : Verdict EndStacks → W.Verdict
verdict_of v = verdict_in end_stacks_of v

-- an end has at most 244 items
abbrev pub EndWithin : Verdict EndStacks → Type 0
EndWithin v = (e : EndStacks) → (told v).end ≡ Some e → e.main + e.alt ≤ 244
