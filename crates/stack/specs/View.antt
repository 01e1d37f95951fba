-- What the structs of this crate stand for in the definitions.
use Rattle.std.specs.Prelude.{◌≡◌, ℕ, Result, Ok, Err}
use Rattle.definition.specs.Classes.{Ordinary}
use Rattle.definition.specs.Decoding.{Instruction}
use Rattle.definition.specs.Stacks as S
use Rattle.definition.specs.Walk.{Item, marking}
use Rattle.refusals.specs.View.{refusal_of}
use Rattle.refusals.specs.declared.Refusal.{Refusal}
use Rattle.slots.specs.View.{Slots, slots, cells, backs, tops}
use Rattle.stack.specs.declared.Stacks.{Stacks}
use Rattle.stack.specs.declared.Stepped.{Stepped}

-- Answers

-- "each stack operation yields the changed stacks or a refusal"
abbrev pub outcome : Result Unit Refusal → S.Stacks Item → S.Outcome Item
outcome (Ok u) s = S.done s
outcome (Err r) s = S.refused (refusal_of r)

-- Stacks

-- the stacks of so many items in these slots, each with its top first: main lies from the bottom up, alt from the top end down
unfoldable pub stacks_in : Slots → ℕ → ℕ → S.Stacks Item
stacks_in p mains alts = record { main = tops (cells p) mains; alt = tops (backs p) alts }

-- their slots
abbrev pub slots_of : Stacks → Slots
slots_of s = slots s.bytes s.codes

-- the stacks that the struct stands for
abbrev pub view : Stacks → S.Stacks Item
view s = stacks_in (slots_of s) s.mains s.alts

-- an operation's answer and the stacks that it leaves are the outcome o of the definition
pub record Yields (answer : Result Unit Refusal) (s : Stacks) (o : S.Outcome Item) : Type 0 where
  pub same : outcome answer (view s) ≡ o

-- the same of a step of the class o at this limit from t on, whatever else the rules and the instruction hold
pub record YieldsStep (answer : Result Unit Refusal) (s : Stacks) (limit : ℕ) (o : Ordinary) (t : S.Stacks Item) : Type 0 where
  pub same : (R : S.Rules) (i : Instruction) → R.limit ≡ limit → outcome answer (view s) ≡ S.step marking R i o t

-- the same of what a method by value returns
abbrev pub Says : Stepped → S.Outcome Item → Type 0
Says r o = Yields r.answer r.stacks o

abbrev pub Steps : Stepped → ℕ → Ordinary → S.Stacks Item → Type 0
Steps r limit o t = YieldsStep r.answer r.stacks limit o t
