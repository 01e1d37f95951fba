-- What the private functions of this crate ensure.
use Rattle.std.specs.Prelude.{◌≡◌, ℕ, ◌+◌, ◌-◌, ◌^◌, ◌≤◌, ◌<◌, ltb, Result, Ok, Err}
use Rattle.definition.specs.Basics.{pick}
use Rattle.definition.specs.Stacks as S
use Rattle.definition.specs.Walk.{Item, marking, bytes_known}
use Rattle.decode.specs.View.{value_of}
use Rattle.decode.specs.declared.Value.{Value}
use Rattle.refusals.specs.View.{refusal_of}
use Rattle.refusals.specs.declared.Refusal.{Refusal}
use Rattle.refusals.specs.declared.Refusal.TheVariants.{MainDry, StacksFull}
use Rattle.slots.specs.View.{Slots, slot_item}
use Rattle.slots.specs.Parts.{Placed}
use Rattle.stack.specs.View.{slots_of, stacks_in}
use Rattle.stack.specs.declared.Stacks.{Stacks}

-- whether main has n items
abbrev pub needed : ℕ → Stacks → Result Unit Refusal
needed n s = pick (ltb s.mains n) (Err (MainDry n s.mains)) (Ok tt)

-- whether so many more items stay within the limit
abbrev pub roomy : ℕ → ℕ → Stacks → Result Unit Refusal
roomy more limit s = pick (ltb limit (s.mains + s.alts + more)) (Err (StacksFull (s.mains + s.alts + more) limit)) (Ok tt)

-- the stacks t have the heights of s, and in the slots from b up to e the items of those that f names
pub record Moves (f : ℕ → ℕ) (b e : ℕ) (s t : Stacks) : Type 0 where
  pub mains : t.mains ≡ s.mains
  pub alts : t.alts ≡ s.alts
  pub placed : Placed f (slots_of s) b e (slots_of t)

-- an index takes 63 bits at most, and was on main
abbrev pub Small : ℕ → Result ℕ Refusal → Type 0
Small mains (Ok n) = (n < 2 ^ 63) × (1 ≤ mains)
Small mains (Err f) = Unit {0}

-- on from a popped index
abbrev pub counted : Result ℕ Refusal → S.Stacks Item → (ℕ → S.Stacks Item → S.Outcome Item) → S.Outcome Item
counted (Ok n) s next = next n s
counted (Err f) s next = S.refused (refusal_of f)

-- r is the index on top of main, which has m items
pub record PopsIn (p : Slots) (m a : ℕ) (r : Result ℕ Refusal) : Type 0 where
  pub small : Small m r
  pub same : (next : ℕ → S.Stacks Item → S.Outcome Item) → S.pop_index marking (stacks_in p m a) next ≡ counted r (stacks_in p (m - 1) a) next

abbrev pub Pops : Stacks → Result ℕ Refusal → Type 0
Pops s r = PopsIn (slots_of s) s.mains s.alts r

-- v is what SIZE pushes over the item in a slot of this code
abbrev pub Sizes : ℕ → Value → Type 0
Sizes code v = (n : ℕ) → v ≡ value_of (S.size_item marking (bytes_known (slot_item code n)))
