-- `opcodes::class_of` meets its contract. The match has fifty returns. Those of a single number the check proves by itself; at
-- those of several numbers, or of a range, the search finds the law of `Match` that fits what is known there of the opcode.
use mathlib.Core.List.{List}
use Prim.Native.Nat.{ℕ}
use Rattle.definition.specs.Classes.{class_number}
use Rattle.opcodes.proofs.Match.{arms_of, keyed, split, ranged, below}
use Rattle.opcodes.proofs.class_of.Code.{function}
use Rattle.opcodes.proofs.class_of.Goals as goal

-- the single numbers of the match
abbrev arms : List (List ℕ)
arms = arms_of function.body

pub returns-in-178-to-185 : goal.returns-in-178-to-185
unfolding class_number
returns-in-178-to-185 c = search (keyed class_number, split class_number, ranged class_number arms, below class_number arms)

pub returns-in_default-2 : goal.returns-in_default-2
unfolding class_number
returns-in_default-2 c = search (keyed class_number, split class_number, ranged class_number arms, below class_number arms)

pub returns-in_default-3 : goal.returns-in_default-3
unfolding class_number
returns-in_default-3 c = search (keyed class_number, split class_number, ranged class_number arms, below class_number arms)

pub returns-in_default-4 : goal.returns-in_default-4
unfolding class_number
returns-in_default-4 c = search (keyed class_number, split class_number, ranged class_number arms, below class_number arms)

pub returns-in_default-5 : goal.returns-in_default-5
unfolding class_number
returns-in_default-5 c = search (keyed class_number, split class_number, ranged class_number arms, below class_number arms)

pub returns-in_default-6 : goal.returns-in_default-6
unfolding class_number
returns-in_default-6 c = search (keyed class_number, split class_number, ranged class_number arms, below class_number arms)

pub returns-in_default-7 : goal.returns-in_default-7
unfolding class_number
returns-in_default-7 c = search (keyed class_number, split class_number, ranged class_number arms, below class_number arms)

pub returns-in_default-8 : goal.returns-in_default-8
unfolding class_number
returns-in_default-8 c = search (keyed class_number, split class_number, ranged class_number arms, below class_number arms)

pub returns-in-131-2 : goal.returns-in-131-2
unfolding class_number
returns-in-131-2 c = search (keyed class_number, split class_number, ranged class_number arms, below class_number arms)

pub returns-in-131-3 : goal.returns-in-131-3
unfolding class_number
returns-in-131-3 c = search (keyed class_number, split class_number, ranged class_number arms, below class_number arms)

pub returns-in-131-4 : goal.returns-in-131-4
unfolding class_number
returns-in-131-4 c = search (keyed class_number, split class_number, ranged class_number arms, below class_number arms)

pub returns-in-127-2 : goal.returns-in-127-2
unfolding class_number
returns-in-127-2 c = search (keyed class_number, split class_number, ranged class_number arms, below class_number arms)

pub returns-in-126-2 : goal.returns-in-126-2
unfolding class_number
returns-in-126-2 c = search (keyed class_number, split class_number, ranged class_number arms, below class_number arms)

pub returns-in-126-3 : goal.returns-in-126-3
unfolding class_number
returns-in-126-3 c = search (keyed class_number, split class_number, ranged class_number arms, below class_number arms)

pub returns-in-126-4 : goal.returns-in-126-4
unfolding class_number
returns-in-126-4 c = search (keyed class_number, split class_number, ranged class_number arms, below class_number arms)

pub returns-in-126-5 : goal.returns-in-126-5
unfolding class_number
returns-in-126-5 c = search (keyed class_number, split class_number, ranged class_number arms, below class_number arms)

pub returns-in-126-6 : goal.returns-in-126-6
unfolding class_number
returns-in-126-6 c = search (keyed class_number, split class_number, ranged class_number arms, below class_number arms)

pub returns-in-105-2 : goal.returns-in-105-2
unfolding class_number
returns-in-105-2 c = search (keyed class_number, split class_number, ranged class_number arms, below class_number arms)
