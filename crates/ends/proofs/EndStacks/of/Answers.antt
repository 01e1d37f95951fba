use borrow.Author.Rules.{rules}
use native.Mathlib.Omega.{arith}
use Rattle.stack.specs.View.{slots_of}
use Rattle.ends.proofs.Packing.{slot-within, ending-none, ending-more, ends-are}
use Rattle.ends.proofs.EndStacks.of.Goals as goal
use Rattle.ends.proofs.EndStacks.of.Goals.{After-end_slot-i}
use Prim.Native.Nat.{◌<◌}

pub loop-k-init : goal.loop-k-init
loop-k-init c = ending-none _ _

-- the slot of item k is one
within : (c : After-end_slot-i) → c.end_slot-i.result < 244
within c = let s = c.args.stacks.now in
    let k : c.loop-k.k < 244 = omega (arith, s.room) in
    omega (arith, slot-within s.mains c.loop-k.k k, c.end_slot-i.ensures)

pub bounds-stacks-i : goal.bounds-stacks-i
bounds-stacks-i c = within (goal.at.bounds-stacks-i c).After-end_slot-i

pub offset_bounds-stacks-i : goal.offset_bounds-stacks-i
offset_bounds-stacks-i c = record { fits = omega (arith, within (goal.at.offset_bounds-stacks-i c).After-end_slot-i) }

pub bounds-stacks-i-in-loop-k : goal.bounds-stacks-i-in-loop-k
bounds-stacks-i-in-loop-k c = within (goal.at.bounds-stacks-i-in-loop-k c).After-end_slot-i

pub loop-k-preserved : goal.loop-k-preserved
loop-k-preserved c = let s = c.args.stacks.now in
    ending-more (slots_of s) s.mains c.loop-k.k c.loop-k.items c.loop-k.invariant (omega (arith, s.room)) _ (search rules) (search rules)

pub returns : goal.returns
returns c = ends-are c.args.stacks.now c.loop-k.k c.loop-k.items c.loop-k.invariant (omega arith)
