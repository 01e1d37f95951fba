use Rattle.slots.specs.Parts.{Each, SettledAt}
use Rattle.slots.proofs.settle_codes.Given as goal

abbrev pub invariant-loop-i : goal.invariant-loop-i
invariant-loop-i l = Each (SettledAt l.initial.codes l.bytes l.other) l.initial.codes l.from l.i l.codes
