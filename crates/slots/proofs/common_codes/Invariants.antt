use Rattle.std.proofs.Common.{◌≡◌, true, ℕ, ◌≤◌, ◌<◌, get_or}
use Rattle.slots.specs.View.{sufficient}
use Rattle.slots.specs.Parts.{Each, CommonAt}
use Rattle.slots.proofs.common_codes.Given as goal

abbrev pub invariant-loop-i : goal.invariant-loop-i
invariant-loop-i l = record {
  common : Each (CommonAt l.initial.codes l.other) l.initial.codes l.from l.i l.codes;
  suffice : l.suffice ≡ true → (j : ℕ) → l.from ≤ j → j < l.i → sufficient (get_or l.codes j 0) ≡ true;
}
