-- Fresh stacks.
use mathlib.Core.Path.{◌≡◌}
use Prim.Native.Nat.{ℕ, ◌+◌, ◌-◌, ◌≤◌}
use native.Mathlib.Omega.{arith}
use Rattle.definition.specs.Walk.{unknowns}
use Rattle.slots.specs.View.{cells, backs}
use Rattle.slots.proofs.Blanks.{blanks, blank-code, tops-same}
use Rattle.stack.specs.View.{stacks_in}

pub fresh : (main alt : ℕ) → main + alt ≤ 244 → stacks_in blanks main alt ≡ unknowns main alt
unfolding stacks_in
fresh main alt h = rw (tops-same (cells blanks) main (λ j lt. rw (blank-code j (omega arith))), tops-same (backs blanks) alt (λ j lt. rw (blank-code (243 - j) (omega arith))))
