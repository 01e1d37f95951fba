-- The name of a body.
use mathlib.Core.Path.{◌≡◌, ap}
use Prim.Native.Nat.{ℕ, zero, suc, ◌-◌}
use native.Mathlib.Omega.{arith}
use Rattle.definition.specs.Lines.{labelled}
use Rattle.faults.specs.Faults.{part_name}

pub body_name : (part : ℕ) → (part ≡ 0 → ⊥) → labelled "the body of entry " (part - 1) ≡ part_name part
body_name zero h = absurd (omega arith)
body_name (suc k) h =
    let e : suc k - 1 ≡ k = omega arith in
    ap (labelled "the body of entry ") e
