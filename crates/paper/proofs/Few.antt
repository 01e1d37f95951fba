-- A fragment has at most 10,000 rows: one for each instruction.
use mathlib.Core.Bool.{Bool, true, false}
use mathlib.Core.List.{List}
use mathlib.Core.Option.{Option, none, some}
use mathlib.Core.Path.{◌≡◌, refl, ap}
use Prim.Native.Nat.{ℕ, ◌+◌, ◌*◌, ◌≤◌}
use native.Mathlib.Omega.{arith}
use borrow.Author.Tests.{ltb-false}
use lib.Dec.{ltb, leb}
use lib.ListN.{length}
use Rattle.definition.specs.Basics.{Bytes}
use Rattle.definition.specs.Decoding.{Instruction, decode, instructions, malformed_at}
use Rattle.definition.specs.Stacks.{Rules, Stacks}
use Rattle.definition.specs.Walk.{Item, begin, unknowns, tested, analysis_of, analysis}
use Rattle.decode.proofs.Codes.{code-start, code-length}
use Rattle.paper.proofs.Fragments.{rows-walk}

module _ (R : Rules) where
  tested-few : (m : Option ℕ) (is : List Instruction) (s : Stacks Item) (log : List ℕ) → (tested R m is s log).verdict.rows ≤ length is
  tested-few (some offset) is s log = omega arith
  tested-few none is s log = by (leb (3 * length is) (length log)) refl
    where
      by : (b : Bool) → leb (3 * length is) (length log) ≡ b → (tested R none is s log).verdict.rows ≤ length is
      by true e = rw e (omega (arith, rows-walk R is (begin s log)))
      by false e = rw e (omega arith)

  code-few : (s : Bytes) → length (instructions (decode s)) ≤ length s
  code-few s = omega (arith, ap (λ c. length (instructions c)) (code-start s), code-length s 0)

  pub analysis-few : (s : Bytes) (main alt : ℕ) (log : List ℕ) → (analysis R s main alt log).verdict.rows ≤ 10000
  unfolding analysis analysis_of
  analysis-few s main alt log = by (ltb 10000 (length s)) (ltb R.limit (main + alt)) refl refl
    where
      by : (b d : Bool) → ltb 10000 (length s) ≡ b → ltb R.limit (main + alt) ≡ d → (analysis R s main alt log).verdict.rows ≤ 10000
      by true d e f = rw e (omega arith)
      by false true e f = rw (e, f) (omega arith)
      by false false e f =
          let t = tested-few (malformed_at (decode s)) (instructions (decode s)) (unknowns main alt) log in
          rw (e, f) (omega (arith, t, code-few s, ltb-false 10000 (length s) e))
