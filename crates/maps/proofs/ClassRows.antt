-- The rows of a good map: 256 bytes from its first row on, each a class number.
use mathlib.Core.Bool.{Bool, true, false}
use mathlib.Core.Path.{◌≡◌, refl}
use Prim.Native.Nat.{ℕ, ◌+◌, ◌-◌, ◌<◌}
use native.Mathlib.Omega.{arith}
use borrow.Author.Tests.{ltb-true, ltb-false}
use lib.Dec.{ltb}
use lib.ListN.{take, drop, get_or, get_or-eq_default}
use Rattle.definition.specs.Basics.{Bytes}
use Rattle.definition_rules.specs.Maps.{first_row, rows_of, good_map}
use Rattle.definition_rules.proofs.GoodMaps.{GoodMap, good_map_rows}
use Rattle.opcodes.specs.View.{ClassRows}

-- what a slice of 256 bytes from the first row on holds
pub rows-lent : (map : Bytes) (at : ℕ) → at ≡ first_row map → take (at + 256 - at) (drop at map) ≡ rows_of map
rows-lent map at e =
    let n : at + 256 - at ≡ 256 = omega arith in
    rw (n, e)

pub good-rows : (map : Bytes) → good_map map ≡ true → ClassRows (rows_of map)
good-rows map g = record { size = m.size; below = λ code. by code (ltb code 256) refl }
  where
    m : GoodMap map
    m = good_map_rows map g

    by : (code : ℕ) (b : Bool) → ltb code 256 ≡ b → get_or (rows_of map) code 0 < 32
    by code true e = omega (arith, m.class code (ltb-true code 256 e))
    by code false e =
        let d : get_or (rows_of map) code 0 ≡ 0 = get_or-eq_default (rows_of map) 0 (omega (arith, m.size, ltb-false code 256 e)) in
        omega (arith, d)
