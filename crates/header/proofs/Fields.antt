-- Laws of the fields.
use mathlib.Core.Path.{◌≡◌}
use Prim.Native.Nat.{ℕ, suc, ◌+◌, ◌-◌, ◌*◌, ◌≤◌, ◌<◌}
use native.Mathlib.Omega.{arith}
use lib.ListN.{length, get_or, drop_of_length-le}
use lib.Seq.{drop-cons}
use Rattle.definition.specs.Basics.{Bytes}
use Rattle.definition.specs.Papers.{field}

-- at the end of the paper and past it
pub field_past : (p : Bytes) (offset : ℕ) → length p ≤ offset → 0 ≡ field p offset
field_past p offset h = rw (drop_of_length-le p h)

-- at the last byte
pub field-last : (p : Bytes) (offset a : ℕ) → offset < length p → length p - offset < 2 → a ≡ get_or p offset 0 → a ≡ field p offset
field-last p offset a h l e = rw (drop-cons p offset 0 h, drop_of_length-le p {i = suc offset} (omega arith), e) (omega arith)

-- two bytes
pub field-whole : (p : Bytes) (offset a b : ℕ) → offset < length p → 2 ≤ length p - offset → a ≡ get_or p offset 0 → b ≡ get_or p (offset + 1) 0 → a + 256 * b ≡ field p offset
field-whole p offset a b h l e f =
    let g : suc offset ≡ offset + 1 = omega arith in
    rw (drop-cons p offset 0 h, drop-cons p (suc offset) 0 (omega arith), g, e, f) (omega arith)
