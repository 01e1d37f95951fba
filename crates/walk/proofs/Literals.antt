-- A literal is pushed: by what the marker knows of it, and by where its data ends (request L7).
use mathlib.Core.Bool.{Bool, true, false, ◌&&◌}
use mathlib.Core.Path.{◌≡◌, refl}
use Prim.Native.Nat.{ℕ, ◌<◌}
use native.Mathlib.Omega.{arith}
use borrow.Author.Tests.{leb-true, leb-false, le-ltb}
use lib.Dec.{leb, ltb}
use lib.ListN.{length}
use Rattle.definition.specs.Basics.{Bytes, pick}
use Rattle.definition.specs.Refusals.{max_element, long_element}
use Rattle.definition.specs.Stacks.{Rules, Stacks, refused, push_item, push_literal}
use Rattle.definition.specs.Walk.{Item, exact, unknown, known, marking}
use Rattle.decode.specs.View.{value_of}
use Rattle.decode.specs.declared.Value.TheVariants.{Unknown, Exact}

and-false : (b : Bool) → (b && false) ≡ false
and-false true = refl
and-false false = refl

-- what is unknown is long
pub unknown-long : (l : Bytes) → value_of (known l) ≡ Unknown → 8 < length l
unknown-long l e = by (leb (length l) 8) refl e
  where
    by : (b : Bool) → leb (length l) 8 ≡ b → value_of (pick b (exact l) unknown) ≡ Unknown → 8 < length l
    by true t e = let z : ◌≡◌ {A = ℕ} 0 1 = cc in absurd (omega arith)
    by false t e = leb-false (length l) 8 t

module _ (R : Rules) (l : Bytes) (s : Stacks Item) where
  -- an exact literal is never too long
  pub exact-pushed : (len bytes : ℕ) → value_of (known l) ≡ Exact len bytes → push_literal marking R l s ≡ push_item R.limit (known l) s
  exact-pushed len bytes e = by (leb (length l) 8) refl e
    where
      by : (b : Bool) → leb (length l) 8 ≡ b → value_of (pick b (exact l) unknown) ≡ Exact len bytes → push_literal marking R l s ≡ push_item R.limit (known l) s
      by true t e = rw (le-ltb max_element (length l) (omega (arith, leb-true (length l) 8 t)), and-false R.examined)
      by false t e = let z : ◌≡◌ {A = ℕ} 0 1 = cc in absurd (omega arith)

  module _ (size : ℕ) (e : size ≡ length l) (b : Bool) (t : b ≡ (R.examined && ltb max_element size)) where
    tested : (R.examined && ltb max_element (length l)) ≡ b
    tested = rw (t, e)

    pub long-pushed : b ≡ true → push_literal marking R l s ≡ refused (long_element size)
    long-pushed h = rw (tested, h, e)

    pub short-pushed : b ≡ false → push_literal marking R l s ≡ push_item R.limit (known l) s
    short-pushed h = rw (tested, h)
