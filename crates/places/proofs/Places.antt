-- Stores into lent places.
use mathlib.Core.Bool.{Bool, true, false}
use mathlib.Core.List.{List, [], ◌++◌}
use mathlib.Core.Path.{◌≡◌, refl}
use Prim.Native.Nat.{◌≤◌, ◌<◌}
use native.Mathlib.Omega.{arith}
use borrow.Author.Tests.{lt-ltb, le-ltb, leb-true, leb-false}
use lib.Dec.{leb}
use lib.ListN.{length, drop}
use Rattle.definition.specs.Basics.{Bytes, pick}
use Rattle.places.specs.View.{written}

-- all as lent where there are fewer
pub too_few : {A : Type 0} (values out : List A) → length out < length values → out ≡ written values out
unfolding written
too_few values out h = rw (lt-ltb (length out) (length values) h)

-- the values and the rest where there is room
pub all-written : {A : Type 0} (values out : List A) → length values ≤ length out → (values ++ drop (length values) out) ≡ written values out
unfolding written
all-written values out h = rw (le-ltb (length out) (length values) h)

-- no value leaves all as lent
pub none_written : {A : Type 0} (out : List A) → written [] out ≡ out
unfolding written
none_written out = rw (le-ltb (length out) 0 (omega arith))

pub ruleset values = (too_few, all-written)

-- a text written where there is room for it, by the other test
module _ (t out : Bytes) where
  by-room : (b : Bool) → leb (length t) (length out) ≡ b → pick (leb (length t) (length out)) (t ++ drop (length t) out) out ≡ written t out
  unfolding written
  by-room true h = rw (h, le-ltb (length out) (length t) (leb-true (length t) (length out) h))
  by-room false h = rw (h, lt-ltb (length out) (length t) (leb-false (length t) (length out) h))

  pub where-room : pick (leb (length t) (length out)) (t ++ drop (length t) out) out ≡ written t out
  where-room = by-room (leb (length t) (length out)) refl

pub ruleset rooms = (where-room)
