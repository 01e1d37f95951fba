-- Slots of unknown items.
use mathlib.Core.Bool.{Bool, true, false}
use mathlib.Core.Path.{◌≡◌, refl}
use Prim.Native.Nat.{ℕ, zero, suc, ◌≤◌, ◌<◌}
use native.Mathlib.Omega.{arith}
use borrow.Author.Tests.{ltb-true, ltb-false}
use lib.Dec.{ltb}
use lib.ListN.{get_or, replicate, get_or-replicate, get_or-eq_default}
use Rattle.definition.specs.Walk.{Item, unknown}
use Rattle.slots.specs.View.{Slots, slots, tops, Canon, Sound}
use Rattle.slots.proofs.Codes.{canon-unknown, canon-none}

abbrev pub blanks : Slots
blanks = slots (replicate 244 0) (replicate 244 9)

pub blank-code : (j : ℕ) → j < 244 → get_or blanks.codes j 0 ≡ 9
blank-code j h = get_or-replicate {A = ℕ} 244 j 9 0 h

blank-canon : (j : ℕ) → Canon (get_or blanks.codes j 0) (get_or blanks.bytes j 0)
blank-canon j = by (ltb j 244) refl
  where
    by : (b : Bool) → ltb j 244 ≡ b → Canon (get_or blanks.codes j 0) (get_or blanks.bytes j 0)
    by true e = rw (blank-code j (ltb-true j 244 e)) canon-unknown
    by false e =
        let g : 244 ≤ j = ltb-false j 244 e in
        rw (get_or-eq_default {A = ℕ} (replicate 244 9) 0 {n = j} g, get_or-eq_default {A = ℕ} (replicate 244 0) 0 {n = j} g)
        canon-none

pub blank-sound : Sound blanks
blank-sound = record { whole_bytes = refl; whole_codes = refl; canon = blank-canon }

pub tops-same : (f : ℕ → Item) (n : ℕ) → ((j : ℕ) → j < n → f j ≡ unknown) → tops f n ≡ replicate n unknown
tops-same f zero h = refl
tops-same f (suc n) h = rw (h n (omega arith), tops-same f n (λ j lt. h j (omega arith)))
