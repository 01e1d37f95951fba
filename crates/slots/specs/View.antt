-- What a slot stands for: the item that its code and bytes say.
use Rattle.std.specs.Prelude.{Bool, ◌&&◌, ◌||◌, List, [], ◌∷◌, ◌≡◌, ℕ, zero, suc, ◌+◌, ◌-◌, ◌^◌, ◌≤◌, ◌<◌, leb, eqb, length, get_or}
use Rattle.definition.specs.Basics.{pick}
use Rattle.definition.specs.Walk.{Item, unknown, exact}
use Rattle.decode.specs.View.{low_bytes}

-- the slots, each a code and bytes
pub record Slots : Type 0 where
  pub bytes : List ℕ
  pub codes : List ℕ

abbrev pub slots : List ℕ → List ℕ → Slots
slots bytes codes = record { bytes = bytes; codes = codes }

-- the item in a slot: a code of 0 to 8 is an exact item of so many bytes, the lowest of the number `bytes`; 9 is an unknown
-- item; 10 + v is the exact item of the one byte v
abbrev pub slot_item : ℕ → ℕ → Item
slot_item code bytes = pick (leb code 8) (exact (low_bytes code bytes)) (pick (leb code 9) unknown (exact ((code - 10) ∷ [])))

-- whether a code says the item by itself, whatever the bytes
unfoldable pub sufficient : ℕ → Bool
sufficient code = eqb code 0 || leb 9 code

-- the code of an exact item of len bytes, which are the number n: 10 + n of one byte up to 245, the length of any other
unfoldable pub code_of : ℕ → ℕ → ℕ
code_of len n = pick (eqb len 1 && leb n 245) (10 + n) len

-- the item in slot j, counted from the bottom, and counted from the top end
abbrev pub cells : Slots → ℕ → Item
cells p j = slot_item (get_or p.codes j 0) (get_or p.bytes j 0)

abbrev pub backs : Slots → ℕ → Item
backs p j = cells p (243 - j)

-- f at n - 1, .., 0
abbrev pub tops : {A : Type 0} → (ℕ → A) → ℕ → List A
tops f zero = []
tops f (suc n) = f n ∷ tops f n

-- a code is a byte; where it is 1 to 8, no bit of the bytes lies above that many, and one byte alone is 246 or more
pub record Canon (code bytes : ℕ) : Type 0 where
  pub byte : code < 256
  pub held : 1 ≤ code → code ≤ 8 → bytes < 256 ^ code
  pub large : code ≡ 1 → 246 ≤ bytes

-- both arrays are whole, and every slot is as above, in use or not
pub record Sound (p : Slots) : Type 0 where
  pub whole_bytes : length p.bytes ≡ 244
  pub whole_codes : length p.codes ≡ 244
  pub canon : (j : ℕ) → Canon (get_or p.codes j 0) (get_or p.bytes j 0)
