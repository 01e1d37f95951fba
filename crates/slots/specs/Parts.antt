-- What the functions of this crate ensure, and what becomes of slots.
use Rattle.std.specs.Prelude.{List, ◌≡◌, ℕ, ◌+◌, ◌-◌, ◌≤◌, ◌<◌, ◌||◌, leb, ltb, eqb, length, get_or}
use Rattle.definition.specs.Basics.{pick}
use Rattle.definition.specs.Walk.{join_item}
use Rattle.decode.specs.View.{item_of, Held}
use Rattle.decode.specs.declared.Value.{Value}
use Rattle.slots.specs.View.{Slots, slot_item, sufficient, cells, Canon}

-- the numbers of r from a up to e are as P says, the others are those of l
pub record Each (P : ℕ → ℕ → Type 0) (l : List ℕ) (a e : ℕ) (r : List ℕ) : Type 0 where
  pub whole : length r ≡ length l
  pub each : (j : ℕ) → a ≤ j → j < e → P j (get_or r j 0)
  pub below : (j : ℕ) → j < a → get_or r j 0 ≡ get_or l j 0
  pub above : (j : ℕ) → e ≤ j → get_or r j 0 ≡ get_or l j 0

-- the slots of r from b up to e have the items of p at the places that f names, the others those of p
pub record Placed (f : ℕ → ℕ) (p : Slots) (b e : ℕ) (r : Slots) : Type 0 where
  pub there : (j : ℕ) → b ≤ j → j < e → cells r j ≡ cells p (f j)
  pub below : (j : ℕ) → j < b → cells r j ≡ cells p j
  pub above : (j : ℕ) → e ≤ j → cells r j ≡ cells p j

-- where the item at j comes from in a copy from a on to b on: from as far above a as j is above b
unfoldable pub apart : ℕ → ℕ → ℕ → ℕ
apart a b j = a + (j - b)

-- where it comes from when n items come down by k to b, and the k below them go on top
unfoldable pub turn : ℕ → ℕ → ℕ → ℕ → ℕ
turn b n k j = pick (ltb j (b + n)) (j + k) (j - n)

-- with the code r, the slot of these bytes has what it and the other slot have in common
pub record Joined (code bytes code1 bytes1 r : ℕ) : Type 0 where
  pub item : slot_item r bytes ≡ join_item (slot_item code bytes) (slot_item code1 bytes1)
  pub canon : Canon r bytes

-- the code x at j is that of what the slots j of p and t have in common
abbrev pub JoinedAt : Slots → Slots → ℕ → ℕ → Type 0
JoinedAt p t j x = Joined (get_or p.codes j 0) (get_or p.bytes j 0) (get_or t.codes j 0) (get_or t.bytes j 0) x

-- the code that two slots have in common by their codes alone
unfoldable pub common_code : ℕ → ℕ → ℕ
common_code code code1 = pick (eqb code code1) code 9

-- the code x at j is that of l and m
abbrev pub CommonAt : List ℕ → List ℕ → ℕ → ℕ → Type 0
CommonAt l m j x = x ≡ common_code (get_or l j 0) (get_or m j 0)

-- what is left of a code that two slots have in common, by their bytes
unfoldable pub settled_code : ℕ → ℕ → ℕ → ℕ
settled_code code bytes bytes1 = pick (sufficient code || eqb bytes bytes1) code 9

-- the code x at j is what is left of that of l, by the bytes y and z
abbrev pub SettledAt : List ℕ → List ℕ → List ℕ → ℕ → ℕ → Type 0
SettledAt l y z j x = x ≡ settled_code (get_or l j 0) (get_or y j 0) (get_or z j 0)

-- the length of an exact item, by its code
unfoldable pub code_length : ℕ → ℕ
code_length code = pick (leb code 8) code 1

-- v is the value in a slot of this code and these bytes
pub record InSlot (code bytes : ℕ) (v : Value) : Type 0 where
  pub held : Held v
  pub item : item_of v ≡ slot_item code bytes
