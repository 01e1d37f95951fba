-- Section 2: the class of each opcode.
use Rattle.std.specs.Prelude.{◌&&◌, List, [], ◌∷◌, ℕ, leb, get_or}
use Rattle.definition.specs.Basics.{pick}

-- what an ordinary opcode, other than the plain ones, does to the stacks (Section 3)
pub data Ordinary : Type 0 where
  unmodelled push nothing TOALT FROMALT DEPTH SIZE NIP TUCK PICK ROLL ZK : Ordinary
  -- depth and count; count and shift
  copies rotates : ℕ → ℕ → Ordinary

-- what an opcode is to the walk (Section 4) and to a replay (Section 5)
pub data Class : Type 0 where
  IF NOTIF ELSE ENDIF RETURN : Class
  ordinary : Ordinary → Class
  -- ordinary too, and given by how many items it pops and pushes: `plain 2 1` is "2 and 1". None pushes more than one.
  plain : (pops pushes : ℕ) → Class

-- "Class numbers: unmodelled 0, push 1, nothing 2, then IF 3 to (2 and 1) 31 as listed; in lines two and three each opcode is a
-- class": the class at its number
abbrev pub classes : List Class
classes =
    ordinary unmodelled ∷ ordinary push ∷ ordinary nothing ∷
    IF ∷ NOTIF ∷ ELSE ∷ ENDIF ∷ RETURN ∷ ordinary TOALT ∷ ordinary FROMALT ∷ ordinary DEPTH ∷ ordinary SIZE ∷
    ordinary NIP ∷ ordinary TUCK ∷ ordinary PICK ∷ ordinary ROLL ∷ ordinary ZK ∷
    ordinary (copies 1 1) ∷ ordinary (copies 2 2) ∷ ordinary (copies 3 3) ∷ ordinary (copies 2 1) ∷ ordinary (copies 4 2) ∷
    ordinary (rotates 3 1) ∷ ordinary (rotates 6 2) ∷ ordinary (rotates 2 1) ∷ ordinary (rotates 4 2) ∷
    plain 1 0 ∷ plain 2 0 ∷ plain 0 1 ∷ plain 1 1 ∷ plain 3 1 ∷ plain 2 1 ∷ []

-- the class of a class number; unmodelled above 31
abbrev pub class_at : ℕ → Class
class_at n = get_or classes n (ordinary unmodelled)

-- the codes from `from` to `to` have this class number
pub data Range : Type 0 where
  range : (from to class : ℕ) → Range

-- the ranges of Section 2, in its order
abbrev pub ranges : List Range
ranges =
    -- push; nothing
    range 0x00 0x4f 1 ∷ range 0x51 0x60 1 ∷ range 0x61 0x61 2 ∷
    -- IF, NOTIF, ELSE, ENDIF, RETURN
    range 0x63 0x63 3 ∷ range 0x64 0x64 4 ∷ range 0x67 0x67 5 ∷ range 0x68 0x68 6 ∷ range 0x6a 0x6a 7 ∷
    -- to alt, from alt, DEPTH, SIZE, NIP, TUCK, PICK, ROLL, ZK
    range 0x6b 0x6b 8 ∷ range 0x6c 0x6c 9 ∷ range 0x74 0x74 10 ∷ range 0x82 0x82 11 ∷ range 0x77 0x77 12 ∷
    range 0x7d 0x7d 13 ∷ range 0x79 0x79 14 ∷ range 0x7a 0x7a 15 ∷ range 0xa6 0xa6 16 ∷
    -- copies
    range 0x76 0x76 17 ∷ range 0x6e 0x6e 18 ∷ range 0x6f 0x6f 19 ∷ range 0x78 0x78 20 ∷ range 0x70 0x70 21 ∷
    -- rotations
    range 0x7b 0x7b 22 ∷ range 0x71 0x71 23 ∷ range 0x7c 0x7c 24 ∷ range 0x72 0x72 25 ∷
    -- pops 1, pushes 0
    range 0x69 0x69 26 ∷ range 0x75 0x75 26 ∷ range 0xb0 0xb0 26 ∷ range 0xb1 0xb1 26 ∷
    -- 2 and 0
    range 0x6d 0x6d 27 ∷ range 0x88 0x88 27 ∷ range 0x9d 0x9d 27 ∷ range 0xad 0xad 27 ∷
    -- 0 and 1
    range 0xb2 0xb9 28 ∷
    -- 1 and 1
    range 0x83 0x83 29 ∷ range 0x8b 0x8b 29 ∷ range 0x8c 0x8c 29 ∷ range 0x8f 0x92 29 ∷ range 0xa8 0xa8 29 ∷
    range 0xaa 0xaa 29 ∷ range 0xba 0xce 29 ∷
    -- 3 and 1
    range 0x7f 0x7f 30 ∷ range 0xa5 0xa5 30 ∷ range 0xd5 0xd9 30 ∷
    -- 2 and 1
    range 0x7e 0x7e 31 ∷ range 0x84 0x87 31 ∷ range 0x93 0x97 31 ∷ range 0x9a 0x9c 31 ∷ range 0x9e 0xa4 31 ∷
    range 0xa7 0xa7 31 ∷ range 0xab 0xab 31 ∷ range 0xac 0xac 31 ∷ range 0xcf 0xd4 31 ∷ []

-- the class number of the range that holds the opcode; "every other code is unmodelled"
abbrev pub number_in : List Range → ℕ → ℕ
number_in [] opcode = 0
number_in (range from to class ∷ l) opcode = pick (leb from opcode && leb opcode to) class (number_in l opcode)

-- the class number of an opcode
unfoldable pub class_number : ℕ → ℕ
class_number opcode = number_in ranges opcode

-- the class of an opcode
unfoldable pub class_of : ℕ → Class
class_of opcode = class_at (class_number opcode)
