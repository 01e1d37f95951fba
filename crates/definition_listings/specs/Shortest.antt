-- Document 02, L4: "each push in its shortest form".
use Rattle.std.specs.Prelude.{List, [], ◌∷◌, ◌++◌, ◌⊎◌, ◌≡◌, ℕ, zero, suc, ◌/◌, ◌%◌, ◌≤◌, leb, length}
use Rattle.std.proofs.Math.Option.{Option, none, some}
use Rattle.definition.specs.Basics.{Bytes, pick}
use Rattle.definition.specs.Decoding.{Instruction, decode, instructions}

-- n in so many bytes, lowest first
abbrev pub lowest_first : ℕ → ℕ → Bytes
lowest_first zero n = []
lowest_first (suc count) n = n % 256 ∷ lowest_first count (n / 256)

-- a push of these data "with the shortest length form among 01 to 4e", 00 where there are none; more than 4,294,967,295 bytes
-- have no form
unfoldable pub push_of : Bytes → Option Bytes
push_of l =
    pick (leb (length l) 0x4b) (some (length l ∷ l))
    (pick (leb (length l) 255) (some (0x4c ∷ lowest_first 1 (length l) ++ l))
    (pick (leb (length l) 65535) (some (0x4d ∷ lowest_first 2 (length l) ++ l))
    (pick (leb (length l) 4294967295) (some (0x4e ∷ lowest_first 4 (length l) ++ l)) none)))

-- the bytes of a push that has a form; a fragment holds no other
abbrev pub in_form : Option Bytes → Bytes
in_form none = []
in_form (some l) = l

-- "each push in its shortest form": what listing a fragment and assembling it gives
abbrev pub shortest_of : List Instruction → Bytes
shortest_of [] = []
shortest_of (i ∷ is) = pick (leb i.opcode 0x4e) (in_form (push_of i.literal)) (i.opcode ∷ []) ++ shortest_of is

unfoldable pub shortest : Bytes → Bytes
shortest fragment = shortest_of (instructions (decode fragment))

-- "the same instructions and data", push forms aside: both are data pushes, or the opcodes are equal; the data are equal; the
-- offsets may differ
abbrev pub SameButForm : Instruction → Instruction → Type 0
SameButForm i j = (((i.opcode ≤ 0x4e) × (j.opcode ≤ 0x4e)) ⊎ (i.opcode ≡ j.opcode)) × (i.literal ≡ j.literal)

-- one by one, and as many
abbrev pub SameButForms : List Instruction → List Instruction → Type 0
SameButForms [] [] = Unit {0}
SameButForms [] (j ∷ js) = ⊥
SameButForms (i ∷ is) [] = ⊥
SameButForms (i ∷ is) (j ∷ js) = SameButForm i j × SameButForms is js
