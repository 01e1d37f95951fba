-- Request L6: the built-in table as a map of 260 bytes is good, and its rules are the built-in ones.
use mathlib.Core.Bool.{Bool, true, false, ◌&&◌}
use mathlib.Core.List.{List, [], ◌∷◌}
use mathlib.Core.Path.{◌≡◌, refl, sym, ap, ◌∙◌}
use Prim.Native.Nat.{ℕ, zero, suc, ◌+◌, ◌≤◌, ◌<◌}
use native.Mathlib.Omega.{arith}
use borrow.Author.Tests.{ltb-true, ltb-false, leb-true}
use lib.Dec.{T, leb, ltb, ltb→lt}
use lib.ListN.{length, get_or, get_or-eq_default}
use mir.Facts.{and_yes}
use Rattle.definition.specs.Basics.{pick}
use Rattle.definition.specs.Classes.{Range, range, ranges, number_in, class_number, class_at, class_of}
use Rattle.definition.specs.Stacks.{built_in}
use Rattle.definition_rules.specs.Maps.{rows_of, good_map, rules_of, table_from, built_in_map, built_in_options}

-- it is good, and of 260 bytes
pub built_in_map_good : good_map built_in_map ≡ true
unfolding good_map built_in_map class_number
built_in_map_good = refl

pub built_in_map_size : length built_in_map ≡ 260
unfolding built_in_map
built_in_map_size = refl

-- no range holds a code past ff
abbrev all_to : ℕ → List Range → Bool
all_to n [] = true
all_to n (range from to class ∷ l) = ltb to n && all_to n l

not_within : (a b : Bool) (x y : ℕ) → b ≡ false → pick (a && b) x y ≡ y
not_within true b x y e = rw e
not_within false b x y e = refl

above : (opcode to : ℕ) → to < opcode → leb opcode to ≡ false
above opcode to h = by (leb opcode to) refl
  where
    by : (b : Bool) → leb opcode to ≡ b → b ≡ false
    by true e = absurd (omega (arith, h, leb-true opcode to e))
    by false e = refl

number_in-past : (n : ℕ) (l : List Range) (opcode : ℕ) → T (all_to n l) → n ≤ opcode → number_in l opcode ≡ 0
number_in-past n [] opcode t h = refl
number_in-past n (range from to class ∷ l) opcode t h =
    let both = and_yes (ltb to n) (all_to n l) t in
    not_within (leb from opcode) (leb opcode to) class (number_in l opcode) (above opcode to (omega (arith, h, ltb→lt to n both.0)))
    ∙ number_in-past n l opcode both.1 h

past-codes : (opcode : ℕ) → 256 ≤ opcode → class_number opcode ≡ 0
unfolding class_number
past-codes opcode h = number_in-past 256 ranges opcode tt h

-- the rows of a table
tabled : (rule : ℕ → ℕ) (code n k : ℕ) → k < n → get_or (table_from rule code n) k 0 ≡ rule (code + k)
tabled rule code zero k h = absurd (omega arith)
tabled rule code (suc n) zero h = ap rule (omega arith)
tabled rule code (suc n) (suc k) h = tabled rule (code + 1) n k (omega arith) ∙ ap rule (omega arith)

table-length : (rule : ℕ → ℕ) (code n : ℕ) → length (table_from rule code n) ≡ n
table-length rule code zero = refl
table-length rule code (suc n) = ap suc (table-length rule (code + 1) n)

rows_are : rows_of built_in_map ≡ table_from class_number 0x00 256
unfolding built_in_map
rows_are = refl

row_is : (code : ℕ) → get_or (rows_of built_in_map) code 0 ≡ class_number code
row_is code = ap (λ l. get_or l code 0) rows_are ∙ by (ltb code 256) refl
  where
    by : (b : Bool) → ltb code 256 ≡ b → get_or (table_from class_number 0x00 256) code 0 ≡ class_number code
    by true e = tabled class_number 0x00 256 code (ltb-true code 256 e) ∙ ap class_number (omega arith)
    by false e =
        let h = ltb-false code 256 e in
        let l : length (table_from class_number 0x00 256) ≤ code = omega (arith, h, table-length class_number 0x00 256) in
        get_or-eq_default (table_from class_number 0x00 256) 0 l ∙ sym (past-codes code h)

-- the rules by this map and 244 are those of document 01: "the built-in map at 244"
pub built_in_map_rules : rules_of built_in_map built_in_options ≡ built_in
unfolding class_of
built_in_map_rules = λ i. record { class_for = λ code. class_at (row_is code i); limit = 244; examined = false }
