-- What is proved of the class numbers, for a `match` on one.
use Rattle.definition.specs.Stacks.{built_in}
use Rattle.opcodes.specs.View.{ClassRows, BuiltInRows}
use Rattle.definition_rules.specs.Maps.{built_in_options, rules_by}
use lib.ListN.{length, get_or, get_or-eq_default}
use mathlib.Core.Bool.{Bool, true, false, ◌&&◌}
use mathlib.Core.List.{List, [], ◌∷◌}
use mathlib.Core.Path.{◌≡◌, refl, sym, ◌∙◌, subst}
use Prim.Native.Nat.{ℕ, ◌≤◌, ◌<◌}
use native.Mathlib.Omega.{arith}
use lib.Dec.{T, leb, ltb, ltb→lt, eqb, leb→le, nltb→le}
use mir.Facts.{and_yes}
use Rattle.definition.specs.Basics.{pick}
use Rattle.definition.specs.Classes.{class_at, Range, range, ranges, number_in, class_number, class_of}
use Rattle.opcodes.proofs.Every.{every, tabled}
use Rattle.opcodes.proofs.Match.{below, ranged}

-- the class numbers of the ranges, and unmodelled's, are below n
abbrev all_below : ℕ → List Range → Bool
all_below n [] = ltb 0 n
all_below n (range from to class ∷ l) = ltb class n && all_below n l

pick-below : (b : Bool) (x y n : ℕ) → x < n → y < n → pick b x y < n
pick-below true x y n g h = g
pick-below false x y n g h = h

number_in-below : (n : ℕ) (l : List Range) (opcode : ℕ) → T (all_below n l) → number_in l opcode < n
number_in-below n [] opcode t = ltb→lt 0 n t
number_in-below n (range from to class ∷ l) opcode t =
    let both = and_yes (ltb class n) (all_below n l) t in
    pick-below (leb from opcode && leb opcode to) class (number_in l opcode) n (ltb→lt class n both.0) (number_in-below n l opcode both.1)

-- every class number is below 32
pub number-below : (opcode : ℕ) → class_number opcode < 32
unfolding class_number
number-below opcode = number_in-below 32 ranges opcode tt

-- the two ranges of push
pub push-low : (opcode : ℕ) → opcode ≤ 0x4f → class_number opcode ≡ 1
unfolding class_number
push-low opcode h = sym (below class_number [] opcode 1 0x50 tt (omega arith) tt)

pub push-high : (opcode : ℕ) → 0x51 ≤ opcode → opcode ≤ 0x60 → class_number opcode ≡ 1
unfolding class_number
push-high opcode g h = sym (ranged class_number [] opcode 1 0x51 0x61 tt g (omega arith) tt)

-- no range holds a code past 255
abbrev all_to : ℕ → List Range → Bool
all_to n [] = true
all_to n (range from to class ∷ l) = ltb to n && all_to n l

not_within : (a : Bool) (opcode to x y n : ℕ) → to < n → n ≤ opcode → pick (a && leb opcode to) x y ≡ y
not_within true opcode to x y n g h = by (leb opcode to) refl
  where
    by : (b : Bool) → leb opcode to ≡ b → pick (true && leb opcode to) x y ≡ y
    by true k = absurd (omega (arith, g, h, leb→le opcode to (rw k tt)))
    by false k = rw k
not_within false opcode to x y n g h = refl

number_in-past : (n : ℕ) (l : List Range) (opcode : ℕ) → T (all_to n l) → n ≤ opcode → number_in l opcode ≡ 0
number_in-past n [] opcode t h = refl
number_in-past n (range from to class ∷ l) opcode t h =
    let both = and_yes (ltb to n) (all_to n l) t in
    not_within (leb from opcode) opcode to class (number_in l opcode) n (ltb→lt to n both.0) h ∙ number_in-past n l opcode both.1 h

past-codes : (opcode : ℕ) → 256 ≤ opcode → class_number opcode ≡ 0
unfolding class_number
past-codes opcode h = number_in-past 256 ranges opcode tt h

-- The rules by a table that passes the test at all of its 256 entries are those of Section 2; past it every code is unmodelled.
module _ (rows : List ℕ) (e : length rows ≡ 256) (t : T (every (λ n. eqb (get_or rows n 0) (class_number n)) 256 0)) where
  row_is : (code : ℕ) → get_or rows code 0 ≡ class_number code
  row_is code = by (ltb code 256) refl
    where
      by : (b : Bool) → ltb code 256 ≡ b → get_or rows code 0 ≡ class_number code
      by true k = tabled class_number rows code (rw e t) (omega (arith, e, ltb→lt code 256 (rw k tt)))
      by false k = let h : 256 ≤ code = nltb→le code 256 (rw k tt) in get_or-eq_default rows 0 (omega (arith, e, h)) ∙ sym (past-codes code h)

  good-rows : ClassRows rows
  good-rows = record { size = e; below = λ code. subst (λ (n : ℕ). n < 32) (sym (row_is code)) (number-below code) }

  rules-by : rules_by rows built_in_options ≡ built_in
  unfolding class_of
  rules-by = λ i. record { class_for = λ code. class_at (row_is code i); limit = 244; examined = false }

  pub built-in-rows : BuiltInRows rows
  built-in-rows = record { good = good-rows; row = row_is; same = rules-by }
