-- Laws of judging a map, row by row.
use Rattle.std.proofs.Common.{Bool, true, false, ◌&&◌, not, List, [], ◌∷◌, ◌++◌, ◌≡◌, refl, sym, ap, ◌∙◌, ℕ, suc, ◌+◌, ◌-◌, ◌≤◌, ◌<◌, arith, leb, eqb, length, take, drop, get_or, T}
use Rattle.std.proofs.Math.Bool.{and_assoc, and-false}
use Rattle.definition.proofs.Sound.{and-true}
use mathlib.Core.Path.{ap₂}
use borrow.Author.Tests.{le-leb, lt-leb, eqb-true, eq-eqb}
use lib.Seq.{length-take-le}
use Rattle.std.proofs.lemmas.List.{take-append-drop}
use Rattle.std.specs.List.{list_all}
use Rattle.definition.specs.Basics.{Bytes}
use Rattle.definition.specs.Classes.{class_number}
use Rattle.opcodes.specs.declared.TheConstants.{CLASSES}
use Rattle.definition_rules.proofs.GoodMaps.{GoodMap, good_map_rows}
use Rattle.opcodes.specs.View.{ClassRows}
use Rattle.maps.proofs.ClassRows.{rows-lent, good-rows}
use Rattle.definition_rules.specs.Maps.{row_count, first_row, good_row, good_rows, good_map, good_limit, table_from}
use Rattle.opcodes.proofs.Numbering.{number-below}
use Rattle.opcodes.proofs.Every.{every, tabled}
use Rattle.maps.specs.View.{Numbers}

-- a table that passes the test at all of its 256 entries
pub numbers-by : (rule : ℕ → ℕ) (rows : List ℕ) → length rows ≡ 256 → T (every (λ n. eqb (get_or rows n 0) (rule n)) 256 0) → Numbers rule rows
numbers-by rule rows l t = record { size = l; row = λ code h. tabled rule rows code (rw l t) (omega (arith, l, h)) }

-- a row up to 60 is a class where it is that of the table
row-early : (code class : ℕ) → code < 0x61 → good_row code class ≡ eqb class (class_number code)
row-early code class h = rw (le-leb code 0x60 (omega arith)) (by (eqb class (class_number code)) refl)
  where
    by : (b : Bool) → eqb class (class_number code) ≡ b → (leb class 31 && b) ≡ b
    by true e = rw (le-leb class 31 (omega (arith, number-below code, eqb-true class (class_number code) e)))
    by false e = and-false (leb class 31)

row-later : (code class : ℕ) → 0x61 ≤ code → good_row code class ≡ (leb class 31 && not (eqb class 1))
row-later code class h = rw (lt-leb code 0x60 (omega arith))

-- a row from 61 on is good where it is a class other than push
abbrev pub later_row : ℕ → Bool
later_row class = leb class 31 && not (eqb class 1)

pub good_rows-append : (xs ys : List ℕ) (code : ℕ) → good_rows code (xs ++ ys) ≡ (good_rows code xs && good_rows (code + length xs) ys)
good_rows-append [] ys code = ap (λ n. good_rows n ys) (omega arith)
good_rows-append (x ∷ xs) ys code =
    let n : code + 1 + length xs ≡ code + suc (length xs) = omega arith in
    ap (λ b. good_row code x && b) (good_rows-append xs ys (code + 1))
    ∙ sym (and_assoc (good_row code x) (good_rows (code + 1) xs) (good_rows (code + 1 + length xs) ys))
    ∙ ap (λ k. (good_row code x && good_rows (code + 1) xs) && good_rows k ys) n

-- from 61 on
good_rows-later : (rows : List ℕ) (code : ℕ) → 0x61 ≤ code → good_rows code rows ≡ list_all later_row rows
good_rows-later [] code h = refl
good_rows-later (class ∷ rows) code h = ap₂ (λ a b. a && b) (row-later code class h) (good_rows-later rows (code + 1) (omega (arith, h)))

-- up to 60
early_rows-good : (rows : List ℕ) (code : ℕ) → code + length rows ≤ 0x61 → good_rows code rows ≡ true → rows ≡ table_from class_number code (length rows)
early_rows-good [] code h g = refl
early_rows-good (class ∷ rows) code h g =
    let s : code + suc (length rows) ≤ 0x61 = h in
    let both = and-true (good_row code class) (good_rows (code + 1) rows) g in
    let e = eqb-true class (class_number code) (sym (row-early code class (omega (arith, s))) ∙ both.0) in
    ap₂ (λ (x : ℕ) (l : List ℕ). x ∷ l) e (early_rows-good rows (code + 1) (omega (arith, s)) both.1)

-- the rows up to 60 of the built-in table
abbrev pub own : List ℕ
own = take 0x61 CLASSES

own-good : good_rows 0 own ≡ true
unfolding class_number
own-good = refl

own-table : table_from class_number 0 0x61 ≡ own
unfolding class_number
own-table = refl

module _ (rows : List ℕ) (l : length rows ≡ 256) where
  early_size : length (take 0x61 rows) ≡ 0x61
  early_size = length-take-le 0x61 rows (omega (arith, l))

  split : good_rows 0 rows ≡ (good_rows 0 (take 0x61 rows) && list_all later_row (drop 0x61 rows))
  split =
      ap (good_rows 0) (sym (take-append-drop 0x61 rows))
      ∙ good_rows-append (take 0x61 rows) (drop 0x61 rows) 0
      ∙ ap (λ b. good_rows 0 (take 0x61 rows) && b) (ap (λ n. good_rows n (drop 0x61 rows)) (rw early_size refl) ∙ good_rows-later (drop 0x61 rows) 0x61 (omega arith))

  pub own_rows : take 0x61 rows ≡ own → list_all later_row (drop 0x61 rows) ≡ good_rows 0 rows
  own_rows e = sym (split ∙ ap (λ l. good_rows 0 l && list_all later_row (drop 0x61 rows)) e ∙ ap (λ b. b && list_all later_row (drop 0x61 rows)) own-good)

  pub other_rows : (take 0x61 rows ≡ own → ⊥) → false ≡ good_rows 0 rows
  other_rows n = by (good_rows 0 (take 0x61 rows)) refl
    where
      by : (b : Bool) → good_rows 0 (take 0x61 rows) ≡ b → false ≡ good_rows 0 rows
      by true e = absurd (n (early_rows-good (take 0x61 rows) 0 (omega (arith, early_size)) e ∙ ap (table_from class_number 0) early_size ∙ own-table))
      by false e = sym (split ∙ ap (λ b. b && list_all later_row (drop 0x61 rows)) e)

-- a header that is wrong, or rows that do not lie in the map
pub bad_map-by : (map : Bytes) → (GoodMap map → ⊥) → good_map map ≡ false
bad_map-by map h = by (good_map map) refl
  where
    by : (b : Bool) → good_map map ≡ b → b ≡ false
    by true e = absurd (h (good_map_rows map e))
    by false e = refl

-- where neither is so, the rows decide
module _ (map : Bytes) (at : ℕ) (a : at ≡ first_row map) (count : row_count map ≡ 256) (low : 4 ≤ at) (within : at + 256 ≤ length map) where
  pub rows_decide : good_map map ≡ good_rows 0 (take (at + 256 - at) (drop at map))
  unfolding good_map
  rows_decide = rw (eq-eqb (row_count map) 256 count, ← a, le-leb 4 at low, le-leb (at + 256) (length map) within) (ap (good_rows 0) (by (at + 256 - at) (omega arith)))
    where
      by : (n : ℕ) → n ≡ 256 → take 256 (drop at map) ≡ take n (drop at map)
      by n e = rw e

  pub class-rows : good_rows 0 (take (at + 256 - at) (drop at map)) ≡ true → ClassRows (take (at + 256 - at) (drop at map))
  class-rows g = rw (rows-lent map at a) (good-rows map (rows_decide ∙ g))

-- The limit
pub low-limit : (limit : ℕ) → limit < 1 → false ≡ good_limit limit
low-limit limit h = rw (lt-leb 1 limit h)

pub other-limit : (limit : ℕ) → 1 ≤ limit → leb limit 244 ≡ good_limit limit
other-limit limit h = rw (le-leb 1 limit h)
