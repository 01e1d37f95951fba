-- What a good map is, row by row: `good_map_rows`.
use mathlib.Core.Bool.{true, ◌&&◌, not}
use mathlib.Core.List.{List, [], ◌∷◌}
use mathlib.Core.Path.{◌≡◌}
use Prim.Native.Nat.{ℕ, zero, suc, ◌+◌, ◌≤◌, ◌<◌}
use native.Mathlib.Omega.{arith}
use borrow.Author.Tests.{leb-true, eqb-true, le-leb, lt-leb, not-true, eqb-false}
use lib.Dec.{leb, eqb}
use lib.ListN.{length, drop, get_or, length-drop}
use lib.Seq.{length-take-le}
use Rattle.definition.specs.Basics.{Bytes, pick}
use Rattle.definition.specs.Classes.{class_number}
use Rattle.definition_rules.specs.Maps.{row_count, first_row, rows_of, good_row, good_rows, good_map}
use Rattle.definition.proofs.Sound.{and-true}

-- the count, the offset, where the rows lie, and of each row: it is a class, up to 60 that of the built-in table, and later no push
pub record GoodMap (map : Bytes) : Type 0 where
  pub count : row_count map ≡ 256
  pub offset : 4 ≤ first_row map
  pub within : first_row map + 256 ≤ length map
  pub size : length (rows_of map) ≡ 256
  pub class : (code : ℕ) → code < 256 → get_or (rows_of map) code 0 ≤ 31
  pub up_to_60 : (code : ℕ) → code ≤ 0x60 → get_or (rows_of map) code 0 ≡ class_number code
  pub later : (code : ℕ) → 0x60 < code → code < 256 → get_or (rows_of map) code 0 ≡ 1 → ⊥

good-at : (code : ℕ) (l : List ℕ) → good_rows code l ≡ true → (k : ℕ) → k < length l → good_row (code + k) (get_or l k 0) ≡ true
good-at code [] h k lt = absurd (omega arith)
good-at code (c ∷ l) h zero lt =
    let e : code + 0 ≡ code = omega arith in
    rw e (and-true (good_row code c) (good_rows (code + 1) l) h).0
good-at code (c ∷ l) h (suc k) lt =
    let e : code + suc k ≡ code + 1 + k = omega arith in
    rw e (good-at (code + 1) l (and-true (good_row code c) (good_rows (code + 1) l) h).1 k (omega arith))

pub good_map_rows : (map : Bytes) → good_map map ≡ true → GoodMap map
unfolding good_map
good_map_rows map h = record {
  count = eqb-true (row_count map) 256 a.0;
  offset = leb-true 4 (first_row map) b.0;
  within = fits;
  size = sized;
  class = λ code l. leb-true (row code) 31 (both code l).0;
  up_to_60 = λ code l. eqb-true (row code) (class_number code) (rw le-leb at (both code (omega (arith, l))).1);
  later = λ code g l e. eqb-false (row code) 1 (not-true (eqb (row code) 1) (rw lt-leb at (both code l).1)) e;
}
  where
    row : ℕ → ℕ
    row code = get_or (rows_of map) code 0

    a : (eqb (row_count map) 256 ≡ true) × ((leb 4 (first_row map) && (leb (first_row map + 256) (length map) && good_rows 0 (rows_of map))) ≡ true)
    a = and-true _ _ h

    b : (leb 4 (first_row map) ≡ true) × ((leb (first_row map + 256) (length map) && good_rows 0 (rows_of map)) ≡ true)
    b = and-true _ _ a.1

    c : (leb (first_row map + 256) (length map) ≡ true) × (good_rows 0 (rows_of map) ≡ true)
    c = and-true _ _ b.1

    fits : first_row map + 256 ≤ length map
    fits = leb-true (first_row map + 256) (length map) c.0

    sized : length (rows_of map) ≡ 256
    sized = length-take-le 256 (drop (first_row map) map) (simp length-drop (omega (arith, fits)))

    both : (code : ℕ) → code < 256 → (leb (row code) 31 ≡ true) × (pick (leb code 0x60) (eqb (row code) (class_number code)) (not (eqb (row code) 1)) ≡ true)
    both code l =
        let e : 0 + code ≡ code = omega arith in
        and-true _ _ (rw e at (good-at 0 (rows_of map) c.1 code (omega (arith, l, sized))))
