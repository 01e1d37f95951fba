-- Laws of a year's map in lent bytes.
use mathlib.Core.List.{List, [], ◌∷◌}
use mathlib.Core.Path.{◌≡◌, refl, sym, ap, ap₂, ◌∙◌}
use Prim.Native.Nat.{ℕ, suc, ◌+◌, ◌<◌}
use native.Mathlib.Omega.{arith}
use borrow.Author.Tests.{ne_eqb, le-leb}
use lib.ListN.{length, get_or}
use Rattle.definition.specs.Basics.{Bytes}
use Rattle.definition.specs.Classes.{class_number}
use Rattle.definition_rules.specs.Maps.{table_from, built_in_map}
use Rattle.definition_rules.specs.Years.{classic_number, classic_map}
use Rattle.maps.specs.View.{Numbers, year_map, YearRows, map_size, map_put}

-- what is promised of the size and of the lent bytes
abbrev pub Puts : ℕ → Bytes → ℕ → Bytes → Type 0
Puts year lent r new = (r ≡ map_size year lent) × (new ≡ map_put year lent)

-- another year
pub no-year : (year : ℕ) (lent : Bytes) → 1 < year → Puts year lent 0 lent
unfolding year_map
no-year year lent h =
    let y = ne_eqb year 0 (λ e. omega (arith, e, h)) in
    let z = ne_eqb year 1 (λ e. omega (arith, e, h)) in
    let l = le-leb 0 (length lent) (omega arith) in
    (rw (y, z, l), rw (y, z, l))

-- rows by a rule are those of its table
tabled : (rule : ℕ → ℕ) (rows : List ℕ) (code : ℕ) → ((k : ℕ) → k < length rows → get_or rows k 0 ≡ rule (code + k)) → rows ≡ table_from rule code (length rows)
tabled rule [] code h = refl
tabled rule (n ∷ rows) code h =
    let e : n ≡ rule code = h 0 (omega arith) ∙ ap rule (omega arith) in
    ap₂ (λ (x : ℕ) (l : List ℕ). x ∷ l) e (tabled rule rows (code + 1) (λ k l. h (suc k) (omega (arith, l)) ∙ ap rule (omega arith)))

all-tabled : (rule : ℕ → ℕ) (rows : List ℕ) → Numbers rule rows → table_from rule 0x00 256 ≡ rows
all-tabled rule rows b =
    sym (tabled rule rows 0x00 (λ k l. b.row k (omega (arith, l, b.size)) ∙ ap rule (omega arith)) ∙ ap (table_from rule 0x00) b.size)

-- the rows of both years
abbrev headed : List ℕ → Bytes
headed rows = 0x00 ∷ 0x01 ∷ 0x04 ∷ 0x00 ∷ rows

pub current-rows : (year : ℕ) (rows : List ℕ) → year ≡ 0 → Numbers class_number rows → YearRows year rows
unfolding year_map built_in_map
current-rows year rows y b = record { size = b.size; same = rw y (ap headed (all-tabled class_number rows b)) }

pub classic-rows : (year : ℕ) (rows : List ℕ) → year ≡ 1 → Numbers classic_number rows → YearRows year rows
unfolding year_map classic_map
classic-rows year rows y b = record { size = b.size; same = rw y (ap headed (all-tabled classic_number rows b)) }
