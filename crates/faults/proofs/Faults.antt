-- There is a fault exactly where `good_header` is false.
use mathlib.Core.Bool.{Bool, true, false, ◌&&◌}
use mathlib.Core.List.{List, [], ◌∷◌}
use mathlib.Core.Option.{Option, none, some}
use mathlib.Core.Path.{◌≡◌, refl, sym, ap, ◌∙◌}
use Prim.Native.Nat.{ℕ, ◌+◌, ◌≤◌}
use native.Mathlib.Omega.{arith}
use borrow.Author.Tests.{le-leb, lt-leb, ltb-true, ltb-false, eqb-true, eqb-false}
use lib.Dec.{ltb, leb, eqb}
use lib.ListN.{length}
use Rattle.definition.specs.Basics.{Bytes}
use Rattle.definition.specs.Papers.{Part, share, shares_none, within, good_parts, entry_count, header_size, initialiser, bodies, entries, good_header}
use Rattle.faults.specs.Faults.{Fault, or_else, shared_with, placed, part_fault, fault}

abbrev pub no_fault : Option Fault → Bool
no_fault none = true
no_fault (some f) = false

either : (f g : Option Fault) → no_fault (or_else f g) ≡ (no_fault f && no_fault g)
either none g = refl
either (some f) g = refl

shared : (p : Part) (k j : ℕ) (qs : List Part) → shares_none p qs ≡ no_fault (shared_with p k j qs)
shared p k j [] = refl
shared p k j (q ∷ qs) = by (share p q) refl (shared p k (j + 1) qs)
  where
    by : (b : Bool) → share p q ≡ b → shares_none p qs ≡ no_fault (shared_with p k (j + 1) qs)
        → shares_none p (q ∷ qs) ≡ no_fault (shared_with p k j (q ∷ qs))
    by true e h = rw e
    by false e h = rw e h

alone : (from to k : ℕ) (p : Part) → within from to p ≡ no_fault (placed from to k p)
alone from to k p = by (ltb p.offset from) (ltb to (p.offset + p.size)) refl refl
  where
    by : (a b : Bool) → ltb p.offset from ≡ a → ltb to (p.offset + p.size) ≡ b → within from to p ≡ no_fault (placed from to k p)
    by true b e f = rw (e, lt-leb from p.offset (ltb-true p.offset from e))
    by false true e f =
        rw (e, f, le-leb from p.offset (ltb-false p.offset from e), lt-leb (p.offset + p.size) to (ltb-true to (p.offset + p.size) f))
    by false false e f =
        rw (e, f, le-leb from p.offset (ltb-false p.offset from e), le-leb (p.offset + p.size) to (ltb-false to (p.offset + p.size) f))

parts : (from to k : ℕ) (ps : List Part) → good_parts from to ps ≡ no_fault (part_fault from to k ps)
parts from to k [] = refl
parts from to k (p ∷ ps) =
    ap (λ b. b && (shares_none p ps && good_parts from to ps)) (alone from to k p)
    ∙ ap (λ b. no_fault (placed from to k p) && (b && good_parts from to ps)) (shared p k (k + 1) ps)
    ∙ ap (λ b. no_fault (placed from to k p) && (no_fault (shared_with p k (k + 1) ps) && b)) (parts from to (k + 1) ps)
    ∙ ap (λ b. no_fault (placed from to k p) && b) (sym (either (shared_with p k (k + 1) ps) (part_fault from to (k + 1) ps)))
    ∙ sym (either (placed from to k p) (or_else (shared_with p k (k + 1) ps) (part_fault from to (k + 1) ps)))

pub faultless : (paper : Bytes) → good_header paper ≡ no_fault (fault paper)
unfolding good_header fault
faultless paper = by (ltb size 8) (eqb E 0) (ltb 32 E) (ltb size H) refl refl refl refl
  where
    size : ℕ
    size = length paper

    E : ℕ
    E = entry_count paper

    H : ℕ
    H = header_size paper

    by : (a b c d : Bool) → ltb size 8 ≡ a → eqb E 0 ≡ b → ltb 32 E ≡ c → ltb size H ≡ d → good_header paper ≡ no_fault (fault paper)
    by true b c d e f g h = rw (e, lt-leb 8 size (ltb-true size 8 e))
    by false true c d e f g h = rw (e, f, le-leb 8 size (ltb-false size 8 e), eqb-true E 0 f)
    by false false true d e f g h =
        rw (e, f, g, le-leb 8 size (ltb-false size 8 e), lt-leb E 32 (ltb-true 32 E g)) (both (leb 1 E))
      where
        both : (b : Bool) → (b && false) ≡ false
        both true = refl
        both false = refl
    by false false false true e f g h =
        let n : 1 ≤ E = omega (arith, eqb-false E 0 f) in
        rw (
          e,
          f,
          g,
          h,
          le-leb 8 size (ltb-false size 8 e),
          le-leb 1 E n,
          le-leb E 32 (ltb-false 32 E g),
          lt-leb H size (ltb-true size H h),
        )
    by false false false false e f g h =
        let n : 1 ≤ E = omega (arith, eqb-false E 0 f) in
        rw (
          e,
          f,
          g,
          h,
          le-leb 8 size (ltb-false size 8 e),
          le-leb 1 E n,
          le-leb E 32 (ltb-false 32 E g),
          le-leb H size (ltb-false size H h),
        ) (parts H size 0 (initialiser paper ∷ bodies (entries paper)))
