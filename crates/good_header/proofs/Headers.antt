-- Laws of the parts and of the whole header.
use mathlib.Core.Bool.{Bool, true, false}
use mathlib.Core.List.{[], ◌∷◌}
use mathlib.Core.Path.{◌≡◌, refl, sym, ap, ◌∙◌}
use Prim.Native.Nat.{ℕ, zero, suc, ◌+◌, ◌-◌, ◌*◌, ◌≤◌, ◌<◌}
use native.Mathlib.Omega.{arith}
use borrow.Author.Tests.{le-leb, leb-true}
use lib.Dec.{leb}
use lib.ListN.{length}
use Rattle.definition.specs.Basics.{Bytes}
use Rattle.definition.specs.Papers.{header_size, Part, part_at, entries_at, entry_count, entries, initialiser, bodies, good_parts, good_header}
use Rattle.good_header.specs.View.{parts_from}

-- the parts are the initialiser and the bodies
bodies-are : (p : Bytes) (k n : ℕ) → bodies (entries_at p (8 + 6 * k) n) ≡ parts_from p (k + 1) n
bodies-are p k zero = refl
bodies-are p k (suc n) =
    let e : 8 + 6 * k + 6 ≡ 8 + 6 * (k + 1) = omega arith in
    let f : 8 + 6 * k + 2 ≡ 4 + 6 * (k + 1) = omega arith in
    rw (e, f) (ap (λ l. part_at p (4 + 6 * (k + 1)) ∷ l) (bodies-are p (k + 1) n))

pub parts_are : (p : Bytes) → initialiser p ∷ bodies (entries p) ≡ parts_from p 0 (entry_count p + 1)
parts_are p =
    let e : entry_count p + 1 ≡ suc (entry_count p) = omega arith in
    rw e (ap (λ l. part_at p 4 ∷ l) (bodies-are p 0 (entry_count p)))

-- one part more, and those after it
pub parts_from_more : (p : Bytes) (k n : ℕ) (q : Part) → k < n → q ≡ part_at p (4 + 6 * k) → parts_from p k (n - k) ≡ q ∷ parts_from p (k + 1) (n - (k + 1))
parts_from_more p k n q h f =
    let e : n - k ≡ suc (n - (k + 1)) = omega arith in
    rw e (ap (λ (q : Part). q ∷ parts_from p (k + 1) (n - (k + 1))) (sym f))

pub parts_from_none : (p : Bytes) (k n : ℕ) → n ≤ k → parts_from p k (n - k) ≡ []
parts_from_none p k n h =
    let e : n - k ≡ 0 = omega arith in
    rw e

pub ruleset part_steps = (parts_from_more, parts_from_none)

-- The whole header

module _ (p : Bytes) where
  pub header-parts : (n header : ℕ) → n ≡ entry_count p → header ≡ 8 + 6 * n → 1 ≤ n → n ≤ 32 → header ≤ length p
      → good_parts header (length p) (parts_from p 0 (n + 1)) ≡ good_header p
  unfolding good_header
  header-parts n header e f some few long =
      let q : initialiser p ∷ bodies (entries p) ≡ parts_from p 0 (n + 1) = parts_are p ∙ ap (λ k. parts_from p 0 (k + 1)) (sym e) in
      let s : header_size p ≡ header = omega (arith, e, f) in
      ap (λ l. good_parts header (length p) l) (sym q) ∙ ap (λ k. good_parts k (length p) (initialiser p ∷ bodies (entries p))) (sym s)
      ∙ rw (← e, le-leb 8 (length p) (omega arith), le-leb 1 n some, le-leb n 32 few, ← f, le-leb header (length p) long)

  pub header-cut : (n : ℕ) → n ≡ entry_count p → (1 ≤ n → n ≤ 32 → 8 + 6 * n ≤ length p → ⊥) → false ≡ good_header p
  unfolding good_header
  header-cut n e h = by (leb 8 (length p)) (leb 1 n) (leb n 32) (leb (8 + 6 * n) (length p)) refl refl refl refl
    where
      by : (a b c d : Bool) → leb 8 (length p) ≡ a → leb 1 n ≡ b → leb n 32 ≡ c → leb (8 + 6 * n) (length p) ≡ d → false ≡ good_header p
      by true true true true i j k l = absurd (h (leb-true 1 n j) (leb-true n 32 k) (leb-true (8 + 6 * n) (length p) l))
      by false b c d i j k l = rw i
      by true false c d i j k l = rw (i, ← e, j)
      by true true false d i j k l = rw (i, ← e, j, k)
      by true true true false i j k l = rw (i, ← e, j, k, l)

pub ruleset header_rules = (header-parts, header-cut)
