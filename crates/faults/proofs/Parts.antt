-- Laws of the parts, one after another, and of the whole header.
use mathlib.Core.Bool.{Bool, true, false}
use mathlib.Core.List.{◌∷◌}
use mathlib.Core.Option.{some}
use mathlib.Core.Path.{◌≡◌, refl, sym, ap, ◌∙◌}
use Prim.Native.Nat.{ℕ, ◌+◌, ◌*◌, ◌≤◌, ◌<◌}
use native.Mathlib.Omega.{arith}
use borrow.Author.Tests.{lt-ltb, le-ltb, eqb-true, eqb-false, ltb-true, ltb-false, eq-eqb, ne_eqb}
use Rattle.std.proofs.lemmas.Bool.Decides.{nat_tests}
use lib.Dec.{eqb, ltb}
use lib.ListN.{length}
use Rattle.definition.specs.Basics.{Bytes}
use Rattle.definition.specs.Papers.{header_size, entry_count, initialiser, bodies, entries}
use Rattle.good_header.specs.View.{parts_from}
use Rattle.good_header.proofs.Headers.{parts_are, parts_from_more, parts_from_none}
use Rattle.faults.specs.Faults.{short_paper, bad_count, cut_header, part_fault, fault}

pub ruleset part_rules = (parts_from_more, parts_from_none, lt-ltb, le-ltb)

-- The whole header

module _ (p : Bytes) where
  pub fault-short : length p < 8 → some (short_paper (length p)) ≡ fault p
  unfolding fault
  fault-short h = rw (lt-ltb (length p) 8 h)

  module _ (n : ℕ) (long : 8 ≤ length p) (e : n ≡ entry_count p) where
    pub fault-count : (1 ≤ n → n ≤ 32 → ⊥) → some (bad_count n) ≡ fault p
    unfolding fault
    fault-count h = by (eqb n 0) (ltb 32 n) refl refl
      where
        by : (a b : Bool) → eqb n 0 ≡ a → ltb 32 n ≡ b → some (bad_count n) ≡ fault p
        by true b f g = rw (le-ltb (length p) 8 long, ← e, f)
        by false true f g = rw (le-ltb (length p) 8 long, ← e, f, g)
        by false false f g =
            let more : n ≡ 0 → ⊥ = eqb-false n 0 f in
            absurd (h (omega (arith, more)) (ltb-false 32 n g))

    module _ (header : ℕ) (f : header ≡ 8 + 6 * n) (none_less : 1 ≤ n) (few : n ≤ 32) where
      pub fault-cut : length p < header → some (cut_header n (length p)) ≡ fault p
      unfolding fault
      fault-cut h = rw (le-ltb (length p) 8 long, ← e, ne_eqb n 0 (λ z. omega arith), le-ltb 32 n few, ← f, lt-ltb (length p) header h)

      pub fault-parts : header ≤ length p → part_fault header (length p) 0 (parts_from p 0 (n + 1)) ≡ fault p
      unfolding fault
      fault-parts h =
          let q : initialiser p ∷ bodies (entries p) ≡ parts_from p 0 (n + 1) = parts_are p ∙ ap (λ k. parts_from p 0 (k + 1)) (sym e) in
          let s : header_size p ≡ header = omega (arith, e, f) in
          ap (part_fault header (length p) 0) (sym q) ∙ ap (λ k. part_fault k (length p) 0 (initialiser p ∷ bodies (entries p))) (sym s)
          ∙ rw (← e, le-ltb (length p) 8 long, ne_eqb n 0 (λ z. omega arith), le-ltb 32 n few, ← f, le-ltb (length p) header h)

pub ruleset header_rules = (fault-short, fault-count, fault-cut, fault-parts, nat_tests)
