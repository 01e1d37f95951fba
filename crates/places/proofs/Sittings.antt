-- The numbers of the sums over a sitting in lent places.
use mathlib.Core.List.{List, [], ◌∷◌}
use mathlib.Core.Path.{◌≡◌, refl, ap, ◌∙◌}
use Prim.Native.Nat.{ℕ, suc, ◌+◌, ◌≤◌, ◌<◌}
use native.Mathlib.Omega.{arith}
use borrow.Author.Tests.{le-ltb}
use lib.ListN.{length, get_or, set, length-set}
use lib.Seq.{paste, paste-zero, paste-suc, take-length}
use Rattle.places.specs.View.{written}
use Rattle.places.proofs.Places.{too_few}

module _ (lent counts : List ℕ) where
  -- k counts stand behind the first three of the lent places
  pub record Counts (k : ℕ) (out : List ℕ) : Type 0 where
    pub stands : out ≡ paste lent 3 counts k
    pub kept : length out ≡ length lent
    pub room : 3 + length counts ≤ length out

  pub counts-none : 3 + length counts ≤ length lent → Counts 0 lent
  counts-none h = record { stands = paste-zero lent 3 counts; kept = refl; room = h }

  pub counts-more : (k : ℕ) (out : List ℕ) → Counts k out → k < length counts → (n : ℕ) → n ≡ get_or counts k 0
      → Counts (k + 1) (set out (3 + k) n)
  counts-more k out c h n e = record {
    stands =
        let s : suc k ≡ k + 1 = omega arith in
        rw (c.stands, e) (paste-suc lent 3 counts k 0 (omega (arith, h, c.room, c.kept)) h ∙ ap (paste lent 3 counts) s);
    kept = length-set out (3 + k) n ∙ c.kept;
    room = omega (arith, length-set out (3 + k) n, c.room);
  }

-- three stores keep the number of places
pub kept-3 : (lent : List ℕ) (a b c : ℕ) → length (set (set (set lent 0 a) 1 b) 2 c) ≡ length lent
kept-3 lent a b c = length-set (set (set lent 0 a) 1 b) 2 c ∙ length-set (set lent 0 a) 1 b ∙ length-set lent 0 a

-- with all counts, and the three numbers before them
pub sums-written : (number sum count : ℕ) (counts lent out : List ℕ) (k : ℕ) → 3 + length counts ≤ length lent → k ≡ length counts
    → Counts (set (set (set lent 0 number) 1 sum) 2 count) counts k out → out ≡ written (number ∷ sum ∷ count ∷ counts) lent
unfolding written
sums-written number sum count counts [] out k h q c = absurd (omega arith)
sums-written number sum count counts (x ∷ []) out k h q c = absurd (omega arith)
sums-written number sum count counts (x ∷ y ∷ []) out k h q c = absurd (omega arith)
sums-written number sum count counts (x ∷ y ∷ z ∷ rest) out k h q c =
    let e : 3 + length counts ≡ suc (suc (suc (length counts))) = omega arith in
    rw (le-ltb (suc (suc (suc (length rest)))) (suc (suc (suc (length counts)))) (omega (arith, h)))
    (c.stands ∙ rw (q, take-length counts, e))

pub ruleset sittings = (too_few, counts-none, counts-more, sums-written, kept-3)
