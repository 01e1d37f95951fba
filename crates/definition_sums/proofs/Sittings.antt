-- Sums over a sitting: by example (`sums_by_example`, `bad_by_example`, `long_sitting`); of a list that is not 23 the counts add up
-- to half its length (`counts_add_up`); the count of the accepted is the count at 0 (`count_at_zero`). And every verdict number is
-- at most the greatest in use, which is one (`at_most_greatest`, `greatest_given`).
use mathlib.Core.Bool.{Bool, true, false, ◌&&◌}
use mathlib.Core.Path.{◌≡◌, refl, ap, ◌∙◌}
use mathlib.Core.List.{List, [], ◌∷◌}
use Prim.Native.Nat.{ℕ, zero, suc, ◌+◌, ◌/◌, ◌%◌, ◌≤◌, ◌<◌}
use native.Mathlib.Omega.{arith}
use borrow.Author.Tests.{leb-true, eqb-true, eqb-false, ne_eqb}
use lib.Dec.{leb, eqb}
use lib.ListN.{length, get_or, replicate}
use Rattle.definition.specs.Basics.{pick}
use Rattle.definition.specs.Refusals.{Refusal, malformed_fragment, nesting, alt_dry, bad_index, bad_tag, arms_differ, stray_else, second_else, stray_endif, open_if, bad_header, tally_full, bad_sitting, crooked_number, negative_index, strange_word, output_short, bad_map, bad_limit, long_fragment, unmodelled_opcode, opcode_count, script_size, long_paper, long_element, start_too_large, short_log, stacks_full, main_dry, dispatch_too_large, refused_at, greatest_number}
use Rattle.definition_sums.specs.Sums.{Pair, pairs, occurrences, occurrences_from, accepted_peaks, sum_of, in_use, max_sitting, good_sitting, SittingSums, good_sums, bad_sums, sums}
use Rattle.definition.proofs.Sound.{and-true}

-- By example

-- sum and count, and how often 0, 7 and the greatest number in use occurred
abbrev Gives : List ℕ → ℕ → ℕ → ℕ → ℕ → ℕ → Type 0
Gives sitting sum count zeros sevens greatest =
    ((sums sitting).number ≡ 0) × ((sums sitting).sum ≡ sum) × ((sums sitting).count ≡ count)
    × (get_or (sums sitting).counts 0 0 ≡ zeros) × (get_or (sums sitting).counts 7 0 ≡ sevens)
    × (get_or (sums sitting).counts greatest_number 0 ≡ greatest)

-- the empty sitting; a peak of 32 bits, and two; a refusal's peak, which is not summed; the greatest number
pub sums_by_example :
    Gives [] 0 0 0 0 0 ×
    Gives (0 ∷ 4294967295 ∷ []) 4294967295 1 1 0 0 ×
    Gives (0 ∷ 4294967295 ∷ 0 ∷ 4294967295 ∷ []) 8589934590 2 2 0 0 ×
    Gives (7 ∷ 99 ∷ []) 0 0 0 1 0 ×
    Gives (0 ∷ 5 ∷ 7 ∷ 99 ∷ 0 ∷ 2 ∷ 7 ∷ 0 ∷ greatest_number ∷ 1 ∷ []) 7 2 2 2 1
unfolding sums
sums_by_example =
    ((refl, refl, refl, refl, refl, refl), (refl, refl, refl, refl, refl, refl), (refl, refl, refl, refl, refl, refl), (refl, refl, refl, refl, refl, refl), (refl, refl, refl, refl, refl, refl))

-- an odd count; one number; a number past the greatest, alone and in the last pair
pub bad_by_example :
    (sums (0 ∷ 5 ∷ 0 ∷ []) ≡ bad_sums) ×
    (sums (0 ∷ []) ≡ bad_sums) ×
    (sums (suc greatest_number ∷ 0 ∷ []) ≡ bad_sums) ×
    (sums (0 ∷ 5 ∷ suc greatest_number ∷ 0 ∷ []) ≡ bad_sums)
unfolding sums
bad_by_example = (refl, refl, refl, refl)

-- 8,192 numbers are taken, 4,096 accepted verdicts; two more are not
pub long_sitting : ((sums (replicate 8192 0)).count ≡ 4096) × (sums (replicate 8194 0) ≡ bad_sums)
unfolding sums
long_sitting = (refl, refl)

-- The laws

-- a pair adds one to the counts where its number is among those counted, and else nothing
module _ (p : Pair) (l : List Pair) where
  counted-not : (a n : ℕ) → p.number < a → sum_of (occurrences_from a n (p ∷ l)) ≡ sum_of (occurrences_from a n l)
  counted-not a zero h = refl
  counted-not a (suc n) h =
      let e : eqb p.number a ≡ false = ne_eqb p.number a (λ q. omega (arith, h, q)) in
      rw (e, counted-not (suc a) n (omega (arith, h))) (omega arith)

  counted-once : (a n : ℕ) → a ≤ p.number → p.number < a + n
      → sum_of (occurrences_from a n (p ∷ l)) ≡ suc (sum_of (occurrences_from a n l))
  counted-once a zero h g = absurd (omega (arith, h, g))
  counted-once a (suc n) h g = by (eqb p.number a) refl (λ k. counted-once (suc a) n k (omega (arith, g)))
    where
      by : (b : Bool) → eqb p.number a ≡ b
          → (suc a ≤ p.number → sum_of (occurrences_from (suc a) n (p ∷ l)) ≡ suc (sum_of (occurrences_from (suc a) n l)))
          → sum_of (occurrences_from a (suc n) (p ∷ l)) ≡ suc (sum_of (occurrences_from a (suc n) l))
      by true e f = rw (e, counted-not (suc a) n (omega (arith, eqb-true p.number a e))) (omega arith)
      by false e f = rw (e, f (omega (arith, h, eqb-false p.number a e))) (omega arith)

pairs-counted : (l : List Pair) → in_use l ≡ true → sum_of (occurrences_from 0 (suc greatest_number) l) ≡ length l
pairs-counted [] h = refl
pairs-counted (p ∷ l) h =
    let b = and-true (leb p.number greatest_number) (in_use l) h in
    counted-once p l 0 (suc greatest_number) (omega arith) (omega (arith, leb-true p.number greatest_number b.0))
    ∙ ap suc (pairs-counted l b.1)

pairs-half : (sitting : List ℕ) → length (pairs sitting) ≡ length sitting / 2
pairs-half [] = refl
pairs-half (number ∷ []) = refl
pairs-half (number ∷ peak ∷ rest) = omega (arith, pairs-half rest)

-- the accepted peaks are as many as 0 occurs
pub peaks-counted : (l : List Pair) → length (accepted_peaks l) ≡ occurrences 0 l
peaks-counted [] = refl
peaks-counted (p ∷ l) = by (eqb p.number 0) refl (peaks-counted l)
  where
    by : (b : Bool) → eqb p.number 0 ≡ b → length (accepted_peaks l) ≡ occurrences 0 l
        → length (accepted_peaks (p ∷ l)) ≡ occurrences 0 (p ∷ l)
    by true e h = rw (e, h) (omega arith)
    by false e h = rw (e, h) (omega arith)

module _ (sitting : List ℕ) where
  -- what holds of good sums where all numbers are in use, and of bad ones, holds of the sums
  of-both : (P : SittingSums → Type 0) → (in_use (pairs sitting) ≡ true → P (good_sums (pairs sitting))) → P bad_sums → P (sums sitting)
  unfolding sums
  of-both P f g = by (good_sitting sitting) refl
    where
      by : (b : Bool) → good_sitting sitting ≡ b → P (pick b (good_sums (pairs sitting)) bad_sums)
      by true e =
          f (and-true (leb (length sitting) max_sitting && eqb (length sitting % 2) 0) (in_use (pairs sitting)) e).1
      by false e = g

  pub counts_add_up : ((sums sitting).number ≡ 23 → ⊥) → sum_of (sums sitting).counts ≡ length sitting / 2
  counts_add_up =
      of-both (λ r. (r.number ≡ 23 → ⊥) → sum_of r.counts ≡ length sitting / 2)
      (λ u h. pairs-counted (pairs sitting) u ∙ pairs-half sitting)
      (λ h. absurd (h refl))

  pub count_at_zero : (sums sitting).count ≡ get_or (sums sitting).counts 0 0
  count_at_zero = of-both (λ r. r.count ≡ get_or r.counts 0 0) (λ u. peaks-counted (pairs sitting)) refl

-- The greatest number in use

pub at_most_greatest : (at : ℕ) (r : Refusal) → (refused_at at r).number ≤ greatest_number
at_most_greatest at malformed_fragment = omega arith
at_most_greatest at nesting = omega arith
at_most_greatest at alt_dry = omega arith
at_most_greatest at bad_index = omega arith
at_most_greatest at bad_tag = omega arith
at_most_greatest at arms_differ = omega arith
at_most_greatest at stray_else = omega arith
at_most_greatest at second_else = omega arith
at_most_greatest at stray_endif = omega arith
at_most_greatest at open_if = omega arith
at_most_greatest at bad_header = omega arith
at_most_greatest at tally_full = omega arith
at_most_greatest at bad_sitting = omega arith
at_most_greatest at crooked_number = omega arith
at_most_greatest at negative_index = omega arith
at_most_greatest at strange_word = omega arith
at_most_greatest at output_short = omega arith
at_most_greatest at bad_map = omega arith
at_most_greatest at bad_limit = omega arith
at_most_greatest at (long_fragment n) = omega arith
at_most_greatest at (unmodelled_opcode n) = omega arith
at_most_greatest at (opcode_count n) = omega arith
at_most_greatest at (script_size n) = omega arith
at_most_greatest at (long_paper n) = omega arith
at_most_greatest at (long_element n) = omega arith
at_most_greatest at (start_too_large n m) = omega arith
at_most_greatest at (short_log n m) = omega arith
at_most_greatest at (stacks_full n m) = omega arith
at_most_greatest at (main_dry n m) = omega arith
at_most_greatest at (dispatch_too_large n m) = omega arith

pub greatest_given : (refused_at 0 (long_element 521)).number ≡ greatest_number
greatest_given = refl
