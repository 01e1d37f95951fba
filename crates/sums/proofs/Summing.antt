-- The sums over the pairs before a place, and those over all.
use mathlib.Core.Bool.{Bool, true, false, ◌&&◌}
use mathlib.Core.List.{List, [], ◌∷◌}
use mathlib.Core.Path.{◌≡◌, refl, sym, ap, ◌∙◌}
use Prim.Native.Nat.{ℕ, zero, suc, ◌+◌, ◌*◌, ◌%◌, ◌≤◌, ◌<◌}
use native.Mathlib.Nat.{add-zero, add-suc, suc-add}
use native.Mathlib.Omega.{arith}
use borrow.Author.Tests.{le-leb, lt-leb, ne_eqb, eq-eqb, eqb-true, eqb-false}
use lib.Dec.{leb, eqb}
use Rattle.std.specs.Prelude.{map, Ok, Err, ◌/◌}
use Rattle.std.specs.Simd.{first_chunks}
use Rattle.refusals.specs.declared.Refusal.TheVariants.{BadSitting}
use Rattle.sums.specs.View.{sums_of}
use lib.ListN.{length, drop, get_or, set, replicate, length-set, length-map, get_or-map, get_or-replicate, drop_of_length-le}
use lib.Seq.{drop-cons, get_or-set_same, get_or-set_other, ext_get_or}
use Rattle.definition.specs.Basics.{pick}
use Rattle.definition.specs.Refusals.{greatest_number}
use Rattle.definition_sums.specs.Sums.{Pair, pairs, occurrences, occurrences_from, accepted_peaks, sum_of, in_use, max_sitting, good_sitting, sums}
use Rattle.definition_sums.proofs.Sittings.{peaks-counted}

-- the list of counts, by its places
length-occurrences : (a n : ℕ) (l : List Pair) → length (occurrences_from a n l) ≡ n
length-occurrences a zero l = refl
length-occurrences a (suc n) l = ap suc (length-occurrences (suc a) n l)

get_d-occurrences : (a n : ℕ) (l : List Pair) (i : ℕ) → i < n → get_or (occurrences_from a n l) i 0 ≡ occurrences (a + i) l
get_d-occurrences a zero l i h = absurd (omega arith)
get_d-occurrences a (suc n) l zero h = rw add-zero
get_d-occurrences a (suc n) l (suc i) h = get_d-occurrences (suc a) n l i (omega arith) ∙ rw (suc-add, add-suc)

-- the counts with one more at place n
one_more_lem : (counts : List ℕ) (n : ℕ) → n < length counts → (i : ℕ)
    → get_or (set counts n (get_or counts n 0 + 1)) i 0 ≡ get_or counts i 0 + pick (eqb n i) 1 0
one_more_lem counts n h i = by (eqb n i) refl
  where
    by : (b : Bool) → eqb n i ≡ b → get_or (set counts n (get_or counts n 0 + 1)) i 0 ≡ get_or counts i 0 + pick b 1 0
    by true e =
        let q : n ≡ i = eqb-true n i e in
        ap (λ j. get_or (set counts n (get_or counts n 0 + 1)) j 0) (sym q) ∙ get_or-set_same counts n (get_or counts n 0 + 1) 0 h
        ∙ ap (λ j. get_or counts j 0 + 1) q
    by false e = get_or-set_other counts n i (get_or counts n 0 + 1) 0 (λ q. eqb-false n i e (sym q)) ∙ omega arith

at_most_one : (b : Bool) → pick b 1 0 ≤ 1
at_most_one true = omega arith
at_most_one false = omega arith

-- a peak that is summed or not
one-peak : (peak : ℕ) (rest : List ℕ) (b : Bool) → sum_of (pick b (peak ∷ rest) rest) ≡ pick b peak 0 + sum_of rest
one-peak peak rest true = refl
one-peak peak rest false = omega arith

-- Pairs

-- the pair that a chunk of two numbers is
abbrev pub pair_of : List ℕ → Pair
pair_of c = record { number = get_or c 0 0; peak = get_or c 1 0 }

-- the pairs of n chunks
pairs-first_chunks : (n : ℕ) (s : List ℕ) → length s ≡ 2 * n → pairs s ≡ map pair_of (first_chunks 2 n s)
pairs-first_chunks zero [] h = refl
pairs-first_chunks zero (a ∷ s) h = absurd (omega arith)
pairs-first_chunks (suc n) [] h = absurd (omega arith)
pairs-first_chunks (suc n) (a ∷ []) h = absurd (omega arith)
pairs-first_chunks (suc n) (a ∷ b ∷ s) h = ap (λ (l : List Pair). record { number = a; peak = b } ∷ l) (pairs-first_chunks n s (omega arith))

-- a number in a chunk has 32 bits
pub chunk-fits : (n k i : ℕ) (s : List ℕ) → ((j : ℕ) → get_or s j 0 < 4294967296) → get_or (get_or (first_chunks 2 n s) k []) i 0 < 4294967296
chunk-fits zero k i s h = omega arith
chunk-fits (suc n) zero i [] h = omega arith
chunk-fits (suc n) zero zero (a ∷ s) h = h 0
chunk-fits (suc n) zero (suc i) (a ∷ []) h = omega arith
chunk-fits (suc n) zero (suc zero) (a ∷ b ∷ s) h = h 1
chunk-fits (suc n) zero (suc (suc i)) (a ∷ b ∷ s) h = omega arith
chunk-fits (suc n) (suc k) i [] h = chunk-fits n k i [] h
chunk-fits (suc n) (suc k) i (a ∷ []) h = chunk-fits n k i [] (λ j. omega arith)
chunk-fits (suc n) (suc k) i (a ∷ b ∷ s) h = chunk-fits n k i s (λ j. h (suc (suc j)))

-- The pairs before pair k are counted and summed.
pub record Summing (chunks : List (List ℕ)) (k : ℕ) (counts : List ℕ) (sum : ℕ) : Type 0 where
  pub places : length counts ≡ suc greatest_number
  pub few : (i : ℕ) → i ≤ greatest_number → get_or counts i 0 ≤ k
  pub counted : (i : ℕ) → i ≤ greatest_number → get_or counts i 0 + occurrences i (drop k (map pair_of chunks)) ≡ occurrences i (map pair_of chunks)
  pub small : sum ≤ k * 4294967295
  pub summed : sum + sum_of (accepted_peaks (drop k (map pair_of chunks))) ≡ sum_of (accepted_peaks (map pair_of chunks))
  pub used : in_use (map pair_of chunks) ≡ in_use (drop k (map pair_of chunks))

module _ (chunks : List (List ℕ)) where
  abbrev ps : List Pair
  ps = map pair_of chunks

  pub summing-none : Summing chunks 0 (replicate (suc greatest_number) 0) 0
  summing-none = record {
    places = refl;
    few = λ i h. omega (arith, get_or-replicate {A = ℕ} (suc greatest_number) i 0 0 (omega (arith, h)));
    counted = λ i h. rw (get_or-replicate {A = ℕ} (suc greatest_number) i 0 0 (omega (arith, h))) (omega arith);
    small = omega arith;
    summed = omega arith;
    used = refl;
  }

  module _ (k : ℕ) (counts : List ℕ) (sum : ℕ) (c : Summing chunks k counts sum) where
    abbrev pair : Pair
    pair = pair_of (get_or chunks k [])

    next-pair : k < length chunks → drop k ps ≡ pair ∷ drop (k + 1) ps
    next-pair h =
        let e : length ps ≡ length chunks = simp length-map in
        let one : suc k ≡ k + 1 = omega arith in
        drop-cons ps k (pair_of []) (omega (arith, e)) ∙ ap (λ (p : Pair). p ∷ drop (suc k) ps) (get_or-map pair_of chunks k []) ∙ ap (λ j. pair ∷ drop j ps) one

    pub not-used : k < length chunks → greatest_number < pair.number → in_use ps ≡ false
    not-used h g = c.used ∙ ap in_use (next-pair h) ∙ rw (lt-leb pair.number greatest_number g)

    room : pair.number ≤ greatest_number → pair.number < length counts
    room g = omega (arith, g, c.places)

    summing-more : k < length chunks → pair.number ≤ greatest_number → (p : ℕ) → p ≡ pick (eqb pair.number 0) pair.peak 0 → p ≤ 4294967295
        → (sum' : ℕ) → sum' ≡ sum + p → Summing chunks (k + 1) (set counts pair.number (get_or counts pair.number 0 + 1)) sum'
    summing-more h g p e m sum' t = record {
      places = length-set counts pair.number (get_or counts pair.number 0 + 1) ∙ c.places;
      few = λ i q. omega (arith, one_more_lem counts pair.number (room g) i, at_most_one (eqb pair.number i), c.few i q);
      counted = λ i q. omega (arith, one_more_lem counts pair.number (room g) i, c.counted i q, ap (occurrences i) (next-pair h));
      small = omega (arith, c.small, m, t);
      summed = omega (arith, c.summed, e, t, ap (λ (l : List Pair). sum_of (accepted_peaks l)) (next-pair h), one-peak pair.peak (accepted_peaks (drop (k + 1) ps)) (eqb pair.number 0));
      used = c.used ∙ ap in_use (next-pair h) ∙ rw (le-leb pair.number greatest_number g);
    }

    pub summing-accepted : k < length chunks → pair.number ≡ 0 → pair.peak < 4294967296 → (p sum' : ℕ) → p ≡ pair.peak → sum' ≡ sum + p
        → Summing chunks (k + 1) (set counts pair.number (get_or counts pair.number 0 + 1)) sum'
    summing-accepted h z m p sum' e t = summing-more h (omega (arith, z)) p (rw (eq-eqb pair.number 0 z) e) (omega arith) sum' t

    pub summing-refused : k < length chunks → pair.number ≤ greatest_number → (pair.number ≡ 0 → ⊥) → (sum' : ℕ) → sum' ≡ sum
        → Summing chunks (k + 1) (set counts pair.number (get_or counts pair.number 0 + 1)) sum'
    summing-refused h g z sum' t = summing-more h g 0 (rw (ne_eqb pair.number 0 z)) (omega arith) sum' (omega arith)

-- The answers

module _ (s : List ℕ) where
  not_good : good_sitting s ≡ false → sums_of (Err BadSitting) ≡ sums s
  unfolding sums
  not_good e = rw e

  pub too_long : max_sitting < length s → sums_of (Err BadSitting) ≡ sums s
  too_long h = not_good (rw (lt-leb (length s) max_sitting h))

  module _ (rest : List ℕ) (l : length rest ≡ length s % 2) (b : Bool) (e : b ≡ eqb (length rest) 0) where
    pub even-count : b ≡ true → length s % 2 ≡ 0
    even-count h = omega (arith, eqb-true (length rest) 0 (sym e ∙ h), l)

    pub odd_count : b ≡ false → sums_of (Err BadSitting) ≡ sums s
    odd_count h = not_good (rw (ne_eqb (length s % 2) 0 (λ z. eqb-false (length rest) 0 (sym e ∙ h) (l ∙ z))) (either (leb (length s) max_sitting)))
      where
        either : (a : Bool) → (a && false && in_use (pairs s)) ≡ false
        either true = refl
        either false = refl

  -- an even count of numbers, in chunks
  module _ (even : length s % 2 ≡ 0) (chunks : List (List ℕ)) (are : chunks ≡ first_chunks 2 (length s / 2) s) where
    pairs-are : pairs s ≡ map pair_of chunks
    pairs-are = pairs-first_chunks (length s / 2) s (omega (arith, even)) ∙ ap (map pair_of) (sym are)

    module _ (k : ℕ) (counts : List ℕ) (sum : ℕ) (c : Summing chunks k counts sum) where
      pub past-greatest : k < length chunks → greatest_number < (pair_of (get_or chunks k [])).number → sums_of (Err BadSitting) ≡ sums s
      past-greatest h g = not_good (rw (ap in_use pairs-are ∙ not-used chunks k counts sum c h g) (last-false (leb (length s) max_sitting) (eqb (length s % 2) 0)))
        where
          last-false : (a b : Bool) → (a && b && false) ≡ false
          last-false true true = refl
          last-false true false = refl
          last-false false b = refl

      -- all pairs are counted
      pub all-summed : length s ≤ max_sitting → length chunks ≤ k → sums_of (Ok (record { counts = counts; sum = sum; count = get_or counts 0 0 })) ≡ sums s
      unfolding sums
      all-summed h w = rw (good, ← counts-are, ← sum_is, ← count-is)
        where
          none : drop k (map pair_of chunks) ≡ []
          none = drop_of_length-le (map pair_of chunks) (simp length-map w)

          all-used : in_use (pairs s) ≡ true
          all-used = ap in_use pairs-are ∙ c.used ∙ ap in_use none

          good : good_sitting s ≡ true
          good = rw (le-leb (length s) max_sitting h, even, all-used)

          sum_is : sum ≡ sum_of (accepted_peaks (pairs s))
          sum_is = omega (arith, c.summed, ap (λ (l : List Pair). sum_of (accepted_peaks l)) none) ∙ ap (λ (l : List Pair). sum_of (accepted_peaks l)) (sym pairs-are)

          count_at : (i : ℕ) → i ≤ greatest_number → get_or counts i 0 ≡ occurrences i (pairs s)
          count_at i q = omega (arith, c.counted i q, ap (occurrences i) none, ap (occurrences i) pairs-are)

          count-is : get_or counts 0 0 ≡ length (accepted_peaks (pairs s))
          count-is = count_at 0 (omega arith) ∙ sym (peaks-counted (pairs s))

          counts-are : counts ≡ occurrences_from 0 (suc greatest_number) (pairs s)
          counts-are =
              ext_get_or 0 counts (occurrences_from 0 (suc greatest_number) (pairs s)) (c.places ∙ sym (length-occurrences 0 (suc greatest_number) (pairs s)))
              (λ i q.
              let r : i ≤ greatest_number = omega (arith, q, c.places) in
              count_at i r ∙ sym (get_d-occurrences 0 (suc greatest_number) (pairs s) i (omega (arith, r)) ∙ ap (λ j. occurrences j (pairs s)) (omega arith)))
