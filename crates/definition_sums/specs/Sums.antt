-- Request L1: sums over a sitting.
use Rattle.std.specs.Prelude.{Bool, true, ◌&&◌, List, [], ◌∷◌, ℕ, zero, suc, ◌+◌, ◌%◌, leb, eqb, length, replicate}
use Rattle.definition.specs.Basics.{pick}
use Rattle.definition.specs.Refusals.{accepted, refused_at, bad_sitting, greatest_number}

-- "a lent list of 32-bit numbers, verdict number and peak by turns": 7 0 0 5 is 7 with peak 0 and 0 with peak 5
pub record Pair : Type 0 where
  pub number : ℕ
  pub peak : ℕ

-- a last number that no peak follows is in no pair
abbrev pub pairs : List ℕ → List Pair
pairs [] = []
pairs (number ∷ []) = []
pairs (number ∷ peak ∷ rest) = record { number = number; peak = peak } ∷ pairs rest

-- "how often each verdict number occurred": this number
abbrev pub occurrences : ℕ → List Pair → ℕ
occurrences number [] = 0
occurrences number (p ∷ l) = pick (eqb p.number number) 1 0 + occurrences number l

-- so many numbers, one after another from this one on
abbrev pub occurrences_from : ℕ → ℕ → List Pair → List ℕ
occurrences_from number zero l = []
occurrences_from number (suc more) l = occurrences number l ∷ occurrences_from (suc number) more l

-- "the mean peak of the accepted as two whole numbers, sum and count": of these peaks
abbrev pub accepted_peaks : List Pair → List ℕ
accepted_peaks [] = []
accepted_peaks (p ∷ l) = pick (eqb p.number 0) (p.peak ∷ accepted_peaks l) (accepted_peaks l)

abbrev pub sum_of : List ℕ → ℕ
sum_of [] = 0
sum_of (n ∷ l) = n + sum_of l

-- no "verdict number is above the greatest in use"; peaks are not judged
abbrev pub in_use : List Pair → Bool
in_use [] = true
in_use (p ∷ l) = leb p.number greatest_number && in_use l

-- "23 bad sitting, when the list holds more than 8,192 numbers or an odd count of them, or when a verdict number is above the
-- greatest in use, 23 here"
abbrev pub max_sitting : ℕ
max_sitting = 8192

abbrev pub good_sitting : List ℕ → Bool
good_sitting sitting = leb (length sitting) max_sitting && eqb (length sitting % 2) 0 && in_use (pairs sitting)

-- 0 or 23; how often 0, 1, .. the greatest number in use occurred; sum and count of the peaks of the accepted
pub record SittingSums : Type 0 where
  pub number : ℕ
  pub counts : List ℕ
  pub sum : ℕ
  pub count : ℕ

abbrev pub good_sums : List Pair → SittingSums
good_sums l = record {
  number = accepted.number;
  counts = occurrences_from 0 (suc greatest_number) l;
  sum = sum_of (accepted_peaks l);
  count = length (accepted_peaks l);
}

-- "unnamed .. results are 0"
abbrev pub bad_sums : SittingSums
bad_sums = record { number = (refused_at 0 bad_sitting).number; counts = replicate (suc greatest_number) 0; sum = 0; count = 0 }

unfoldable pub sums : List ℕ → SittingSums
sums sitting = pick (good_sitting sitting) (good_sums (pairs sitting)) bad_sums
