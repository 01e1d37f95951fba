-- The part that is displayed, by its start in the fragment and its length.
use mathlib.Core.List.{[], ◌∷◌}
use mathlib.Core.Path.{◌≡◌, refl, ap, ◌∙◌}
use Prim.Native.Nat.{ℕ, zero, suc, ◌+◌, ◌≤◌, min}
use native.Mathlib.Omega.{arith}
use lib.ListN.{length, take, drop, length-take, length-drop}
use Rattle.definition.specs.Basics.{Bytes}
use Rattle.definition.specs.Decoding.{Front, whole, short, front}
use Rattle.definition.specs.Papers.{by_mark, shown_of, shown_at, display}
use Rattle.places.specs.View.{display_start, part_numbers}

-- what is shown is the front of what stands there
taken : (k : ℕ) (l : Bytes) → take (length (take k l)) l ≡ take k l
taken zero l = refl
taken (suc k) [] = refl
taken (suc k) (b ∷ l) = ap (λ (t : Bytes). b ∷ t) (taken k l)

taken-all : (l : Bytes) → take (length l) l ≡ l
taken-all [] = refl
taken-all (b ∷ l) = ap (λ (t : Bytes). b ∷ t) (taken-all l)

front-shown : (f : Front) (l : Bytes) → take (length (shown_of f l)) l ≡ shown_of f l
front-shown (whole after literal) l = taken (1 + after) l
front-shown short l = taken-all l

shown : (l : Bytes) → take (length (shown_at l)) l ≡ shown_at l
shown [] = refl
shown (b ∷ rest) = front-shown (front b rest) (b ∷ rest)

shown-length : (l : Bytes) → length (shown_at l) ≤ length l
shown-length l =
    let e : length (take (length (shown_at l)) l) ≡ length (shown_at l) = ap (λ (t : Bytes). length t) (shown l) in
    let m = length-take (length (shown_at l)) l in
    omega (arith, e, m)

-- past the end nothing is left
drop_min : (offset : ℕ) (l : Bytes) → drop (min offset (length l)) l ≡ drop offset l
drop_min zero l =
    let m : min 0 (length l) ≡ 0 = omega arith in
    rw m
drop_min (suc n) [] =
    let m : min (suc n) 0 ≡ 0 = omega arith in
    rw m
drop_min (suc n) (b ∷ l) =
    let m : min (suc n) (suc (length l)) ≡ suc (min n (length l)) = omega arith in
    rw m (drop_min n l)

-- what is shown, r, by its length and by where it starts
module _ (body init : Bytes) (offset mark : ℕ) where
  shown-part : take (length (display body init offset mark))
      (drop (display_start body init offset mark) (by_mark body init mark)) ≡ display body init offset mark
  unfolding display display_start
  shown-part =
      let rest : Bytes = drop offset (by_mark body init mark) in
      ap (λ (l : Bytes). take (length (shown_at rest)) l) (drop_min offset (by_mark body init mark)) ∙ shown rest

  shown-inside : display_start body init offset mark + length (display body init offset mark)
      ≤ length (by_mark body init mark)
  unfolding display display_start
  shown-inside =
      let l = shown-length (drop offset (by_mark body init mark)) in
      let d = length-drop offset (by_mark body init mark) in
      omega (arith, l, d)

  module _ (r : Bytes) (e : r ≡ display body init offset mark) where
    pub part-size : length r ≡ length (display body init offset mark)
    part-size = ap (λ (t : Bytes). length t) e

    pub part-shown : take (length r) (drop (display_start body init offset mark) (by_mark body init mark))
        ≡ display body init offset mark
    part-shown = rw part-size shown-part

    pub part-inside : display_start body init offset mark + length r ≤ length (by_mark body init mark)
    part-inside = omega (arith, part-size, shown-inside)

    pub part-numbers : (start : ℕ) → start ≡ display_start body init offset mark
        → (start ∷ length r ∷ []) ≡ part_numbers body init offset mark
    part-numbers start h = rw (h, part-size)

pub ruleset parts = (part-shown, part-inside, part-size)

-- the start, by the mark
module _ (body init : Bytes) (offset mark r : ℕ) where
  pub start-body : mark ≡ 0 → r ≡ min offset (length body) → r ≡ display_start body init offset mark
  unfolding display_start
  start-body e h = h ∙ rw e

  pub start-init : mark ≡ 1 → r ≡ min offset (length init) → r ≡ display_start body init offset mark
  unfolding display_start
  start-init e h = h ∙ rw e

pub start_none : (body init : Bytes) (offset mark : ℕ) → (mark ≡ 0 → ⊥) → (mark ≡ 1 → ⊥)
    → 0 ≡ display_start body init offset mark
unfolding display_start
start_none body init offset zero h k = absurd (h refl)
start_none body init offset (suc zero) h k = absurd (k refl)
start_none body init offset (suc (suc n)) h k = omega arith

pub ruleset starts = (start-body, start-init, start_none)
