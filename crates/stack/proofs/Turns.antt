-- Slots turned by `rotate_left` on a part of each array.
use mathlib.Core.Bool.{Bool, true, false}
use mathlib.Core.Path.{◌≡◌, refl, ap, ◌∙◌}
use mathlib.Core.List.{List, ◌++◌}
use Prim.Native.Nat.{ℕ, ◌+◌, ◌-◌, ◌≤◌, ◌<◌}
use native.Mathlib.Omega.{arith}
use borrow.Author.Tests.{ltb-true, ltb-false}
use borrow.Rule.Slice.PartMut.{put_mid, mid_of}
use lib.Dec.{ltb}
use lib.ListN.{length, get_or, take, drop}
use Rattle.std.proofs.lemmas.Grind.{common_steps}
use Rattle.std.proofs.lemmas.List.{get_or-append_right, get_or_append_left, get_or-drop, get_or-take, length-take-le}
use Rattle.slots.specs.View.{slots, Sound, Canon}
use Rattle.slots.specs.Parts.{Placed, turn}
use Rattle.slots.proofs.Laws.{turn_low, turn-high}

module _ (l : List ℕ) (b e k : ℕ) (h : b + k ≤ e) (g : e ≤ length l) (y : List ℕ) (v : y ≡ drop k (mid_of b (e - b) l) ++ take k (mid_of b (e - b) l)) where
  pub turned-length : length (put_mid b (e - b) l y) ≡ length l
  turned-length = rw v (grind (arith, common_steps))

  pub turned-below : (j : ℕ) → j < b → get_or (put_mid b (e - b) l y) j 0 ≡ get_or l j 0
  turned-below j lt = grind (arith, common_steps)

  long : length (drop k (mid_of b (e - b) l)) ≡ e - b - k
  long = grind (arith, common_steps)

  whole : length y ≡ e - b
  whole = rw v (grind (arith, common_steps))

  pub turned-above : (j : ℕ) → e ≤ j → get_or (put_mid b (e - b) l y) j 0 ≡ get_or l j 0
  turned-above j m =
      let i : b + (e - b + (j - b - (e - b))) ≡ j = omega arith in
      get_or-append_right (take b l) (y ++ drop (e - b) (drop b l)) b j 0 (length-take-le b l (omega arith)) (omega arith)
      ∙ get_or-append_right y (drop (e - b) (drop b l)) (e - b) (j - b) 0 whole (omega arith)
      ∙ get_or-drop (e - b) (drop b l) (j - b - (e - b)) 0
      ∙ get_or-drop b l (e - b + (j - b - (e - b))) 0
      ∙ ap (λ x. get_or l x 0) i

  turned-low : (j : ℕ) → b ≤ j → j + k < e → get_or (put_mid b (e - b) l y) j 0 ≡ get_or l (j + k) 0
  turned-low j m lt = rw v (grind (arith, common_steps))

  turned-high : (j : ℕ) → e ≤ j + k → j < e → get_or (put_mid b (e - b) l y) j 0 ≡ get_or l (j - (e - b - k)) 0
  turned-high j m lt =
      let M = mid_of b (e - b) l in
      let i : ℕ = j - b - (e - b - k) in
      let x : b + i ≡ j - (e - b - k) = omega arith in
      get_or-append_right (take b l) (y ++ drop (e - b) (drop b l)) b j 0 (length-take-le b l (omega arith)) (omega arith)
      ∙ get_or_append_left y (drop (e - b) (drop b l)) 0 (j - b) (omega (arith, whole))
      ∙ ap (λ q. get_or q (j - b) 0) v
      ∙ get_or-append_right (drop k M) (take k M) (e - b - k) (j - b) 0 long (omega arith)
      ∙ get_or-take k M i 0 (omega arith)
      ∙ get_or-take (e - b) (drop b l) i 0 (omega arith)
      ∙ get_or-drop b l i 0
      ∙ ap (λ q. get_or l q 0) x

-- both arrays turned alike
module _ (y c : List ℕ) (s : Sound (slots y c)) (b e k : ℕ) (h : b + k ≤ e) (g : e ≤ 244)
    (r : List ℕ) (v : r ≡ drop k (mid_of b (e - b) c) ++ take k (mid_of b (e - b) c)) (z : List ℕ) (w : z ≡ drop k (mid_of b (e - b) y) ++ take k (mid_of b (e - b) y)) where
  at-codes : e ≤ length c
  at-codes = omega (arith, s.whole_codes)

  at-bytes : e ≤ length y
  at-bytes = omega (arith, s.whole_bytes)

  -- slot j is slot i as it was
  From : ℕ → ℕ → Type 0
  From j i = (get_or (put_mid b (e - b) c r) j 0 ≡ get_or c i 0) × (get_or (put_mid b (e - b) y z) j 0 ≡ get_or y i 0)

  from : (j : ℕ) → b ≤ j → j < e → From j (turn b (e - b - k) k j)
  unfolding From
  from j m lt = by (ltb j (b + (e - b - k))) refl
    where
      by : (t : Bool) → ltb j (b + (e - b - k)) ≡ t → From j (turn b (e - b - k) k j)
      by true x = let q = ltb-true j _ x in rw (turn_low b (e - b - k) k j q) (turned-low c b e k h at-codes r v j m (omega arith), turned-low y b e k h at-bytes z w j m (omega arith))
      by false x = let q = ltb-false j _ x in rw (turn-high b (e - b - k) k j q) (turned-high c b e k h at-codes r v j (omega arith) lt, turned-high y b e k h at-bytes z w j (omega arith) lt)

  pub turned-placed : Placed (turn b (e - b - k) k) (slots y c) b e (slots (put_mid b (e - b) y z) (put_mid b (e - b) c r))
  unfolding From
  turned-placed = record {
    there = λ j m lt. rw (from j m lt).0 (rw (from j m lt).1);
    below = λ j lt. rw (turned-below c b e k h at-codes r v j lt, turned-below y b e k h at-bytes z w j lt);
    above = λ j m. rw (turned-above c b e k h at-codes r v j m, turned-above y b e k h at-bytes z w j m);
  }

  pub turned-sound : Sound (slots (put_mid b (e - b) y z) (put_mid b (e - b) c r))
  unfolding From
  turned-sound = record {
    whole_bytes = turned-length y b e k h at-bytes z w ∙ s.whole_bytes;
    whole_codes = turned-length c b e k h at-codes r v ∙ s.whole_codes;
    canon = λ j. by j (ltb j b) refl (ltb j e) refl;
  }
    where
      by : (j : ℕ) (t : Bool) → ltb j b ≡ t → (u : Bool) → ltb j e ≡ u → Canon (get_or (put_mid b (e - b) c r) j 0) (get_or (put_mid b (e - b) y z) j 0)
      by j true x u q = let lt = ltb-true j b x in rw (turned-below c b e k h at-codes r v j lt, turned-below y b e k h at-bytes z w j lt) (s.canon j)
      by j false x true q = let o = from j (ltb-false j b x) (ltb-true j e q) in rw (o.0, o.1) (s.canon (turn b (e - b - k) k j))
      by j false x false q = let m = ltb-false j e q in rw (turned-above c b e k h at-codes r v j m, turned-above y b e k h at-bytes z w j m) (s.canon j)
