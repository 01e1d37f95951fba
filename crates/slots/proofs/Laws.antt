-- The slots as lists of numbers and of items: what is written, and what stays.
use mathlib.Core.Bool.{Bool, true, false, ◌&&◌}
use mathlib.Core.Path.{◌≡◌, refl, sym, ap, ◌∙◌, subst⁻¹}
use mathlib.Core.List.{List, [], ◌∷◌, ◌++◌, append_assoc}
use Prim.Native.Nat.{ℕ, zero, suc, ◌+◌, ◌-◌, ◌≤◌, ◌<◌}
use native.Mathlib.Nat.{add-zero, add-suc, add_assoc}
use native.Mathlib.Omega.{arith}
use borrow.Author.Tests.{ltb-true, ltb-false, lt-ltb, le-ltb}
use lib.Dec.{ltb}
use lib.ListN.{length, take, drop, get_or, set, length-set, length-append}
use lib.Seq.{get_or-set_same, get_or-set_other, take_at, drop_at}
use Rattle.definition.specs.Walk.{Item}
use Rattle.slots.specs.View.{Slots, sufficient, cells, tops}
use Rattle.slots.specs.Parts.{Each, Placed, apart, turn}
use Rattle.slots.proofs.Codes.{either}

-- Lists

-- f at a + n - 1, .., a
abbrev pub seg : {A : Type 0} → (ℕ → A) → ℕ → ℕ → List A
seg f a zero = []
seg f a (suc n) = f (a + n) ∷ seg f a n

module _ {A : Type 0} where
  pub length-tops : (f : ℕ → A) (n : ℕ) → length (tops f n) ≡ n
  length-tops f zero = refl
  length-tops f (suc n) = ap suc (length-tops f n)

  pub tops-ext : (f g : ℕ → A) (n : ℕ) → ((j : ℕ) → j < n → f j ≡ g j) → tops f n ≡ tops g n
  tops-ext f g zero h = refl
  tops-ext f g (suc n) h = rw (h n (omega arith), tops-ext f g n (λ j lt. h j (omega arith)))

  pub length-seg : (f : ℕ → A) (a n : ℕ) → length (seg f a n) ≡ n
  length-seg f a zero = refl
  length-seg f a (suc n) = ap suc (length-seg f a n)

  pub tops-seg : (f : ℕ → A) (a n m : ℕ) → m ≡ a + n → tops f m ≡ seg f a n ++ tops f a
  tops-seg f a zero m e = rw (e, add-zero)
  tops-seg f a (suc n) m e = rw (e, add-suc, tops-seg f a n (a + n) refl)

  pub seg-add : (f : ℕ → A) (a k n : ℕ) → seg f a (k + n) ≡ seg f (a + k) n ++ seg f a k
  seg-add f a k zero = rw add-zero
  seg-add f a k (suc n) = rw (add-suc, seg-add f a k n, add_assoc)

  -- the top k + n of the items below m, in two parts
  pub tops-parts : (f : ℕ → A) (b k n m : ℕ) → m ≡ b + (k + n) → tops f m ≡ seg f (b + k) n ++ (seg f b k ++ tops f b)
  tops-parts f b k n m e = tops-seg f b (k + n) m e ∙ rw (seg-add f b k n, append_assoc)

  pub seg-ext : (f g : ℕ → A) (a b n : ℕ) → ((j : ℕ) → j < n → f (a + j) ≡ g (b + j)) → seg f a n ≡ seg g b n
  seg-ext f g a b zero h = refl
  seg-ext f g a b (suc n) h = rw (h n (omega arith), seg-ext f g a b n (λ j lt. h j (omega arith)))

  -- X is the top of a list, Y the next: Y alone, and Y before X
  module _ (X Y T : List A) (n t : ℕ) (ex : length X ≡ n) (et : length (X ++ Y) ≡ t) where
    pub low_part : drop n (take t (X ++ (Y ++ T))) ≡ Y
    low_part = rw (← append_assoc X Y T, take_at (X ++ Y) T t et, drop_at X Y n ex)

    pub turned-list : (drop n (take t (X ++ (Y ++ T))) ++ take n (X ++ (Y ++ T))) ++ drop t (X ++ (Y ++ T)) ≡ (Y ++ X) ++ T
    turned-list =
        let d : drop t (X ++ (Y ++ T)) ≡ T = rw (← append_assoc X Y T) (drop_at (X ++ Y) T t et) in
        rw (low_part, take_at X (Y ++ T) n ex, d)

  pub length-parts : (f : ℕ → A) (b k n : ℕ) → length (seg f (b + k) n ++ seg f b k) ≡ n + k
  length-parts f b k n = length-append (seg f (b + k) n) (seg f b k) ∙ rw (length-seg f (b + k) n, length-seg f b k)

-- Numbers written one by one

module _ (P : ℕ → ℕ → Type 0) (l : List ℕ) (a : ℕ) where
  pub each_none : Each P l a a l
  each_none = record { whole = refl; each = λ j h g. absurd (omega arith); below = λ j h. refl; above = λ j h. refl }

  pub each-end : (q : List ℕ) (i e : ℕ) → i ≤ e → e ≤ i → Each P l a i q → Each P l a e q
  each-end q i e h g v = let k : i ≡ e = omega arith in rw k at v

  -- what each number is, in other words
  pub each_map : (Q : ℕ → ℕ → Type 0) (e : ℕ) (q : List ℕ) → ((j : ℕ) → a ≤ j → j < e → (x : ℕ) → P j x → Q j x) → Each P l a e q → Each Q l a e q
  each_map Q e q f v = record { whole = v.whole; each = λ j h g. f j h g _ (v.each j h g); below = v.below; above = v.above }

  pub each_more : (q : List ℕ) (i x : ℕ) → a ≤ i → i < length l → P i x → Each P l a i q → Each P l a (i + 1) (set q i x)
  each_more q i x h lt k v = record {
    whole = length-set q i x ∙ v.whole;
    each = λ j f g. either j i (P j (get_or (set q i x) j 0))
        (λ e. rw e (subst⁻¹ (P i) (get_or-set_same q i x 0 (omega (arith, v.whole))) k))
        (λ n. subst⁻¹ (P j) (get_or-set_other q i j x 0 n) (v.each j f (omega (arith, n))));
    below = λ j g. get_or-set_other q i j x 0 (λ e. omega arith) ∙ v.below j g;
    above = λ j g. get_or-set_other q i j x 0 (λ e. omega arith) ∙ v.above j (omega arith);
  }

  -- the number at i is still that of l
  pub each_next : (q : List ℕ) (i : ℕ) (f : ℕ → ℕ) (x : ℕ) → a ≤ i → i < length l → x ≡ f (get_or q i 0) → (f (get_or l i 0) ≡ x → P i x) → Each P l a i q → Each P l a (i + 1) (set q i x)
  each_next q i f x h lt e k v = each_more q i x h lt (k (sym (e ∙ ap f (v.above i (omega arith))))) v

-- the codes from a up to i suffice, and the one that is written at i
pub suffice-next : (a : ℕ) (q : List ℕ) (i x : ℕ) (s t : Bool) → (s ≡ true → (j : ℕ) → a ≤ j → j < i → sufficient (get_or q j 0) ≡ true) → t ≡ sufficient (get_or (set q i x) i 0)
    → (s && t) ≡ true → (j : ℕ) → a ≤ j → j < i + 1 → sufficient (get_or (set q i x) j 0) ≡ true
suffice-next a q i x true true k e h j le lt = either j i (sufficient (get_or (set q i x) j 0) ≡ true)
    (λ g. rw g (sym e))
    (λ n. rw (get_or-set_other q i j x 0 n) (k refl j le (omega (arith, n))))
suffice-next a q i x true false k e h j le lt = absurd (let z : ◌≡◌ {A = ℕ} 0 1 = cc in omega arith)
suffice-next a q i x false t k e h j le lt = absurd (let z : ◌≡◌ {A = ℕ} 0 1 = cc in omega arith)

-- Where items come from

pub apart-at : (a b j : ℕ) → apart a b (b + j) ≡ a + j
unfolding apart
apart-at a b j = omega arith

module _ (b n k j : ℕ) where
  pub turn_low : j < b + n → turn b n k j ≡ j + k
  unfolding turn
  turn_low h = rw (lt-ltb j (b + n) h)

  pub turn-high : b + n ≤ j → turn b n k j ≡ j - n
  unfolding turn
  turn-high h = rw (le-ltb j (b + n) h)

-- Slots

-- the n slots of r from b on hold the items l, the last first, the others are those of p
pub record Wrote (p : Slots) (b n : ℕ) (l : List Item) (r : Slots) : Type 0 where
  pub main : tops (cells r) (b + n) ≡ l ++ tops (cells p) b
  pub below : (j : ℕ) → j < b → cells r j ≡ cells p j
  pub above : (j : ℕ) → b + n ≤ j → cells r j ≡ cells p j

module _ (p : Slots) (b n : ℕ) (r : Slots) where
  -- n slots copied from a on
  pub wrote-copies : (a : ℕ) → Placed (apart a b) p b (b + n) r → Wrote p b n (seg (cells p) a n) r
  wrote-copies a v = record {
    main = tops-seg (cells r) b n (b + n) refl ∙ rw (
      seg-ext (cells r) (cells p) b a n (λ j h. v.there (b + j) (omega arith) (omega arith) ∙ ap (cells p) (apart-at a b j)),
      tops-ext (cells r) (cells p) b v.below,
    );
    below = v.below;
    above = v.above;
  }

  -- k slots put on top of n
  pub wrote-turned : (k : ℕ) → Placed (turn b n k) p b (b + (k + n)) r → Wrote p b (k + n) (seg (cells p) b k ++ seg (cells p) (b + k) n) r
  wrote-turned k v = record {
    main =
        let e : b + (k + n) ≡ b + (n + k) = omega arith in
        tops-parts (cells r) b n k (b + (k + n)) e ∙ rw (
          seg-ext (cells r) (cells p) (b + n) b k (λ j h. v.there (b + n + j) (omega arith) (omega arith) ∙ ap (cells p) (turn-high b n k (b + n + j) (omega arith) ∙ omega arith)),
          seg-ext (cells r) (cells p) b (b + k) n (λ j h. v.there (b + j) (omega arith) (omega arith) ∙ ap (cells p) (turn_low b n k (b + j) (omega arith) ∙ omega arith)),
          tops-ext (cells r) (cells p) b v.below,
          append_assoc,
        );
    below = v.below;
    above = v.above;
  }

-- one slot copied
pub placed_one : (p : Slots) (a b : ℕ) (r : Slots) → Placed (apart a b) p b (b + 1) r → cells r b ≡ cells p a
unfolding apart
placed_one p a b r v = v.there b (omega arith) (omega arith) ∙ ap (cells p) (omega arith)

pub placed-other : (f : ℕ → ℕ) (p : Slots) (b : ℕ) (r : Slots) → Placed f p b (b + 1) r → (j : ℕ) → (j ≡ b → ⊥) → cells r j ≡ cells p j
placed-other f p b r v j h = by (ltb j b) refl
  where
    by : (t : Bool) → ltb j b ≡ t → cells r j ≡ cells p j
    by true e = v.below j (ltb-true j b e)
    by false e = v.above j (omega (arith, ltb-false j b e, h))
