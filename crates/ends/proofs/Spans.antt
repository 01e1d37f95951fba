-- Values at successive places.
use mathlib.Core.Path.{◌≡◌, refl, sym, ap, ◌∙◌}
use mathlib.Core.List.{List, [], ◌∷◌, ◌++◌, map}
use Prim.Native.Nat.{ℕ, zero, suc, ◌+◌, ◌-◌, ◌≤◌, ◌<◌}
use native.Mathlib.Nat.{add-zero, add-suc, suc-add, zero-add}
use native.Mathlib.Omega.{arith}
use lib.ListN.{length, take, drop, get_or, replicate}
use lib.Seq.{drop-cons}
use Rattle.ends.specs.View.{span}

module _ {A : Type 0} where
  pub span_ext : (f g : ℕ → A) (a n : ℕ) → ((k : ℕ) → a ≤ k → k < a + n → f k ≡ g k) → span f a n ≡ span g a n
  span_ext f g a zero h = refl
  span_ext f g a (suc n) h = rw (h a (omega arith) (omega arith), span_ext f g (suc a) n (λ k l m. h k (omega arith) (omega arith)))

  pub span-add : (f : ℕ → A) (a i n : ℕ) → span f a (i + n) ≡ span f a i ++ span f (a + i) n
  span-add f a zero n = rw (zero-add, add-zero)
  span-add f a (suc i) n = rw (suc-add, span-add f (suc a) i n, suc-add, add-suc)

  pub length-span : (f : ℕ → A) (a n : ℕ) → length (span f a n) ≡ n
  length-span f a zero = refl
  length-span f a (suc n) = ap suc (length-span f (suc a) n)

  pub get_d-span : (f : ℕ → A) (d : A) (a n k : ℕ) → k < n → get_or (span f a n) k d ≡ f (a + k)
  get_d-span f d a zero k h = absurd (omega arith)
  get_d-span f d a (suc n) zero h = rw add-zero
  get_d-span f d a (suc n) (suc k) h = get_d-span f d (suc a) n k (omega arith) ∙ rw (suc-add, add-suc)

  -- a part of a list
  pub span-part : (l : List A) (d : A) (a n : ℕ) → a + n ≤ length l → span (λ k. get_or l k d) a n ≡ take n (drop a l)
  span-part l d a zero h = refl
  span-part l d a (suc n) h = rw (drop-cons l a d (omega arith), span-part l d (suc a) n (omega arith))

  pub span-list : (l : List A) (d : A) → span (λ k. get_or l k d) 0 (length l) ≡ l
  span-list l d = span-part l d 0 (length l) (omega arith) ∙ all l
    where
      all : (m : List A) → take (length m) m ≡ m
      all [] = refl
      all (x ∷ m) = ap (λ (t : List A). x ∷ t) (all m)

module _ {A B : Type 0} (φ : A → B) where
  pub map-span : (f : ℕ → A) (g : ℕ → B) (a n : ℕ) → ((k : ℕ) → a ≤ k → k < a + n → g k ≡ φ (f k)) → map φ (span f a n) ≡ span g a n
  map-span f g a zero h = refl
  map-span f g a (suc n) h = rw (← h a (omega arith) (omega arith), map-span f g (suc a) n (λ k l m. h k (omega arith) (omega arith)))

-- the same at each place
pub same_span : {B : Type 0} (f : ℕ → B) (d : B) (a n : ℕ) → ((k : ℕ) → a ≤ k → k < a + n → f k ≡ d) → replicate n d ≡ span f a n
same_span f d a zero h = refl
same_span f d a (suc n) h = rw (h a (omega arith) (omega arith), same_span f d (suc a) n (λ k l m. h k (omega arith) (omega arith)))

-- a list of 244 by what it has at each place: n of these things, and then d
module _ {A B : Type 0} (φ : A → B) (c : ℕ → A) (l : List B) where
  pub list-is : (n : ℕ) (d : B) → n ≤ 244 → length l ≡ 244 → ((k : ℕ) → k < n → get_or l k d ≡ φ (c k)) → ((k : ℕ) → n ≤ k → k < 244 → get_or l k d ≡ d)
      → map φ (span c 0 n) ++ replicate (244 - n) d ≡ l
  list-is n d h w lo hi =
      let g : ℕ → B = λ k. get_or l k d in
      let e : n + (244 - n) ≡ length l = omega arith in
      rw (map-span φ c g 0 n (λ k p q. lo k (omega arith)), same_span g d n (244 - n) (λ k p q. hi k p (omega arith)))
      (sym (span-add g 0 n (244 - n) ∙ rw zero-add) ∙ ap (span g 0) e ∙ span-list l d)
