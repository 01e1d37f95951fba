-- What two slots have in common.
use mathlib.Core.Bool.{Bool, true, false, ◌&&◌, or-true}
use mathlib.Core.Path.{◌≡◌, refl, sym, ap, ◌∙◌}
use mathlib.Core.List.{List, [], ◌∷◌}
use Prim.Native.Nat.{ℕ, zero, suc, ◌≤◌, ◌<◌}
use native.Mathlib.Omega.{arith}
use borrow.Author.Tests.{eq-eqb, ne_eqb, eqb-true, ltb-true, ltb-false}
use lib.Dec.{eqb, ltb}
use lib.ListN.{get_or}
use Rattle.definition.specs.Basics.{Bytes, pick}
use Rattle.definition.specs.Walk.{Item, unknown, exact, same_bytes, join_item, join_items}
use Rattle.slots.specs.View.{Slots, slots, slot_item, sufficient, tops, Canon, Sound}
use Rattle.slots.specs.Parts.{Each, Joined, JoinedAt, common_code, CommonAt, settled_code, SettledAt}
use Rattle.slots.proofs.Codes.{either, sufficient-high, canon-unknown, same_item, slot_code, slot_bytes, code_is, bytes-are}

-- Bytes

same_refl : (l : Bytes) → same_bytes l l ≡ true
same_refl [] = refl
same_refl (b ∷ l) = rw (eq-eqb b b refl, same_refl l)

same_true : (l m : Bytes) → same_bytes l m ≡ true → l ≡ m
same_true [] [] h = refl
same_true [] (b ∷ m) h = cc
same_true (a ∷ l) [] h = cc
same_true (a ∷ l) (b ∷ m) h = by (eqb a b) refl h (same_true l m)
  where
    by : (t : Bool) → eqb a b ≡ t → (t && same_bytes l m) ≡ true → (same_bytes l m ≡ true → l ≡ m) → a ∷ l ≡ b ∷ m
    by true e h k = rw (eqb-true a b e, k h)
    by false e h k = cc

-- Items

join-refl : (x : Item) → join_item x x ≡ x
join-refl unknown = refl
join-refl (exact l) = rw (same_refl l)

join-exact : (l m : Bytes) → (l ≡ m → ⊥) → join_item (exact l) (exact m) ≡ unknown
join-exact l m h = by (same_bytes l m) refl
  where
    by : (t : Bool) → same_bytes l m ≡ t → pick t (exact l) unknown ≡ unknown
    by true e = absurd (h (same_true l m e))
    by false e = refl

join-differ : (x y : Item) → (x ≡ y → ⊥) → join_item x y ≡ unknown
join-differ unknown y h = refl
join-differ (exact l) unknown h = refl
join-differ (exact l) (exact m) h = join-exact l m (λ e. h (ap exact e))

-- Slots

module _ (code n code' n' : ℕ) (c : Canon code n) (c' : Canon code' n') where
  pub joined-code : (code ≡ code' → ⊥) → Joined code n code' n' 9
  joined-code h = record {
    item = sym (join-differ (slot_item code n) (slot_item code' n') (λ e. h (sym (code_is code n c) ∙ ap slot_code e ∙ code_is code' n' c')));
    canon = canon-unknown;
  }

  module _ (e : code ≡ code') where
    pub joined-suffices : sufficient code ≡ true → Joined code n code' n' code
    joined-suffices s = record { item = sym (ap (join_item (slot_item code n)) (ap (λ x. slot_item x n') (sym e) ∙ same_item code n' n s) ∙ join-refl (slot_item code n)); canon = c }

    pub joined_bytes : sufficient code ≡ false → (n ≡ n' → ⊥) → Joined code n code' n' 9
    joined_bytes s h = record {
      item = sym (join-differ (slot_item code n) (slot_item code' n') (λ g. h (bytes-are code n c s ∙ ap slot_bytes g ∙ sym (bytes-are code' n' c' (rw e at s)))));
      canon = canon-unknown;
    }

    pub joined_same : n ≡ n' → Joined code n code' n' code
    joined_same g = record { item = rw (← e, ← g) (sym (join-refl (slot_item code n))); canon = c }

-- The two halves of a join

module _ (code code' : ℕ) where
  common-same : code ≡ code' → common_code code code' ≡ code
  unfolding common_code
  common-same e = rw (eq-eqb code code' e)

  common-none : (code ≡ code' → ⊥) → common_code code code' ≡ 9
  unfolding common_code
  common-none e = rw (ne_eqb code code' e)

module _ (code n n' : ℕ) where
  settled-suffices : sufficient code ≡ true → settled_code code n n' ≡ code
  unfolding settled_code
  settled-suffices e = rw e

  settled-same : n ≡ n' → settled_code code n n' ≡ code
  unfolding settled_code
  settled-same e = rw (eq-eqb n n' e, or-true (sufficient code))

  settled-none : sufficient code ≡ false → (n ≡ n' → ⊥) → settled_code code n n' ≡ 9
  unfolding settled_code
  settled-none e h = rw (e, ne_eqb n n' h)

-- after both halves the slot has what the two have in common
settled-joined : (code n code' n' : ℕ) → Canon code n → Canon code' n' → Joined code n code' n' (settled_code (common_code code code') n n')
settled-joined code n code' n' c c' = either code code' (Joined code n code' n' (settled_code (common_code code code') n n'))
    (λ e. rw (common-same code code' e) (by e (sufficient code) refl))
    (λ h. rw (common-none code code' h, settled-suffices 9 n n' (sufficient-high 9 (omega arith))) (joined-code code n code' n' c c' h))
  where
    by : code ≡ code' → (t : Bool) → sufficient code ≡ t → Joined code n code' n' (settled_code code n n')
    by e true s = rw (settled-suffices code n n' s) (joined-suffices code n code' n' c c' e s)
    by e false s = either n n' (Joined code n code' n' (settled_code code n n'))
        (λ g. rw (settled-same code n n' g) (joined_same code n code' n' c c' e g))
        (λ h. rw (settled-none code n n' s h) (joined_bytes code n code' n' c c' e s h))

-- the codes d of the first half, from a up to e, and those of both
module _ (p t : Slots) (sp : Sound p) (st : Sound t) (a e : ℕ) (d : List ℕ) (v : Each (CommonAt p.codes t.codes) p.codes a e d) where
  joined : (j : ℕ) → JoinedAt p t j (settled_code (common_code (get_or p.codes j 0) (get_or t.codes j 0)) (get_or p.bytes j 0) (get_or t.bytes j 0))
  joined j = settled-joined (get_or p.codes j 0) (get_or p.bytes j 0) (get_or t.codes j 0) (get_or t.bytes j 0) (sp.canon j) (st.canon j)

  -- they differ in bytes
  pub joined-both : (x : List ℕ) → Each (SettledAt d p.bytes t.bytes) d a e x → Each (JoinedAt p t) p.codes a e x
  joined-both x w = record {
    whole = w.whole ∙ v.whole;
    each = λ j f g. rw (w.each j f g, v.each j f g) (joined j);
    below = λ j f. w.below j f ∙ v.below j f;
    above = λ j f. w.above j f ∙ v.above j f;
  }

  -- the codes alone say it
  pub joined-codes : ((j : ℕ) → a ≤ j → j < e → sufficient (get_or d j 0) ≡ true) → Each (JoinedAt p t) p.codes a e d
  joined-codes k = record {
    whole = v.whole;
    each = λ j f g. rw (sym (settled-suffices (get_or d j 0) (get_or p.bytes j 0) (get_or t.bytes j 0) (k j f g))
        ∙ ap (λ x. settled_code x (get_or p.bytes j 0) (get_or t.bytes j 0)) (v.each j f g)) (joined j);
    below = v.below;
    above = v.above;
  }

-- codes in common that suffice are those of a join
pub all-common : (y c y' c' d : List ℕ) (a e : ℕ) → Sound (slots y c) → Sound (slots y' c') → Each (CommonAt c c') c a e d → ((j : ℕ) → a ≤ j → j < e → sufficient (get_or d j 0) ≡ true)
    → Each (JoinedAt (slots y c) (slots y' c')) c a e d
all-common y c y' c' d a e s s' v k = joined-codes (slots y c) (slots y' c') s s' a e d v k

-- with the codes of a join from a up to e, the slots are sound
module _ (y c c' : List ℕ) (t : Slots) (a e : ℕ) (s : Sound (slots y c)) (v : Each (JoinedAt (slots y c) t) c a e c') where
  pub joined-sound : Sound (slots y c')
  joined-sound = record { whole_bytes = s.whole_bytes; whole_codes = v.whole ∙ s.whole_codes; canon = λ j. by j (ltb j a) refl (ltb j e) refl }
    where
      by : (j : ℕ) (t : Bool) → ltb j a ≡ t → (u : Bool) → ltb j e ≡ u → Canon (get_or c' j 0) (get_or y j 0)
      by j true g u h = rw (v.below j (ltb-true j a g)) (s.canon j)
      by j false g true h = (v.each j (ltb-false j a g) (ltb-true j e h)).canon
      by j false g false h = rw (v.above j (ltb-false j e h)) (s.canon j)

pub tops-join : (f g h : ℕ → Item) (n : ℕ) → ((j : ℕ) → j < n → h j ≡ join_item (f j) (g j)) → tops h n ≡ join_items (tops f n) (tops g n)
tops-join f g h zero k = refl
tops-join f g h (suc n) k = rw (k n (omega arith), tops-join f g h n (λ j lt. k j (omega arith)))
