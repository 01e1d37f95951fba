-- The codes of slots, and the items that they say.
use mathlib.Core.Bool.{Bool, true, false}
use mathlib.Core.Path.{◌≡◌, refl, sym, ap, ◌∙◌}
use mathlib.Core.List.{[], ◌∷◌}
use Prim.Native.Nat.{ℕ, ◌+◌, ◌-◌, ◌%◌, ◌^◌, ◌≤◌, ◌<◌}
use native.Mathlib.Omega.{arith}
use borrow.Author.Tests.{leb-true, leb-false, eqb-true, eqb-false, le-leb, lt-leb, ne_eqb}
use lib.Dec.{leb, eqb}
use lib.ListN.{length}
use Rattle.definition.specs.Decoding.{number}
use Rattle.definition.specs.Walk.{Item, unknown, exact}
use Rattle.decode.specs.View.{low_bytes, Held}
use Rattle.decode.specs.declared.Value.TheVariants.{Unknown, Exact}
use Rattle.decode.proofs.Bytes.{length-low, number-low}
use Rattle.slots.specs.View.{slot_item, sufficient, code_of, Canon}
use Rattle.slots.specs.Parts.{InSlot, code_length}

pub either : (i j : ℕ) (C : Type 0) → (i ≡ j → C) → ((i ≡ j → ⊥) → C) → C
either i j C f g = by (eqb i j) refl
  where
    by : (b : Bool) → eqb i j ≡ b → C
    by true e = f (eqb-true i j e)
    by false e = g (eqb-false i j e)

pub either-le : (i j : ℕ) (C : Type 0) → (i ≤ j → C) → (j < i → C) → C
either-le i j C f g = by (leb i j) refl
  where
    by : (b : Bool) → leb i j ≡ b → C
    by true e = f (leb-true i j e)
    by false e = g (leb-false i j e)

-- Codes that suffice

module _ (code : ℕ) where
  pub sufficient-none : code ≡ 0 → true ≡ sufficient code
  unfolding sufficient
  sufficient-none e = rw e

  pub sufficient-test : (code ≡ 0 → ⊥) → leb 9 code ≡ sufficient code
  unfolding sufficient
  sufficient-test h = rw (ne_eqb code 0 h)

  pub sufficient-high : 9 ≤ code → sufficient code ≡ true
  sufficient-high h = sym (sufficient-test (λ e. omega arith)) ∙ le-leb 9 code h

  pub sufficient-low : 1 ≤ code → code ≤ 8 → sufficient code ≡ false
  sufficient-low h g = sym (sufficient-test (λ e. omega arith)) ∙ lt-leb 9 code (omega arith)

  -- a code that suffices is not of 1 to 8
  pub is-sufficient : sufficient code ≡ true → 1 ≤ code → code ≤ 8 → ⊥
  is-sufficient e h g = let z : ◌≡◌ {A = Bool} true false = sym e ∙ sufficient-low h g in let y : ◌≡◌ {A = ℕ} 0 1 = cc in omega arith

  pub not-sufficient : sufficient code ≡ false → (1 ≤ code) × (code ≤ 8)
  not-sufficient e = either code 0 ((1 ≤ code) × (code ≤ 8))
      (λ z. absurd (let w : ◌≡◌ {A = Bool} true false = sufficient-none z ∙ e in let y : ◌≡◌ {A = ℕ} 0 1 = cc in omega arith))
      (λ n. (omega (arith, n), either-le code 8 (code ≤ 8) (λ h. h) (λ h. absurd (let w : ◌≡◌ {A = Bool} true false = sym (sufficient-high h) ∙ e in let y : ◌≡◌ {A = ℕ} 0 1 = cc in omega arith))))

pub canon-sufficient : (code n : ℕ) → code < 256 → sufficient code ≡ true → Canon code n
canon-sufficient code n h e = record { byte = h; held = λ a b. absurd (is-sufficient code e a b); large = λ g. absurd (is-sufficient code e (omega arith) (omega arith)) }

-- Items of slots

module _ (code n : ℕ) where
  pub item-low : code ≤ 8 → slot_item code n ≡ exact (low_bytes code n)
  item-low h = rw (le-leb code 8 h)

  pub item-high : 10 ≤ code → slot_item code n ≡ exact ((code - 10) ∷ [])
  item-high h = rw (lt-leb code 8 (omega arith), lt-leb code 9 h)

  pub item-none : code ≡ 9 → slot_item code n ≡ unknown
  item-none e = rw e

  -- by the kind of the code
  pub by_code : (C : Type 0) → (code ≤ 8 → C) → (code ≡ 9 → C) → (10 ≤ code → C) → C
  by_code C f g h = either-le code 8 C f (λ k. either code 9 C g (λ m. h (omega (arith, m))))

  -- the bytes do not matter where the code suffices
  module _ (m : ℕ) (e : sufficient code ≡ true) where
    pub same_item : slot_item code n ≡ slot_item code m
    same_item = by_code (slot_item code n ≡ slot_item code m)
        (λ h. let z : code ≡ 0 = either code 0 (code ≡ 0) (λ z. z) (λ z. absurd (is-sufficient code e (omega (arith, z)) h)) in rw z)
        (λ h. rw h)
        (λ h. rw (lt-leb code 8 (omega arith)))

    pub same-canon : Canon code n → Canon code m
    same-canon c = canon-sufficient code m c.byte e

pub canon-unknown : {n : ℕ} → Canon 9 n
canon-unknown {n} = canon-sufficient 9 n (omega arith) (sufficient-high 9 (omega arith))

pub canon-none : Canon 0 0
canon-none = record { byte = omega arith; held = λ a b. absurd (omega arith); large = λ e. absurd (omega arith) }

-- The code of an exact item

module _ (len n : ℕ) where
  pub code-long : (len ≡ 1 → ⊥) → len ≡ code_of len n
  unfolding code_of
  code-long h = rw (ne_eqb len 1 h)

  module _ (e : len ≡ 1) where
    pub code-small : n ≤ 245 → 10 + n ≡ code_of len n
    unfolding code_of
    code-small h = rw (e, le-leb n 245 h)

    pub code-large : 245 < n → len ≡ code_of len n
    unfolding code_of
    code-large h = rw (e, lt-leb n 245 h)

  module _ (k : Held (Exact len n)) where
    -- its slot holds it
    pub code-slot : Canon (code_of len n) n × (slot_item (code_of len n) n ≡ exact (low_bytes len n))
    code-slot = either len 1 (Canon (code_of len n) n × (slot_item (code_of len n) n ≡ exact (low_bytes len n)))
        (λ e. either-le n 245 (Canon (code_of len n) n × (slot_item (code_of len n) n ≡ exact (low_bytes len n)))
        (λ h. let z : n % 256 ≡ 10 + n - 10 = omega arith in
        rw (← code-small e h) (canon-sufficient (10 + n) n (omega arith) (sufficient-high (10 + n) (omega arith)), item-high (10 + n) n (omega arith) ∙ rw (e, z)))
        (λ h. rw (← code-large e h) (record { byte = omega arith; held = λ a b. k.1; large = λ g. h }, item-low len n k.0)))
        (λ e. rw (← code-long e) (record { byte = omega (arith, k.0); held = λ a b. k.1; large = λ g. absurd (e g) }, item-low len n k.0))

    -- pushed with its bytes: its code is its length
    module _ (s : sufficient (code_of len n) ≡ false) where
      pub exact-canon : Canon len n
      exact-canon = record {
        byte = omega (arith, k.0);
        held = λ a b. k.1;
        large = λ e. either-le n 245 (246 ≤ n)
            (λ h. absurd (let z : ◌≡◌ {A = Bool} true false = sym (sufficient-high (10 + n) (omega arith)) ∙ ap sufficient (code-small e h) ∙ s in let y : ◌≡◌ {A = ℕ} 0 1 = cc in omega arith))
            (λ h. h);
      }

-- The slot of an item

-- its code
abbrev pub slot_code : Item → ℕ
slot_code unknown = 9
slot_code (exact l) = code_of (length l) (number l)

-- its bytes where the code does not suffice
abbrev pub slot_bytes : Item → ℕ
slot_bytes unknown = 0
slot_bytes (exact l) = number l

module _ (code n : ℕ) (c : Canon code n) where
  pub code_is : slot_code (slot_item code n) ≡ code
  code_is = by_code code n (slot_code (slot_item code n) ≡ code)
      (λ h. ap slot_code (item-low code n h) ∙ rw (length-low code n) (either code 1 (code_of code (number (low_bytes code n)) ≡ code)
      (λ e. rw (number-low code n (c.held (omega arith) h)) (sym (code-large code n e (c.large e))))
      (λ e. sym (code-long code (number (low_bytes code n)) e))))
      (λ h. rw h)
      (λ h. ap slot_code (item-high code n h) ∙ (let z : number ((code - 10) ∷ []) ≡ code - 10 = omega arith in
      sym (code-small 1 (number ((code - 10) ∷ [])) refl (omega (arith, c.byte))) ∙ omega arith))

  pub bytes-are : sufficient code ≡ false → n ≡ slot_bytes (slot_item code n)
  bytes-are s =
      let k : (1 ≤ code) × (code ≤ 8) = not-sufficient code s in
      sym (ap slot_bytes (item-low code n k.1) ∙ number-low code n (c.held k.0 k.1))

-- The value in a slot, by the code

module _ (code n : ℕ) (c : Canon code n) where
  pub slot-unknown : code ≡ 9 → InSlot code n Unknown
  slot-unknown e = record { held = tt; item = sym (item-none code n e) }

  pub slot-byte : 9 < code → InSlot code n (Exact 1 (code - 10))
  slot-byte h =
      let e : (code - 10) % 256 ≡ code - 10 = omega (arith, c.byte) in
      record { held = (omega arith, omega (arith, c.byte)); item = sym (item-high code n h ∙ rw e) }

  pub slot-exact : (code ≡ 0 → n ≡ 0) → code ≤ 9 → (code ≡ 9 → ⊥) → InSlot code n (Exact code n)
  slot-exact z h g =
      let k : code ≤ 8 = omega (arith, g) in
      record { held = (k, either code 0 (n < 256 ^ code) (λ e. rw (e, z e) (omega arith)) (λ e. c.held (omega (arith, e)) k)); item = sym (item-low code n k) }

-- The length of an exact item, by the code

module _ (code : ℕ) where
  pub length-of : code ≤ 8 → code ≡ code_length code
  unfolding code_length
  length-of h = rw (le-leb code 8 h)

  pub length-one : 8 < code → 1 ≡ code_length code
  unfolding code_length
  length-one h = rw (lt-leb code 8 h)
