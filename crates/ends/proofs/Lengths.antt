-- The numbers of a slot's item, by the slot's code and bytes.
use mathlib.Core.Bool.{true, false}
use mathlib.Core.Path.{◌≡◌, sym, ap, ◌∙◌}
use Prim.Native.Nat.{ℕ, ◌-◌, ◌≤◌, ◌<◌}
use native.Mathlib.Omega.{arith}
use Rattle.decode.proofs.Bytes.{length-low, number-low}
use Rattle.ends.specs.View.{item_length, item_number}
use Rattle.slots.specs.View.{slot_item, sufficient, Canon}
use Rattle.slots.specs.Parts.{code_length}
use Rattle.slots.proofs.Codes.{either, by_code, item-low, item-high, item-none, not-sufficient, is-sufficient, length-of, length-one}

-- its length

module _ (code : ℕ) where
  pub length-unknown : code ≡ 9 → (n : ℕ) → 255 ≡ item_length (slot_item code n)
  length-unknown e n = sym (ap item_length (item-none code n e))

  pub length-exact : (code ≡ 9 → ⊥) → (r : ℕ) → r ≡ code_length code → (n : ℕ) → r ≡ item_length (slot_item code n)
  length-exact h r e n = by_code code n (r ≡ item_length (slot_item code n))
      (λ g. e ∙ sym (length-of code g) ∙ sym (ap item_length (item-low code n g) ∙ length-low code n))
      (λ g. absurd (h g))
      (λ g. e ∙ sym (length-one code (omega arith)) ∙ sym (ap item_length (item-high code n g)))

-- its bytes as one number

module _ (code n : ℕ) where
  pub number-byte : 9 < code → code - 10 ≡ item_number (slot_item code n)
  number-byte h = sym (ap item_number (item-high code n h) ∙ omega arith)

  module _ (g : code ≤ 9) where
    pub number-none : sufficient code ≡ true → 0 ≡ item_number (slot_item code n)
    number-none s = by_code code n (0 ≡ item_number (slot_item code n))
        (λ h. let z : code ≡ 0 = either code 0 (code ≡ 0) (λ z. z) (λ z. absurd (is-sufficient code s (omega (arith, z)) h)) in sym (ap item_number (item-low code n h) ∙ rw z))
        (λ h. sym (ap item_number (item-none code n h)))
        (λ h. absurd (omega arith))

    pub number-whole : Canon code n → sufficient code ≡ false → n ≡ item_number (slot_item code n)
    number-whole c s =
        let k : (1 ≤ code) × (code ≤ 8) = not-sufficient code s in
        sym (ap item_number (item-low code n k.1) ∙ number-low code n (c.held k.0 k.1))
