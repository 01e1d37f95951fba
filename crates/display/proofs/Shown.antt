-- What is shown, by what `decode_at` found at the offset and by the mark.
use Rattle.std.proofs.Common.{◌≡◌, refl, sym, ◌∙◌, ℕ, zero, suc, ◌+◌, ◌-◌, ◌≤◌, ◌<◌, [], ◌∷◌, length, take, drop, get_or, Some, None, Ok, Err, Fits, w8, arith, length-drop, drop_of_length-le}
use lib.Seq.{take_all, drop-nil}
use Rattle.definition.specs.Basics.{Bytes}
use Rattle.definition.specs.Decoding.{Front, whole, short, front}
use Rattle.definition.specs.Papers.{shown_of, shown_at, display}
use Rattle.decode.specs.View.{decoded_front, decoded_rest, decoded_at}
use Rattle.decode.specs.declared.Instruction.{Instruction}
use Rattle.decode.specs.declared.Malformed.{Malformed}
use Rattle.decode.proofs.Bytes.{slice-bytes}
use Rattle.decode.proofs.Codes.{code-instruction, code-ends, code-malformed}

module _ (s : Bytes) (offset : ℕ) where
  -- in terms of the bytes from the offset on
  decoded-rest : (l : Bytes) → drop offset s ≡ l → decoded_at s offset ≡ decoded_rest l offset
  unfolding decoded_at
  decoded-rest l e = rw e

  -- an instruction: the bytes up to the next one
  pub shown-instruction : (i : Instruction) → decoded_at s offset ≡ Ok (Some i) → shown_at (drop offset s) ≡ take (i.next - offset) (drop offset s)
  shown-instruction i h = sym (by (drop offset s) (sym (decoded-rest (drop offset s) refl) ∙ h))
    where
      whole-front : (b : ℕ) (l : Bytes) (f : Front) → decoded_front f b offset ≡ Ok (Some i) → take (i.next - offset) l ≡ shown_of f l
      whole-front b l (whole after literal) e =
          let n : offset + 1 + after ≡ i.next = cc in
          let k : i.next - offset ≡ 1 + after = omega (arith, n) in
          rw k
      whole-front b l short e = absurd (let z : ◌≡◌ {A = ℕ} 0 1 = cc in omega arith)

      by : (l : Bytes) → decoded_rest l offset ≡ Ok (Some i) → take (i.next - offset) l ≡ shown_at l
      by [] e = absurd (let z : ◌≡◌ {A = ℕ} 0 1 = cc in omega arith)
      by (b ∷ rest) e = whole-front b (b ∷ rest) (front b rest) e

  -- the end: nothing
  pub shown-end : decoded_at s offset ≡ Ok None → shown_at (drop offset s) ≡ []
  shown-end h = rw (drop_of_length-le s (code-ends s offset h).1)

  -- malformed: the rest
  pub shown-malformed : {m : Malformed} → decoded_at s offset ≡ Err m → shown_at (drop offset s) ≡ take (length s - offset) (drop offset s)
  shown-malformed {m} h = sym (rw (take_all (length s - offset) (drop offset s) (rw length-drop (omega arith))) (by (drop offset s) (sym (decoded-rest (drop offset s) refl) ∙ h)))
    where
      short-front : (b : ℕ) (l : Bytes) (f : Front) → decoded_front f b offset ≡ Err m → l ≡ shown_of f l
      short-front b l (whole after literal) e = absurd (let z : ◌≡◌ {A = ℕ} 0 1 = cc in omega arith)
      short-front b l short e = refl

      by : (l : Bytes) → decoded_rest l offset ≡ Err m → l ≡ shown_at l
      by [] e = refl
      by (b ∷ rest) e = short-front b (b ∷ rest) (front b rest) e

  -- where an instruction, or one that is not whole, lies
  pub instruction-bounds : (i : Instruction) → ((k : ℕ) → Fits w8 (get_or s k 0)) → decoded_at s offset ≡ Ok (Some i) → (offset ≤ i.next) × (i.next ≤ length s)
  instruction-bounds i h e = let t = code-instruction s offset (slice-bytes s h) i e in (omega (arith, t.onward), t.within)

  pub malformed-bounds : {m : Malformed} → decoded_at s offset ≡ Err m → offset < length s
  malformed-bounds h = (code-malformed s offset h).1

pub ruleset shown = (shown-instruction, shown-end, shown-malformed, instruction-bounds, malformed-bounds)

-- by the mark
pub display-body : (body init : Bytes) (offset : ℕ) → display body init offset 0 ≡ shown_at (drop offset body)
unfolding display
display-body body init offset = refl

pub display-init : (body init : Bytes) (offset : ℕ) → display body init offset 1 ≡ shown_at (drop offset init)
unfolding display
display-init body init offset = refl

pub display-none : (body init : Bytes) (offset mark : ℕ) → (mark ≡ 0 → ⊥) → (mark ≡ 1 → ⊥) → display body init offset mark ≡ []
unfolding display
display-none body init offset zero h k = absurd (h refl)
display-none body init offset (suc zero) h k = absurd (k refl)
display-none body init offset (suc (suc n)) h k = rw (drop-nil offset)

pub ruleset marks = (display-body, display-init, display-none)
