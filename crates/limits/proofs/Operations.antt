-- The operations before an offset, and the answer on all of them.
use Rattle.std.proofs.Common.{◌≡◌, refl, sym, subst, ap, ◌∙◌, ℕ, ◌+◌, ◌≤◌, ◌<◌, Bool, true, false, ltb, length, get_or, Some, None, Ok, Err, Fits, w8, arith}
use mir.Val.{bool_byte}
use borrow.Author.Tests.{lt-ltb, le-ltb}
use mathlib.Core.Option.{none}
use Rattle.definition.specs.Basics.{Bytes, pick}
use Rattle.definition.specs.Decoding.{instructions, malformed_at}
use Rattle.definition.specs.Papers.{operations, limits_of, limit_check}
use Rattle.definition.specs.Refusals.{Answer, accepted, refused_at, malformed_fragment, opcode_count, script_size}
use Rattle.decode.specs.View.{Decoded, opcode_of, decoded_at, code_at}
use Rattle.decode.specs.declared.Instruction.{Instruction}
use Rattle.decode.specs.declared.Malformed.{Malformed}
use Rattle.decode.proofs.Bytes.{slice-bytes}
use Rattle.decode.proofs.Codes.{code-start, code-instruction, code-ends, code-malformed, malformed-offset, opcode-is, less-next}

-- by the tests of the code
module _ (count size : ℕ) where
  pub too_many : 201 < count → refused_at 0 (opcode_count count) ≡ limits_of none count size
  too_many h = rw (lt-ltb 201 count h) refl

  pub too_large : count ≤ 201 → 10000 < size → refused_at 0 (script_size size) ≡ limits_of none count size
  too_large h g = rw (le-ltb 201 count h, lt-ltb 10000 size g) refl

  pub within-limits : count ≤ 201 → size ≤ 10000 → accepted ≡ limits_of none count size
  within-limits h g = rw (le-ltb 201 count h, le-ltb 10000 size g) refl

-- the answer on the code from an offset on, with so many operations before it
abbrev limits_from : Bytes → ℕ → ℕ → Answer
limits_from s offset count =
    limits_of (malformed_at (code_at s offset)) (count + operations (instructions (code_at s offset))) (length s)

-- The operations before an offset are counted.
pub record Counting (s : Bytes) (offset count : ℕ) : Type 0 where
  pub within : offset ≤ length s
  pub most : count ≤ offset
  pub is : limit_check s ≡ limits_from s offset count

pub counting-none : (s : Bytes) → Counting s 0 0
unfolding limit_check
counting-none s = record {
  within = omega arith;
  most = omega arith;
  is = rw code-start (ap (λ (n : ℕ). limits_of (malformed_at (code_at s 0)) n (length s)) (omega arith));
}

-- behind an instruction it is counted too, if it is an operation
pub counting-more : (s : Bytes) (offset count n : ℕ) → Counting s offset count → (i : Instruction) → ((k : ℕ) → Fits w8 (get_or s k 0)) → decoded_at s offset ≡ Ok (Some i)
    → n ≡ bool_byte (ltb 0x60 i.opcode) → Counting s i.next (count + n)
counting-more s offset count n c i bytes e m =
    let t = code-instruction s offset (slice-bytes s bytes) i e in
    let k : n ≡ pick (ltb 0x60 i.opcode) 1 0 = m ∙ one (ltb 0x60 i.opcode) in
    let l : n ≤ 1 = subst (λ n. n ≤ 1) (sym k) (at_most (ltb 0x60 i.opcode)) in
    record {
      within = t.within;
      most = omega (arith, t.onward, c.most, l);
      is = c.is ∙ rw t.code (ap (λ (n : ℕ). limits_of (malformed_at (code_at s i.next)) n (length s)) (omega (arith, k)));
    }
  where
    one : (t : Bool) → bool_byte t ≡ pick t 1 0
    one true = refl
    one false = refl

    at_most : (t : Bool) → pick t 1 0 ≤ 1
    at_most true = omega arith
    at_most false = omega arith

module _ (s : Bytes) (offset count o after n : ℕ) (c : Counting s offset count) (bytes : (k : ℕ) → Fits w8 (get_or s k 0)) (e : Ok (Some (o, after)) ≡ opcode_of (decoded_at s offset)) where
  pub counting-next : n ≡ bool_byte (ltb 0x60 o) → Counting s after (count + n)
  counting-next m =
      let i = opcode-is s offset o after e in
      subst (λ k. Counting s k (count + n)) i.next (counting-more s offset count n c i.instruction bytes i.is (m ∙ ap (λ k. bool_byte (ltb 0x60 k)) (sym i.opcode)))

module _ (s : Bytes) (offset count : ℕ) (c : Counting s offset count) where
  -- at the end all are counted
  counting-end : Ok None ≡ opcode_of (decoded_at s offset) → limit_check s ≡ limits_of none count (length s)
  counting-end e = by (decoded_at s offset) refl e
    where
      by : (d : Decoded) → decoded_at s offset ≡ d → Ok None ≡ opcode_of d → limit_check s ≡ limits_of none count (length s)
      by (Ok (Some i)) h e = absurd (let z : ◌≡◌ {A = ℕ} 0 1 = cc in omega arith)
      by (Ok None) h e = let n : count + 0 ≡ count = omega arith in c.is ∙ rw ((code-ends s offset h).0, n)
      by (Err m) h e = absurd (let z : ◌≡◌ {A = ℕ} 0 1 = cc in omega arith)

  module _ (e : Ok None ≡ opcode_of (decoded_at s offset)) where
    pub ended-many : 201 < count → refused_at 0 (opcode_count count) ≡ limit_check s
    ended-many h = too_many count (length s) h ∙ sym (counting-end e)

    pub ended-large : count ≤ 201 → 10000 < length s → refused_at 0 (script_size (length s)) ≡ limit_check s
    ended-large h g = too_large count (length s) h g ∙ sym (counting-end e)

    pub ended-within : count ≤ 201 → length s ≤ 10000 → accepted ≡ limit_check s
    ended-within h g = within-limits count (length s) h g ∙ sym (counting-end e)

  pub ended-malformed : (m : Malformed) → Err m ≡ opcode_of (decoded_at s offset) → refused_at m.offset malformed_fragment ≡ limit_check s
  ended-malformed m e = by (decoded_at s offset) refl e
    where
      by : (d : Decoded) → decoded_at s offset ≡ d → Err m ≡ opcode_of d → refused_at m.offset malformed_fragment ≡ limit_check s
      by (Ok (Some i)) h e = absurd (let z : ◌≡◌ {A = ℕ} 0 1 = cc in omega arith)
      by (Ok None) h e = absurd (let z : ◌≡◌ {A = ℕ} 0 1 = cc in omega arith)
      by (Err k) h e =
          let q : m ≡ k = cc in
          rw (q, malformed-offset s offset k h) (sym (c.is ∙ rw (code-malformed s offset h).0 refl))

pub ruleset counting = (counting-none, less-next, ended-many, ended-large, ended-within, ended-malformed)
