-- The code of a fragment, from offset to offset: what `decoded_at` says of `code_at`.
use mathlib.Core.Bool.{Bool, true, false, ◌&&◌}
use mathlib.Core.Path.{◌≡◌, refl, sym, ap, subst, ◌∙◌}
use mathlib.Core.List.{[], ◌∷◌}
use Prim.Native.Nat.{ℕ, zero, suc, ◌+◌, ◌-◌, ◌≤◌, ◌<◌}
use native.Mathlib.Omega.{arith}
use borrow.Author.Tests.{leb-true}
use lib.Dec.{leb, eqb}
use lib.ListN.{length, take, drop, get_or, length-drop}
use lib.Seq.{drop-drop, get_or-drop}
use Rattle.definition.specs.Basics.{Bytes, pick}
use Rattle.definition_long_data.specs.Blank.{length_bytes}
use Rattle.definition.specs.Decoding.{number, Front, whole, short, alone, pushes, sized, front, Code, ends, malformed, then, on_front, decode_from, decode, instructions, malformed_at}
use Rattle.definition.specs.Walk.{known}
use Rattle.definition.specs.Refusals.{accepted}
use Rattle.definition.specs.Replay.{AreBytes}
use Rattle.decode.specs.View.{item_of, value_of, Held, decoded_front, decoded_rest, decoded_at, code_at, data_start, instruction, Decoded, opcode_of, yield_of, yielded, rest, counted_of, count_by, count_in}
use Rattle.decode.specs.declared.Instruction.{Instruction}
use Rattle.decode.specs.declared.Malformed.{Malformed}
use Rattle.std.specs.Prelude.{Some, None, Ok, Err}
use mir.Syntax.{w8}
use mir.Val.{Fits}
use Rattle.decode.proofs.Bytes.{slice-bytes, bytes_take, bytes_drop}
use Rattle.decode.proofs.Values.{held-known, item-of-known}
use Rattle.decode.proofs.Behind.{Behind, behind-front}

-- bytes that belong to the instruction before are passed over
passing : (k p : ℕ) (l : Bytes) → decode_from k p l ≡ decode_from 0 (p + k) (drop k l)
passing zero p l = let e : p + 0 ≡ p = omega arith in rw e
passing (suc k) p [] = refl
passing (suc k) p (b ∷ l) =
    let e : p + 1 + k ≡ p + suc k = omega arith in
    passing k (p + 1) l ∙ rw e

pub code-start : (s : Bytes) → decode s ≡ code_at s 0
unfolding decode code_at
code-start s = refl

-- a whole instruction lies within the bytes after its opcode, and its literal is of bytes
data Within (rest : Bytes) : Front → Type 0 where
  is-short : Within rest short
  is_whole : {after : ℕ} {literal : Bytes} → after ≤ length rest → AreBytes literal → Within rest (whole after literal)

within-pick : {rest : Bytes} {t : Bool} {f g : Front} → (t ≡ true → Within rest f) → Within rest g → Within rest (pick t f g)
within-pick {t = true} a b = a refl
within-pick {t = false} a b = b

within-pushes : (l : Bytes) (before size : ℕ) (rest : Bytes) → before + length rest ≤ length l → AreBytes rest → Within l (pushes before size rest)
within-pushes l before size rest h k =
    within-pick (λ (e : leb size (length rest) ≡ true). is_whole {after = before + size} (omega (arith, leb-true size (length rest) e)) (bytes_take size rest k)) is-short

within-sized : (n : ℕ) (rest : Bytes) → AreBytes rest → Within rest (sized n rest)
within-sized n rest k =
    within-pick (λ (e : leb n (length rest) ≡ true). within-pushes rest n (number (take n rest)) (drop n rest) (rw length-drop (omega (arith, leb-true n (length rest) e))) (bytes_drop n rest k)) is-short

bytes-pick : (t : Bool) (l m : Bytes) → AreBytes l → AreBytes m → AreBytes (pick t l m)
bytes-pick true l m h k = h
bytes-pick false l m h k = k

bytes-alone : (opcode : ℕ) → opcode < 256 → AreBytes (alone opcode)
bytes-alone opcode h =
    bytes-pick (eqb opcode 0x4f) (0x81 ∷ []) (pick (leb 0x51 opcode && leb opcode 0x60) ((opcode - 0x50) ∷ []) []) (omega arith)
    (bytes-pick (leb 0x51 opcode && leb opcode 0x60) ((opcode - 0x50) ∷ []) [] (omega arith) tt)

within-front : (opcode : ℕ) (rest : Bytes) → opcode < 256 → AreBytes rest → Within rest (front opcode rest)
unfolding front
within-front opcode rest h k =
    within-pick {t = leb 0x01 opcode && leb opcode 0x4b} (λ _. within-pushes rest 0 opcode rest (omega arith) k)
    (within-pick {t = eqb opcode 0x4c} (λ _. within-sized 1 rest k)
    (within-pick {t = eqb opcode 0x4d} (λ _. within-sized 2 rest k)
    (within-pick {t = eqb opcode 0x4e} (λ _. within-sized 4 rest k) (is_whole {after = 0} {literal = alone opcode} (omega arith) (bytes-alone opcode h)))))

-- An instruction at offset p: the definition's code from p on is that instruction, with a literal of which i's is what the
-- marker knows, and then the code from i's next offset on.
pub record InstructionAt (s : Bytes) (p : ℕ) (i : Instruction) : Type 0 where
  pub literal : Bytes
  pub code : code_at s p ≡ then (record { opcode = i.opcode; offset = p; literal = literal }) (code_at s i.next)
  pub literal_bytes : AreBytes literal
  pub value : value_of (known literal) ≡ i.literal
  pub item : item_of i.literal ≡ known literal
  pub held : Held i.literal
  -- data of more than 8 bytes ends where the next instruction stands
  pub long : 8 < length literal → data_start s p + length literal ≡ i.next
  pub offset : i.offset ≡ p
  pub opcode_byte : i.opcode < 256
  pub onward : p < i.next
  pub within : i.next ≤ length s

module _ (s : Bytes) (p : ℕ) where
  -- in terms of the bytes from p on
  code-rest : (l : Bytes) → drop p s ≡ l → code_at s p ≡ decode_from 0 p l
  unfolding code_at
  code-rest l e = rw e

  decoded-rest : (l : Bytes) → drop p s ≡ l → decoded_at s p ≡ decoded_rest l p
  unfolding decoded_at
  decoded-rest l e = rw e

  drop-next : (b : ℕ) (rest : Bytes) (after : ℕ) → drop p s ≡ b ∷ rest → drop after rest ≡ drop (p + 1 + after) s
  drop-next b rest after e =
      let q : p + 1 + after ≡ p + suc after = omega arith in
      ap (drop (suc after)) (sym e) ∙ drop-drop (suc after) p s ∙ rw q

  code-next : (b : ℕ) (rest : Bytes) (after : ℕ) → drop p s ≡ b ∷ rest → decode_from after (p + 1) rest ≡ code_at s (p + 1 + after)
  unfolding code_at
  code-next b rest after e = passing after (p + 1) rest ∙ ap (decode_from 0 (p + 1 + after)) (drop-next b rest after e)

  first_byte : (b : ℕ) (rest : Bytes) → drop p s ≡ b ∷ rest → get_or s p 0 ≡ b
  first_byte b rest e =
      let z : p + 0 ≡ p = omega arith in
      ap (λ n. get_or s n 0) (sym z) ∙ sym (get_or-drop p s 0 0) ∙ ap (λ l. get_or l 0 0) e

  instruction-front : (b : ℕ) (rest : Bytes) (f : Front) → drop p s ≡ b ∷ rest → b < 256 → front b rest ≡ f → Within rest f
      → (i : Instruction) → decoded_front f b p ≡ Ok (Some i) → InstructionAt s p i
  instruction-front b rest f e lt q (is_whole {after = after} {literal = l} w k) i h =
      subst (InstructionAt s p) j (record {
        literal = l;
        code = code-rest (b ∷ rest) e ∙ ap (λ (f : Front). on_front f b p (λ k. decode_from k (p + 1) rest)) q ∙ ap (then (record { opcode = b; offset = p; literal = l })) (code-next b rest after e);
        literal_bytes = k;
        value = refl;
        item = item-of-known l k;
        held = held-known l k;
        long = λ h. let n = subst (Behind (length_bytes b)) q (behind-front b rest) h in rw (first_byte b rest e) (omega (arith, n));
        offset = refl;
        opcode_byte = lt;
        onward = omega arith;
        within = omega (arith, length-drop p s, ap length e);
      })
    where
      j : record { opcode = b; offset = p; literal = value_of (known l); next = p + 1 + after } ≡ i
      j = cc
  instruction-front b rest f e lt q is-short i h = absurd (let z : ◌≡◌ {A = ℕ} 0 1 = cc in omega arith)

  -- an instruction stands here
  pub code-instruction : AreBytes s → (i : Instruction) → decoded_at s p ≡ Ok (Some i) → InstructionAt s p i
  code-instruction k i h = by (drop p s) refl
    where
      by : (l : Bytes) → drop p s ≡ l → InstructionAt s p i
      by [] e = absurd (let z : ◌≡◌ {A = ℕ} 0 1 = cc (decoded-rest [] e) in omega arith)
      by (b ∷ rest) e =
          let w : AreBytes (b ∷ rest) = subst AreBytes e (bytes_drop p s k) in
          instruction-front b rest (front b rest) e w.0 refl (within-front b rest w.0 w.1) i (sym (decoded-rest (b ∷ rest) e) ∙ h)

  -- the fragment ends here
  pub code-ends : decoded_at s p ≡ Ok None → (code_at s p ≡ ends) × (length s ≤ p)
  code-ends h = by (drop p s) refl
    where
      none : (b : ℕ) (f : Front) → decoded_front f b p ≡ Ok None → ⊥
      none b (whole after l) e = let z : ◌≡◌ {A = ℕ} 0 1 = cc in omega arith
      none b short e = let z : ◌≡◌ {A = ℕ} 0 1 = cc in omega arith

      by : (l : Bytes) → drop p s ≡ l → (code_at s p ≡ ends) × (length s ≤ p)
      by [] e = (code-rest [] e, omega (arith, length-drop p s, ap length e))
      by (b ∷ rest) e = absurd (none b (front b rest) (sym (decoded-rest (b ∷ rest) e) ∙ h))

  -- the instruction here is not whole
  pub code-malformed : {m : Malformed} → decoded_at s p ≡ Err m → (code_at s p ≡ malformed p) × (p < length s)
  code-malformed {m} h = by (drop p s) refl
    where
      short-front : (b : ℕ) (rest : Bytes) (f : Front) → front b rest ≡ f → drop p s ≡ b ∷ rest → decoded_front f b p ≡ Err m → code_at s p ≡ malformed p
      short-front b rest (whole after l) q e g = cc
      short-front b rest short q e g = code-rest (b ∷ rest) e ∙ ap (λ (f : Front). on_front f b p (λ k. decode_from k (p + 1) rest)) q

      by : (l : Bytes) → drop p s ≡ l → (code_at s p ≡ malformed p) × (p < length s)
      by [] e = absurd (let z : ◌≡◌ {A = ℕ} 0 1 = cc (decoded-rest [] e) in omega arith)
      by (b ∷ rest) e =
          (short-front b rest (front b rest) refl e (sym (decoded-rest (b ∷ rest) e) ∙ h), omega (arith, length-drop p s, ap length e))

  -- what stands here is what the code from here on yields first
  code-yields : AreBytes s → yield_of (decoded_at s p) ≡ yielded (code_at s p)
  code-yields k = by (drop p s) refl
    where
      by_front : {l : Bytes} {f : Front} → Within l f → (b : ℕ) (onward : ℕ → Code) → yield_of (decoded_front f b p) ≡ yielded (on_front f b p onward)
      by_front (is_whole {literal = l} w h) b onward = ap (instruction b p) (item-of-known l h)
      by_front is-short b onward = refl

      by : (l : Bytes) → drop p s ≡ l → yield_of (decoded_at s p) ≡ yielded (code_at s p)
      by [] e = rw (decoded-rest [] e, code-rest [] e)
      by (b ∷ l) e =
          let w : AreBytes (b ∷ l) = subst AreBytes e (bytes_drop p s k) in
          rw (decoded-rest (b ∷ l) e, code-rest (b ∷ l) e) (by_front (within-front b l w.0 w.1) b (λ after. decode_from after (p + 1) l))

  pub slice-yields : ((i : ℕ) → Fits w8 (get_or s i 0)) → yielded (code_at s p) ≡ yield_of (decoded_at s p)
  slice-yields h = sym (code-yields (slice-bytes s h))

  -- an instruction stands here: behind it the rest of the code is left
  pub code-behind : (i : Instruction) → decoded_at s p ≡ Ok (Some i) → code_at s i.next ≡ rest (code_at s p)
  code-behind i h = by (drop p s) refl
    where
      by_front : (b : ℕ) (l : Bytes) (f : Front) → drop p s ≡ b ∷ l → decoded_front f b p ≡ Ok (Some i) → code_at s i.next ≡ rest (on_front f b p (λ after. decode_from after (p + 1) l))
      by_front b l (whole after literal) e g =
          let n : i.next ≡ p + 1 + after = cc in
          rw n (sym (code-next b l after e))
      by_front b l short e g = cc

      by : (l : Bytes) → drop p s ≡ l → code_at s i.next ≡ rest (code_at s p)
      by [] e = absurd (let z : ◌≡◌ {A = ℕ} 0 1 = cc (decoded-rest [] e) in omega arith)
      by (b ∷ l) e = by_front b l (front b l) e (sym (decoded-rest (b ∷ l) e) ∙ h) ∙ ap rest (sym (code-rest (b ∷ l) e))

-- an instruction takes a byte at least
instructions-most : (k p : ℕ) (l : Bytes) → length (instructions (decode_from k p l)) ≤ length l
instructions-most k p [] = omega arith
instructions-most zero p (b ∷ rest) = by (front b rest) (λ after. instructions-most after (p + 1) rest)
  where
    by : (f : Front) → ((after : ℕ) → length (instructions (decode_from after (p + 1) rest)) ≤ length rest)
        → length (instructions (on_front f b p (λ k. decode_from k (p + 1) rest))) ≤ suc (length rest)
    by (whole after l) most = omega (arith, most after)
    by short most = omega arith
instructions-most (suc k) p (b ∷ rest) = omega (arith, instructions-most k (p + 1) rest)

pub code-length : (s : Bytes) (p : ℕ) → length (instructions (code_at s p)) ≤ length s - p
unfolding code_at
code-length s p = rw (← length-drop p s) (instructions-most 0 p (drop p s))

-- The instructions before an offset are counted.
pub record Counting (s : Bytes) (offset count : ℕ) : Type 0 where
  pub within : offset ≤ length s
  pub most : count ≤ offset
  pub is : count_in (decode s) ≡ count_by (malformed_at (code_at s offset)) (count + length (instructions (code_at s offset)))

pub counting-none : (s : Bytes) → Counting s 0 0
counting-none s = record {
  within = omega arith;
  most = omega arith;
  is = rw code-start (ap (count_by (malformed_at (code_at s 0))) (omega arith));
}

-- behind an instruction it is counted too
pub counting-more : (s : Bytes) (offset count : ℕ) (i : Instruction) → ((k : ℕ) → Fits w8 (get_or s k 0)) → decoded_at s offset ≡ Ok (Some i) → Counting s offset count
    → Counting s i.next (count + 1)
counting-more s offset count i h e c =
    let t = code-instruction s offset (slice-bytes s h) i e in
    record {
      within = t.within;
      most = omega (arith, t.onward, c.most);
      is = c.is ∙ rw t.code (ap (count_by (malformed_at (code_at s i.next))) (omega arith));
    }

-- and less is left
pub less-left : (s : Bytes) (offset : ℕ) (i : Instruction) → ((k : ℕ) → Fits w8 (get_or s k 0)) → decoded_at s offset ≡ Ok (Some i) → length s - i.next < length s - offset
less-left s offset i h e =
    let t = code-instruction s offset (slice-bytes s h) i e in
    omega (arith, t.onward, t.within)

-- a malformed instruction is told where it stands
pub malformed-offset : (s : Bytes) (p : ℕ) (m : Malformed) → decoded_at s p ≡ Err m → m.offset ≡ p
unfolding decoded_at
malformed-offset s p m e = by (drop p s) e
  where
    by_front : (b : ℕ) (f : Front) → decoded_front f b p ≡ Err m → m.offset ≡ p
    by_front b (whole after l) e = absurd (let z : ◌≡◌ {A = ℕ} 0 1 = cc in omega arith)
    by_front b short e = let i : record { offset = p } ≡ m = cc in sym (ap (λ (x : Malformed). x.offset) i)

    by : (l : Bytes) → decoded_rest l p ≡ Err m → m.offset ≡ p
    by [] e = absurd (let z : ◌≡◌ {A = ℕ} 0 1 = cc in omega arith)
    by (b ∷ rest) e = by_front b (front b rest) e

-- The instruction whose opcode is o, and behind which the next starts at n.
pub record Opcode (s : Bytes) (p o n : ℕ) : Type 0 where
  pub instruction : Instruction
  pub is : decoded_at s p ≡ Ok (Some instruction)
  pub opcode : instruction.opcode ≡ o
  pub next : instruction.next ≡ n

pub opcode-is : (s : Bytes) (p o n : ℕ) → Ok (Some (o, n)) ≡ opcode_of (decoded_at s p) → Opcode s p o n
opcode-is s p o n e = by (decoded_at s p) refl e
  where
    by : (d : Decoded) → decoded_at s p ≡ d → Ok (Some (o, n)) ≡ opcode_of d → Opcode s p o n
    by (Ok (Some i)) h e =
        let q : ◌≡◌ {A = ℕ × ℕ} (o, n) (i.opcode, i.next) = cc in
        record { instruction = i; is = h; opcode = sym (ap (λ (x : ℕ × ℕ). x.0) q); next = sym (ap (λ (x : ℕ × ℕ). x.1) q) }
    by (Ok None) h e = absurd (let z : ◌≡◌ {A = ℕ} 0 1 = cc in omega arith)
    by (Err m) h e = absurd (let z : ◌≡◌ {A = ℕ} 0 1 = cc in omega arith)

-- behind it one more is counted, and less is left
module _ (s : Bytes) (offset count o n : ℕ) (h : (k : ℕ) → Fits w8 (get_or s k 0)) (e : Ok (Some (o, n)) ≡ opcode_of (decoded_at s offset)) where
  pub counting-next : Counting s offset count → Counting s n (count + 1)
  counting-next c = let i = opcode-is s offset o n e in subst (λ m. Counting s m (count + 1)) i.next (counting-more s offset count i.instruction h i.is c)

  pub less-next : length s - n < length s - offset
  less-next = let i = opcode-is s offset o n e in subst (λ m. length s - m < length s - offset) i.next (less-left s offset i.instruction h i.is)

module _ (s : Bytes) (offset count : ℕ) (c : Counting s offset count) where
  -- at the end all are counted
  pub counting-end : Ok None ≡ opcode_of (decoded_at s offset) → record { answer = accepted; count = count } ≡ count_in (decode s)
  counting-end e = by (decoded_at s offset) refl e
    where
      by : (d : Decoded) → decoded_at s offset ≡ d → Ok None ≡ opcode_of d → record { answer = accepted; count = count } ≡ count_in (decode s)
      by (Ok (Some i)) h e = absurd (let z : ◌≡◌ {A = ℕ} 0 1 = cc in omega arith)
      by (Ok None) h e = let n : count ≡ count + 0 = omega arith in rw n (sym (c.is ∙ rw (code-ends s offset h).0 refl))
      by (Err m) h e = absurd (let z : ◌≡◌ {A = ℕ} 0 1 = cc in omega arith)

  -- a malformed instruction is told by its offset
  pub counting-malformed : (m : Malformed) → Err m ≡ opcode_of (decoded_at s offset) → counted_of (Err m) ≡ count_in (decode s)
  counting-malformed m e = by (decoded_at s offset) refl e
    where
      by : (d : Decoded) → decoded_at s offset ≡ d → Err m ≡ opcode_of d → counted_of (Err m) ≡ count_in (decode s)
      by (Ok (Some i)) h e = absurd (let z : ◌≡◌ {A = ℕ} 0 1 = cc in omega arith)
      by (Ok None) h e = absurd (let z : ◌≡◌ {A = ℕ} 0 1 = cc in omega arith)
      by (Err k) h e =
          let q : m ≡ k = cc in
          rw (q, malformed-offset s offset k h) (sym (c.is ∙ rw (code-malformed s offset h).0 refl))

pub ruleset decoding = (slice-yields)

pub ruleset counted = (counting-none, counting-next, less-next, counting-end, counting-malformed)
