-- The data of a push in its fragment, and the code behind an instruction.
use mathlib.Core.Bool.{Bool, true, false}
use mathlib.Core.List.{List, [], ◌∷◌, ◌++◌, append_assoc, append-nil}
use mathlib.Core.Option.{none}
use mathlib.Core.Path.{◌≡◌, refl, sym, ap, subst, ◌∙◌}
use Prim.Native.Nat.{ℕ, zero, suc, ◌+◌, ◌-◌, ◌≤◌, ◌<◌}
use native.Mathlib.Omega.{arith}
use borrow.Author.Tests.{eq-eqb, ne_eqb, le-leb, leb-true, leb-false, eqb-true, eqb-false}
use lib.Dec.{leb, eqb, leb-zero}
use lib.ListN.{length, take, drop, get_or, length-drop, drop_of_length-le}
use lib.Seq.{drop-drop, get_or-drop}
use Rattle.definition.specs.Basics.{Bytes, pick}
use Rattle.definition.specs.Decoding.{number, Front, whole, short, alone, pushes, sized, front, Code, ends, malformed, then, on_front, decode_from, decode, instructions, malformed_at}
use Rattle.definition.specs.Decoding as D
use Rattle.definition.specs.Lines.{text}
use Rattle.definition_listings.specs.Listing.{data_word, code_word, word_of, parted}
use Rattle.decode.specs.View.{decoded_front, decoded_rest, decoded_at, code_at, data_start}
use Rattle.definition_long_data.specs.Blank.{length_bytes}
use Rattle.decode.specs.declared.Instruction.{Instruction}
use Rattle.std.specs.Prelude.{Some, Ok}
use Rattle.decode.proofs.Codes.{InstructionAt}
use Rattle.decode.proofs.Fronts.{front-4c, front-4d, front-4e}
use Rattle.listing.specs.View.{Stands, word_at}
use Rattle.names.proofs.Tables.{never}

-- Where the data of a push lies

module _ (opcode : ℕ) where
  bytes-none : opcode ≤ 0x4b → 0 ≡ length_bytes opcode
  bytes-none h = rw (ne_eqb opcode 0x4c (λ e. omega arith), ne_eqb opcode 0x4d (λ e. omega arith), ne_eqb opcode 0x4e (λ e. omega arith))

  bytes_one : opcode ≡ 0x4c → 1 ≡ length_bytes opcode
  bytes_one e = rw (eq-eqb opcode 0x4c e)

  bytes-two : (opcode ≡ 0x4c → ⊥) → opcode ≡ 0x4d → 2 ≡ length_bytes opcode
  bytes-two n e = rw (ne_eqb opcode 0x4c n, eq-eqb opcode 0x4d e)

  bytes-four : (opcode ≡ 0x4c → ⊥) → (opcode ≡ 0x4d → ⊥) → opcode ≡ 0x4e → 4 ≡ length_bytes opcode
  bytes-four n m e = rw (ne_eqb opcode 0x4c n, ne_eqb opcode 0x4d m, eq-eqb opcode 0x4e e)

record DataAt (n : ℕ) (rest : Bytes) (after : ℕ) (literal : Bytes) : Type 0 where
  least : n ≤ after
  is : literal ≡ take (after - n) (drop n rest)

of-pushes : (n size after : ℕ) (rest literal : Bytes) → pushes n size (drop n rest) ≡ whole after literal → DataAt n rest after literal
of-pushes n size after rest literal e = by (leb size (length (drop n rest))) e
  where
    by : (b : Bool) → pick b (whole (n + size) (take size (drop n rest))) short ≡ whole after literal → DataAt n rest after literal
    by true e =
        let i : n + size ≡ after = cc in
        let j : take size (drop n rest) ≡ literal = cc in
        let k : size ≡ after - n = omega arith in
        record { least = omega arith; is = sym j ∙ ap (λ m. take m (drop n rest)) k }
    by false e = never (cc)

of-sized : (n after : ℕ) (rest literal : Bytes) → sized n rest ≡ whole after literal → DataAt n rest after literal
of-sized n after rest literal e = by (leb n (length rest)) e
  where
    by : (b : Bool) → pick b (pushes n (number (take n rest)) (drop n rest)) short ≡ whole after literal → DataAt n rest after literal
    by true e = of-pushes n (number (take n rest)) after rest literal e
    by false e = never (cc)

front_low : (opcode : ℕ) (rest : Bytes) → opcode ≤ 0x4b → front opcode rest ≡ pushes 0 opcode rest
unfolding front
front_low zero rest h = rw (leb-zero (length rest))
front_low (suc n) rest h = rw (le-leb 0x01 (suc n) (omega arith), le-leb (suc n) 0x4b h)

of-front : (opcode after : ℕ) (rest literal : Bytes) → opcode ≤ 0x4e → front opcode rest ≡ whole after literal → DataAt (length_bytes opcode) rest after literal
of-front opcode after rest literal h e = low (leb opcode 0x4b) refl
  where
    with-bytes : (n : ℕ) → n ≡ length_bytes opcode → DataAt n rest after literal → DataAt (length_bytes opcode) rest after literal
    with-bytes n q d = subst (λ m. DataAt m rest after literal) q d

    third : (b : Bool) → eqb opcode 0x4d ≡ b → (opcode ≡ 0x4c → ⊥) → 0x4b < opcode → DataAt (length_bytes opcode) rest after literal
    third true q n g =
        let i = eqb-true opcode 0x4d q in
        with-bytes 2 (bytes-two opcode n i) (of-sized 2 after rest literal (sym (front-4d opcode rest i) ∙ e))
    third false q n g =
        let m = eqb-false opcode 0x4d q in
        with-bytes 4 (bytes-four opcode n m (omega arith)) (of-sized 4 after rest literal (sym (front-4e opcode rest h (omega arith) n m) ∙ e))

    second : (b : Bool) → eqb opcode 0x4c ≡ b → 0x4b < opcode → DataAt (length_bytes opcode) rest after literal
    second true q g =
        let i = eqb-true opcode 0x4c q in
        with-bytes 1 (bytes_one opcode i) (of-sized 1 after rest literal (sym (front-4c opcode rest i) ∙ e))
    second false q g = third (eqb opcode 0x4d) refl (eqb-false opcode 0x4c q) g

    low : (b : Bool) → leb opcode 0x4b ≡ b → DataAt (length_bytes opcode) rest after literal
    low true q =
        let l = leb-true opcode 0x4b q in
        with-bytes 0 (bytes-none opcode l) (of-pushes 0 opcode after rest literal (sym (front_low opcode rest l) ∙ e))
    low false q = second (eqb opcode 0x4c) refl (leb-false opcode 0x4b q)

-- An instruction's word, by the bytes of its fragment

module _ (s : Bytes) (p : ℕ) (i : Instruction) (t : InstructionAt s p i) (d : decoded_at s p ≡ Ok (Some i)) where
  -- the definition's instruction
  abbrev pub the_instruction : D.Instruction
  the_instruction = record { opcode = i.opcode; offset = p; literal = t.literal }

  -- what stands at the front
  record Fronted : Type 0 where
    rest : Bytes
    after : ℕ
    behind : rest ≡ drop (p + 1) s
    is : front i.opcode rest ≡ whole after t.literal
    next : i.next ≡ p + 1 + after
    opcode : get_or s p 0 ≡ i.opcode

  fronted : Fronted
  unfolding decoded_at code_at
  fronted = by (drop p s) refl d t.code
    where
      first : (b : ℕ) (rest : Bytes) → drop p s ≡ b ∷ rest → get_or s p 0 ≡ b
      first b rest e =
          let z : p + 0 ≡ p = omega arith in
          ap (λ n. get_or s n 0) (sym z) ∙ sym (get_or-drop p s 0 0) ∙ ap (λ (l : Bytes). get_or l 0 0) e

      at_front : (b : ℕ) (rest : Bytes) (f : Front) → drop p s ≡ b ∷ rest → front b rest ≡ f → decoded_front f b p ≡ Ok (Some i)
          → on_front f b p (λ k. decode_from k (p + 1) rest) ≡ then the_instruction (decode_from 0 i.next (drop i.next s)) → Fronted
      at_front b rest (whole after l) e q g h =
          let o : b ≡ i.opcode = cc in
          let u : ◌≡◌ {A = D.Instruction} (record { opcode = b; offset = p; literal = l }) the_instruction = cc in
          let k : l ≡ t.literal = ap (λ (x : D.Instruction). x.literal) u in
          let r : rest ≡ drop (p + 1) s = sym (ap (drop 1) e) ∙ drop-drop 1 p s in
          record { rest = rest; after = after; behind = r; is = ap (λ x. front x rest) (sym o) ∙ q ∙ ap (whole after) k; next = cc; opcode = first b rest e ∙ o }
      at_front b rest short e q g h = never (cc)

      by : (l : Bytes) → drop p s ≡ l → decoded_rest l p ≡ Ok (Some i) → decode_from 0 p l ≡ then the_instruction (decode_from 0 i.next (drop i.next s)) → Fronted
      by [] e g h = never (cc)
      by (b ∷ rest) e g h = at_front b rest (front b rest) e refl g h

  -- its place
  start : data_start s p ≡ p + 1 + length_bytes i.opcode
  start = ap (λ n. p + 1 + length_bytes n) fronted.opcode

  -- the data begin before the next instruction
  pub data-least : i.opcode ≤ 0x4e → data_start s p ≤ i.next
  data-least h =
      let f = fronted in
      omega (arith, start, (of-front i.opcode f.after f.rest t.literal h f.is).least, f.next)

  -- and are the literal
  pub data-literal : i.opcode ≤ 0x4e → t.literal ≡ take (i.next - data_start s p) (drop (data_start s p) s)
  data-literal h =
      let f = fronted in
      let n = length_bytes i.opcode in
      let a = of-front i.opcode f.after f.rest t.literal h f.is in
      let m : f.after - n ≡ i.next - (p + 1 + n) = omega (arith, f.next, a.least) in
      a.is ∙ ap (λ k. take k (drop n f.rest)) m ∙ ap (take (i.next - (p + 1 + n))) (ap (drop n) f.behind ∙ drop-drop n (p + 1) s)
      ∙ ap (λ k. take (i.next - k) (drop k s)) (sym start)

  pub in-place : Stands s i
  in-place = record {
    onward = omega (arith, t.offset, t.onward);
    within = t.within;
    push = λ h. subst (λ n. data_start s n ≤ i.next) (sym t.offset) (data-least h);
  }

  pub word-is : word_of the_instruction ≡ word_at s i
  word-is = by (leb i.opcode 0x4e) refl
    where
      part : ℕ → Bytes
      part n = take (i.next - data_start s n) (drop (data_start s n) s)

      by : (b : Bool) → leb i.opcode 0x4e ≡ b → pick b (data_word t.literal) (code_word i.opcode) ≡ pick b (data_word (part i.offset)) (code_word i.opcode)
      by true e = ap data_word (data-literal (leb-true i.opcode 0x4e e) ∙ ap part (sym t.offset))
      by false e = refl

-- The words of instructions, one after another

-- what follows a word
abbrev pub after : List D.Instruction → Bytes
after [] = []
after (j ∷ is) = 32 ∷ parted (j ∷ is)

pub parted-first : (i : D.Instruction) (is : List D.Instruction) → parted (i ∷ is) ≡ word_of i ++ after is
parted-first i [] = sym (append-nil (word_of i))
parted-first i (j ∷ is) = append_assoc (word_of i) (text " ") (parted (j ∷ is))

-- behind the last instruction nothing is left; before that the code goes on
pub after-end : (s : Bytes) (p : ℕ) → p ≡ length s → code_at s p ≡ ends
unfolding code_at
after-end s p e = ap (decode_from 0 p) (drop_of_length-le s {i = p} (omega arith))

pub goes_on_lem : (s : Bytes) (p : ℕ) → p < length s → malformed_at (code_at s p) ≡ none → after (instructions (code_at s p)) ≡ 32 ∷ parted (instructions (code_at s p))
unfolding code_at
goes_on_lem s p h m = by (drop p s) (omega (arith, length-drop p s)) m
  where
    at_front : (b : ℕ) (rest : Bytes) (f : Front) → malformed_at (on_front f b p (λ k. decode_from k (p + 1) rest)) ≡ none
        → after (instructions (on_front f b p (λ k. decode_from k (p + 1) rest))) ≡ 32 ∷ parted (instructions (on_front f b p (λ k. decode_from k (p + 1) rest)))
    at_front b rest (whole k l) m = refl
    at_front b rest short m = never (cc)

    by : (l : Bytes) → 0 < length l → malformed_at (decode_from 0 p l) ≡ none → after (instructions (decode_from 0 p l)) ≡ 32 ∷ parted (instructions (decode_from 0 p l))
    by [] h m = absurd (omega arith)
    by (b ∷ rest) h m = at_front b rest (front b rest) m
