-- What stands at an offset, by the form of the instruction: each law has the tests of the code as premises.
use Rattle.std.proofs.Common.{◌≡◌, refl, sym, ap, ℕ, zero, suc, ◌+◌, ◌-◌, ◌≤◌, ◌<◌, length, drop, get_or, arith, add-one, drop-cons}
use Rattle.std.specs.Prelude.{Some, None, Ok}
use borrow.Author.Tests.{le-leb, lt-leb, eq-eqb, ne_eqb}
use lib.Dec.{leb-zero}
use lib.ListN.{drop_of_length-le}
use Rattle.definition.specs.Basics.{Bytes}
use Rattle.definition.specs.Decoding.{whole, alone, pushes, sized, front}
use Rattle.definition.specs.Walk.{known}
use Rattle.decode.specs.View.{value_of, decoded_front, decoded_at}
use Rattle.decode.specs.declared.Value.TheVariants.{Exact}

-- opcodes that stand alone
pub alone-4f : (opcode : ℕ) → opcode ≡ 0x4f → Exact 1 0x81 ≡ value_of (known (alone opcode))
alone-4f opcode e = rw (eq-eqb opcode 0x4f e)

pub alone-below : (opcode : ℕ) → (opcode ≡ 0x4f → ⊥) → opcode < 0x51 → Exact 0 0 ≡ value_of (known (alone opcode))
alone-below opcode n h = rw (ne_eqb opcode 0x4f n, lt-leb 0x51 opcode h)

pub alone-above : (opcode : ℕ) → (opcode ≡ 0x4f → ⊥) → 0x60 < opcode → Exact 0 0 ≡ value_of (known (alone opcode))
alone-above opcode n h = rw (ne_eqb opcode 0x4f n, le-leb 0x51 opcode (omega arith), lt-leb opcode 0x60 h)

pub alone-small : (opcode v : ℕ) → (opcode ≡ 0x4f → ⊥) → 0x51 ≤ opcode → opcode ≤ 0x60 → v ≡ opcode - 0x50 → Exact 1 v ≡ value_of (known (alone opcode))
alone-small opcode v n h g e = rw (ne_eqb opcode 0x4f n, le-leb 0x51 opcode h, le-leb opcode 0x60 g, e) (ap (Exact 1) (omega arith))

-- which form an opcode has
front-alone : (opcode : ℕ) (rest : Bytes) → 0x4e < opcode → front opcode rest ≡ whole 0 (alone opcode)
unfolding front
front-alone opcode rest h =
    rw (le-leb 0x01 opcode (omega arith), lt-leb opcode 0x4b (omega arith), ne_eqb opcode 0x4c (omega arith), ne_eqb opcode 0x4d (omega arith), ne_eqb opcode 0x4e (omega arith))

front-pushes : (opcode : ℕ) (rest : Bytes) → opcode < 0x4c → front opcode rest ≡ pushes 0 opcode rest
unfolding front
front-pushes zero rest h = rw (leb-zero (length rest))
front-pushes (suc n) rest h = rw (le-leb 0x01 (suc n) (omega arith), le-leb (suc n) 0x4b (omega arith))

pub front-4c : (opcode : ℕ) (rest : Bytes) → opcode ≡ 0x4c → front opcode rest ≡ sized 1 rest
unfolding front
front-4c opcode rest e = rw e

pub front-4d : (opcode : ℕ) (rest : Bytes) → opcode ≡ 0x4d → front opcode rest ≡ sized 2 rest
unfolding front
front-4d opcode rest e = rw e

pub front-4e : (opcode : ℕ) (rest : Bytes) → opcode ≤ 0x4e → 0x4c ≤ opcode → (opcode ≡ 0x4c → ⊥) → (opcode ≡ 0x4d → ⊥) → front opcode rest ≡ sized 4 rest
unfolding front
front-4e opcode rest h k c d = let e : opcode ≡ 0x4e = omega arith in rw e

-- what stands at an offset
pub at-end : (s : Bytes) (offset : ℕ) → length s ≤ offset → decoded_at s offset ≡ Ok None
unfolding decoded_at
at-end s offset h = rw (drop_of_length-le s h)

module _ (s : Bytes) (offset : ℕ) (within : offset < length s) where
  at-front : (opcode : ℕ) → opcode ≡ get_or s offset 0 → decoded_at s offset ≡ decoded_front (front opcode (drop (offset + 1) s)) opcode offset
  unfolding decoded_at
  at-front opcode is = rw (drop-cons s offset 0 within, add-one offset, is)

  pub at-alone : (opcode : ℕ) → opcode ≡ get_or s offset 0 → 0x4e < opcode
      → decoded_at s offset ≡ Ok (Some (record { opcode = opcode; offset = offset; literal = value_of (known (alone opcode)); next = offset + 1 }))
  at-alone opcode is h =
      let z : offset + 1 + 0 ≡ offset + 1 = omega arith in
      rw (at-front opcode is, front-alone opcode (drop (offset + 1) s) h, z)

  pub at-pushes : (opcode : ℕ) → opcode ≡ get_or s offset 0 → opcode < 0x4c
      → decoded_at s offset ≡ decoded_front (pushes (offset + 1 - (offset + 1)) opcode (drop (offset + 1) s)) opcode offset
  at-pushes opcode is h =
      let m : offset + 1 - (offset + 1) ≡ 0 = omega arith in
      rw (at-front opcode is, front-pushes opcode (drop (offset + 1) s) h, m)

  pub at-sized-1 : get_or s offset 0 ≡ 0x4c → decoded_at s offset ≡ decoded_front (sized 1 (drop (offset + 1) s)) 0x4c offset
  at-sized-1 e = rw (at-front 0x4c (sym e), front-4c 0x4c (drop (offset + 1) s) refl)

  pub at-sized-2 : get_or s offset 0 ≡ 0x4d → decoded_at s offset ≡ decoded_front (sized 2 (drop (offset + 1) s)) 0x4d offset
  at-sized-2 e = rw (at-front 0x4d (sym e), front-4d 0x4d (drop (offset + 1) s) refl)

  pub at-sized-4 : get_or s offset 0 ≡ 0x4e → decoded_at s offset ≡ decoded_front (sized 4 (drop (offset + 1) s)) 0x4e offset
  at-sized-4 e = rw (at-front 0x4e (sym e), front-4e 0x4e (drop (offset + 1) s) (omega arith) (omega arith) (omega arith) (omega arith))

pub ruleset fronts = (at-end, at-alone, at-pushes, at-sized-1, at-sized-2, at-sized-4)
