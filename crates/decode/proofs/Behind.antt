-- Where long data stands: behind the opcode and the bytes of its length.
use mathlib.Core.Bool.{Bool, true, false, ◌&&◌}
use mathlib.Core.List.{[], ◌∷◌}
use mathlib.Core.Path.{◌≡◌, refl}
use Prim.Native.Nat.{ℕ, ◌+◌, ◌-◌, ◌≤◌, ◌<◌}
use native.Mathlib.Omega.{arith}
use borrow.Author.Tests.{leb-true, ne_eqb}
use lib.Dec.{leb, eqb}
use lib.ListN.{length, take, drop, length-take}
use Rattle.definition.specs.Basics.{Bytes, pick}
use Rattle.definition_long_data.specs.Blank.{length_bytes}
use Rattle.definition.specs.Decoding.{number, Front, whole, short, alone, pushes, sized, front}
use Rattle.definition.proofs.Sound.{and-true}

-- a long literal stands behind the opcode and n bytes of length
abbrev pub Behind : ℕ → Front → Type 0
Behind n (whole after l) = 8 < length l → after ≡ n + length l
Behind n short = Unit {0}

behind-pushes : (n size : ℕ) (rest : Bytes) → Behind n (pushes n size rest)
behind-pushes n size rest = by (leb size (length rest)) refl
  where
    by : (t : Bool) → leb size (length rest) ≡ t → Behind n (pick t (whole (n + size) (take size rest)) short)
    by true e = λ h. rw length-take (omega (arith, leb-true size (length rest) e))
    by false e = tt

behind-sized : (n : ℕ) (rest : Bytes) → Behind n (sized n rest)
behind-sized n rest = by (leb n (length rest))
  where
    by : (t : Bool) → Behind n (pick t (pushes n (number (take n rest)) (drop n rest)) short)
    by true = behind-pushes n (number (take n rest)) (drop n rest)
    by false = tt

alone-short : (opcode : ℕ) → length (alone opcode) ≤ 1
alone-short opcode = first (eqb opcode 0x4f)
  where
    second : (t : Bool) → length (pick t ((opcode - 0x50) ∷ []) []) ≤ 1
    second true = omega arith
    second false = omega arith

    first : (t : Bool) → length (pick t (0x81 ∷ []) (pick (leb 0x51 opcode && leb opcode 0x60) ((opcode - 0x50) ∷ []) [])) ≤ 1
    first true = omega arith
    first false = second (leb 0x51 opcode && leb opcode 0x60)

pub behind-front : (b : ℕ) (rest : Bytes) → Behind (length_bytes b) (front b rest)
unfolding front
behind-front b rest = first (leb 0x01 b && leb b 0x4b) refl
  where
    fourth : (t : Bool) → Behind (pick t 4 0) (pick t (sized 4 rest) (whole 0 (alone b)))
    fourth true = behind-sized 4 rest
    fourth false = λ h. absurd (omega (arith, h, alone-short b))

    third : (t : Bool) → Behind (pick t 2 (pick (eqb b 0x4e) 4 0)) (pick t (sized 2 rest) (pick (eqb b 0x4e) (sized 4 rest) (whole 0 (alone b))))
    third true = behind-sized 2 rest
    third false = fourth (eqb b 0x4e)

    second : (t : Bool) → Behind (pick t 1 (pick (eqb b 0x4d) 2 (pick (eqb b 0x4e) 4 0)))
        (pick t (sized 1 rest) (pick (eqb b 0x4d) (sized 2 rest) (pick (eqb b 0x4e) (sized 4 rest) (whole 0 (alone b)))))
    second true = behind-sized 1 rest
    second false = third (eqb b 0x4d)

    first : (t : Bool) → (leb 0x01 b && leb b 0x4b) ≡ t → Behind (length_bytes b)
        (pick t (pushes 0 b rest) (pick (eqb b 0x4c) (sized 1 rest) (pick (eqb b 0x4d) (sized 2 rest) (pick (eqb b 0x4e) (sized 4 rest) (whole 0 (alone b))))))
    first true e =
        let h = leb-true b 0x4b (and-true (leb 0x01 b) (leb b 0x4b) e).1 in
        rw (ne_eqb b 0x4c (omega (arith, h)), ne_eqb b 0x4d (omega (arith, h)), ne_eqb b 0x4e (omega (arith, h))) (behind-pushes 0 b rest)
    first false e = second (eqb b 0x4c)
