-- An input is read up to 8,001 bytes.
use Rattle.std.proofs.Common.{◌≡◌, ℕ, ◌+◌, ◌≤◌, min, length, take, sym, ◌∙◌, take_all}
use mathlib.Core.Bool.{Bool, true, false}
use mathlib.Core.Path.{refl, ap}
use native.Mathlib.Omega.{arith}
use borrow.Author.Tests.{leb-true, leb-false}
use lib.Dec.{leb}
use Rattle.std.specs.Prelude.{replicate}
use Rattle.definition.specs.Basics.{Bytes}
use Rattle.definition.specs.Lines.{printed, stackmark}
use Rattle.definition.specs.Stacks.{built_in}

-- up to so many bytes, or all of them
take-least : (n : ℕ) (l : Bytes) → take (min (length l) n) l ≡ take n l
take-least n l = by (leb (length l) n) refl
  where
    by : (b : Bool) → leb (length l) n ≡ b → take (min (length l) n) l ≡ take n l
    by true e =
        let h : length l ≤ n = leb-true (length l) n e in
        let m : min (length l) n ≡ length l = omega arith in
        rw m (take_all (length l) l (omega arith) ∙ sym (take_all n l h))
    by false e =
        let h : n + 1 ≤ length l = omega (arith, leb-false (length l) n e) in
        let m : min (length l) n ≡ n = omega arith in
        rw m

pub inputs : (input text : Bytes) (n : ℕ) → n ≡ min (length input) 8001 → text ≡ printed built_in (take n input) (replicate 24000 0) → text ≡ stackmark input
unfolding stackmark
inputs input text n m e = e ∙ ap (λ (l : Bytes). printed built_in l (replicate 24000 0)) (rw m (take-least 8001 input))
