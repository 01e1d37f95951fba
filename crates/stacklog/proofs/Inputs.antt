-- An input is read up to 8,001 bytes.
use Rattle.std.proofs.Common.{◌≡◌, ℕ, ◌+◌, ◌≤◌, min, length, take, sym, ◌∙◌, take_all}
use mathlib.Core.Bool.{Bool, true, false}
use mathlib.Core.Path.{refl, ap}
use native.Mathlib.Omega.{arith}
use borrow.Author.Tests.{leb-true, leb-false}
use lib.Dec.{leb}
use Rattle.std.specs.Prelude.{replicate}
use Rattle.definition.specs.Basics.{Bytes}
use Rattle.definition.specs.Stacks.{built_in}
use Rattle.log_text.specs.LogText.{log_text, stacklog}

-- up to so many bytes, or all of them
take-least : (n : ℕ) (l : Bytes) → take (min (length l) n) l ≡ take n l
take-least n l = by (leb (length l) n) refl
  where
    by : (b : Bool) → leb (length l) n ≡ b → take (min (length l) n) l ≡ take n l
    by true e =
        let h : length l ≤ n = leb-true (length l) n e in
        let m : min (length l) n ≡ length l = omega arith in
        rw m (take_all (length l) l (omega arith) ∙ sym (take_all n l h))
    by false e =
        let h : n + 1 ≤ length l = omega (arith, leb-false (length l) n e) in
        let m : min (length l) n ≡ n = omega arith in
        rw m

pub input-read : (input : Bytes) (n : ℕ) → n ≡ min (length input) 8001 → stacklog input ≡ log_text built_in (take n input) (replicate 24000 0)
unfolding stacklog
input-read input n m = ap (λ (l : Bytes). log_text built_in l (replicate 24000 0)) (sym (rw m (take-least 8001 input)))
