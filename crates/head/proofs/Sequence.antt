-- The code left behind what is read, and all that is read of code: its instructions in order, then the end or 3, again and again.
use mathlib.Core.List.{List, ◌∷◌, ◌++◌, map}
use mathlib.Core.Path.{◌≡◌, refl, sym, ap, ◌∙◌}
use Prim.Native.Nat.{ℕ, zero, suc, ◌+◌}
use native.Mathlib.Omega.{arith}
use lib.ListN.{length, replicate}
use Rattle.definition.specs.Basics.{Bytes}
use Rattle.definition.specs.Decoding.{Code, ends, malformed, then, instructions, malformed_at}
use Rattle.decode.specs.View.{Decoded, decoded_at, code_at, Yield, to_marker, yielded, rest}
use Rattle.std.specs.Prelude.{Some, None, Ok, Err}
use Rattle.decode.proofs.Codes.{code-start, code-behind, code-ends, code-malformed}
use Rattle.head.specs.View.{offset_after, yields, at_last}

-- behind an instruction the rest of the code is left; at the end, and at 3, the same code
left-after : (s : Bytes) (p : ℕ) → code_at s (offset_after (decoded_at s p) p) ≡ rest (code_at s p)
left-after s p = by (decoded_at s p) refl
  where
    by : (d : Decoded) → decoded_at s p ≡ d → code_at s (offset_after d p) ≡ rest (code_at s p)
    by (Ok (Some i)) h = code-behind s p i h
    by (Ok None) h = rw (code-ends s p h).0
    by (Err m) h = rw (code-malformed s p h).0

-- and at each offset that is known to be the one after
pub rest-after : (s : Bytes) (p n : ℕ) → n ≡ offset_after (decoded_at s p) p → rest (code_at s p) ≡ code_at s n
rest-after s p n e = sym (left-after s p) ∙ ap (code_at s) (sym e)

-- the end, and 3, again and again
again : (c : Code) (k : ℕ) → rest c ≡ c → yields k c ≡ replicate k (yielded c)
again c zero e = refl
again c (suc k) e = rw e (ap (λ (l : List Yield). yielded c ∷ l) (again c k e))

-- "A reading head rests on a fragment and yields its instructions in order, then the end or 3": where this code is left, n + m
-- reads, n being the number of its instructions, yield these instructions and then m times the end or 3
pub head-yields : (c : Code) (m : ℕ)
    → yields (length (instructions c) + m) c ≡ map to_marker (instructions c) ++ replicate m (at_last (malformed_at c))
head-yields ends m = let z : 0 + m ≡ m = omega arith in rw z (again ends m refl)
head-yields (malformed offset) m = let z : 0 + m ≡ m = omega arith in rw z (again (malformed offset) m refl)
head-yields (then i c) m =
    let z : suc (length (instructions c)) + m ≡ suc (length (instructions c) + m) = omega arith in
    rw z (ap (λ (l : List Yield). to_marker i ∷ l) (head-yields c m))

pub ruleset sequence = (rest-after, code-start)
