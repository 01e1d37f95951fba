-- A test that is computed once over a range of numbers, or over a whole table, and carried to each of them.
use mathlib.Core.Bool.{Bool, true, ◌&&◌}
use mathlib.Core.List.{List}
use mathlib.Core.Logic.{⊎_elim}
use mathlib.Core.Path.{◌≡◌}
use Prim.Native.Nat.{ℕ, zero, suc, ◌+◌, ◌≤◌, ◌<◌}
use native.Mathlib.Nat.{eq-or-lt_of_le}
use native.Mathlib.Omega.{arith}
use lib.Dec.{T, eqb, eqb→eq}
use lib.ListN.{length, get_or}
use mir.Facts.{and_yes}

-- the test passes at the n numbers from lo on
abbrev pub every : (ℕ → Bool) → ℕ → ℕ → Bool
every test zero lo = true
every test (suc n) lo = test lo && every test n (suc lo)

pub at : (test : ℕ → Bool) (n lo x : ℕ) → T (every test n lo) → lo ≤ x → x < lo + n → T (test x)
at test zero lo x t g h = absurd (omega arith)
at test (suc n) lo x t g h =
    let both = and_yes (test lo) (every test n (suc lo)) t in
    ⊎_elim (λ e. rw e at both.0) (λ l. at test n (suc lo) x both.1 l (omega arith)) (eq-or-lt_of_le g)

-- a table of the values of f holds the value of f at each of its places
pub tabled : (f : ℕ → ℕ) (table : List ℕ) (x : ℕ) → T (every (λ n. eqb (get_or table n 0) (f n)) (length table) 0)
    → x < length table → get_or table x 0 ≡ f x
tabled f table x t h =
    eqb→eq (get_or table x 0) (f x) (at (λ n. eqb (get_or table n 0) (f n)) (length table) 0 x t (omega arith) (omega arith))
