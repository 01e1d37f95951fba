-- A `match` on a number x that gives the value k of f at x. What a return knows of x is that it is a number, or one of
-- several, or that it is none of the single numbers of the arms and lies in a range: a law for each, with a computed test.
use mathlib.Core.Bool.{Bool, true, false, ◌||◌}
use mathlib.Core.List.{List, [], ◌∷◌}
use mathlib.Core.Logic.{◌⊎◌, ⊎_elim}
use mathlib.Core.Path.{◌≡◌, refl}
use Prim.Native.Nat.{ℕ, ◌-◌, ◌≤◌, ◌<◌}
use native.Mathlib.Omega.{arith}
use lib.Dec.{T, eqb, eqb→eq}
use mir.Syntax.{Body, skip, seq, assign, block, loop, cond, switch, exit, return, unreachable, call, call_v, lend_static, Arms, arm, default, no_default}
use mir.Val.{has_key}
use types.Run.{OneOf, hit}
use Rattle.opcodes.proofs.Every.{every, at}

-- the single numbers of each arm, the last arm first
abbrev pub keys_of : Arms → List (List ℕ) → List (List ℕ)
keys_of (arm keys body arms) found = keys_of arms (keys ∷ found)
keys_of (default body) found = found
keys_of no_default found = found

-- those of the first match of a function's body
abbrev or_else : List (List ℕ) → List (List ℕ) → List (List ℕ)
or_else [] later = later
or_else (keys ∷ arms) later = keys ∷ arms

abbrev pub arms_of : Body → List (List ℕ)
arms_of skip = []
arms_of (seq first rest) = or_else (arms_of first) (arms_of rest)
arms_of (assign target value) = []
arms_of (block body) = arms_of body
arms_of (loop body) = []
arms_of (cond test then else) = []
arms_of (switch number arms) = keys_of arms []
arms_of (exit blocks) = []
arms_of return = []
arms_of unreachable = []
arms_of (call function arguments target) = []
arms_of (call_v function types arguments target) = []
arms_of (lend_static target item region) = []

-- x is none of them
abbrev pub Rest : List (List ℕ) → ℕ → Type 0
Rest [] x = Unit {0}
Rest (keys ∷ arms) x = Rest arms x × (OneOf keys x → ⊥)

abbrev pub is_key : List (List ℕ) → ℕ → Bool
is_key [] x = false
is_key (keys ∷ arms) x = has_key keys x || is_key arms x

misses : (keys : List ℕ) (x : ℕ) → (OneOf keys x → ⊥) → has_key keys x ≡ false
misses keys x none = by (has_key keys x) refl
  where
    by : (b : Bool) → has_key keys x ≡ b → b ≡ false
    by true e = absurd (none (hit keys x (rw e tt)))
    by false e = refl

not_key : (arms : List (List ℕ)) (x : ℕ) → Rest arms x → is_key arms x ≡ false
not_key [] x r = refl
not_key (keys ∷ arms) x r = rw (misses keys x r.1) (not_key arms x r.0)

module _ (f : ℕ → ℕ) where
  pub keyed : (x k n : ℕ) → x ≡ n → T (eqb k (f n)) → k ≡ f x
  keyed x k n e t = rw e (eqb→eq k (f n) t)

  pub split : (x k : ℕ) (A B : Type 0) → A ⊎ B → (A → k ≡ f x) → (B → k ≡ f x) → k ≡ f x
  split x k A B d a b = ⊎_elim a b d

  module _ (arms : List (List ℕ)) where
    abbrev pub gives : ℕ → ℕ → Bool
    gives k n = is_key arms n || eqb k (f n)

    pub ranged : (x k lo hi : ℕ) → Rest arms x → lo ≤ x → x < hi → T (every (gives k) (hi - lo) lo) → k ≡ f x
    ranged x k lo hi r g h t = eqb→eq k (f x) (rw (not_key arms x r) at (at (gives k) (hi - lo) lo x t g (omega arith)))

    pub below : (x k hi : ℕ) → Rest arms x → x < hi → T (every (gives k) hi 0) → k ≡ f x
    below x k hi r h t = eqb→eq k (f x) (rw (not_key arms x r) at (at (gives k) hi 0 x t (omega arith) (omega arith)))
