-- What every section uses.
--
-- How to read these files. A definition is a line `name : type` and below it an equation for each case.
--   ℕ                        whole numbers from 0 on, of any size; a - b is 0 where b is greater; / and % quotient and remainder
--   0x4f, zero, suc n, a ^ b 4f in hexadecimal; 0; n + 1; a to the power b.   max, min: the greater, the smaller
--   A → B → C                takes an A and a B, gives a C; f x y is f at x and y; λ x. e gives e at x
--   {X : Type 0} → ..        an argument that is not written
--   Bool, Option A           true or false; none, or some x with x an A
--   [], x ∷ l, l ++ m        the empty list; x in front of l; l and then m
--   data, record, x.f       a type by its cases; a type by its fields; the field f of x, and of a whole call: f x .g
--   record { f = x; .. }     the record with these fields.   let x : A = e in d: d, with e for x
--   leb, ltb, eqb            tests: at most, below, equal; &&, ||, not: and, or, not
--   length l, take n l, drop n l, replicate n x      how many; the first n; all but these; n times x
--   get_d l n d, sets l n m   element n, counted from 0, or d if there is none; l with the elements of m from element n on
--   .. → Type 0              a claim: what it says may hold or not
--   a ≡ b, A × B, A ⊎ B, A ↔ B, A → ⊥, Unit {0}      equal; both; one of the two; exactly when; not A; true.   ⊥: false; ≤, <
--   (x : A) → P, (x : A) × P                         for every x; there is an x
--   module _ (I : T) where   each definition below takes I first; within the module it is not written
--   "text" in a comment      document 01's own words; .. marks what is left out
--   M.f                      f of the module M
--   use, pub, abbrev, unfoldable                     for the checker alone
use Rattle.std.specs.Prelude.{Bool, true, false, List, ℕ}

-- a fragment, a paper, a literal, an item of a replay: a list of bytes. That each is below 256 is not in the type; `AreBytes`
-- of Replay says it where it matters.
abbrev pub Bytes : Type 0
Bytes = List ℕ

-- the first value where the test holds, else the second
abbrev pub pick : {X : Type 0} → Bool → X → X → X
pick true a b = a
pick false a b = b
