-- Document 02, L4: the rule of the name table, one test that is computed once (`table_ruled`) and carried to the entry that a name
-- (`name_read`) or a code (`code_named`) leads to.
use mathlib.Core.Bool.{Bool, true, false, ◌&&◌, ◌||◌, not}
use mathlib.Core.List.{List, [], ◌∷◌}
use mathlib.Core.Option.{Option, none, some}
use mathlib.Core.Path.{◌≡◌, refl}
use Prim.Native.Nat.{ℕ, zero, suc, ◌+◌, ◌≤◌, ◌<◌}
use native.Mathlib.Omega.{arith}
use borrow.Author.Tests.{eqb-true, eqb-false, not-true}
use lib.Dec.{ltb, eqb}
use lib.ListN.{take}
use Rattle.definition.specs.Basics.{Bytes, pick}
use Rattle.definition.specs.Classes.{class_number}
use Rattle.definition.specs.Lines.{text}
use Rattle.definition_listings.specs.Assembling.{same, code_in}
use Rattle.definition_listings.specs.OpcodeNames.{Named, name_table, name_in, name_of}

-- Tests

pub both : (a b : Bool) → (a && b) ≡ true → (a ≡ true) × (b ≡ true)
both true b e = (refl, e)
both false b e = let z : ◌≡◌ {A = ℕ} 0 1 = cc in absurd (omega arith)

pub same_equal : (a b : Bytes) → same a b ≡ true → a ≡ b
same_equal [] [] e = refl
same_equal [] (d ∷ m) e = let z : ◌≡◌ {A = ℕ} 0 1 = cc in absurd (omega arith)
same_equal (c ∷ l) [] e = let z : ◌≡◌ {A = ℕ} 0 1 = cc in absurd (omega arith)
same_equal (c ∷ l) (d ∷ m) e =
    let t = both (eqb c d) (same l m) e in
    rw (eqb-true c d t.0, same_equal l m t.1)

-- The rule

-- no letter is a space
abbrev pub no_space : Bytes → Bool
no_space [] = true
no_space (c ∷ l) = not (eqb c 32) && no_space l

-- this code was read
abbrev is_code : Option Bytes → ℕ → Bool
is_code none code = false
is_code (some b) code = same b (code ∷ [])

-- a name is one word, and begins neither as data do nor as an unmodelled code
abbrev wordlike : Bytes → Bool
wordlike w = not (same w []) && (no_space w && (not (same (take 1 w) (text "<")) && not (same (take 2 w) (text "0x"))))

-- 00 with its name, or a modelled code above the data pushes
abbrev namable : Named → Bool
namable n = (eqb n.code 0 && same n.name (text "Op0")) || (ltb 0x4e n.code && not (eqb (class_number n.code) 0))

-- an entry: names are different, since each is read as its own code, and so are codes
abbrev ruled : Named → Bool
ruled n = wordlike n.name && (is_code (code_in name_table n.name) n.code && (same (name_in name_table n.code) n.name && namable n))

abbrev all : (Named → Bool) → List Named → Bool
all test [] = true
all test (n ∷ l) = test n && all test l

-- a code above the data pushes is unmodelled or has a name
abbrev is_named : ℕ → Bool
is_named code = eqb (class_number code) 0 || not (same (name_in name_table code) [])

-- the test passes at the n codes from lo on
abbrev every : (ℕ → Bool) → ℕ → ℕ → Bool
every test zero lo = true
every test (suc n) lo = test lo && every test n (suc lo)

-- the rule: of every entry, and of the codes 4f to ff
table_ruled : (all ruled name_table && every is_named 177 0x4f) ≡ true
unfolding name_table class_number
table_ruled = refl

-- its two halves
halves : (all ruled name_table ≡ true) × (every is_named 177 0x4f ≡ true)
halves = both (all ruled name_table) (every is_named 177 0x4f) table_ruled

-- Carried to an entry

-- what the rule says of a code and its name
pub record Ruled (code : ℕ) (name : Bytes) : Type 0 where
  pub letters : same name [] ≡ false
  pub spaceless : no_space name ≡ true
  pub no_data : same (take 1 name) (text "<") ≡ false
  pub no_code : same (take 2 name) (text "0x") ≡ false
  pub read : code_in name_table name ≡ some (code ∷ [])
  pub written : name_in name_table code ≡ name
  pub namable : namable (record { code = code; name = name }) ≡ true

is_code_read : (o : Option Bytes) (code : ℕ) → is_code o code ≡ true → o ≡ some (code ∷ [])
is_code_read none code e = let z : ◌≡◌ {A = ℕ} 0 1 = cc in absurd (omega arith)
is_code_read (some b) code e = rw (same_equal b (code ∷ []) e)

ruled_says : (code : ℕ) (name : Bytes) → ruled (record { code = code; name = name }) ≡ true → Ruled code name
ruled_says code name e =
    let n : Named = record { code = code; name = name } in
    let t = both (wordlike name) (is_code (code_in name_table name) code && (same (name_in name_table code) name && namable n)) e in
    let u = both (not (same name [])) (no_space name && (not (same (take 1 name) (text "<")) && not (same (take 2 name) (text "0x")))) t.0 in
    let v = both (no_space name) (not (same (take 1 name) (text "<")) && not (same (take 2 name) (text "0x"))) u.1 in
    let w = both (not (same (take 1 name) (text "<"))) (not (same (take 2 name) (text "0x"))) v.1 in
    let x = both (is_code (code_in name_table name) code) (same (name_in name_table code) name && namable n) t.1 in
    let y = both (same (name_in name_table code) name) (namable n) x.1 in
    record {
      letters = not-true (same name []) u.0;
      spaceless = v.0;
      no_data = not-true (same (take 1 name) (text "<")) w.0;
      no_code = not-true (same (take 2 name) (text "0x")) w.1;
      read = is_code_read (code_in name_table name) code x.0;
      written = same_equal (name_in name_table code) name y.0;
      namable = y.1;
    }

-- to the entry that a name leads to
entry_of_name : (test : Named → Bool) (l : List Named) (w b : Bytes) → all test l ≡ true → code_in l w ≡ some b
    → (code : ℕ) × (b ≡ code ∷ []) × (test (record { code = code; name = w }) ≡ true)
entry_of_name test [] w b t e = let z : ◌≡◌ {A = ℕ} 0 1 = cc in absurd (omega arith)
entry_of_name test (n ∷ l) w b t e =
    let u = both (test n) (all test l) t in
    by (same n.name w) refl e u.0 (entry_of_name test l w b u.1)
  where
    Entry : Type 0
    Entry = (code : ℕ) × (b ≡ code ∷ []) × (test (record { code = code; name = w }) ≡ true)

    by : (s : Bool) → same n.name w ≡ s → pick s (some (n.code ∷ [])) (code_in l w) ≡ some b → test n ≡ true
        → (code_in l w ≡ some b → Entry) → Entry
    by true p q u later = (n.code, cc, rw (← (same_equal n.name w p)) u)
    by false p q u later = later q

-- and to that of a code which has one
entry_of_code : (test : Named → Bool) (l : List Named) (code : ℕ) → all test l ≡ true → same (name_in l code) [] ≡ false
    → test (record { code = code; name = name_in l code }) ≡ true
entry_of_code test [] code t e = let z : ◌≡◌ {A = ℕ} 0 1 = cc in absurd (omega arith)
entry_of_code test (n ∷ l) code t e =
    let u = both (test n) (all test l) t in
    by (eqb n.code code) refl e u.0 (entry_of_code test l code u.1)
  where
    by : (s : Bool) → eqb n.code code ≡ s → same (pick s n.name (name_in l code)) [] ≡ false → test n ≡ true
        → (same (name_in l code) [] ≡ false → test (record { code = code; name = name_in l code }) ≡ true)
        → test (record { code = code; name = pick s n.name (name_in l code) }) ≡ true
    by true p q u later = rw (← (eqb-true n.code code p)) u
    by false p q u later = later q

-- and to a code of the range
every_at : (test : ℕ → Bool) (n lo x : ℕ) → every test n lo ≡ true → lo ≤ x → x < lo + n → test x ≡ true
every_at test zero lo x t g h = absurd (omega arith)
every_at test (suc n) lo x t g h =
    let u = both (test lo) (every test n (suc lo)) t in
    by (eqb lo x) refl u.0 (λ k. every_at test n (suc lo) x u.1 k (omega arith))
  where
    by : (s : Bool) → eqb lo x ≡ s → test lo ≡ true → (lo < x → test x ≡ true) → test x ≡ true
    by true p u later = rw (← (eqb-true lo x p)) u
    by false p u later = later (omega (arith, eqb-false lo x p))

-- a name that is read is that of its code
pub name_read : (w b : Bytes) → code_in name_table w ≡ some b → (code : ℕ) × (b ≡ code ∷ []) × (Ruled code w)
name_read w b e =
    let found = entry_of_name ruled name_table w b halves.0 e in
    (found.0, found.1, ruled_says found.0 w found.2)

-- a modelled code above the data pushes has a name
pub code_named : (code : ℕ) → 0x4e < code → code < 256 → eqb (class_number code) 0 ≡ false → Ruled code (name_of code)
unfolding name_of
code_named code g h m =
    ruled_says code (name_in name_table code) (entry_of_code ruled name_table code halves.0 (named (eqb (class_number code) 0) m (every_at is_named 177 0x4f code halves.1 (omega arith) (omega arith))))
  where
    named : (s : Bool) → s ≡ false → (s || not (same (name_in name_table code) [])) ≡ true → same (name_in name_table code) [] ≡ false
    named true p q = let z : ◌≡◌ {A = ℕ} 0 1 = cc in absurd (omega arith)
    named false p q = not-true (same (name_in name_table code) []) q
