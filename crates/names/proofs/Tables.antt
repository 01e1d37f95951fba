-- The tables of names: their computed rules, carried to each entry.
use mathlib.Core.Bool.{Bool, true, false, ◌&&◌, ◌||◌}
use mathlib.Core.List.{List, [], ◌∷◌}
use mathlib.Core.Logic.{⊎_elim}
use mathlib.Core.Option.{Option, none, some}
use mathlib.Core.Path.{◌≡◌, refl, sym, ap, subst, ◌∙◌}
use Prim.Native.Nat.{ℕ, zero, suc, ◌+◌, ◌-◌, ◌≤◌, ◌<◌}
use native.Mathlib.Nat.{eq-or-lt_of_le}
use native.Mathlib.Omega.{arith}
use borrow.Author.Tests.{eq-eqb}
use lib.Dec.{T, leb, ltb, eqb, eqb→eq, leb→le}
use lib.ListN.{length, take, drop, get_or}
use mir.Facts.{and_yes}
use Rattle.definition.specs.Basics.{Bytes, pick}
use Rattle.definition_listings.specs.Assembling.{same, code_in}
use Rattle.definition_listings.specs.OpcodeNames.{Named, name_table, name_of}
use Rattle.opcodes.proofs.Every.{every, at}
use Rattle.std.specs.Cmp.Lexicographic.{pointwise}
use Rattle.std.specs.Prelude.{Some, None}
use Rattle.std.proofs.lemmas.Slice.Eq.{bytes_eq-Decides}
use Rattle.names.specs.View.{code_option}
use Rattle.names.specs.Tables.{all_letters, name_at, name_right, names_right, starts_right, place_of, names_placed, codes_right}

-- a test that holds, and one that is true
pub is_true : (b : Bool) → T b → b ≡ true
is_true true t = refl
is_true false t = absurd t

pub holds : (b : Bool) → b ≡ true → T b
holds b e = subst T (sym e) tt

-- 0 is not 1; `cc` finds that equation where two constructors would be equal
pub never : {A : Type 0} → ◌≡◌ {A = ℕ} 0 1 → A
never z = absurd (omega arith)

pub true-or-false : (b : Bool) → b ≡ true → b ≡ false → ⊥
true-or-false true e f = let z : ◌≡◌ {A = ℕ} 0 1 = cc in omega arith
true-or-false false e f = let z : ◌≡◌ {A = ℕ} 0 1 = cc in omega arith

-- Texts that are the same

pub same-equal : (l m : Bytes) → same l m ≡ true → l ≡ m
same-equal [] [] e = refl
same-equal [] (d ∷ m) e = cc
same-equal (c ∷ l) [] e = cc
same-equal (c ∷ l) (d ∷ m) e =
    let both = and_yes (eqb c d) (same l m) (holds (eqb c d && same l m) e) in
    cc (eqb→eq c d both.0, same-equal l m (is_true (same l m) both.1))

pub equal-same : (l m : Bytes) → l ≡ m → same l m ≡ true
equal-same l m e = rw e (by m)
  where
    by : (m : Bytes) → same m m ≡ true
    by [] = refl
    by (c ∷ m) = rw (eq-eqb c c refl) (by m)

-- The names by their starts

module _ (starts : List ℕ) (right : T (starts_right starts)) where
  both_right : T (eqb (length starts) 257) × T (names_right starts 256 0)
  unfolding starts_right
  both_right = and_yes (eqb (length starts) 257) (names_right starts 256 0) right

  pub starts-count : length starts ≡ 257
  starts-count = eqb→eq (length starts) 257 both_right.0

  carried : (count code x : ℕ) → T (names_right starts count code) → code ≤ x → x < code + count → T (name_right starts x)
  carried zero code x t g h = absurd (omega arith)
  carried (suc count) code x t g h =
      let both = and_yes (name_right starts code) (names_right starts count (suc code)) t in
      ⊎_elim (λ e. rw e at both.0) (λ l. carried count (suc code) x both.1 l (omega arith)) (eq-or-lt_of_le g)

  -- of each code: its start is not past that of the next, which lies within the letters, and between them is its name
  pub record NameOf (code : ℕ) : Type 0 where
    pub rising : get_or starts code 0 ≤ get_or starts (suc code) 0
    pub within : get_or starts (suc code) 0 ≤ length all_letters
    pub name : name_at starts code ≡ name_of code

  pub name-of : (code : ℕ) → code < 256 → NameOf code
  name-of code h =
      let a = leb (get_or starts code 0) (get_or starts (suc code) 0) in
      let b = leb (get_or starts (suc code) 0) (length all_letters) in
      let c = same (name_at starts code) (name_of code) in
      let t = and_yes (a && b) c (carried 256 0 code both_right.1 (omega arith) (omega arith)) in
      let u = and_yes a b t.0 in
      record {
        rising = leb→le _ _ u.0;
        within = leb→le _ _ u.1;
        name = same-equal (name_at starts code) (name_of code) (is_true c t.1);
      }

-- The code of a name

-- whether what is read is this code alone
abbrev is_code : Option Bytes → ℕ → Bool
is_code none code = false
is_code (some []) code = false
is_code (some (b ∷ [])) code = eqb b code
is_code (some (b ∷ c ∷ l)) code = false

is-code : (r : Option Bytes) (code : ℕ) → is_code r code ≡ true → r ≡ some (code ∷ [])
is-code none code e = cc
is-code (some []) code e = cc
is-code (some (b ∷ [])) code e = ap (λ n. some (n ∷ [])) (eqb→eq b code (holds (eqb b code) e))
is-code (some (b ∷ c ∷ l)) code e = cc

abbrev empty : Bytes → Bool
empty [] = true
empty (c ∷ l) = false

-- a code's name, where it has one, is read as that code
abbrev read_back : ℕ → Bool
read_back code = empty (name_of code) || is_code (code_in name_table (name_of code)) code

all-read-back : T (every read_back 256 0)
unfolding name_of name_table
all-read-back = tt

pub name-read : (code : ℕ) (w : Bytes) → code < 256 → 0 < length w → same (name_of code) w ≡ true → code_in name_table w ≡ some (code ∷ [])
name-read code w h n e = rw (← (same-equal (name_of code) w e)) (by (name_of code) (rw (← (same-equal (name_of code) w e)) at n) (at read_back 256 0 code all-read-back (omega arith) (omega arith)))
  where
    by : (m : Bytes) → 0 < length m → T (empty m || is_code (code_in name_table m) code) → code_in name_table m ≡ some (code ∷ [])
    by [] l t = absurd (omega arith)
    by (c ∷ m) l t = is-code (code_in name_table (c ∷ m)) code (is_true _ t)

-- each name of the table is that of its code
abbrev own_names : List Named → Bool
own_names [] = true
own_names (n ∷ l) = ltb n.code 256 && same (name_of n.code) n.name && own_names l

own-names : T (own_names name_table)
unfolding name_of name_table
own-names = tt

module _ (codes : List ℕ) (right : T (codes_right codes)) where
  codes-both : T (eqb (length codes) 512) × T (names_placed codes name_table)
  unfolding codes_right
  codes-both = and_yes (eqb (length codes) 512) (names_placed codes name_table) right

  pub codes-count : length codes ≡ 512
  codes-count = eqb→eq (length codes) 512 codes-both.0

  -- a word that is not the name of the code at its place is no name
  none_in : (l : List Named) (w : Bytes) → T (names_placed codes l) → T (own_names l) → same (name_of (get_or codes (place_of w) 0)) w ≡ false → code_in l w ≡ none
  none_in [] w t o f = refl
  none_in (n ∷ l) w t o f =
      let p = and_yes (eqb (get_or codes (place_of n.name) 0) n.code) (names_placed codes l) t in
      let q = and_yes (ltb n.code 256 && same (name_of n.code) n.name) (own_names l) o in
      let r = and_yes (ltb n.code 256) (same (name_of n.code) n.name) q.0 in
      by (eqb→eq _ _ p.0) (same-equal (name_of n.code) n.name (is_true _ r.1)) (none_in l w p.1 q.1 f) (same n.name w) refl
    where
      by : get_or codes (place_of n.name) 0 ≡ n.code → name_of n.code ≡ n.name → code_in l w ≡ none
          → (b : Bool) → same n.name w ≡ b → pick b (some (n.code ∷ [])) (code_in l w) ≡ none
      by a m rest true e =
          let i : n.name ≡ w = same-equal n.name w e in
          let j : name_of (get_or codes (place_of w) 0) ≡ w = cc (ap (λ (x : Bytes). name_of (get_or codes (place_of x) 0)) i, ap name_of a) in
          absurd (true-or-false _ (equal-same (name_of (get_or codes (place_of w) 0)) w j) f)
      by a m rest false e = rest

  pub no_name : (w : Bytes) → same (name_of (get_or codes (place_of w) 0)) w ≡ false → code_in name_table w ≡ none
  no_name w f = none_in name_table w codes-both.1 own-names f

-- The letters between two starts, and the code at a word's place

-- two starts that follow one another
pub between : (letters : Bytes) (starts : List ℕ) (code from to : ℕ) → letters ≡ all_letters → T (starts_right starts) → code < 256 → from ≡ get_or starts code 0
    → to ≡ get_or starts (code + 1) 0 → (from ≤ to) × (to ≤ length letters)
between letters starts code from to l s h f t =
    let n : to ≡ get_or starts (suc code) 0 = t ∙ ap (λ m. get_or starts m 0) (omega arith) in
    (omega (arith, (name-of starts s code h).rising), omega (arith, (name-of starts s code h).within, ap length l))

pub name-between : (letters : Bytes) (starts : List ℕ) (code from to : ℕ) → letters ≡ all_letters → T (starts_right starts) → code < 256 → from ≡ get_or starts code 0
    → to ≡ get_or starts (code + 1) 0 → take (to - from) (drop from letters) ≡ name_of code
name-between letters starts code from to l s h f t =
    let n : code + 1 ≡ suc code = omega arith in
    let m : take (to - from) (drop from letters) ≡ name_at starts code = rw (f, t, n, l) in
    m ∙ (name-of starts s code h).name

module _ (w : Bytes) where
  pub code-empty : length w ≡ 0 → None ≡ code_option (code_in name_table w)
  unfolding name_table
  code-empty e = by w e
    where
      by : (w : Bytes) → length w ≡ 0 → None ≡ code_option (code_in name_table w)
      by [] e = refl
      by (c ∷ w) e = absurd (omega arith)

  module _ (code : ℕ) (name : Bytes) (is : name ≡ name_of code) (r : Bool) (compared : r ≡ pointwise eqb name w) where
    pub code-named : code < 256 → 0 < length w → r ≡ true → Some code ≡ code_option (code_in name_table w)
    code-named h n e = rw (name-read code w h n (equal-same (name_of code) w (sym is ∙ (bytes_eq-Decides name w).0 (sym compared ∙ e))))

    pub code_none : (codes : List ℕ) → T (codes_right codes) → code ≡ get_or codes (place_of w) 0 → r ≡ false → None ≡ code_option (code_in name_table w)
    code_none codes c at f = rw (no_name codes c w (differs (same (name_of (get_or codes (place_of w) 0)) w) refl))
      where
        differs : (b : Bool) → same (name_of (get_or codes (place_of w) 0)) w ≡ b → same (name_of (get_or codes (place_of w) 0)) w ≡ false
        differs false e = e
        differs true e =
            let q : name ≡ w = is ∙ ap name_of at ∙ same-equal (name_of (get_or codes (place_of w) 0)) w e in
            absurd (true-or-false r (compared ∙ (bytes_eq-Decides name w).1 q) f)
