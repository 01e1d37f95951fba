-- Request L8, "All else equal, a fragment accepted in the classic year is accepted in the current one with the same verdict and
-- log": `classic_stands`, an instance of `allowed_follows`. The classic map is good and of 260 bytes; the codes in which it parts
-- from the built-in one (`gone_codes`); the years by example (`concatenation`).
use mathlib.Core.Bool.{Bool, true, false, ◌&&◌, ◌||◌}
use mathlib.Core.List.{List, [], ◌∷◌}
use mathlib.Core.Path.{◌≡◌, refl, sym, subst, ◌∙◌}
use Prim.Native.Nat.{ℕ, zero, suc, ◌+◌}
use native.Mathlib.Omega.{arith}
use lib.Dec.{T, eqb, eqb→eq}
use lib.ListN.{length, get_or, replicate}
use mir.Facts.{and_yes}
use Rattle.definition.specs.Decoding.{front, decode, serialize, deserialize}
use Rattle.definition.specs.Classes.{Class, IF, NOTIF, ELSE, ENDIF, RETURN, ordinary, plain, unmodelled, class_number, class_at}
use Rattle.definition.specs.Refusals.{accepted, answer}
use Rattle.definition.specs.Stacks.{push_item, drop_items, copy_items, step, plain_step}
use Rattle.definition.specs.Walk.{dead, live, unknowns, join_stacks, log_row, walk, analysis_of, analysis}
use Rattle.definition_rules.specs.Allows.{Models, keeps, gains_ordinary, gains_plain, Allows, Follows}
use Rattle.definition_rules.specs.Maps.{Options, rows_of, good_map, rules_of, built_in_map, built_in_options, analysis_with}
use Rattle.definition_rules.specs.Years.{classic_number, classic_map, ClassicStands}
use Rattle.definition_rules.proofs.BuiltInMap.{built_in_map_good}
use Rattle.definition_rules.proofs.UnderEveryMap.{accepted_is_good, analysis-good, accepted_paper_is_good, paper-good}
use Rattle.definition_rules.proofs.AllowedPapers.{allowed_follows}

-- "Each is a map of 260 bytes for L6."
pub classic_map_good : good_map classic_map ≡ true
unfolding good_map classic_map classic_number class_number
classic_map_good = refl

pub classic_map_size : length classic_map ≡ 260
unfolding classic_map
classic_map_size = refl

-- the codes, from this one on and so many, whose class numbers in the two years differ
abbrev unless : Bool → ℕ → List ℕ → List ℕ
unless true code l = l
unless false code l = code ∷ l

abbrev differing : ℕ → ℕ → List ℕ
differing code zero = []
differing code (suc n) = unless (eqb (classic_number code) (class_number code)) code (differing (code + 1) n)

pub gone_codes : differing 0x00 256
    ≡ (0x7e ∷ 0x7f ∷ 0x83 ∷ 0x84 ∷ 0x85 ∷ 0x86 ∷ 0x95 ∷ 0x96 ∷ 0x97 ∷ 0xa6 ∷ 0xa7 ∷
    0xb2 ∷ 0xb3 ∷ 0xb4 ∷ 0xb5 ∷ 0xb6 ∷ 0xb7 ∷ 0xb8 ∷ 0xb9 ∷ 0xba ∷ 0xbb ∷ 0xbc ∷ 0xbd ∷ 0xbe ∷ 0xbf ∷
    0xc0 ∷ 0xc1 ∷ 0xc2 ∷ 0xc3 ∷ 0xc4 ∷ 0xc5 ∷ 0xc6 ∷ 0xc7 ∷ 0xc8 ∷ 0xc9 ∷ 0xca ∷ 0xcb ∷ 0xcc ∷ 0xcd ∷ 0xce ∷ 0xcf ∷
    0xd0 ∷ 0xd1 ∷ 0xd2 ∷ 0xd3 ∷ 0xd4 ∷ 0xd5 ∷ 0xd6 ∷ 0xd7 ∷ 0xd8 ∷ 0xd9 ∷ [])
unfolding classic_number class_number
gone_codes = refl

-- The law

-- a class that may be gained: no conditional, and not RETURN
abbrev gained : Class → Bool
gained IF = false
gained NOTIF = false
gained ELSE = false
gained ENDIF = false
gained RETURN = false
gained (ordinary o) = true
gained (plain pops pushes) = true

-- class numbers, and rows of them: each is kept, or it is unmodelled in the first and gained in the second
abbrev models_number : ℕ → ℕ → Bool
models_number m n = eqb m n || (eqb m 0 && gained (class_at n))

abbrev models_rows : List ℕ → List ℕ → Bool
models_rows [] [] = true
models_rows [] (n ∷ l) = false
models_rows (m ∷ k) [] = false
models_rows (m ∷ k) (n ∷ l) = models_number m n && models_rows k l

class-gained : (c : Class) → T (gained c) → Models (ordinary unmodelled) c
class-gained IF t = elim t [ ]
class-gained NOTIF t = elim t [ ]
class-gained ELSE t = elim t [ ]
class-gained ENDIF t = elim t [ ]
class-gained RETURN t = elim t [ ]
class-gained (ordinary o) t = gains_ordinary o
class-gained (plain pops pushes) t = gains_plain pops pushes

number-models : (m n : ℕ) → T (models_number m n) → Models (class_at m) (class_at n)
number-models m n t = by (eqb m n) refl t
  where
    by : (b : Bool) → eqb m n ≡ b → T (b || (eqb m 0 && gained (class_at n))) → Models (class_at m) (class_at n)
    by true e t = subst (λ (k : ℕ). Models (class_at m) (class_at k)) (eqb→eq m n (rw e tt)) (keeps (class_at m))
    by false e t =
        let both = and_yes (eqb m 0) (gained (class_at n)) t in
        subst (λ (k : ℕ). Models (class_at k) (class_at n)) (sym (eqb→eq m 0 both.0)) (class-gained (class_at n) both.1)

rows-model : (k l : List ℕ) → T (models_rows k l) → (code : ℕ) → Models (class_at (get_or k code 0)) (class_at (get_or l code 0))
rows-model [] [] t code = keeps _
rows-model [] (n ∷ l) t code = elim t [ ]
rows-model (m ∷ k) [] t code = elim t [ ]
rows-model (m ∷ k) (n ∷ l) t zero = number-models m n (and_yes (models_number m n) (models_rows k l) t).0
rows-model (m ∷ k) (n ∷ l) t (suc code) = rows-model k l (and_yes (models_number m n) (models_rows k l) t).1 code

-- one computed test over all rows
years-model : T (models_rows (rows_of classic_map) (rows_of built_in_map))
unfolding classic_map built_in_map classic_number class_number
years-model = tt

pub current_allows : (options : Options) → Allows (rules_of classic_map options) (rules_of built_in_map options)
current_allows options = record { class_for = rows-model (rows_of classic_map) (rows_of built_in_map) years-model; limit = omega arith; examined = λ h. h }

pub classic_stands : ClassicStands
classic_stands = record {
  fragments = λ options fragment main alt log h.
      let limited = (accepted_is_good classic_map options fragment main alt log h).1 in
      let here = analysis-good classic_map options fragment main alt log classic_map_good limited in
      let there = analysis-good built_in_map options fragment main alt log built_in_map_good limited in
      there ∙ (law options).fragments fragment main alt log (rw here at h) ∙ sym here;
  papers = λ options paper log h.
      let limited = (accepted_paper_is_good classic_map options paper log h).1 in
      let here = paper-good classic_map options paper log classic_map_good limited in
      let there = paper-good built_in_map options paper log built_in_map_good limited in
      there ∙ (law options).papers paper log (rw here at h) ∙ sym here;
}
  where
    law : (options : Options) → Follows (rules_of classic_map options) (rules_of built_in_map options)
    law options = allowed_follows (rules_of classic_map options) (rules_of built_in_map options) (current_allows options)

-- By example

-- 7e from (2, 0): 11 in the classic year, accepted in the current one; 6a 7e, where it is dead code, is accepted in both
pub concatenation : ((analysis_with classic_map built_in_options (0x7e ∷ []) 2 0 (replicate 3 9)).verdict.answer ≡ answer 11 0 0x7e 0)
    × (((analysis_with built_in_map built_in_options (0x7e ∷ []) 2 0 (replicate 3 9)).verdict
    ≡ record { answer = accepted; rows = 1; peak = 2; end = live (unknowns 1 0) })
    × ((analysis_with classic_map built_in_options (0x6a ∷ 0x7e ∷ []) 0 0 (replicate 6 9)
    ≡ record { verdict = record { answer = accepted; rows = 2; peak = 0; end = dead }; log = 0 ∷ 0 ∷ 0 ∷ 1 ∷ 65535 ∷ 65535 ∷ [] })
    × (analysis_with built_in_map built_in_options (0x6a ∷ 0x7e ∷ []) 0 0 (replicate 6 9)
    ≡ analysis_with classic_map built_in_options (0x6a ∷ 0x7e ∷ []) 0 0 (replicate 6 9))))
unfolding analysis_with good_map classic_map built_in_map classic_number class_number analysis analysis_of walk log_row join_stacks step plain_step push_item drop_items copy_items decode front serialize deserialize
concatenation = (refl, (refl, (refl, refl)))
