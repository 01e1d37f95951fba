-- What a map and what is lent beside it give, and the maps of the years.
use Rattle.std.specs.Prelude.{List, [], ◌∷◌, ◌++◌, ◌≡◌, ℕ, ◌<◌, leb, eqb, length, drop, get_or, Result, Ok, Err}
use Rattle.definition.specs.Basics.{Bytes, pick}
use Rattle.definition.specs.Refusals as D
use Rattle.definition.specs.Stacks as S
use Rattle.definition_rules.specs.Maps.{built_in_map}
use Rattle.refusals.specs.View.{refusal_of}
use Rattle.refusals.specs.declared.Refusal.{Refusal}
use Rattle.walk.specs.Runs.{rules_in}
use Rattle.walk.specs.declared.Rules.{Rules}
use Rattle.definition_rules.specs.Years.{classic_map}

-- 256 rows by this rule, number by number
pub record Numbers (rule : ℕ → ℕ) (rows : List ℕ) : Type 0 where
  pub size : length rows ≡ 256
  pub row : (code : ℕ) → code < 256 → get_or rows code 0 ≡ rule code

-- the rules of a walk, or why there are none
abbrev pub rules_or_refusal : Result Rules Refusal → Result S.Rules D.Refusal
rules_or_refusal (Ok r) = Ok (rules_in r)
rules_or_refusal (Err r) = Err (refusal_of r)

-- the map of a year: 0 has the built-in one, 1 the classic one; no bytes where there is no such year
unfoldable pub year_map : ℕ → Bytes
year_map year = pick (eqb year 0) built_in_map (pick (eqb year 1) classic_map [])

-- the rows of a year's map, behind its header
pub record YearRows (year : ℕ) (rows : List ℕ) : Type 0 where
  pub size : length rows ≡ 256
  pub same : year_map year ≡ 0x00 ∷ 0x01 ∷ 0x04 ∷ 0x00 ∷ rows

-- put into lent bytes that have room for it: its size, and the bytes afterwards, their rest as lent
abbrev pub map_size : ℕ → Bytes → ℕ
map_size year lent = pick (leb (length (year_map year)) (length lent)) (length (year_map year)) 0

abbrev pub map_put : ℕ → Bytes → Bytes
map_put year lent = pick (leb (length (year_map year)) (length lent)) (year_map year ++ drop (length (year_map year)) lent) lent
