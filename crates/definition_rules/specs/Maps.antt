-- Request L6, "A lent opcode map", and the stack limit beside it. Words in quotes are the request's.
use Rattle.std.specs.Prelude.{Bool, true, false, ◌&&◌, not, List, [], ◌∷◌, ◌≡◌, ℕ, zero, suc, ◌+◌, ◌≤◌, leb, eqb, length, take, drop, get_or}
use Rattle.definition.specs.Basics.{Bytes, pick}
use Rattle.definition.specs.Decoding.{decode, instructions}
use Rattle.definition.specs.Classes.{class_at, class_number}
use Rattle.definition.specs.Refusals.{Refusal, bad_map, bad_limit}
use Rattle.definition.specs.Stacks.{Rules}
use Rattle.definition.specs.Walk.{Marked, refused_early, unknowns, analysis}
use Rattle.definition.specs.Replay.{Demand3}
use Rattle.definition.specs.Papers.{field, entry_count, fragments, PaperMarked, refused_paper, mark_paper, EachTrue}
use Rattle.definition.specs.Lines.{lines_of}
use Rattle.definition_long_data.specs.Blank.{RelatedPapers}

-- "a header of two 16-bit numbers, lowest byte first, the count of rows (256) and the offset of the first (4 or more)"
abbrev pub row_count : Bytes → ℕ
row_count map = field map 0

abbrev pub first_row : Bytes → ℕ
first_row map = field map 2

-- "then one byte a row, its class number". In 00 01 06 00 aa bb and 256 bytes more the rows begin behind bb: bytes before the rows
-- and behind them are free.
abbrev pub rows_of : Bytes → List ℕ
rows_of map = take 256 (drop (first_row map) map)

-- a row is good where it is none of these, which are 28: "a class byte is no class, a code up to 60 differs from the built-in table, or
-- a later one is push"
abbrev pub good_row : ℕ → ℕ → Bool
good_row code class = leb class 31 && pick (leb code 0x60) (eqb class (class_number code)) (not (eqb class 1))

-- each of these rows is good, the first of them that of this code
abbrev pub good_rows : ℕ → List ℕ → Bool
good_rows code [] = true
good_rows code (class ∷ l) = good_row code class && good_rows (code + 1) l

-- not 28, "when the count or offset is wrong, the rows don't lie within the lent bytes", or a row is not good
unfoldable pub good_map : Bytes → Bool
good_map map =
    eqb (row_count map) 256 && (leb 4 (first_row map) && (leb (first_row map + 256) (length map) && good_rows 0 (rows_of map)))

-- not 29, "outside 1 to 244"
abbrev pub good_limit : ℕ → Bool
good_limit limit = leb 1 limit && leb limit 244

-- "Add the stack limit (1 to 244) beside it": what is lent beside a map; and whether the mode is examined (request L7)
pub record Options : Type 0 where
  pub limit : ℕ
  pub examined : Bool

-- "it stands for 244 everywhere, figures too": by these rows the class of a code is that of its row, and limit and mode are these.
-- There is no code above ff; it would be unmodelled.
abbrev pub rules_by : List ℕ → Options → Rules
rules_by rows options =
    record { class_for = λ code. class_at (get_or rows code 0); limit = options.limit; examined = options.examined }

-- by the rows of a map
abbrev pub rules_of : Bytes → Options → Rules
rules_of map options = rules_by (rows_of map) options

-- "28 bad map ..; 29 bad limit ..; both before 1 and 21, map first": `stop` takes the refusal, `next` the rules
abbrev pub judged : {X : Type 0} → Bytes → Options → (Refusal → X) → (Rules → X) → X
judged map options stop next =
    pick (good_map map) (pick (good_limit options.limit) (next (rules_of map options)) (stop bad_limit)) (stop bad_map)

-- "Let the caller lend a map": the analysis of a fragment, and the marking of a paper
unfoldable pub analysis_with : Bytes → Options → Bytes → ℕ → ℕ → List ℕ → Marked
analysis_with map options fragment main alt log =
    judged map options (λ r. refused_early 0 r log) (λ R. analysis R fragment main alt log)

unfoldable pub mark_paper_with : Bytes → Options → Bytes → List ℕ → PaperMarked
mark_paper_with map options paper log = judged map options (λ r. refused_paper 0 r log) (λ R. mark_paper R paper log)

-- and what is printed of a paper so marked
unfoldable pub printed_with : Bytes → Options → Bytes → List ℕ → Bytes
printed_with map options paper log = lines_of (entry_count paper) (mark_paper_with map options paper log)

-- n rows by a rule, the first of them that of this code
abbrev pub table_from : (ℕ → ℕ) → ℕ → ℕ → Bytes
table_from rule code zero = []
table_from rule code (suc n) = rule code ∷ table_from rule (code + 1) n

-- a map of 260 bytes by a rule, the class number of each code: the header, 256 rows of which the first is at 4, and a row for each
-- code from 00 to ff
abbrev pub map_of : (ℕ → ℕ) → Bytes
map_of rule = 0x00 ∷ 0x01 ∷ 0x04 ∷ 0x00 ∷ table_from rule 0x00 256

-- "the built-in map at 244": the table of Section 2, and what stands beside it
unfoldable pub built_in_map : Bytes
built_in_map = map_of class_number

abbrev pub built_in_options : Options
built_in_options = record { limit = 244; examined = false }

-- The claims

-- "Demand 3, whole, is then stated over every valid map and every limit at one go": of all bytes lent for a map and every
-- number for a limit, since what is accepted has both good; and in each mode, "with its replay" (request L7)
abbrev pub TrueWith : Bytes → Options → Bytes → ℕ → ℕ → List ℕ → Type 0
TrueWith map options fragment main alt log =
    let m : Marked = analysis_with map options fragment main alt log in
    m.verdict.answer.number ≡ 0 → Demand3 (rules_of map options) (instructions (decode fragment)) (unknowns main alt) m

abbrev pub TrueOfPaperWith : Bytes → Options → Bytes → List ℕ → Type 0
TrueOfPaperWith map options paper log =
    let m : PaperMarked = mark_paper_with map options paper log in
    m.paper.verdict.answer.number ≡ 0 → EachTrue (rules_of map options) 0 (fragments paper) m.verdicts m.log

-- request L3, "Long data tells nothing", by this map, limit and mode, also where map or limit is bad
pub record TellsNothingWith (map : Bytes) (options : Options) (Related : Bytes → Bytes → Type 0) : Type 0 where
  pub fragments : (f g : Bytes) → Related f g → (main alt : ℕ) (log : List ℕ)
      → analysis_with map options f main alt log ≡ analysis_with map options g main alt log
  pub papers : (p q : Bytes) → RelatedPapers Related p q → (log : List ℕ) → mark_paper_with map options p log ≡ mark_paper_with map options q log

-- to this limit or a greater one, up to 244, in the same mode or from the examined one to plain
pub record Raised (from to : Options) : Type 0 where
  pub limit : from.limit ≤ to.limit
  pub most : to.limit ≤ 244
  pub mode : to.examined ≡ true → from.examined ≡ true

-- "Raising the limit under one map never turns acceptance into refusal, and peak, log and end stay equal". The whole verdict stays,
-- and of a paper the verdict of each fragment too.
pub record Raises (map : Bytes) : Type 0 where
  pub fragments : (from to : Options) → Raised from to → (fragment : Bytes) (main alt : ℕ) (log : List ℕ)
      → (analysis_with map from fragment main alt log).verdict.answer.number ≡ 0
      → analysis_with map to fragment main alt log ≡ analysis_with map from fragment main alt log
  pub papers : (from to : Options) → Raised from to → (paper : Bytes) (log : List ℕ)
      → (mark_paper_with map from paper log).paper.verdict.answer.number ≡ 0
      → mark_paper_with map to paper log ≡ mark_paper_with map from paper log
