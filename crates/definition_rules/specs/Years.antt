-- Request L8, "The classic rule year". Words in quotes are the request's.
use Rattle.std.specs.Prelude.{List, [], ◌∷◌, ◌++◌, ◌≡◌, ℕ}
use Rattle.definition.specs.Basics.{Bytes}
use Rattle.definition.specs.Classes.{Range, range, ranges, number_in}
use Rattle.definition_rules.specs.Maps.{Options, map_of, built_in_map, analysis_with, mark_paper_with}

-- "Its classic year leaves b2 to d9, 7e, 7f, 83 to 86, 95, 96, 97, a6 and a7 unmodelled": ranges with the class number of
-- unmodelled, in the request's order
abbrev pub left_unmodelled : List Range
left_unmodelled =
    range 0xb2 0xd9 0 ∷ range 0x7e 0x7e 0 ∷ range 0x7f 0x7f 0 ∷ range 0x83 0x86 0 ∷ range 0x95 0x95 0 ∷ range 0x96 0x96 0 ∷
    range 0x97 0x97 0 ∷ range 0xa6 0xa6 0 ∷ range 0xa7 0xa7 0 ∷ []

-- the class number of an opcode in the classic year: where one of these ranges holds it, unmodelled's, else that of Section 2. So
-- 7e has 0, and 31 in the current year; 87 has 31 in both.
unfoldable pub classic_number : ℕ → ℕ
classic_number opcode = number_in (left_unmodelled ++ ranges) opcode

-- "the current year is the built-in map. Each is a map of 260 bytes for L6."
unfoldable pub classic_map : Bytes
classic_map = map_of classic_number

-- "All else equal, a fragment accepted in the classic year is accepted in the current one with the same verdict and log": all that
-- stands beside the map, the fragment, its start heights and the log are the same. So it is with papers.
pub record ClassicStands : Type 0 where
  pub fragments : (options : Options) (fragment : Bytes) (main alt : ℕ) (log : List ℕ)
      → (analysis_with classic_map options fragment main alt log).verdict.answer.number ≡ 0
      → analysis_with built_in_map options fragment main alt log ≡ analysis_with classic_map options fragment main alt log
  pub papers : (options : Options) (paper : Bytes) (log : List ℕ)
      → (mark_paper_with classic_map options paper log).paper.verdict.answer.number ≡ 0
      → mark_paper_with built_in_map options paper log ≡ mark_paper_with classic_map options paper log
