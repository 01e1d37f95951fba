-- All that `stacklog` prints of a paper, as bytes: the fragments in their order, each with its rows, and then the last line of
-- `stackmark`. Of the paper of Section 6 with `75` for `52`, `01 00 01 00 0e 00 00 00 01 00 0e 00 06 00 63 51 67 75 68 75`:
--
--   entry 0: length 6, from main 2 alt 0
--   offset main  alt total |of 8            | bytes       instruction
--        0    2    0     2 |####............| 63          OpIf
--        1    1    0     1 |##..............| 51           Op1
--        2    2    0     2 |####............| 67          OpElse
--        3    1    0     1 |##..............| 75           OpDrop
--        4    0    0     0 |................| 68          OpEndIf
--        ^ refused 12, arms differ: main 0 alt 0 against main 2 alt 0
--
--   refused 12 at 0 4 0 0
use Rattle.std.specs.Prelude.{Bool, ◌||◌, None, List, [], ◌∷◌, ◌++◌, map, ℕ, ◌+◌, ◌-◌, eqb, take, replicate}
use Rattle.definition.specs.Basics.{Bytes, pick}
use Rattle.definition.specs.Lines.{text, last_line}
use Rattle.definition_rules.specs.Maps.{Options, rules_of, mark_paper_with}
use Rattle.definition.specs.Papers.{PaperMarked, mark_paper}
use Rattle.definition.specs.Refusals.{Answer}
use Rattle.definition.specs.Stacks.{Rules, built_in}
use Rattle.definition.specs.Walk.{Verdict}
use Rattle.stack_analysis.specs.View.{Told, told_of, heights_of}
use Rattle.stack_analysis.specs.declared.Heights.{Heights}
use Rattle.paper.specs.View.{rows_of}
use Rattle.log_lines.specs.Log.{refusal_line, header_line, dispatch_line}
use Rattle.log_blocks.specs.Blocks.{block}

-- What is told of the fragments accepted, in their order
abbrev pub all_told : List Verdict → List (Told Heights)
all_told verdicts = map (told_of heights_of) verdicts

-- and of the fragment that was refused: its rows are what the accepted ones leave of the paper's. "Refusals carry peak 0 and end none"
unfoldable pub refused_told : PaperMarked → Told Heights
refused_told m = record {
  answer = m.paper.verdict.answer;
  rows = m.paper.verdict.rows - rows_of (all_told m.verdicts);
  peak = 0;
  end = None;
}

-- The fragments accepted, with an empty line behind each. The first of them is fragment k, and its first row is row `from` of the
-- log: "Rows of all fragments follow one another".
abbrev pub blocks : Rules → Bytes → List ℕ → ℕ → ℕ → List (Told Heights) → Bytes
blocks R paper log k from [] = []
blocks R paper log k from (t ∷ ts) = block R paper log k from t ++ text "\n" ++ blocks R paper log (k + 1) (from + t.rows) ts

-- the refusals whose line is number and word alone: the paper is too long (21), the map is bad (28), the limit is bad (29)
abbrev pub alone : ℕ → Bool
alone number = eqb number 21 || (eqb number 28 || eqb number 29)

-- What was refused, with what is told of it: one of these, the header (19), an entry by the dispatch check (20), or else the
-- fragment of this number, whose first row is row `from`.
unfoldable pub refused : Rules → Bytes → List ℕ → ℕ → ℕ → Told Heights → Bytes
refused R paper log entry from t =
    let a : Answer = t.answer in
    pick (alone a.number) (refusal_line [] a.number a.first a.second [])
    (pick (eqb a.number 19) (header_line paper)
    (pick (eqb a.number 20) (dispatch_line entry a.first a.second)
    (block R paper log entry from t)))

-- a marked paper: the fragments accepted; where something was refused, that and an empty line; the last line
abbrev pub log_of : Rules → Bytes → PaperMarked → Bytes
log_of R paper m =
    blocks R paper m.log 0 0 (all_told m.verdicts)
    ++ pick (eqb m.paper.verdict.answer.number 0) []
    (refused R paper m.log m.paper.entry (rows_of (all_told m.verdicts)) (refused_told m) ++ text "\n")
    ++ last_line m.paper

-- what is printed of a paper by these rules with this log lent
unfoldable pub log_text : Rules → Bytes → List ℕ → Bytes
log_text R paper log = log_of R paper (mark_paper R paper log)

-- by a lent map, limit and mode (document 02, L6 and L7)
unfoldable pub log_text_with : Bytes → Options → Bytes → List ℕ → Bytes
log_text_with map options paper log = log_of (rules_of map options) paper (mark_paper_with map options paper log)

-- `stacklog` reads a paper as `stackmark` does, at most 8,001 bytes, and lends a log of 24,000 numbers
unfoldable pub stacklog : Bytes → Bytes
stacklog input = log_text built_in (take 8001 input) (replicate 24000 0)
