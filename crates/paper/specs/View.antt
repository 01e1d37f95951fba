-- What the code's types stand for in the definitions of document 01.
use Rattle.std.specs.Prelude.{Result, Ok, Err, List, [], ◌∷◌, ◌++◌, map, ◌≡◌, ℕ, ◌+◌, ◌*◌, ◌≤◌, ltb, length, take, drop}
use Rattle.definition.specs.Basics.{Bytes, pick}
use Rattle.definition.specs.Papers as P
use Rattle.definition.specs.Papers.{PaperMarked}
use Rattle.definition.specs.Refusals.{accepted, bad_header}
use Rattle.definition.specs.Stacks.{Rules}
use Rattle.definition.specs.Walk.{dead, refused_verdict, analysis, refused_early}
use Rattle.definition.specs.Walk as W
use Rattle.header.specs.View.{fragment_at}
use Rattle.refusals.specs.View.{refusal_of}
use Rattle.stack_analysis.specs.View.{Told, told, told_of, heights_of}
use Rattle.stack_analysis.specs.declared.Accepted.{Accepted}
use Rattle.stack_analysis.specs.declared.Heights.{Heights}
use Rattle.paper.specs.declared.AcceptedPaper.{AcceptedPaper}
use Rattle.paper.specs.declared.Marked.{Marked}
use Rattle.paper.specs.declared.accepted.AcceptedFragments.{AcceptedFragments}
use Rattle.paper.specs.declared.RejectedPaper.{RejectedPaper}

-- the analysis of fragment k, on what the log has left behind so many rows
abbrev pub fragment_analysis : Rules → Bytes → ℕ → ℕ → List ℕ → W.Marked
fragment_analysis R paper k rows log =
    analysis R (fragment_at paper k).bytes (fragment_at paper k).main (fragment_at paper k).alt (drop (3 * rows) log)

-- Fragment k marked behind so many rows: its analysis there, and these rows as they were. 19, and the log as lent, where the
-- paper has no fragment k. Rows beyond the log leave nothing of it, so that a fragment with an instruction is given 4.
unfoldable pub fragment_marked : Rules → Bytes → ℕ → ℕ → List ℕ → W.Marked
fragment_marked R paper k rows log =
    pick (ltb k (length (P.fragments paper)))
    (record {
      verdict = (fragment_analysis R paper k rows log).verdict;
      log = take (3 * rows) log ++ (fragment_analysis R paper k rows log).log;
    })
    (refused_early 0 bad_header log)

abbrev pub PaperVerdict : Type 0
PaperVerdict = Result AcceptedPaper RejectedPaper

-- the verdict that the code's stands for: it has no end stacks, and an accepted paper is about entry 0
unfoldable pub paper_of : PaperVerdict → P.PaperVerdict
paper_of (Ok a) = record { entry = 0; verdict = record { answer = accepted; rows = a.rows; peak = a.peak; end = dead } }
paper_of (Err r) = record { entry = r.entry; verdict = refused_verdict r.refused.offset (refusal_of r.refused.refusal) r.rows }

-- what is told of an accepted fragment
abbrev pub told_accepted : {E : Type 0} → Accepted E → Told E
told_accepted a = told (Ok a)

-- the fragments accepted
abbrev pub items_of : AcceptedFragments → List (Accepted Heights)
items_of a = take a.count a.fragments

-- how many rows these have together
abbrev pub rows_of : List (Told Heights) → ℕ
rows_of [] = 0
rows_of (t ∷ ts) = t.rows + rows_of ts

-- The struct holds the verdict on a marked paper and what is told of each of its fragments accepted, and the log is its log. There
-- are at most 33 fragments of at most 10,000 rows, the rows accepted are among the paper's, and the log has all of them.
pub record Holds (m : PaperMarked) (r : Marked) (log : List ℕ) : Type 0 where
  pub verdict : paper_of r.verdict ≡ m.paper
  pub accepted : map told_accepted (items_of r.accepted) ≡ map (told_of heights_of) m.verdicts
  pub logged : log ≡ m.log
  pub among : rows_of (map told_accepted (items_of r.accepted)) ≤ m.paper.verdict.rows
  pub few : m.paper.verdict.rows ≤ 330000
  pub room : 3 * m.paper.verdict.rows ≤ length log
