-- What the code promises of the text.
use Rattle.std.specs.Prelude.{List, ◌++◌, ◌≡◌, ℕ, leb, length, drop}
use Rattle.definition.specs.Basics.{Bytes, pick}
use Rattle.definition_rules.specs.Maps.{Options, mark_paper_with}
use Rattle.definition.specs.Papers.{PaperMarked, mark_paper}
use Rattle.definition.specs.Papers as P
use Rattle.definition.specs.Stacks.{Rules, built_in}
use Rattle.paper.specs.View.{paper_of}
use Rattle.log_text.specs.LogText.{log_text, log_text_with}
use Rattle.log_text.specs.declared.LogText.{LogText}

-- What is told of a text and done with it: a paper's verdict, the size of the text, and the lent bytes: the text and then the rest
-- as lent where there is room, all as lent where there is not.
pub record Tells (v : P.PaperVerdict) (t : Bytes) (lent : Bytes) (r : LogText) (new : Bytes) : Type 0 where
  pub verdict : paper_of r.verdict ≡ v
  pub size : r.size ≡ length t
  pub written : new ≡ pick (leb (length t) (length lent)) (t ++ drop (length t) lent) lent

-- The log of a marked paper: its verdict, the size of its text, the lent log afterwards, and the lent bytes as above.
pub record LogsOf (m : PaperMarked) (t : Bytes) (lent : Bytes) (r : LogText) (new_log : List ℕ) (new : Bytes) : Type 0 where
  pub verdict : paper_of r.verdict ≡ m.paper
  pub size : r.size ≡ length t
  pub logged : new_log ≡ m.log
  pub written : new ≡ pick (leb (length t) (length lent)) (t ++ drop (length t) lent) lent

-- of a paper with this log lent, by these rules; by those of document 01; by a lent map and limit
abbrev pub LogsBy : Rules → Bytes → List ℕ → Bytes → LogText → List ℕ → Bytes → Type 0
LogsBy R paper log lent r new_log new = LogsOf (mark_paper R paper log) (log_text R paper log) lent r new_log new

abbrev pub Logs : Bytes → List ℕ → Bytes → LogText → List ℕ → Bytes → Type 0
Logs paper log lent r new_log new = LogsBy built_in paper log lent r new_log new

abbrev pub LogsWith : Bytes → Options → Bytes → List ℕ → Bytes → LogText → List ℕ → Bytes → Type 0
LogsWith map options paper log lent r new_log new =
    LogsOf (mark_paper_with map options paper log) (log_text_with map options paper log) lent r new_log new
