-- Section 8, "Prove these 16 together, each with a log long enough, as a single fact about the definitions": `sixteen`.
-- Beside it the paper of Section 6, and one whose initialiser is accepted only from the greater parameters.
use mathlib.Core.List.{List, [], ◌∷◌, map}
use mathlib.Core.Path.{◌≡◌, refl}
use Prim.Native.Nat.{ℕ}
use lib.ListN.{length, replicate}
use Rattle.definition.specs.Basics.{Bytes}
use Rattle.definition.specs.Decoding.{front, decode, serialize, deserialize}
use Rattle.definition.specs.Classes.{class_number, class_of}
use Rattle.definition.specs.Stacks.{built_in, push_item, drop_items, copy_items, rotate_items, tuck_top, nip_second, move_to_alt, move_from_alt, step, plain_step}
use Rattle.definition.specs.Walk.{Arm, dead, live, Verdict, join_stacks, log_row, walk, analysis_of, analysis}
use Rattle.definition.specs.Papers.{PaperMarked, good_header, fragments, mark_from, dispatch, mark_paper}

-- a marked paper: a fragment, its start heights, and what is to be said of it
pub record Paper : Type 0 where
  pub fragment : Bytes
  pub main : ℕ
  pub alt : ℕ
  pub says : List ℕ

abbrev pub paper : Bytes → ℕ → ℕ → List ℕ → Paper
paper fragment main alt says = record { fragment = fragment; main = main; alt = alt; says = says }

-- how a verdict is written down here: number, offset, two figures; where it is accepted, the peak, and the end heights or none
abbrev ending : Arm → List ℕ
ending dead = []
ending (live s) = length s.main ∷ length s.alt ∷ []

abbrev written : Verdict → List ℕ
written v = v.answer.number ∷ v.answer.offset ∷ v.answer.first ∷ v.answer.second ∷ v.peak ∷ ending v.end

abbrev pub accepts : ℕ → List ℕ → List ℕ
accepts peak end = 0 ∷ 0 ∷ 0 ∷ 0 ∷ peak ∷ end

abbrev pub refuses : ℕ → ℕ → ℕ → ℕ → List ℕ
refuses number offset first second = number ∷ offset ∷ first ∷ second ∷ 0 ∷ []

pub marked_papers : List Paper
marked_papers =
    paper [] 0 0 (accepts 0 (0 ∷ 0 ∷ [])) ∷
    paper (0x75 ∷ []) 0 0 (refuses 7 0 1 0) ∷
    paper (0x00 ∷ 0x79 ∷ []) 1 0 (accepts 2 (2 ∷ 0 ∷ [])) ∷
    paper (0x51 ∷ 0x79 ∷ []) 1 0 (refuses 7 1 2 1) ∷
    paper (0x02 ∷ 0x00 ∷ 0x01 ∷ 0x79 ∷ []) 1 0 (refuses 7 3 257 1) ∷
    paper (0x76 ∷ []) 244 0 (refuses 6 0 245 244) ∷
    paper (0x6b ∷ []) 244 0 (accepts 244 (243 ∷ 1 ∷ [])) ∷
    paper (0x7d ∷ []) 1 243 (refuses 7 0 2 1) ∷
    paper (0x63 ∷ 0x51 ∷ 0x68 ∷ []) 1 0 (refuses 12 2 0 0) ∷
    paper (0x63 ∷ 0x6a ∷ 0x68 ∷ 0x75 ∷ []) 2 0 (accepts 2 (0 ∷ 0 ∷ [])) ∷
    paper (0x6a ∷ 0xff ∷ []) 0 0 (accepts 0 []) ∷
    paper (0x51 ∷ 0x63 ∷ []) 0 0 (refuses 16 1 0 0) ∷
    paper (0x51 ∷ 0x63 ∷ 0x51 ∷ 0x67 ∷ 0x52 ∷ 0x68 ∷ 0x79 ∷ []) 2 0 (refuses 9 6 0 0) ∷
    paper (0x51 ∷ 0x63 ∷ 0x51 ∷ 0x67 ∷ 0x51 ∷ 0x68 ∷ 0x79 ∷ []) 2 0 (accepts 3 (3 ∷ 0 ∷ [])) ∷
    paper (0x6a ∷ replicate 25 0x63) 0 0 (refuses 5 25 24 24) ∷
    paper (0x6a ∷ replicate 24 0x63) 0 0 (refuses 16 24 0 0) ∷ []

-- what the definitions say, with a log of 90 numbers
unfoldable pub said : Paper → List ℕ
said p = written (analysis built_in p.fragment p.main p.alt (replicate 90 0)).verdict

pub sixteen : map said marked_papers ≡ map (λ (p : Paper). p.says) marked_papers
unfolding said marked_papers analysis analysis_of walk log_row join_stacks step plain_step push_item drop_items copy_items rotate_items tuck_top nip_second move_to_alt move_from_alt class_of class_number decode front serialize deserialize
sixteen = refl

-- Section 6: `entry 0 peak 2 end 1 0`, `accepted`. The rows of its body, which starts from 1 parameter and 1 state field, and
-- the rest of the log as lent.
unfoldable pub sample_paper : Bytes
sample_paper =
    0x01 ∷ 0x00 ∷ 0x01 ∷ 0x00 ∷ 0x0e ∷ 0x00 ∷ 0x00 ∷ 0x00 ∷ 0x01 ∷ 0x00 ∷ 0x0e ∷ 0x00 ∷ 0x06 ∷ 0x00 ∷
    0x63 ∷ 0x51 ∷ 0x67 ∷ 0x52 ∷ 0x68 ∷ 0x75 ∷ []

-- what is said of a paper: its entry and verdict, and below it each accepted fragment's verdict
pub paper_said : PaperMarked → List (List ℕ)
paper_said m = (m.paper.entry ∷ written m.paper.verdict) ∷ map written m.verdicts

pub sample : (paper_said (mark_paper built_in sample_paper (replicate 20 9)) ≡ ((0 ∷ accepts 2 []) ∷ accepts 2 (1 ∷ 0 ∷ []) ∷ []))
    × ((mark_paper built_in sample_paper (replicate 20 9)).log
    ≡ (0 ∷ 2 ∷ 0 ∷ 1 ∷ 1 ∷ 0 ∷ 2 ∷ 2 ∷ 0 ∷ 3 ∷ 1 ∷ 0 ∷ 4 ∷ 2 ∷ 0 ∷ 5 ∷ 2 ∷ 0 ∷ 9 ∷ 9 ∷ []))
unfolding paper_said sample_paper good_header fragments mark_from dispatch mark_paper analysis analysis_of walk log_row join_stacks step plain_step push_item drop_items copy_items rotate_items tuck_top nip_second move_to_alt move_from_alt class_of class_number decode front serialize deserialize
sample = (refl, refl)

-- Two entries, of no parameter and of two; the initialiser drops two items.
unfoldable pub two_entries : Bytes
two_entries =
    0x02 ∷ 0x00 ∷ 0x00 ∷ 0x00 ∷ 0x14 ∷ 0x00 ∷ 0x02 ∷ 0x00 ∷
    0x00 ∷ 0x00 ∷ 0x16 ∷ 0x00 ∷ 0x01 ∷ 0x00 ∷
    0x02 ∷ 0x00 ∷ 0x17 ∷ 0x00 ∷ 0x01 ∷ 0x00 ∷
    0x75 ∷ 0x75 ∷ 0x51 ∷ 0x75 ∷ []

pub from_most : paper_said (mark_paper built_in two_entries (replicate 12 9))
    ≡ ((0 ∷ accepts 3 []) ∷ accepts 1 (1 ∷ 0 ∷ []) ∷ accepts 2 (1 ∷ 0 ∷ []) ∷ accepts 3 (0 ∷ 1 ∷ []) ∷ [])
unfolding paper_said two_entries good_header fragments mark_from dispatch mark_paper analysis analysis_of walk log_row join_stacks step plain_step push_item drop_items copy_items rotate_items tuck_top nip_second move_to_alt move_from_alt class_of class_number decode front serialize deserialize
from_most = refl
