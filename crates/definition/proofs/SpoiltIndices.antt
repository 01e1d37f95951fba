-- Request L2 by example: PICK, ROLL and ZK's count on an item that is unknown (9), that is no number (24), and that is negative
-- (25), each at the place of 9, in one fact, `spoilt`.
use mathlib.Core.List.{List, [], ◌∷◌, ◌++◌, map}
use mathlib.Core.Path.{◌≡◌, refl}
use lib.ListN.{replicate}
use Rattle.definition.specs.Decoding.{front, decode, serialize, deserialize}
use Rattle.definition.specs.Classes.{class_number, class_of}
use Rattle.definition.specs.Stacks.{push_item, drop_items, copy_items, rotate_items, step, plain_step}
use Rattle.definition.specs.Walk.{join_stacks, log_row, walk, analysis_of, analysis}
use Rattle.definition.proofs.MarkedPapers.{Paper, paper, accepts, refuses, said}

pub spoilt_indices : List Paper
spoilt_indices =
    -- "9 stays for an item that is unknown": a start item; data of 9 bytes
    paper (0x79 ∷ []) 2 0 (refuses 9 0 0 0) ∷
    paper (0x7a ∷ []) 2 0 (refuses 9 0 0 0) ∷
    paper (0x09 ∷ replicate 9 0x00 ++ 0x79 ∷ []) 1 0 (refuses 9 10 0 0) ∷
    -- "24 crooked number, when the exact bytes are no number by section 1": the negative zeros 80 and 00 80; 00 and 05 00, which
    -- have a needless 00; 05 80, which has a needless 80
    paper (0x01 ∷ 0x80 ∷ 0x79 ∷ []) 1 0 (refuses 24 2 0 0) ∷
    paper (0x01 ∷ 0x80 ∷ 0x7a ∷ []) 1 0 (refuses 24 2 0 0) ∷
    paper (0x02 ∷ 0x00 ∷ 0x80 ∷ 0x79 ∷ []) 1 0 (refuses 24 3 0 0) ∷
    paper (0x01 ∷ 0x00 ∷ 0x79 ∷ []) 1 0 (refuses 24 2 0 0) ∷
    paper (0x02 ∷ 0x05 ∷ 0x00 ∷ 0x79 ∷ []) 1 0 (refuses 24 3 0 0) ∷
    paper (0x02 ∷ 0x05 ∷ 0x80 ∷ 0x79 ∷ []) 1 0 (refuses 24 3 0 0) ∷
    -- "25 negative index, when they are one below zero": minus 1 and minus 128
    paper (0x4f ∷ 0x79 ∷ []) 1 0 (refuses 25 1 0 0) ∷
    paper (0x4f ∷ 0x7a ∷ []) 1 0 (refuses 25 1 0 0) ∷
    paper (0x02 ∷ 0x80 ∷ 0x80 ∷ 0x79 ∷ []) 1 0 (refuses 25 3 0 0) ∷
    -- 80 00 is 128, an index
    paper (0x02 ∷ 0x80 ∷ 0x00 ∷ 0x79 ∷ []) 1 0 (refuses 7 3 129 1) ∷
    paper (0x02 ∷ 0x80 ∷ 0x00 ∷ 0x79 ∷ []) 129 0 (accepts 130 (130 ∷ 0 ∷ [])) ∷
    -- "both at the place of 9": a missing item comes first
    paper (0x79 ∷ []) 0 0 (refuses 7 0 1 0) ∷
    -- ZK's count is read as an index; below it nothing is looked at
    paper (0x51 ∷ 0x51 ∷ 0x01 ∷ 0x20 ∷ 0xa6 ∷ []) 1 0 (refuses 9 4 0 0) ∷
    paper (0x01 ∷ 0x80 ∷ 0x51 ∷ 0x51 ∷ 0x01 ∷ 0x20 ∷ 0xa6 ∷ []) 0 0 (refuses 24 6 0 0) ∷
    paper (0x4f ∷ 0x51 ∷ 0x51 ∷ 0x01 ∷ 0x20 ∷ 0xa6 ∷ []) 0 0 (refuses 25 5 0 0) ∷
    paper (0x51 ∷ 0x51 ∷ 0x01 ∷ 0x20 ∷ 0xa6 ∷ []) 0 0 (refuses 7 4 1 0) ∷
    -- its tag stays 10
    paper (0xa6 ∷ []) 9 0 (refuses 10 0 0 0) ∷
    paper (0x01 ∷ 0x80 ∷ 0xa6 ∷ []) 9 0 (refuses 10 2 0 0) ∷
    paper (0x4f ∷ 0xa6 ∷ []) 9 0 (refuses 10 1 0 0) ∷
    -- dead code reads nothing
    paper (0x4f ∷ 0x6a ∷ 0x79 ∷ []) 1 0 (accepts 2 []) ∷ []

pub spoilt : map said spoilt_indices ≡ map (λ (p : Paper). p.says) spoilt_indices
unfolding said spoilt_indices analysis analysis_of walk log_row join_stacks step plain_step push_item drop_items copy_items rotate_items class_of class_number decode front serialize deserialize
spoilt = refl
