-- Rules other than document 01's, by example. Request L7: literals of 520 and of 521 bytes, in live and in dead code, and what comes
-- first. Request L6: a start and a paper that are above a smaller limit.
use mathlib.Core.Bool.{true, false}
use mathlib.Core.List.{[], ◌∷◌, ◌++◌}
use mathlib.Core.Path.{◌≡◌, refl}
use Prim.Native.Nat.{ℕ}
use lib.ListN.{replicate}
use Rattle.definition.specs.Basics.{Bytes}
use Rattle.definition.specs.Decoding.{front, decode, instructions, serialize, deserialize}
use Rattle.definition.specs.Classes.{class_number, class_of}
use Rattle.definition.specs.Refusals.{accepted, answer}
use Rattle.definition.specs.Stacks.{Rules, built_in, push_item, drop_items, copy_items, step, plain_step}
use Rattle.definition.specs.Walk.{dead, join_stacks, log_row, walk, analysis_of, analysis}
use Rattle.definition.specs.Replay.{visit, off_end, faulted, replay_from, whole_replay}
use Rattle.definition.specs.Papers.{good_header, dispatch, mark_paper}
use Rattle.definition.proofs.MarkedPapers.{sample_paper}

-- document 01's classes at this limit, in plain mode and in the examined one
abbrev plain_rules : ℕ → Rules
plain_rules limit = record { class_for = class_of; limit = limit; examined = false }

abbrev examined_rules : ℕ → Rules
examined_rules limit = record { class_for = class_of; limit = limit; examined = true }

-- 520 bytes, 08 02 being the length, lowest byte first, and 521
abbrev allowed : Bytes
allowed = 0x4d ∷ 0x08 ∷ 0x02 ∷ replicate 520 0x07

abbrev pub too_long : Bytes
too_long = 0x4d ∷ 0x09 ∷ 0x02 ∷ replicate 521 0x07

-- 520 bytes pass in the examined mode; 521 are 30 there and pass in plain mode
pub at520 : ((analysis (examined_rules 244) allowed 0 0 (replicate 3 9)).verdict.answer ≡ accepted)
    × ((analysis (examined_rules 244) too_long 0 0 (replicate 3 9)
    ≡ record { verdict = record { answer = answer 30 0 521 520; rows = 1; peak = 0; end = dead }; log = 0 ∷ 0 ∷ 0 ∷ [] })
    × ((analysis built_in too_long 0 0 (replicate 3 9)).verdict.answer ≡ accepted))
unfolding analysis analysis_of walk log_row join_stacks step plain_step push_item drop_items copy_items class_of class_number decode front serialize deserialize
at520 = (refl, (refl, refl))

-- "ahead of the test for room at that push": from one item at limit 1
pub before_room : ((analysis (examined_rules 1) too_long 1 0 (replicate 3 9)).verdict.answer ≡ answer 30 0 521 520)
    × ((analysis (plain_rules 1) too_long 1 0 (replicate 3 9)).verdict.answer ≡ answer 6 0 2 1)
unfolding analysis analysis_of walk log_row join_stacks step plain_step push_item drop_items copy_items class_of class_number decode front serialize deserialize
before_room = (refl, refl)

-- "in live code only": behind RETURN, also within an arm; in one arm alone it is live
pub in_dead_code : ((analysis (examined_rules 244) (0x6a ∷ too_long) 0 0 (replicate 6 9)).verdict.answer ≡ accepted)
    × (((analysis (examined_rules 244) (0x63 ∷ 0x6a ∷ too_long ++ 0x68 ∷ []) 1 0 (replicate 12 9)).verdict.answer ≡ accepted)
    × ((analysis (examined_rules 244) (0x63 ∷ too_long ++ 0x75 ∷ 0x68 ∷ []) 1 0 (replicate 12 9)).verdict.answer ≡ answer 30 1 521 520))
unfolding analysis analysis_of walk log_row join_stacks step plain_step push_item drop_items copy_items class_of class_number decode front serialize deserialize
in_dead_code = (refl, (refl, refl))

-- a replay faults on the same push, and runs off the end in plain mode; with an item of 521 bytes it does not fault on SIZE, on a
-- copy or on a result
pub replays : (whole_replay (examined_rules 244) (instructions (decode too_long)) (record { stacks = record { main = []; alt = [] }; choices = []; results = [] })
    ≡ visit 0 (record { main = []; alt = [] }) faulted)
    × ((whole_replay built_in (instructions (decode too_long)) (record { stacks = record { main = []; alt = [] }; choices = []; results = [] })
    ≡ visit 0 (record { main = []; alt = [] }) (off_end (record { main = replicate 521 0x07 ∷ []; alt = [] })))
    × (whole_replay (examined_rules 244) (instructions (decode (0x82 ∷ 0x78 ∷ 0x7e ∷ [])))
    (record { stacks = record { main = replicate 521 0x07 ∷ []; alt = [] }; choices = []; results = replicate 522 0x07 ∷ [] })
    ≡ visit 0 (record { main = replicate 521 0x07 ∷ []; alt = [] })
    (visit 1 (record { main = (0x09 ∷ 0x02 ∷ []) ∷ replicate 521 0x07 ∷ []; alt = [] })
    (visit 2 (record { main = replicate 521 0x07 ∷ (0x09 ∷ 0x02 ∷ []) ∷ replicate 521 0x07 ∷ []; alt = [] })
    (off_end (record { main = replicate 522 0x07 ∷ replicate 521 0x07 ∷ []; alt = [] }))))))
unfolding replay_from step plain_step push_item drop_items copy_items class_of class_number decode front serialize deserialize
replays = (refl, (refl, refl))

-- "it stands for 244 everywhere, figures too": two items are too many to start from at limit 1 ..
pub start_at_one : (analysis (plain_rules 1) [] 1 1 []).verdict.answer ≡ answer 2 0 2 1
unfolding analysis
start_at_one = refl

-- .. and the paper of Section 6, which has a peak of 2 and a dispatch sum of 5, is refused at limit 4, 20 at entry 0
pub sample_at_four : mark_paper (plain_rules 4) sample_paper (replicate 20 9)
    ≡ record { paper = record { entry = 0; verdict = record { answer = answer 20 0 5 4; rows = 0; peak = 0; end = dead } }; verdicts = []; log = replicate 20 9 }
unfolding sample_paper good_header dispatch mark_paper
sample_at_four = refl
