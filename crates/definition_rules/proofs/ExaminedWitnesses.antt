-- Request L7 by example: literals of 520 and of 521 bytes, in live and in dead code, and what comes first.
use mathlib.Core.Bool.{true}
use mathlib.Core.List.{[], ◌∷◌, ◌++◌}
use mathlib.Core.Path.{◌≡◌, refl}
use lib.ListN.{replicate}
use Rattle.definition.specs.Basics.{Bytes}
use Rattle.definition.specs.Decoding.{front, decode, instructions, serialize, deserialize}
use Rattle.definition.specs.Classes.{class_number, class_of}
use Rattle.definition.specs.Refusals.{accepted, answer}
use Rattle.definition.specs.Stacks.{Rules, built_in, push_item, drop_items, copy_items, step, plain_step}
use Rattle.definition.specs.Walk.{dead, join_stacks, log_row, walk, analysis_of, analysis}
use Rattle.definition.specs.Replay.{visit, off_end, faulted, replay_from, whole_replay}
use Rattle.definition_rules.specs.Maps.{good_map, analysis_with, mark_paper_with, built_in_map}
use Rattle.definition.specs.Papers.{good_header, fragments, mark_from, dispatch, mark_paper}
use Rattle.definition_rules.specs.Examined.{plain_at, examined_at}

-- 520 bytes, 08 02 being the length, lowest byte first, and 521
abbrev allowed : Bytes
allowed = 0x4d ∷ 0x08 ∷ 0x02 ∷ replicate 520 0x07

abbrev too_long : Bytes
too_long = 0x4d ∷ 0x09 ∷ 0x02 ∷ replicate 521 0x07

-- 520 bytes pass in the examined mode; 521 are 30 there and pass in plain mode
pub at520 : ((analysis_with built_in_map (examined_at 244) allowed 0 0 (replicate 3 9)).verdict.answer ≡ accepted)
    × ((analysis_with built_in_map (examined_at 244) too_long 0 0 (replicate 3 9)
    ≡ record { verdict = record { answer = answer 30 0 521 520; rows = 1; peak = 0; end = dead }; log = 0 ∷ 0 ∷ 0 ∷ [] })
    × ((analysis_with built_in_map (plain_at 244) too_long 0 0 (replicate 3 9)).verdict.answer ≡ accepted))
unfolding analysis_with good_map built_in_map analysis analysis_of walk log_row join_stacks step plain_step push_item drop_items copy_items class_of class_number decode front serialize deserialize
at520 = (refl, (refl, refl))

-- "ahead of the test for room at that push": from one item at limit 1
pub before_room : ((analysis_with built_in_map (examined_at 1) too_long 1 0 (replicate 3 9)).verdict.answer ≡ answer 30 0 521 520)
    × ((analysis_with built_in_map (plain_at 1) too_long 1 0 (replicate 3 9)).verdict.answer ≡ answer 6 0 2 1)
unfolding analysis_with good_map built_in_map analysis analysis_of walk log_row join_stacks step plain_step push_item drop_items copy_items class_of class_number decode front serialize deserialize
before_room = (refl, refl)

-- "in live code only": behind RETURN, also within an arm; in one arm alone it is live
pub in_dead_code : ((analysis_with built_in_map (examined_at 244) (0x6a ∷ too_long) 0 0 (replicate 6 9)).verdict.answer ≡ accepted)
    × (((analysis_with built_in_map (examined_at 244) (0x63 ∷ 0x6a ∷ too_long ++ 0x68 ∷ []) 1 0 (replicate 12 9)).verdict.answer ≡ accepted)
    × ((analysis_with built_in_map (examined_at 244) (0x63 ∷ too_long ++ 0x75 ∷ 0x68 ∷ []) 1 0 (replicate 12 9)).verdict.answer ≡ answer 30 1 521 520))
unfolding analysis_with good_map built_in_map analysis analysis_of walk log_row join_stacks step plain_step push_item drop_items copy_items class_of class_number decode front serialize deserialize
in_dead_code = (refl, (refl, refl))

-- only literals count: SIZE of an item, a copy of it and a result of a plain class are no literals, whatever length they have
pub only_literals : (analysis_with built_in_map (examined_at 244) (0x82 ∷ 0x78 ∷ 0x7e ∷ []) 1 0 (replicate 9 9)).verdict.answer ≡ accepted
unfolding analysis_with good_map built_in_map analysis analysis_of walk log_row join_stacks step plain_step push_item drop_items copy_items class_of class_number decode front serialize deserialize
only_literals = refl

-- document 01's rules in the examined mode
abbrev examined_rules : Rules
examined_rules = record { class_for = class_of; limit = 244; examined = true }

-- a replay faults on the same push, and runs off the end in plain mode; with an item of 521 bytes it does not fault on SIZE, on a
-- copy or on a result
pub replays : (whole_replay examined_rules (instructions (decode too_long)) (record { stacks = record { main = []; alt = [] }; choices = []; results = [] })
    ≡ visit 0 (record { main = []; alt = [] }) faulted)
    × ((whole_replay built_in (instructions (decode too_long)) (record { stacks = record { main = []; alt = [] }; choices = []; results = [] })
    ≡ visit 0 (record { main = []; alt = [] }) (off_end (record { main = replicate 521 0x07 ∷ []; alt = [] })))
    × (whole_replay examined_rules (instructions (decode (0x82 ∷ 0x78 ∷ 0x7e ∷ [])))
    (record { stacks = record { main = replicate 521 0x07 ∷ []; alt = [] }; choices = []; results = replicate 522 0x07 ∷ [] })
    ≡ visit 0 (record { main = replicate 521 0x07 ∷ []; alt = [] })
    (visit 1 (record { main = (0x09 ∷ 0x02 ∷ []) ∷ replicate 521 0x07 ∷ []; alt = [] })
    (visit 2 (record { main = replicate 521 0x07 ∷ (0x09 ∷ 0x02 ∷ []) ∷ replicate 521 0x07 ∷ []; alt = [] })
    (off_end (record { main = replicate 522 0x07 ∷ replicate 521 0x07 ∷ []; alt = [] }))))))
unfolding replay_from step plain_step push_item drop_items copy_items class_of class_number decode front serialize deserialize
replays = (refl, (refl, refl))

-- a paper with one entry without parameters, whose body at offset 14 is the push of 521 bytes, 524 in all
abbrev long_paper : Bytes
long_paper = 0x01 ∷ 0x00 ∷ 0x00 ∷ 0x00 ∷ 0x0e ∷ 0x00 ∷ 0x00 ∷ 0x00 ∷ 0x00 ∷ 0x00 ∷ 0x0e ∷ 0x00 ∷ 0x0c ∷ 0x02 ∷ too_long

pub of_papers : ((mark_paper_with built_in_map (plain_at 244) long_paper (replicate 3 9)).paper.verdict.answer ≡ accepted)
    × (mark_paper_with built_in_map (examined_at 244) long_paper (replicate 3 9)
    ≡ record { paper = record { entry = 0; verdict = record { answer = answer 30 0 521 520; rows = 1; peak = 0; end = dead } }; verdicts = []; log = 0 ∷ 0 ∷ 0 ∷ [] })
unfolding mark_paper_with good_map built_in_map good_header fragments mark_from dispatch mark_paper analysis analysis_of walk log_row join_stacks step plain_step push_item drop_items copy_items class_of class_number decode front serialize deserialize
of_papers = (refl, refl)
