-- Request L6 by example: a map with two IFs and no ELSE, a map without RETURN, small limits on the paper of Section 6, each way
-- in which a map is bad, and what comes first.
use mathlib.Core.Bool.{true, false}
use mathlib.Core.List.{List, [], ◌∷◌, ◌++◌, map}
use mathlib.Core.Path.{◌≡◌, refl}
use Prim.Native.Nat.{ℕ, ◌+◌}
use lib.ListN.{take, drop, set, replicate}
use Rattle.definition.specs.Basics.{Bytes}
use Rattle.definition.specs.Decoding.{front, decode, serialize, deserialize}
use Rattle.definition.specs.Classes.{class_number, class_of}
use Rattle.definition.specs.Refusals.{accepted, answer}
use Rattle.definition.specs.Stacks.{built_in, push_item, drop_items, copy_items, step, plain_step}
use Rattle.definition.specs.Walk.{live, dead, join_stacks, log_row, walk, analysis_of, analysis, unknowns, Verdict}
use Rattle.definition.specs.Papers.{good_header, fragments, mark_from, dispatch, mark_paper}
use Rattle.definition_rules.specs.Maps.{Options, good_map, analysis_with, mark_paper_with, built_in_map}
use Rattle.definition.proofs.MarkedPapers.{sample_paper}

-- the built-in map with this class number in the row of this code
unfoldable pub with_row : ℕ → ℕ → Bytes → Bytes
with_row code class m = set m (4 + code) class

-- this limit
abbrev at : ℕ → Options
at limit = record { limit = limit; examined = false }

-- an accepted verdict that ends with so many unknown items on main and none on alt
abbrev accepts : ℕ → ℕ → ℕ → Verdict
accepts rows peak main = record { answer = accepted; rows = rows; peak = peak; end = live (unknowns main 0) }

-- several codes may be IF, or none: ff is IF too, and no code is ELSE
unfoldable pub two_ifs : Bytes
two_ifs = with_row 0xff 3 (with_row 0x67 0 built_in_map)

pub two_ifs_good : good_map two_ifs ≡ true
unfolding good_map two_ifs with_row built_in_map class_number
two_ifs_good = refl

-- 63 ff 68 51 68 from (2, 0): the first arm of 63 holds the conditional that ff opens
abbrev nested : Bytes
nested = 0x63 ∷ 0xff ∷ 0x68 ∷ 0x51 ∷ 0x68 ∷ []

pub two_ifs_marked : analysis_with two_ifs (at 244) nested 2 0 (replicate 15 0)
    ≡ record { verdict = accepts 5 2 1; log = 0 ∷ 2 ∷ 0 ∷ 1 ∷ 1 ∷ 0 ∷ 2 ∷ 0 ∷ 0 ∷ 3 ∷ 0 ∷ 0 ∷ 4 ∷ 1 ∷ 0 ∷ [] }
unfolding analysis_with good_map two_ifs with_row built_in_map analysis analysis_of walk log_row join_stacks step plain_step push_item drop_items copy_items class_of class_number decode front serialize deserialize
two_ifs_marked = refl

-- by the built-in map ff is unmodelled
pub built_in_nested : (analysis built_in nested 2 0 (replicate 15 0)).verdict.answer ≡ answer 11 1 0xff 0
unfolding analysis analysis_of walk log_row join_stacks step plain_step push_item drop_items copy_items class_of class_number decode front serialize deserialize
built_in_nested = refl

-- 67 is unmodelled: refused in live code; skipped in dead code, where it starts no second arm, in which the built-in map finds main dry
abbrev dead_else : Bytes
dead_else = 0x63 ∷ 0x6a ∷ 0x67 ∷ 0x75 ∷ 0x68 ∷ []

pub no_else : ((analysis_with two_ifs (at 244) (0x63 ∷ 0x51 ∷ 0x67 ∷ 0x52 ∷ 0x68 ∷ []) 1 0 (replicate 15 0)).verdict.answer ≡ answer 11 2 0x67 0)
    × (((analysis_with two_ifs (at 244) dead_else 1 0 (replicate 15 0)).verdict ≡ accepts 5 1 0)
    × ((analysis built_in dead_else 1 0 (replicate 15 0)).verdict.answer ≡ answer 7 3 1 0))
unfolding analysis_with good_map two_ifs with_row built_in_map analysis analysis_of walk log_row join_stacks step plain_step push_item drop_items copy_items class_of class_number decode front serialize deserialize
no_else = (refl, (refl, refl))

-- no code is RETURN: 6a is unmodelled, and in live code refused
unfoldable pub no_return : Bytes
no_return = with_row 0x6a 0 built_in_map

pub no_return_marked : (good_map no_return ≡ true)
    × (((analysis_with no_return (at 244) (0x6a ∷ 0xff ∷ []) 0 0 (replicate 6 0)).verdict.answer ≡ answer 11 0 0x6a 0)
    × ((analysis built_in (0x6a ∷ 0xff ∷ []) 0 0 (replicate 6 0)).verdict.answer ≡ accepted))
unfolding analysis_with good_map no_return with_row built_in_map analysis analysis_of walk log_row join_stacks step plain_step push_item drop_items copy_items class_of class_number decode front serialize deserialize
no_return_marked = (refl, (refl, refl))

-- Limits

-- a fragment at limit 1: 51 has room, a second one has not; two items are too many to start from
pub limit_one : ((analysis_with built_in_map (at 1) (0x51 ∷ []) 0 0 (replicate 6 0)).verdict.answer ≡ accepted)
    × (((analysis_with built_in_map (at 1) (0x51 ∷ 0x51 ∷ []) 0 0 (replicate 6 0)).verdict.answer ≡ answer 6 1 2 1)
    × ((analysis_with built_in_map (at 1) [] 1 1 []).verdict.answer ≡ answer 2 0 2 1))
unfolding analysis_with good_map built_in_map analysis analysis_of walk log_row join_stacks step plain_step push_item drop_items copy_items class_of class_number decode front serialize deserialize
limit_one = (refl, (refl, refl))

-- the paper of Section 6 has a peak of 2 and a dispatch sum of 5: refused, 20 at entry 0, at limits 1 and 4 ..
pub sample_refused : ((mark_paper_with built_in_map (at 1) sample_paper (replicate 20 9)).paper.verdict.answer ≡ answer 20 0 5 1)
    × (mark_paper_with built_in_map (at 4) sample_paper (replicate 20 9)
    ≡ record { paper = record { entry = 0; verdict = record { answer = answer 20 0 5 4; rows = 0; peak = 0; end = dead } }; verdicts = []; log = replicate 20 9 })
unfolding sample_paper mark_paper_with good_map built_in_map good_header fragments mark_from dispatch mark_paper analysis analysis_of walk log_row join_stacks step plain_step push_item drop_items copy_items class_of class_number decode front serialize deserialize
sample_refused = (refl, refl)

-- .. and accepted at 5, with the rows that it has at 244
pub sample_accepted : mark_paper_with built_in_map (at 5) sample_paper (replicate 20 9)
    ≡ record {
      paper = record { entry = 0; verdict = record { answer = accepted; rows = 6; peak = 2; end = dead } };
      verdicts = accepts 6 2 1 ∷ [];
      log = 0 ∷ 2 ∷ 0 ∷ 1 ∷ 1 ∷ 0 ∷ 2 ∷ 2 ∷ 0 ∷ 3 ∷ 1 ∷ 0 ∷ 4 ∷ 2 ∷ 0 ∷ 5 ∷ 2 ∷ 0 ∷ 9 ∷ 9 ∷ [];
    }
unfolding sample_paper mark_paper_with good_map built_in_map good_header fragments mark_from dispatch mark_paper analysis analysis_of walk log_row join_stacks step plain_step push_item drop_items copy_items class_of class_number decode front serialize deserialize
sample_accepted = refl

-- Bad maps and limits

-- these four bytes of header, and the rows of the built-in table
unfoldable pub headed : Bytes → Bytes
headed header = header ++ drop 4 built_in_map

-- no bytes; a header of three; 255 rows, and 257; the first row at 3, at 5 in 260 bytes, and at 65,535; a byte too few;
-- class 32 at ff; unmodelled at 00 and at 60, push at 50; push at 61 and at ff
unfoldable pub bad_maps : List Bytes
bad_maps =
    [] ∷ (0x00 ∷ 0x01 ∷ 0x04 ∷ []) ∷
    headed (0xff ∷ 0x00 ∷ 0x04 ∷ 0x00 ∷ []) ∷ headed (0x01 ∷ 0x01 ∷ 0x04 ∷ 0x00 ∷ []) ∷
    headed (0x00 ∷ 0x01 ∷ 0x03 ∷ 0x00 ∷ []) ∷ headed (0x00 ∷ 0x01 ∷ 0x05 ∷ 0x00 ∷ []) ∷ headed (0x00 ∷ 0x01 ∷ 0xff ∷ 0xff ∷ []) ∷
    take 259 built_in_map ∷
    with_row 0xff 32 built_in_map ∷
    with_row 0x00 0 built_in_map ∷ with_row 0x60 0 built_in_map ∷ with_row 0x50 1 built_in_map ∷
    with_row 0x61 1 built_in_map ∷ with_row 0xff 1 built_in_map ∷ []

pub bad_maps_refused : map good_map bad_maps ≡ replicate 14 false
unfolding bad_maps headed good_map with_row built_in_map class_number
bad_maps_refused = refl

-- bytes before the rows and behind them are free
pub free_bytes : good_map (headed (0x00 ∷ 0x01 ∷ 0x06 ∷ 0x00 ∷ 0xff ∷ 0xff ∷ []) ++ 0xff ∷ []) ≡ true
unfolding headed good_map built_in_map class_number
free_bytes = refl

-- "28 bad map ..; 29 bad limit ..; both before 1 and 21, map first": a bad map and limit, the limit alone, at 0 and at 245, of a
-- fragment and of a paper that are too long; the log stays
abbrev long : Bytes
long = replicate 10001 0x61

pub bad_first : (analysis_with [] (at 0) long 0 0 (9 ∷ []) ≡ record { verdict = record { answer = answer 28 0 0 0; rows = 0; peak = 0; end = dead }; log = 9 ∷ [] })
    × ((analysis_with built_in_map (at 0) long 0 0 (9 ∷ []) ≡ record { verdict = record { answer = answer 29 0 0 0; rows = 0; peak = 0; end = dead }; log = 9 ∷ [] })
    × (((analysis_with built_in_map (at 245) long 0 0 []).verdict.answer ≡ answer 29 0 0 0)
    × (((analysis_with built_in_map (at 244) long 0 0 []).verdict.answer ≡ answer 1 0 10001 10000)
    × (((mark_paper_with [] (at 0) long (9 ∷ [])).paper.verdict.answer ≡ answer 28 0 0 0)
    × (((mark_paper_with built_in_map (at 0) long (9 ∷ [])).paper.verdict.answer ≡ answer 29 0 0 0)
    × ((mark_paper_with built_in_map (at 244) long (9 ∷ [])).paper.verdict.answer ≡ answer 21 0 10001 8000))))))
unfolding analysis_with mark_paper_with good_map built_in_map analysis mark_paper class_number
bad_first = (refl, (refl, (refl, (refl, (refl, (refl, refl))))))
