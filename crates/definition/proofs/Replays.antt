-- Section 5 by example: what some replays reach, how they end, and with which main stack.
use mathlib.Core.Bool.{Bool, true, false}
use mathlib.Core.List.{List, [], ◌∷◌, map}
use mathlib.Core.Path.{◌≡◌, refl}
use lib.ListN.{replicate}
use Rattle.definition.specs.Basics.{Bytes}
use Rattle.definition.specs.Decoding.{front, decode, serialize, deserialize, instructions}
use Rattle.definition.specs.Classes.{class_number, class_of}
use Rattle.definition.specs.Stacks.{built_in, push_item, drop_items, copy_items, rotate_items, tuck_top, nip_second, move_to_alt, move_from_alt, step, plain_step}
use Rattle.definition.specs.Replay.{Trace, visit, off_end, returned, faulted, replay_from, whole_replay}

-- a fragment, the start items of main (top first), the choices, the given byte strings
pub record Run : Type 0 where
  pub fragment : Bytes
  pub main : List Bytes
  pub choices : List Bool
  pub results : List Bytes

abbrev run : Bytes → List Bytes → List Bool → List Bytes → Run
run fragment main choices results = record { fragment = fragment; main = main; choices = choices; results = results }

-- the places reached, each a list of one number; then 100 (off the end), 101 (RETURN) or 102 (a fault); then main
abbrev told : Trace → List Bytes
told (visit k s t) = (k ∷ []) ∷ told t
told (off_end s) = (100 ∷ []) ∷ s.main
told (returned s) = (101 ∷ []) ∷ s.main
told faulted = (102 ∷ []) ∷ []

abbrev ran : Run → List Bytes
ran r = told (whole_replay built_in (instructions (decode r.fragment)) (record { stacks = record { main = r.main; alt = [] }; choices = r.choices; results = r.results }))

pub runs : List Run
runs =
    -- the empty fragment runs off the end at once
    run [] [] [] [] ∷
    -- `51 63 52 67 53 68`: through the first arm and ELSE; past ELSE through the second arm and ENDIF
    run (0x51 ∷ 0x63 ∷ 0x52 ∷ 0x67 ∷ 0x53 ∷ 0x68 ∷ []) [] (true ∷ []) [] ∷
    run (0x51 ∷ 0x63 ∷ 0x52 ∷ 0x67 ∷ 0x53 ∷ 0x68 ∷ []) [] (false ∷ []) [] ∷
    -- `63 6a 68`: RETURN ends it; past ENDIF where there is no ELSE
    run (0x63 ∷ 0x6a ∷ 0x68 ∷ []) ([] ∷ []) (true ∷ []) [] ∷
    run (0x63 ∷ 0x6a ∷ 0x68 ∷ []) ([] ∷ []) (false ∷ []) [] ∷
    -- `63 63 67 68 67 51 68`: a jump passes the conditional inside the first arm
    run (0x63 ∷ 0x63 ∷ 0x67 ∷ 0x68 ∷ 0x67 ∷ 0x51 ∷ 0x68 ∷ []) ([] ∷ []) (false ∷ []) [] ∷
    -- `93 b2`: the results of plain classes are the given byte strings in turn
    run (0x93 ∷ 0xb2 ∷ []) ([] ∷ [] ∷ []) [] ((7 ∷ 8 ∷ []) ∷ (9 ∷ []) ∷ []) ∷
    -- `82`: the real length, 9
    run (0x82 ∷ []) (replicate 9 7 ∷ []) [] [] ∷
    -- faults: `75` on no item; `79` on a negative index, on a negative zero and on nine bytes; `ff`
    run (0x75 ∷ []) [] [] [] ∷
    run (0x4f ∷ 0x79 ∷ []) ([] ∷ []) [] [] ∷
    run (0x79 ∷ []) ((0x80 ∷ []) ∷ [] ∷ []) [] [] ∷
    run (0x79 ∷ []) (replicate 9 0 ∷ [] ∷ []) [] [] ∷
    run (0xff ∷ []) [] [] [] ∷ []

pub replays : map ran runs ≡
    (((100 ∷ []) ∷ []) ∷
    ((0 ∷ []) ∷ (1 ∷ []) ∷ (2 ∷ []) ∷ (3 ∷ []) ∷ (100 ∷ []) ∷ (2 ∷ []) ∷ []) ∷
    ((0 ∷ []) ∷ (1 ∷ []) ∷ (4 ∷ []) ∷ (5 ∷ []) ∷ (100 ∷ []) ∷ (3 ∷ []) ∷ []) ∷
    ((0 ∷ []) ∷ (1 ∷ []) ∷ (101 ∷ []) ∷ []) ∷
    ((0 ∷ []) ∷ (100 ∷ []) ∷ []) ∷
    ((0 ∷ []) ∷ (5 ∷ []) ∷ (6 ∷ []) ∷ (100 ∷ []) ∷ (1 ∷ []) ∷ []) ∷
    ((0 ∷ []) ∷ (1 ∷ []) ∷ (100 ∷ []) ∷ (9 ∷ []) ∷ (7 ∷ 8 ∷ []) ∷ []) ∷
    ((0 ∷ []) ∷ (100 ∷ []) ∷ (9 ∷ []) ∷ replicate 9 7 ∷ []) ∷
    ((0 ∷ []) ∷ (102 ∷ []) ∷ []) ∷
    ((0 ∷ []) ∷ (1 ∷ []) ∷ (102 ∷ []) ∷ []) ∷
    ((0 ∷ []) ∷ (102 ∷ []) ∷ []) ∷
    ((0 ∷ []) ∷ (102 ∷ []) ∷ []) ∷
    ((0 ∷ []) ∷ (102 ∷ []) ∷ []) ∷ [])
unfolding runs replay_from step plain_step push_item drop_items copy_items rotate_items tuck_top nip_second move_to_alt move_from_alt class_of class_number decode front serialize deserialize
replays = refl
