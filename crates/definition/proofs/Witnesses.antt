-- That the theorem speaks of something: an accepted fragment with nested conditionals, dead code and a join, whole with its
-- log, and three replays of it that take different arms; a refused fragment with a replay that faults; and a refused one of
-- which no replay faults.
use mathlib.Core.Bool.{Bool, true, false}
use mathlib.Core.List.{List, [], ◌∷◌}
use mathlib.Core.Path.{◌≡◌, refl}
use native.Mathlib.Omega.{arith}
use lib.ListN.{length, replicate}
use Rattle.definition.specs.Basics.{Bytes}
use Rattle.definition.specs.Decoding.{front, decode, instructions, serialize, deserialize}
use Rattle.definition.specs.Classes.{class_number, class_of}
use Rattle.definition.specs.Refusals.{accepted, answer}
use Rattle.definition.specs.Stacks.{built_in, Stacks, push_item, drop_items, copy_items, step, plain_step}
use Rattle.definition.specs.Walk.{live, unknown, join_stacks, log_row, walk, analysis_of, unknowns, analysis}
use Rattle.definition.specs.Replay.{Replay, visit, off_end, returned, faulted, replay_from, whole_replay, EndsInFault, ShowsAll, ReplayOf, Demand3}
use Rattle.definition.proofs.Complete.{no_bytes}
use Rattle.definition.proofs.TrueOfEveryReplay.{true_of_every_replay}

-- stacks with nothing on alt
abbrev on : {A : Type 0} → List A → Stacks A
on l = record { main = l; alt = [] }

-- from these items, with these choices, and a result without bytes for each of 14 instructions
abbrev from : List Bytes → List Bool → Replay
from l choices = record { stacks = on l; choices = choices; results = replicate 14 [] }

-- 51 63 63 00 67 52 6a ff 68 67 75 00 68 79 from (2, 0): the first arm holds a conditional whose second arm returns
pub nested : Bytes
nested = 0x51 ∷ 0x63 ∷ 0x63 ∷ 0x00 ∷ 0x67 ∷ 0x52 ∷ 0x6a ∷ 0xff ∷ 0x68 ∷ 0x67 ∷ 0x75 ∷ 0x00 ∷ 0x68 ∷ 0x79 ∷ []

-- the rows: ff and the ENDIF behind it are dead; both outer arms leave an exact empty item, so the marker can PICK at the end
pub nested_marked : analysis built_in nested 2 0 (replicate 42 0)
    ≡ record {
      verdict = record { answer = accepted; rows = 14; peak = 3; end = live (on (unknown ∷ unknown ∷ [])) };
      log =
          0 ∷ 2 ∷ 0 ∷ 1 ∷ 3 ∷ 0 ∷ 2 ∷ 2 ∷ 0 ∷ 3 ∷ 1 ∷ 0 ∷ 4 ∷ 2 ∷ 0 ∷ 5 ∷ 1 ∷ 0 ∷ 6 ∷ 2 ∷ 0 ∷ 7 ∷ 65535 ∷ 65535 ∷ 8 ∷ 65535 ∷ 65535 ∷ 9 ∷ 2 ∷ 0 ∷
          10 ∷ 2 ∷ 0 ∷ 11 ∷ 1 ∷ 0 ∷ 12 ∷ 2 ∷ 0 ∷ 13 ∷ 2 ∷ 0 ∷ [];
    }
unfolding nested analysis analysis_of walk log_row join_stacks step plain_step push_item drop_items copy_items class_of class_number decode front serialize deserialize
nested_marked = refl

-- so the theorem speaks of it
pub nested_true : Demand3 built_in (instructions (decode nested)) (unknowns 2 0) (analysis built_in nested 2 0 (replicate 42 0))
unfolding nested analysis analysis_of walk log_row join_stacks step plain_step push_item drop_items copy_items class_of class_number decode front serialize deserialize
nested_true = true_of_every_replay nested 2 0 (replicate 42 0) refl

-- Three replays of it, from the items 07 and 08 09, the first on top.
abbrev items : List Bytes
items = (7 ∷ []) ∷ (8 ∷ 9 ∷ []) ∷ []

nested_replay : (choices : List Bool) → length choices ≡ 14 → ReplayOf (instructions (decode nested)) (unknowns 2 0) (from items choices)
unfolding nested decode front
nested_replay choices h = record {
  start = record { main = (tt, (tt, tt)); alt = tt };
  main = ((omega arith, tt), ((omega arith, (omega arith, tt)), tt));
  alt = tt;
  results = no_bytes 14;
  enough_choices = omega arith;
  enough_results = omega arith;
}

-- into both first arms: it meets each ELSE, and jumps past each ENDIF
pub inner : (ReplayOf (instructions (decode nested)) (unknowns 2 0) (from items (replicate 14 true)))
    × (whole_replay built_in (instructions (decode nested)) (from items (replicate 14 true))
    ≡ visit 0 (on items) (visit 1 (on ((1 ∷ []) ∷ items)) (visit 2 (on items) (visit 3 (on ((8 ∷ 9 ∷ []) ∷ []))
    (visit 4 (on ([] ∷ (8 ∷ 9 ∷ []) ∷ [])) (visit 9 (on ([] ∷ (8 ∷ 9 ∷ []) ∷ [])) (visit 13 (on ([] ∷ (8 ∷ 9 ∷ []) ∷ []))
    (off_end (on ((8 ∷ 9 ∷ []) ∷ (8 ∷ 9 ∷ []) ∷ []))))))))))
unfolding nested replay_from step plain_step push_item drop_items copy_items class_of class_number decode front serialize deserialize
inner = (nested_replay (replicate 14 true) refl, refl)

-- past the outer ELSE, over the inner conditional: it meets the outer ENDIF
pub outer : (ReplayOf (instructions (decode nested)) (unknowns 2 0) (from items (false ∷ replicate 13 true)))
    × (whole_replay built_in (instructions (decode nested)) (from items (false ∷ replicate 13 true))
    ≡ visit 0 (on items) (visit 1 (on ((1 ∷ []) ∷ items)) (visit 10 (on items) (visit 11 (on ((8 ∷ 9 ∷ []) ∷ []))
    (visit 12 (on ([] ∷ (8 ∷ 9 ∷ []) ∷ [])) (visit 13 (on ([] ∷ (8 ∷ 9 ∷ []) ∷ []))
    (off_end (on ((8 ∷ 9 ∷ []) ∷ (8 ∷ 9 ∷ []) ∷ [])))))))))
unfolding nested replay_from step plain_step push_item drop_items copy_items class_of class_number decode front serialize deserialize
outer = (nested_replay (false ∷ replicate 13 true) refl, refl)

-- into the outer first arm and past the inner ELSE: it ends at RETURN
pub returns : (ReplayOf (instructions (decode nested)) (unknowns 2 0) (from items (true ∷ false ∷ replicate 12 true)))
    × (whole_replay built_in (instructions (decode nested)) (from items (true ∷ false ∷ replicate 12 true))
    ≡ visit 0 (on items) (visit 1 (on ((1 ∷ []) ∷ items)) (visit 2 (on items) (visit 5 (on ((8 ∷ 9 ∷ []) ∷ []))
    (visit 6 (on ((2 ∷ []) ∷ (8 ∷ 9 ∷ []) ∷ [])) (returned (on ((2 ∷ []) ∷ (8 ∷ 9 ∷ []) ∷ []))))))))
unfolding nested replay_from step plain_step push_item drop_items copy_items class_of class_number decode front serialize deserialize
returns = (nested_replay (true ∷ false ∷ replicate 12 true) refl, refl)

-- 63 51 79 68 from (1, 0) is refused, 7 at 2: PICK at index 1 needs two items and has none
pub dry : Bytes
dry = 0x63 ∷ 0x51 ∷ 0x79 ∷ 0x68 ∷ []

pub dry_marked : (analysis built_in dry 1 0 (replicate 12 0)).verdict.answer ≡ answer 7 2 2 0
unfolding dry analysis analysis_of walk log_row join_stacks step plain_step push_item drop_items copy_items class_of class_number decode front serialize deserialize
dry_marked = refl

-- and the replay that enters its arm faults there
pub faulty : (ReplayOf (instructions (decode dry)) (unknowns 1 0) (from ([] ∷ []) (replicate 4 true)))
    × (whole_replay built_in (instructions (decode dry)) (from ([] ∷ []) (replicate 4 true))
    ≡ visit 0 (on ([] ∷ [])) (visit 1 (on []) (visit 2 (on ((1 ∷ []) ∷ [])) faulted)))
unfolding dry replay_from step plain_step push_item drop_items copy_items class_of class_number decode front serialize deserialize
faulty = (
  record {
    start = record { main = (tt, tt); alt = tt };
    main = (tt, tt);
    alt = tt;
    results = no_bytes 14;
    enough_choices = omega arith;
    enough_results = omega arith;
  },
  refl,
)

-- What the theorem does not say: 51 63 51 67 52 68 79 from (3, 0) is refused, 9 at 6, since the joined index is unknown ..
pub cautious : Bytes
cautious = 0x51 ∷ 0x63 ∷ 0x51 ∷ 0x67 ∷ 0x52 ∷ 0x68 ∷ 0x79 ∷ []

pub cautious_marked : (analysis built_in cautious 3 0 (replicate 21 0)).verdict.answer ≡ answer 9 6 0 0
unfolding cautious analysis analysis_of walk log_row join_stacks step plain_step push_item drop_items copy_items class_of class_number decode front serialize deserialize
cautious_marked = refl

-- .. and no replay of it faults: PICK finds its item at 1 and at 2
picks : (main alt : List Bytes) (choices : List Bool) (results : List Bytes) → ShowsAll (replicate 3 unknown) main → ShowsAll [] alt
    → EndsInFault (whole_replay built_in (instructions (decode cautious)) (record { stacks = record { main = main; alt = alt }; choices = choices; results = results })) → ⊥
unfolding cautious replay_from step plain_step push_item drop_items copy_items class_of class_number decode front serialize deserialize
picks [] alt choices results m a h = m
picks (x ∷ []) alt choices results m a h = m.1
picks (x ∷ y ∷ []) alt choices results m a h = m.1.1
picks (x ∷ y ∷ z ∷ []) [] [] results m a h = h
picks (x ∷ y ∷ z ∷ []) [] (true ∷ choices) results m a h = h
picks (x ∷ y ∷ z ∷ []) [] (false ∷ choices) results m a h = h
picks (x ∷ y ∷ z ∷ []) (b ∷ alt) choices results m a h = a
picks (x ∷ y ∷ z ∷ w ∷ l) alt choices results m a h = m.1.1.1

pub none_faults : (r : Replay) → ReplayOf (instructions (decode cautious)) (unknowns 3 0) r → EndsInFault (whole_replay built_in (instructions (decode cautious)) r) → ⊥
none_faults r p h = picks r.stacks.main r.stacks.alt r.choices r.results p.start.main p.start.alt h
