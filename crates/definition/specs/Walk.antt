-- Section 4: the walk, the log and the verdict of an analysis.
use Rattle.std.specs.Prelude.{Bool, true, false, ◌&&◌, List, [], ◌∷◌, ℕ, ◌+◌, ◌*◌, max, ltb, leb, eqb, length, replicate}
use Rattle.std.proofs.Math.Option.{Option, none, some}
use Rattle.std.proofs.lemmas.List.Edits.{sets}
use Rattle.definition.specs.Basics.{Bytes, pick}
use Rattle.definition.specs.Decoding.{Instruction, Code, decode, instructions, malformed_at}
use Rattle.definition.specs.Classes.{Class, IF, NOTIF, ELSE, ENDIF, RETURN, ordinary, plain}
use Rattle.definition.specs.Refusals.{Refusal, Answer, accepted, refused_at, long_fragment, max_fragment, start_too_large, malformed_fragment, short_log, nesting, max_open, arms_differ, stray_else, second_else, stray_endif, open_if, tally_full}
use Rattle.definition.specs.Stacks.{Rules, Stacks, Outcome, done, refused, ItemOps, total, stack_heights, on_done, drop_items, step, plain_step}

-- What the marker knows of an item

-- "unknown or exact"
pub data Item : Type 0 where
  unknown : Item
  exact : Bytes → Item

-- Section 1, "Data of 0 to 8 bytes is exact, 9 or more unknown"
abbrev pub known : Bytes → Item
known l = pick (leb (length l) 8) (exact l) unknown

-- "The bytes that the marker knows are those of exact items" (Section 5)
abbrev pub bytes_known : Item → Option Bytes
bytes_known unknown = none
bytes_known (exact l) = some l

-- Section 3, "the plain classes push unknown items"
abbrev pub marking : ItemOps Item
marking = record { from_bytes = known; to_bytes = bytes_known; result = unknown }

-- Arms and conditionals

-- "An arm may hold conditionals, and each conditional holds one or two arms". An arm: dead, or live with its stacks.
pub data Arm : Type 0 where
  dead : Arm
  live : Stacks Item → Arm

-- the first arm of an open conditional: it has not ended, or it ended at its ELSE, as this arm
pub data FirstArm : Type 0 where
  not_ended : FirstArm
  ended : Arm → FirstArm

-- an open conditional: where its second arm starts, and its first arm
pub record Frame : Type 0 where
  pub start : Arm
  pub first : FirstArm

-- what an instruction does: the arm after it with the open conditionals, innermost first, or a refusal
pub data Move : Type 0 where
  moves : Arm → List Frame → Move
  refuses : Refusal → Move

-- byte for byte
abbrev pub same_bytes : Bytes → Bytes → Bool
same_bytes [] [] = true
same_bytes [] (b ∷ m) = false
same_bytes (a ∷ l) [] = false
same_bytes (a ∷ l) (b ∷ m) = eqb a b && same_bytes l m

-- "an item stays exact only if both sides have the same bytes"
abbrev pub join_item : Item → Item → Item
join_item unknown y = unknown
join_item (exact l) unknown = unknown
join_item (exact l) (exact m) = pick (same_bytes l m) (exact l) unknown

-- item for item
abbrev pub join_items : List Item → List Item → List Item
join_items [] m = []
join_items (x ∷ l) [] = []
join_items (x ∷ l) (y ∷ m) = join_item x y ∷ join_items l m

-- "heights must be equal"
unfoldable pub join_stacks : Stacks Item → Stacks Item → Outcome Item
join_stacks s t =
    pick (eqb (length s.main) (length t.main) && eqb (length s.alt) (length t.alt))
    (done (record { main = join_items s.main t.main; alt = join_items s.alt t.alt }))
    (refused arms_differ)

-- the arm goes on with what an operation yields
abbrev pub on_outcome : Outcome Item → List Frame → Move
on_outcome o fs = on_done o refuses (λ s. moves (live s) fs)

-- "ENDIF joins: if one side is dead the other stands"
abbrev pub join : Arm → Arm → List Frame → Move
join dead b fs = moves b fs
join (live s) dead fs = moves (live s) fs
join (live s) (live t) fs = on_outcome (join_stacks s t) fs

-- What a conditional does to the arm c and to its frame, the innermost (a dead c stays dead):
--
--   instruction         arm afterwards          frame before             frame afterwards
--   IF, NOTIF           c without its top       none                     start: c without its top; first arm not ended
--   ELSE                start                   first arm not ended      start as before; first arm ended as c
--   ENDIF, no ELSE      c joined with start     first arm not ended      none
--   ENDIF after ELSE    a joined with c         first arm ended as a     none

-- a conditional opens: both of its arms start from here
abbrev pub opens : Arm → List Frame → Move
opens c fs = moves c (record { start = c; first = not_ended } ∷ fs)

-- "IF and NOTIF pop one item; the second arm, or the empty one if there is no ELSE, starts from there"
abbrev pub on_if : Arm → List Frame → Move
on_if dead fs = opens dead fs
on_if (live s) fs = on_done (drop_items 1 s) refuses (λ t. opens (live t) fs)

-- Section 7: "IF or NOTIF, live or dead, with 24 open"; "at 5 nothing is popped yet"
abbrev pub conditional : Arm → List Frame → Move
conditional c fs = pick (ltb (length fs) max_open) (on_if c fs) (refuses nesting)

-- at ELSE the first arm, c, has ended, and the second starts where the conditional opened
abbrev pub on_else : Arm → Arm → FirstArm → List Frame → Move
on_else c start not_ended fs = moves start (record { start = start; first = ended c } ∷ fs)
on_else c start (ended a) fs = refuses second_else

-- at ENDIF the arm c joins the other one: the empty one "if there is no ELSE"
abbrev pub on_endif : Arm → Arm → FirstArm → List Frame → Move
on_endif c start not_ended fs = join c start fs
on_endif c start (ended a) fs = join a c fs

-- One instruction, by its class. "RETURN makes the arm dead until its ELSE or ENDIF. While dead, ordinary opcodes are skipped,
-- unmodelled ones too, and conditionals are still matched."
abbrev pub effect : Rules → Instruction → Class → Arm → List Frame → Move
effect R i IF c fs = conditional c fs
effect R i NOTIF c fs = conditional c fs
effect R i ELSE c [] = refuses stray_else
effect R i ELSE c (f ∷ fs) = on_else c f.start f.first fs
effect R i ENDIF c [] = refuses stray_endif
effect R i ENDIF c (f ∷ fs) = on_endif c f.start f.first fs
effect R i RETURN c fs = moves dead fs
effect R i (ordinary o) dead fs = moves dead fs
effect R i (ordinary o) (live s) fs = on_outcome (step marking R i o s) fs
effect R i (plain pops pushes) dead fs = moves dead fs
effect R i (plain pops pushes) (live s) fs = on_outcome (plain_step marking R.limit pops pushes s) fs

-- The log

-- "main height, alt height just before it, or 65,535 twice if dead"
abbrev pub heights_of : Arm → List ℕ
heights_of dead = 65535 ∷ 65535 ∷ []
heights_of (live s) = stack_heights s

-- "three to an instruction": the log with the offset and these heights as row k, counted from 0; row 1 is elements 3, 4 and 5.
-- Offsets below 10,000, heights up to 244 and 65,535 are u16 numbers.
unfoldable pub log_row : ℕ → ℕ → Arm → List ℕ → List ℕ
log_row k offset c log = sets log (3 * k) (offset ∷ heights_of c)

-- The walk

-- the state of a walk between two instructions
pub record State : Type 0 where
  pub arm : Arm
  pub frames : List Frame
  -- the offset of the instruction met last
  pub offset : ℕ
  pub rows : ℕ
  pub peak : ℕ
  pub log : List ℕ

-- an instruction is met: its row is written
abbrev pub met : Instruction → State → State
met i s = record {
  arm = s.arm;
  frames = s.frames;
  offset = i.offset;
  rows = s.rows + 1;
  peak = s.peak;
  log = log_row s.rows i.offset s.arm s.log;
}

-- the total of an arm; a dead one counts 0
abbrev pub total_of : Arm → ℕ
total_of dead = 0
total_of (live s) = total s

-- The instruction leads on to the arm c. "peak (greatest total at the start or after any live instruction)": what stands after a live
-- RETURN, ELSE or ENDIF was counted before.
abbrev pub onward : Arm → List Frame → State → State
onward c fs s = record {
  arm = c;
  frames = fs;
  offset = s.offset;
  rows = s.rows;
  peak = max s.peak (total_of c);
  log = s.log;
}

-- how a walk ends: accepted or refused, with the state that it has then
pub data WalkEnd : Type 0 where
  passed : State → WalkEnd
  stopped : Refusal → State → WalkEnd

-- after the move of the instruction met last
abbrev pub follow : Move → State → (State → WalkEnd) → WalkEnd
follow (moves c fs) s next = next (onward c fs s)
follow (refuses r) s next = stopped r s

-- past the last instruction: Section 7, 16, "open IF", given "at the last instruction"
abbrev pub at_end : List Frame → State → WalkEnd
at_end [] s = passed s
at_end (f ∷ fs) s = stopped open_if s

-- the walk over these instructions
unfoldable pub walk : Rules → List Instruction → State → WalkEnd
walk R [] s = at_end s.frames s
walk R (i ∷ is) s = follow (effect R i (R.class_for i.opcode) s.arm s.frames) (met i s) (λ t. walk R is t)

-- The verdict

-- "The verdict carries number, offset, two figures of 64 bits, rows written, peak (..) and end stacks or none"; a dead arm is none
pub record Verdict : Type 0 where
  pub answer : Answer
  pub rows : ℕ
  pub peak : ℕ
  pub end : Arm

-- a verdict, and the lent log afterwards
pub record Marked : Type 0 where
  pub verdict : Verdict
  pub log : List ℕ

-- Section 7, "Refusals carry peak 0 and end none"
abbrev pub refused_verdict : ℕ → Refusal → ℕ → Verdict
refused_verdict offset r rows = record { answer = refused_at offset r; rows = rows; peak = 0; end = dead }

-- Section 7, "1 to 4 .. leave the log as lent and count 0 rows"
abbrev pub refused_early : ℕ → Refusal → List ℕ → Marked
refused_early offset r log = record { verdict = refused_verdict offset r 0; log = log }

-- Section 7, "5 to 16 leave rows up to and with the refused instruction, the rest as lent; acceptance leaves a row for every
-- instruction, the rest as lent"
abbrev pub answered : WalkEnd → Marked
answered (passed s) = record { verdict = record { answer = accepted; rows = s.rows; peak = s.peak; end = s.arm }; log = s.log }
answered (stopped r s) = record { verdict = refused_verdict s.offset r s.rows; log = s.log }

-- the walk's beginning, from any stacks
abbrev pub begin : Stacks Item → List ℕ → State
begin s log = record { arm = live s; frames = []; offset = 0; rows = 0; peak = total s; log = log }

-- tests 3 and 4 of Section 7, then the walk: "fewer than 3 numbers an instruction; needed, lent"
abbrev pub tested : Rules → Option ℕ → List Instruction → Stacks Item → List ℕ → Marked
tested R (some offset) is s log = refused_early offset malformed_fragment log
tested R none is s log =
    pick (leb (3 * length is) (length log)) (answered (walk R is (begin s log))) (refused_early 0 (short_log (3 * length is) (length log)) log)

-- the analysis of decoded code, from any stacks
unfoldable pub analysis_of : Rules → Code → Stacks Item → List ℕ → Marked
analysis_of R code s log = tested R (malformed_at code) (instructions code) s log

-- so many unknown items on each stack
abbrev pub unknowns : ℕ → ℕ → Stacks Item
unknowns main alt = record { main = replicate main unknown; alt = replicate alt unknown }

-- Section 7, "Analysis tests 1, 2, 3, 4, then walks"
unfoldable pub analysis : Rules → Bytes → ℕ → ℕ → List ℕ → Marked
analysis R fragment main alt log =
    pick (ltb max_fragment (length fragment)) (refused_early 0 (long_fragment (length fragment)) log)
    (pick (ltb R.limit (main + alt)) (refused_early 0 (start_too_large (main + alt) R.limit) log)
    (analysis_of R (decode fragment) (unknowns main alt) log))

-- The bench tally

-- "fragments, accepted, rows, greatest peak, each 32 bits wide"
pub record Tally : Type 0 where
  pub fragments : ℕ
  pub accepts : ℕ
  pub rows : ℕ
  pub peak : ℕ

-- "the answer is 0 or 22", and the tally afterwards
pub record TallyAnswer : Type 0 where
  pub answer : Answer
  pub tally : Tally

-- the tally with one verdict more, of which `accepts`, 0 or 1, are accepted
abbrev pub one_more : Tally → ℕ → ℕ → ℕ → Tally
one_more t accepts rows peak = record {
  fragments = t.fragments + 1;
  accepts = t.accepts + accepts;
  rows = t.rows + rows;
  peak = max t.peak peak;
}

-- no sum passes 4,294,967,295; the peak is no sum
abbrev pub fits : Tally → Bool
fits t = leb t.fragments 4294967295 && leb t.accepts 4294967295 && leb t.rows 4294967295

-- "gains one verdict a call"; Section 7, "22 leaves the tally unchanged"
unfoldable pub gain : Tally → Verdict → TallyAnswer
gain t v =
    let new : Tally = one_more t (pick (eqb v.answer.number 0) 1 0) v.rows v.peak in
    pick (fits new) (record { answer = accepted; tally = new }) (record { answer = refused_at 0 tally_full; tally = t })
