-- Section 6: the limit check, papers and the display.
use Rattle.std.specs.Prelude.{Bool, true, ◌&&◌, not, List, [], ◌∷◌, ◌++◌, ◌≡◌, ℕ, zero, suc, ◌+◌, ◌*◌, min, max, ltb, leb, eqb, length, take, drop}
use Rattle.std.proofs.Math.Option.{Option, none, some}
use Rattle.definition.specs.Basics.{Bytes, pick}
use Rattle.definition.specs.Decoding.{Instruction, number, Front, whole, short, front, decode, instructions, malformed_at}
use Rattle.definition.specs.Refusals.{Refusal, Answer, accepted, refused_at, malformed_fragment, max_fragment, max_operations, opcode_count, script_size, max_paper, bad_header, dispatch_too_large, long_paper}
use Rattle.definition.specs.Stacks.{Rules}
use Rattle.definition.specs.Walk.{dead, Verdict, refused_verdict, Marked, unknowns, analysis}
use Rattle.definition.specs.Replay.{Demand3}

-- The limit check

-- how many opcodes are above 60
abbrev pub operations : List Instruction → ℕ
operations [] = 0
operations (i ∷ is) = pick (ltb 0x60 i.opcode) 1 0 + operations is

-- "an entry of its own, not part of marking a paper: malformed; then opcodes above 60 number over 201; then over 10,000 bytes; it
-- answers number, offset and figures only"
abbrev pub limits_of : Option ℕ → ℕ → ℕ → Answer
limits_of (some offset) count size = refused_at offset malformed_fragment
limits_of none count size =
    pick (ltb max_operations count) (refused_at 0 (opcode_count count))
    (pick (ltb max_fragment size) (refused_at 0 (script_size size)) accepted)

-- `validate_txscript_bytecode_limits`
unfoldable pub limit_check : Bytes → Answer
limit_check fragment = limits_of (malformed_at (decode fragment)) (operations (instructions (decode fragment))) (length fragment)

-- A paper's header

-- "u16 fields, lowest byte first": the one at this offset; 0e 00 is 14
abbrev pub field : Bytes → ℕ → ℕ
field paper offset = number (take 2 (drop offset paper))

-- a part of the paper
pub record Part : Type 0 where
  pub offset : ℕ
  pub size : ℕ

-- the part whose offset and length stand here
abbrev pub part_at : Bytes → ℕ → Part
part_at paper offset = record { offset = field paper offset; size = field paper (offset + 2) }

-- the bytes of a part
abbrev pub bytes_of : Bytes → Part → Bytes
bytes_of paper p = take p.size (drop p.offset paper)

-- "per entry parameters, offset, length"
pub record Entry : Type 0 where
  pub parameters : ℕ
  pub body : Part

-- n entries, the first of them at this offset
abbrev pub entries_at : Bytes → ℕ → ℕ → List Entry
entries_at paper offset zero = []
entries_at paper offset (suc n) =
    record { parameters = field paper offset; body = part_at paper (offset + 2) } ∷ entries_at paper (offset + 6) n

-- "entries E (1 to 32), state fields F, initialiser offset and length; per entry ..": E
abbrev pub entry_count : Bytes → ℕ
entry_count paper = field paper 0

-- F
abbrev pub state_fields : Bytes → ℕ
state_fields paper = field paper 2

-- where the initialiser lies
abbrev pub initialiser : Bytes → Part
initialiser paper = part_at paper 4

-- all the entries
abbrev pub entries : Bytes → List Entry
entries paper = entries_at paper 8 (entry_count paper)

-- where the header ends
abbrev pub header_size : Bytes → ℕ
header_size paper = 8 + 6 * entry_count paper

-- "Parts lie after this header and within the paper", an empty one too
abbrev pub within : ℕ → ℕ → Part → Bool
within from to p = leb from p.offset && leb (p.offset + p.size) to

-- a byte is in both, the later start lies before the earlier end: "an empty one shares none"
abbrev pub share : Part → Part → Bool
share p q = ltb (max p.offset q.offset) (min (p.offset + p.size) (q.offset + q.size))

-- p shares a byte with none of these
abbrev pub shares_none : Part → List Part → Bool
shares_none p [] = true
shares_none p (q ∷ qs) = not (share p q) && shares_none p qs

-- each lies where it may, and "no two share a byte"
abbrev pub good_parts : ℕ → ℕ → List Part → Bool
good_parts from to [] = true
good_parts from to (p ∷ ps) = within from to p && (shares_none p ps && good_parts from to ps)

-- where the bodies lie
abbrev pub bodies : List Entry → List Part
bodies [] = []
bodies (e ∷ es) = e.body ∷ bodies es

-- not 19: the paper is not short, and E and every part are right
unfoldable pub good_header : Bytes → Bool
good_header paper =
    leb 8 (length paper) && (leb 1 (entry_count paper) && (leb (entry_count paper) 32 && (leb (header_size paper) (length paper)
    && good_parts (header_size paper) (length paper) (initialiser paper ∷ bodies (entries paper)))))

-- Marking a paper

-- a fragment of a paper, and the heights that its analysis starts from
pub record Fragment : Type 0 where
  pub bytes : Bytes
  pub main : ℕ
  pub alt : ℕ

-- "bodies in order from main parameters + F"
abbrev pub body_fragments : Bytes → List Entry → List Fragment
body_fragments paper [] = []
body_fragments paper (e ∷ es) =
    record { bytes = bytes_of paper e.body; main = e.parameters + state_fields paper; alt = 0 } ∷ body_fragments paper es

-- "the parameters of the entry with most"
abbrev pub most_parameters : List Entry → ℕ
most_parameters [] = 0
most_parameters (e ∷ es) = max e.parameters (most_parameters es)

-- "then an initialiser that isn't empty from the parameters of the entry with most and alt 1"
abbrev pub state_fragments : Bytes → List Fragment
state_fragments paper =
    pick (eqb (initialiser paper).size 0) []
    (record { bytes = bytes_of paper (initialiser paper); main = most_parameters (entries paper); alt = 1 } ∷ [])

-- all that is marked, in its order
unfoldable pub fragments : Bytes → List Fragment
fragments paper = body_fragments paper (entries paper) ++ state_fragments paper

-- the verdict on a paper, and the entry it is about
pub record PaperVerdict : Type 0 where
  -- "entry from 0 (E for the initialiser, 0 at 19 and 21)", and 0 where the paper is accepted
  pub entry : ℕ
  pub verdict : Verdict

-- with it the verdicts of the fragments accepted, in order, and the lent log afterwards
pub record PaperMarked : Type 0 where
  pub paper : PaperVerdict
  pub verdicts : List Verdict
  pub log : List ℕ

-- Section 7, "19 to 21 leave the log as lent and count 0 rows"
abbrev pub refused_paper : ℕ → Refusal → List ℕ → PaperMarked
refused_paper entry r log = record { paper = record { entry = entry; verdict = refused_verdict 0 r 0 }; verdicts = []; log = log }

-- m, with v in front of its accepted verdicts
abbrev pub after : Verdict → PaperMarked → PaperMarked
after v m = record { paper = m.paper; verdicts = v ∷ m.verdicts; log = m.log }

-- Marks fragment k and those after it; rows and peak are those of the fragments before. "Rows of all fragments follow one
-- another; 4 weighs each fragment against what the log has left": with 2 rows before, the first 6 numbers stay and the rest is
-- lent. "A paper keeps and counts rows of earlier fragments; accepted, it has their greatest peak and end none."
unfoldable pub mark_from : Rules → ℕ → ℕ → ℕ → List Fragment → List ℕ → PaperMarked
mark_from R k rows peak [] log =
    record { paper = record { entry = 0; verdict = record { answer = accepted; rows = rows; peak = peak; end = dead } }; verdicts = []; log = log }
mark_from R k rows peak (f ∷ fs) log =
    let m : Marked = analysis R f.bytes f.main f.alt (drop (3 * rows) log) in
    let v : Verdict = m.verdict in
    let out : List ℕ = take (3 * rows) log ++ m.log in
    pick (eqb v.answer.number 0)
    (after v (mark_from R (k + 1) (rows + v.rows) (max peak v.peak) fs out))
    (record {
      paper = record { entry = k; verdict = record { answer = v.answer; rows = rows + v.rows; peak = 0; end = dead } };
      verdicts = [];
      log = out;
    })

-- "dispatch check of each entry (parameters + F + 3 over 244)", from entry k on; then the fragments
unfoldable pub dispatch : Rules → Bytes → ℕ → List Entry → List ℕ → PaperMarked
dispatch R paper k [] log = mark_from R 0 0 0 (fragments paper) log
dispatch R paper k (e ∷ es) log =
    let sum : ℕ = e.parameters + state_fields paper + 3 in
    pick (ltb R.limit sum) (refused_paper k (dispatch_too_large sum R.limit) log) (dispatch R paper (k + 1) es log)

-- "Order: 21, 19, dispatch check of each entry (..), bodies in order .., then an initialiser"
unfoldable pub mark_paper : Rules → Bytes → List ℕ → PaperMarked
mark_paper R paper log =
    pick (ltb max_paper (length paper)) (refused_paper 0 (long_paper (length paper)) log)
    (pick (good_header paper) (dispatch R paper 0 (entries paper) log) (refused_paper 0 bad_header log))

-- What acceptance of a paper means

-- demand 3 of each of these fragments, from its start heights: of its verdict, one to a fragment, and of its rows in this log,
-- the first of them at row `rows`
unfoldable pub EachTrue : Rules → ℕ → List Fragment → List Verdict → List ℕ → Type 0
EachTrue R rows [] [] log = Unit {0}
EachTrue R rows [] (v ∷ vs) log = ⊥
EachTrue R rows (f ∷ fs) [] log = ⊥
EachTrue R rows (f ∷ fs) (v ∷ vs) log =
    let m : Marked = record { verdict = v; log = drop (3 * rows) log } in
    (Demand3 R (instructions (decode f.bytes)) (unknowns f.main f.alt) m) × (EachTrue R (rows + v.rows) fs vs log)

-- demand 3 as one claim about a paper: where it is accepted, its verdicts and its log, as they are in the end, are true of every
-- replay of each fragment
abbrev pub TrueOfPaper : Rules → Bytes → List ℕ → Type 0
TrueOfPaper R paper log =
    let m : PaperMarked = mark_paper R paper log in
    m.paper.verdict.answer.number ≡ 0 → EachTrue R 0 (fragments paper) m.verdicts m.log

-- The display

-- the fragment by its mark, 0 (body) or 1 (initialiser); no bytes for another mark
abbrev pub by_mark : Bytes → Bytes → ℕ → Bytes
by_mark body init zero = body
by_mark body init (suc zero) = init
by_mark body init (suc (suc n)) = []

-- "the whole instruction .., the rest if malformed"
abbrev pub shown_of : Front → Bytes → Bytes
shown_of (whole after literal) l = take (1 + after) l
shown_of short l = l

-- "The display takes the body and the initialiser and hands back part of one": what stands at the front of these bytes
abbrev pub shown_at : Bytes → Bytes
shown_at [] = []
shown_at (b ∷ rest) = shown_of (front b rest) (b ∷ rest)

-- "decoded from an offset (also one inside a push), .. an empty part if the offset is at or past the end"
unfoldable pub display : Bytes → Bytes → ℕ → ℕ → Bytes
display body init offset mark = shown_at (drop offset (by_mark body init mark))
