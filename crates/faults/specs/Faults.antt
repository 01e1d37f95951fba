-- What is wrong with the header of a paper, and its words: what stands behind verdict number 19. The tests are those of
-- `good_header` (crates/definition/specs/Papers.antt), in its order: there is a fault exactly where it is false (`faultless`,
-- crates/faults/proofs/Faults.antt).
use Rattle.std.specs.Prelude.{◌||◌, List, [], ◌∷◌, ◌++◌, ℕ, zero, suc, ◌+◌, ◌*◌, ltb, eqb, length}
use Rattle.std.proofs.Math.Option.{Option, none, some}
use Rattle.definition.specs.Basics.{Bytes, pick}
use Rattle.definition.specs.Lines.{text, decimal, labelled}
use Rattle.definition.specs.Papers.{Part, entry_count, header_size, initialiser, bodies, entries, share}

-- Parts are counted from 0: the initialiser is part 0, the body of entry k part k + 1.
pub data Fault : Type 0 where
  -- the paper's bytes
  short_paper : (bytes : ℕ) → Fault
  bad_count : (entries : ℕ) → Fault
  -- the header is longer than the paper
  cut_header : (entries bytes : ℕ) → Fault
  -- the part starts before the header's end; the part ends past the paper's end
  in_header past_paper : (part : ℕ) → Fault
  -- the part shares a byte with a later one
  sharing : (part other : ℕ) → Fault

-- the first of two faults
abbrev pub or_else : Option Fault → Option Fault → Option Fault
or_else none g = g
or_else (some f) g = some f

-- part k, p, against those after it, the first of them part j
abbrev pub shared_with : Part → ℕ → ℕ → List Part → Option Fault
shared_with p k j [] = none
shared_with p k j (q ∷ qs) = pick (share p q) (some (sharing k j)) (shared_with p k (j + 1) qs)

-- part k by itself, in a paper of `to` bytes whose header ends at `from`
abbrev pub placed : ℕ → ℕ → ℕ → Part → Option Fault
placed from to k p =
    pick (ltb p.offset from) (some (in_header k))
    (pick (ltb to (p.offset + p.size)) (some (past_paper k)) none)

-- the parts in order, the first of them part k
abbrev pub part_fault : ℕ → ℕ → ℕ → List Part → Option Fault
part_fault from to k [] = none
part_fault from to k (p ∷ ps) = or_else (placed from to k p) (or_else (shared_with p k (k + 1) ps) (part_fault from to (k + 1) ps))

-- what is wrong with a header, if anything is
unfoldable pub fault : Bytes → Option Fault
fault paper =
    pick (ltb (length paper) 8) (some (short_paper (length paper)))
    (pick (eqb (entry_count paper) 0 || ltb 32 (entry_count paper)) (some (bad_count (entry_count paper)))
    (pick (ltb (length paper) (header_size paper)) (some (cut_header (entry_count paper) (length paper)))
    (part_fault (header_size paper) (length paper) 0 (initialiser paper ∷ bodies (entries paper)))))

-- Words

-- a part
abbrev pub part_name : ℕ → Bytes
part_name zero = text "the initialiser"
part_name (suc k) = labelled "the body of entry " k

-- a fault
abbrev pub fault_text : Fault → Bytes
fault_text (short_paper bytes) = decimal bytes ++ text " bytes, fewer than 8"
fault_text (bad_count entries) = labelled "entries " entries ++ text ", 1 to 32 allowed"
fault_text (cut_header entries bytes) =
    decimal entries ++ labelled " entries need " (8 + 6 * entries) ++ labelled " bytes, the paper has " bytes
fault_text (in_header part) = part_name part ++ text " starts in the header"
fault_text (past_paper part) = part_name part ++ text " ends past the paper"
fault_text (sharing part other) = part_name part ++ text " shares a byte with " ++ part_name other

-- behind the word of 19: `: ` and the fault, nothing where there is none
unfoldable pub fault_words : Option Fault → Bytes
fault_words none = []
fault_words (some f) = text ": " ++ fault_text f
