-- The lines that `stacklog` prints around the rows, as bytes. Numbers and texts are those of the lines of `stackmark`.
use Rattle.std.specs.Prelude.{Option, Some, None, ◌&&◌, ◌||◌, List, [], ◌++◌, ℕ, zero, suc, ◌+◌, ◌-◌, eqb, length}
use Rattle.definition.specs.Basics.{Bytes, pick}
use Rattle.definition.specs.Classes.{Class}
use Rattle.definition.specs.Lines.{text, labelled, name}
use Rattle.definition.specs.Papers.{entry_count, display}
use Rattle.definition.specs.Refusals.{Answer}
use Rattle.definition.specs.Stacks.{Rules}
use Rattle.header.specs.View.{fragment_at}
use Rattle.faults.specs.Faults.{fault, fault_words}
use Rattle.log_rows.specs.Rows.{main_at, alt_at, class_in, is_if, is_else, is_endif, instruction}
use Rattle.reasons.specs.Reasons.{reason}
use Rattle.stack_analysis.specs.View.{Told}
use Rattle.stack_analysis.specs.declared.Heights.{Heights}

-- A fragment

-- the line before its rows: its name, its length and the heights that it starts from
unfoldable pub start_line : ℕ → ℕ → ℕ → ℕ → ℕ → Bytes
start_line entries k size main alt =
    name entries k ++ labelled ": length " size ++ labelled ", from main " main ++ labelled " alt " alt ++ text "\n"

-- that of fragment k of a paper
unfoldable pub start : Bytes → ℕ → Bytes
start paper k =
    start_line (entry_count paper) k (length (fragment_at paper k).bytes) (fragment_at paper k).main (fragment_at paper k).alt

-- how it ends: whether it has an end, or every run returns before it, and its heights there
abbrev pub ending : Option Heights → Bytes
ending (Some h) = labelled ", end main " h.main ++ labelled " alt " h.alt
ending None = text ", end none"

-- the line after the rows of an accepted one: its peak and how it ends
unfoldable pub accepted_line : ℕ → Option Heights → Bytes
accepted_line peak end = labelled "accepted: peak " peak ++ ending end ++ text "\n"

-- A refusal in words

-- number and word
unfoldable pub refusal : ℕ → ℕ → ℕ → Bytes
refusal number first second = labelled "refused " number ++ text ", " ++ reason number first second

-- the line of a refusal: what leads to it, number and word, and what more is said
unfoldable pub refusal_line : Bytes → ℕ → ℕ → ℕ → Bytes → Bytes
refusal_line lead number first second more = lead ++ refusal number first second ++ more ++ text "\n"

-- 19: what is wrong with the header
unfoldable pub header_line : Bytes → Bytes
header_line paper = refusal_line [] 19 0 0 (fault_words (fault paper))

-- 20: which entry
unfoldable pub dispatch_line : ℕ → ℕ → ℕ → Bytes
dispatch_line entry sum limit = refusal_line (labelled "entry " entry ++ text ": ") 20 sum limit []

-- 3: where, and the bytes from there on
unfoldable pub malformed_line : ℕ → Bytes → Bytes
malformed_line offset bytes = refusal_line [] 3 0 0 (labelled " at " offset ++ text ":" ++ instruction bytes)

-- 12, "arms differ": the heights of both arms. That of ENDIF's row is the one; the other ends at the ELSE of the conditional, or
-- with the IF where it has no ELSE.

-- The row of that ELSE or IF, looked for from the last of n rows back, the first of them row `from`; `inner` conditionals that
-- were closed on the way are to be opened first. Of the opcodes 63 63 67 68 51 before an ENDIF it is row 0: 68, in row 3,
-- closes one that row 1 opens.
unfoldable pub opener : Rules → Bytes → List ℕ → ℕ → ℕ → ℕ → ℕ
opener R fragment log from zero inner = from
opener R fragment log from (suc n) inner =
    let class : Class = class_in R fragment log (from + n) in
    pick (is_endif class) (opener R fragment log from n (inner + 1))
    (pick (eqb inner 0 && (is_if class || is_else class)) (from + n)
    (opener R fragment log from n (pick (is_if class) (inner - 1) inner)))

-- the main height of the other arm, by its row: IF pops one item
unfoldable pub other_main : Rules → Bytes → List ℕ → ℕ → ℕ
other_main R fragment log row = main_at log row - pick (is_if (class_in R fragment log row)) 1 0

-- both arms, where n rows come before ENDIF's
unfoldable pub arms : Rules → Bytes → List ℕ → ℕ → ℕ → Bytes
arms R fragment log from n =
    let other : ℕ = opener R fragment log from n 0 in
    labelled ": main " (main_at log (from + n)) ++ labelled " alt " (alt_at log (from + n))
    ++ labelled " against main " (other_main R fragment log other) ++ labelled " alt " (alt_at log other)

-- The verdict

-- The line after the rows of a fragment, the first of them row `from`: accepted; malformed; refused before the walk; refused at
-- the last row, with an arrow under the last digit of its offset.
unfoldable pub verdict_line : Rules → Bytes → List ℕ → ℕ → Told Heights → Bytes
verdict_line R fragment log from t =
    let a : Answer = t.answer in
    pick (eqb a.number 0) (accepted_line t.peak t.end)
    (pick (eqb a.number 3) (malformed_line a.offset (display fragment fragment a.offset 0))
    (pick (eqb t.rows 0) (refusal_line [] a.number a.first a.second [])
    (refusal_line (text "     ^ ") a.number a.first a.second
    (pick (eqb a.number 12) (arms R fragment log from (t.rows - 1)) []))))
