-- The rows of the log as `stacklog` prints them, as bytes: a line for each instruction with the heights before it, a bar of
-- their total, its bytes, and its word as a listing writes it (document 02, L4). Of the fragment `63 51 67 6a 52 68 75` from
-- main 2:
--
--   offset main  alt total |of 8            | bytes       instruction
--        0    2    0     2 |####............| 63          OpIf
--        1    1    0     1 |##..............| 51           Op1
--        2    2    0     2 |####............| 67          OpElse
--        3    1    0     1 |##..............| 6a           OpReturn
--        4 dead dead       |                | 52           Op2
--        5 dead dead       |                | 68          OpEndIf
--        6    2    0     2 |####............| 75          OpDrop
use Rattle.std.specs.Prelude.{Bool, true, false, ◌||◌, List, [], ◌∷◌, ◌++◌, ℕ, zero, suc, ◌+◌, ◌-◌, ◌*◌, ◌/◌, min, max, ltb, leb, eqb, length, take, get_or, replicate}
use Rattle.definition.specs.Basics.{Bytes, pick}
use Rattle.definition.specs.Classes.{Class, IF, NOTIF, ELSE, ENDIF, RETURN, ordinary, plain}
use Rattle.definition.specs.Decoding.{Instruction, decode, instructions}
use Rattle.definition_listings.specs.Hex.{hex_byte}
use Rattle.definition.specs.Lines.{text, decimal, labelled}
use Rattle.definition_listings.specs.Listing.{hex_bytes, data_word, code_word}
use Rattle.definition.specs.Papers.{display}
use Rattle.definition.specs.Stacks.{Rules}

-- The numbers of a row

-- "three to an instruction: offset, main height, alt height": those of row j of a log
abbrev pub offset_at : List ℕ → ℕ → ℕ
offset_at log j = get_or log (3 * j) 0

abbrev pub main_at : List ℕ → ℕ → ℕ
main_at log j = get_or log (3 * j + 1) 0

abbrev pub alt_at : List ℕ → ℕ → ℕ
alt_at log j = get_or log (3 * j + 2) 0

-- the opcode of row j, an instruction of this fragment
abbrev pub opcode_at : Bytes → List ℕ → ℕ → ℕ
opcode_at fragment log j = get_or fragment (offset_at log j) 0

-- the total of heights; a dead arm, "65,535 twice", counts 0
unfoldable pub total_of : ℕ → ℕ → ℕ
total_of main alt = pick (eqb main 65535) 0 (main + alt)

-- the greatest total of n rows, the first of them row j
abbrev pub greatest : List ℕ → ℕ → ℕ → ℕ
greatest log j zero = 0
greatest log j (suc n) = max (total_of (main_at log j) (alt_at log j)) (greatest log (j + 1) n)

-- what a whole bar stands for: the largest of 8, the peak and the greatest total
abbrev pub scale_of : ℕ → List ℕ → ℕ → ℕ → ℕ
scale_of peak log j n = max (max 8 peak) (greatest log j n)

-- Columns

-- so many blanks
abbrev pub blanks : ℕ → Bytes
blanks n = replicate n 32

-- a number at the right of a column so many places wide
unfoldable pub column : ℕ → ℕ → Bytes
column width n = blanks (width - length (decimal n)) ++ decimal n

-- how many of the 16 places of a bar are filled: n of `scale`, rounded up
abbrev pub filled : ℕ → ℕ → ℕ
filled scale n = (16 * n + scale - 1) / scale

-- the bar of a total: `#` in the filled places, `.` in the rest
unfoldable pub bar : ℕ → ℕ → Bytes
bar scale n = replicate (filled scale n) 35 ++ replicate (16 - filled scale n) 46

-- main height, alt height, the total and its bar
unfoldable pub live_heights : ℕ → ℕ → ℕ → Bytes
live_heights scale main alt =
    column 5 main ++ column 5 alt ++ column 6 (main + alt) ++ text " |" ++ bar scale (main + alt) ++ text "|"

-- the same places in a dead arm
abbrev pub dead_heights : Bytes
dead_heights = text " dead dead       |                |"

-- those of a row
abbrev pub heights : ℕ → ℕ → ℕ → Bytes
heights scale main alt = pick (eqb main 65535) dead_heights (live_heights scale main alt)

-- bytes in hexadecimal, a blank before each
abbrev pub hex : Bytes → Bytes
hex [] = []
hex (b ∷ bs) = 32 ∷ (hex_byte b ++ hex bs)

-- the bytes of an instruction: at most 4 of them, and ` ..` where it has more
unfoldable pub instruction : Bytes → Bytes
instruction bytes = hex (take 4 bytes) ++ pick (ltb 4 (length bytes)) (text " ..") []

-- in a field of 12 columns: 4 bytes are shown, of more than 4 the first 3 and ` ..`
unfoldable pub bytes_field : Bytes → Bytes
bytes_field bytes =
    pick (ltb 4 (length bytes)) (hex (take 3 bytes) ++ text " ..") (hex bytes ++ blanks (12 - 3 * length bytes))

-- Words: an instruction as a listing writes it, beside its bytes

-- the word of data; of more than 8 bytes the first 6: 01 02 03 04 05 06 07 08 09 is `<010203040506..>`
unfoldable pub shown_data : Bytes → Bytes
shown_data l = pick (ltb 8 (length l)) (text "<" ++ hex_bytes (take 6 l) ++ text "..>") (data_word l)

-- the word of an instruction, `word_of` of Listing but for long data; 00 to 4e are the data pushes
abbrev pub shown_word : Instruction → Bytes
shown_word i = pick (leb i.opcode 0x4e) (shown_data i.literal) (code_word i.opcode)

-- the word of the first of these instructions
abbrev pub first_word : List Instruction → Bytes
first_word [] = []
first_word (i ∷ is) = shown_word i

-- the word of these bytes, which are those of one instruction
unfoldable pub word : Bytes → Bytes
word bytes = first_word (instructions (decode bytes))

-- a word so far to the right, but no further than the 26 columns left for it allow: `OpEndIf` at most 19
unfoldable pub indented : ℕ → Bytes → Bytes
indented right w = blanks (min right (26 - length w)) ++ w

-- Conditionals: a word stands one blank further to the right for each that is open around it. What is one goes by the class of the
-- opcode, so that by a lent map (document 02, L6) other codes may be IF, NOTIF, ELSE and ENDIF.

-- the class of row j's opcode
abbrev pub class_in : Rules → Bytes → List ℕ → ℕ → Class
class_in R fragment log j = R.class_for (opcode_at fragment log j)

-- one of four by the class: IF or NOTIF, ELSE, ENDIF, any other
abbrev pub by_class : {X : Type 0} → Class → X → X → X → X → X
by_class IF if else endif other = if
by_class NOTIF if else endif other = if
by_class ELSE if else endif other = else
by_class ENDIF if else endif other = endif
by_class RETURN if else endif other = other
by_class (ordinary o) if else endif other = other
by_class (plain pops pushes) if else endif other = other

-- IF or NOTIF; ELSE; ENDIF
abbrev pub is_if : Class → Bool
is_if class = by_class class true false false false

abbrev pub is_else : Class → Bool
is_else class = by_class class false true false false

abbrev pub is_endif : Class → Bool
is_endif class = by_class class false false true false

-- how many are open behind an instruction, where so many are open before it
unfoldable pub depth_after : Class → ℕ → ℕ
depth_after class depth = pick (is_if class) (depth + 1) (pick (is_endif class) (depth - 1) depth)

-- how far its word stands to the right: ELSE and ENDIF under their IF
unfoldable pub indent : Class → ℕ → ℕ
indent class depth = pick (is_else class || is_endif class) (depth - 1) depth

-- Lines

-- what stands over the columns
unfoldable pub heading : ℕ → Bytes
heading scale =
    text "offset main  alt total |"
    ++ labelled "of " scale
    ++ blanks (16 - length (labelled "of " scale))
    ++ text "| bytes       instruction\n"

-- the line of an instruction: at most 80 characters
unfoldable pub row_line : ℕ → ℕ → ℕ → ℕ → ℕ → Bytes → Bytes
row_line scale offset main alt right bytes =
    column 6 offset ++ heights scale main alt ++ bytes_field bytes ++ text " " ++ indented right (word bytes) ++ text "\n"

-- the line of row j of a log by these rules, where so many conditionals are open
unfoldable pub row : Rules → Bytes → List ℕ → ℕ → ℕ → ℕ → Bytes
row R fragment log scale depth j =
    row_line scale (offset_at log j) (main_at log j) (alt_at log j) (indent (class_in R fragment log j) depth)
    (display fragment fragment (offset_at log j) 0)

-- the lines of n rows, the first of them row j
abbrev pub rows_from : Rules → Bytes → List ℕ → ℕ → ℕ → ℕ → ℕ → Bytes
rows_from R fragment log scale depth j zero = []
rows_from R fragment log scale depth j (suc n) =
    row R fragment log scale depth j ++ rows_from R fragment log scale (depth_after (class_in R fragment log j) depth) (j + 1) n

-- with what stands over the columns; nothing where there are no rows
unfoldable pub rows : Rules → Bytes → List ℕ → ℕ → ℕ → ℕ → Bytes
rows R fragment log peak j n =
    let scale : ℕ = scale_of peak log j n in
    pick (eqb n 0) [] (heading scale ++ rows_from R fragment log scale 0 j n)
