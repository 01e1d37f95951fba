-- A refusal in words.
use Rattle.std.specs.Prelude.{List, [], ◌∷◌, ◌++◌, ℕ, get_or}
use Prim.Native.String.{String}
use Rattle.definition.specs.Basics.{Bytes}
use Rattle.definition.specs.Lines.{text, labelled}
use Rattle.definition_listings.specs.Hex.{hex_byte}

-- a word with both figures
abbrev pub both : String → ℕ → String → ℕ → Bytes
both word first and second = labelled word first ++ labelled and second

-- a word with an opcode, in hexadecimal
abbrev pub of_opcode : String → ℕ → Bytes
of_opcode word opcode = text word ++ hex_byte opcode

-- The word of each number with its figures, from 0 on. The words of 9, 24
-- and 25 say what was wrong with the item.
abbrev pub reasons : ℕ → ℕ → List Bytes
reasons first second =
    text "accepted"
    ∷ both "long fragment: length " first ", limit " second
    ∷ both "start: sum " first ", limit " second
    ∷ text "malformed"
    ∷ both "short log: needed " first ", lent " second
    ∷ both "nesting: open " first ", limit " second
    ∷ both "stacks full: total wanted " first ", limit " second
    ∷ both "main dry: needed " first ", had " second
    ∷ text "alt dry"
    ∷ text "index: the item is unknown"
    ∷ text "tag"
    ∷ of_opcode "unmodelled: opcode " first
    ∷ text "arms differ"
    ∷ text "stray ELSE"
    ∷ text "second ELSE"
    ∷ text "stray ENDIF"
    ∷ text "open IF"
    ∷ both "opcode count: count " first ", limit " second
    ∷ both "script size: length " first ", limit " second
    ∷ text "header"
    ∷ both "dispatch: sum " first ", limit " second
    ∷ both "long paper: length " first ", limit " second
    ∷ text "tally full"
    ∷ text "bad sitting"
    ∷ text "crooked number: a needless 00 (05 00) or 80 (negative zero)"
    ∷ text "negative index: top bit of the last byte set (81 is minus 1)"
    ∷ text "strange word"
    ∷ text "output short"
    ∷ text "bad map"
    ∷ text "bad limit"
    ∷ both "long element: length " first ", limit " second
    ∷ []

-- that of one number, and nothing for a number past the table
unfoldable pub reason : ℕ → ℕ → ℕ → Bytes
reason number first second = get_or (reasons first second) number []
