-- The tables of names that the code reads, by the names of the definition.
use Rattle.std.specs.Prelude.{Bool, true, ◌&&◌, List, [], ◌∷◌, ◌++◌, ℕ, zero, suc, ◌+◌, ◌-◌, ◌*◌, ◌/◌, ◌%◌, leb, eqb, length, take, drop, get_or}
use Rattle.definition.specs.Basics.{Bytes}
use Rattle.definition_listings.specs.Assembling.{same}
use Rattle.definition_listings.specs.OpcodeNames.{Named, name_table, name_of}

-- the names of so many codes, from a code on, one after another
abbrev pub letters_from : ℕ → ℕ → Bytes
letters_from zero code = []
letters_from (suc count) code = name_of code ++ letters_from count (suc code)

-- the names of the 256 codes
unfoldable pub all_letters : Bytes
all_letters = letters_from 256 0

-- the name of a code: the letters from its start to the start of the next code's
abbrev pub name_at : List ℕ → ℕ → Bytes
name_at starts code = take (get_or starts (suc code) 0 - get_or starts code 0) (drop (get_or starts code 0) all_letters)

-- the starts lie within the letters, one not before the other, and between them stands the name
abbrev pub name_right : List ℕ → ℕ → Bool
name_right starts code =
    leb (get_or starts code 0) (get_or starts (suc code) 0)
    && leb (get_or starts (suc code) 0) (length all_letters)
    && same (name_at starts code) (name_of code)

-- at so many codes, from a code on
abbrev pub names_right : List ℕ → ℕ → ℕ → Bool
names_right starts zero code = true
names_right starts (suc count) code = name_right starts code && names_right starts count (suc code)

unfoldable pub starts_right : List ℕ → Bool
starts_right starts = eqb (length starts) 257 && names_right starts 256 0

-- the place of a word in the table of codes: by its length and four of its letters
unfoldable pub place_of : Bytes → ℕ
place_of w =
    (349 * (length w % 512 + get_or w (length w - 1) 0) + 231 * get_or w (length w / 2) 0 + 259 * get_or w (length w / 3) 0 + 470 * get_or w (length w * 2 / 3) 0)
    % 512

-- at the place of each of these names stands its code
abbrev pub names_placed : List ℕ → List Named → Bool
names_placed codes [] = true
names_placed codes (n ∷ l) = eqb (get_or codes (place_of n.name) 0) n.code && names_placed codes l

unfoldable pub codes_right : List ℕ → Bool
codes_right codes = eqb (length codes) 512 && names_placed codes name_table
