-- Numbers in decimal.
use Rattle.std.specs.Prelude.{◌&&◌, List, [], ◌∷◌, ℕ, ◌^◌, ltb, eqb, length, Option, Some, None}
use Rattle.std.specs.List.{slice_split}
use Rattle.std.specs.Str.{all_ascii_digits}
use Rattle.std.specs.Str.Parse.{digits_value}
use Rattle.definition.specs.Basics.{pick}

-- a text of one decimal digit or more, and of nothing else, is a number if it is below 2^32
unfoldable pub decimal : List ℕ → Option ℕ
decimal text =
    pick (all_ascii_digits text && ltb 0 (length text) && ltb (digits_value 10 text) (2 ^ 32)) (Some (digits_value 10 text)) None

-- one number more
abbrev pub with_number : Option ℕ → Option (List ℕ) → Option (List ℕ)
with_number (Some n) (Some l) = Some (n ∷ l)
with_number (Some n) None = None
with_number None l = None

-- the numbers of texts, if each is one
abbrev pub decimals : List (List ℕ) → Option (List ℕ)
decimals [] = Some []
decimals (text ∷ texts) = with_number (decimal text) (decimals texts)

-- the texts of a line, parted by spaces
abbrev pub texts_of : List ℕ → List (List ℕ)
texts_of line = slice_split (λ b. eqb b 32) line

-- the numbers of a line, if they are so many
unfoldable pub numbers_in : ℕ → List ℕ → Option (List ℕ)
numbers_in n line = pick (eqb (length (texts_of line)) n) (decimals (texts_of line)) None
