-- What the answers about a word stand for in the definitions of listings.
use Rattle.std.specs.Prelude.{Bool, true, false, ◌&&◌, [], ◌∷◌, ◌≡◌, ℕ, ◌+◌, ◌*◌, ◌≤◌, ◌<◌, leb, length, take, drop}
use Rattle.std.proofs.Math.Option.{Option, none, some}
use Rattle.definition.specs.Basics.{Bytes, pick}
use Rattle.definition.specs.Lines.{text}
use Rattle.definition_listings.specs.Assembling.{same, digit_read, hex_read, word_read}
use Rattle.definition_listings.specs.Shortest.{lowest_first, push_of, in_form}
use Rattle.std.specs.Prelude as R
use Rattle.std.specs.Prelude.{is_some}
use Rattle.std.specs.List.{list_all}

-- the two ways in which a word that is no name begins
abbrev pub opens : Bytes → Bool
opens w = same (take 1 w) (text "<")

abbrev pub hex_code : Bytes → Bool
hex_code w = same (take 2 w) (text "0x")

-- the value of a digit, if there is one
abbrev pub digit_option : Option ℕ → R.Option ℕ
digit_option none = R.None
digit_option (some d) = R.Some d

-- letters that are all digits
abbrev pub all_digits : Bytes → Bool
all_digits l = list_all (λ c. is_some (digit_option (digit_read c))) l

-- the letters of n bytes behind the `<` of a word
abbrev pub data_letters : Bytes → ℕ → Bytes
data_letters w n = take (2 * n) (drop 1 w)

-- w is `<`, n bytes in hexadecimal, and `>`
pub record DataWord (w : Bytes) (n : ℕ) : Type 0 where
  pub bytes : hex_read (data_letters w n) ≡ some (in_form (hex_read (data_letters w n)))
  pub letters : length w ≡ 2 * n + 2
  pub least : 1 ≤ n
  pub most : n ≤ 4294967295
  pub word : word_read w ≡ push_of (in_form (hex_read (data_letters w n)))

-- what was read of a word that is no data is what the definition reads
abbrev pub Reads : R.Option ℕ → Bytes → Type 0
Reads R.None w = word_read w ≡ none
Reads (R.Some c) w = word_read w ≡ some (c ∷ [])

-- the opcode and the length bytes in front of n bytes of data
abbrev pub head_of : ℕ → Bytes
head_of n =
    pick (leb n 0x4b) (n ∷ [])
    (pick (leb n 255) (0x4c ∷ lowest_first 1 n)
    (pick (leb n 65535) (0x4d ∷ lowest_first 2 n) (0x4e ∷ lowest_first 4 n)))

-- the bytes of a word, none of a strange one
abbrev pub bytes_of : Bytes → Bytes
bytes_of w = in_form (word_read w)

-- w is a word of n bytes, of one at least, and no longer than itself
pub record Counted (w : Bytes) (n : ℕ) : Type 0 where
  pub size : n ≡ length (bytes_of w)
  pub good : word_read w ≡ some (bytes_of w)
  pub least : 1 ≤ n
  pub most : n ≤ length w

-- how many bytes a word has, none of a strange one
abbrev pub Sized : Bytes → R.Option ℕ → Type 0
Sized w R.None = word_read w ≡ none
Sized w (R.Some n) = Counted w n
