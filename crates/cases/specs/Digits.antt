-- What characters are as digits.
use Rattle.std.specs.Prelude.{◌&&◌, List, ℕ, ◌+◌, ◌-◌, ◌*◌, leb, ltb, length, get_or, Option, Some, None}
use Rattle.definition.specs.Basics.{pick}

-- 0 to 9, the characters 48 to 57, are digits of these values
unfoldable pub decimal_digit : ℕ → Option ℕ
decimal_digit b = pick (leb 48 b && leb b 57) (Some (b - 48)) None

-- and a to f, the characters 97 to 102, are hexadecimal digits of the values 10 to 15
unfoldable pub hex_digit : ℕ → Option ℕ
hex_digit b = pick (leb 97 b && leb b 102) (Some (b - 87)) (decimal_digit b)

-- two hexadecimal digits are a byte
abbrev pub octet_of : Option ℕ → Option ℕ → Option ℕ
octet_of (Some h) (Some l) = Some (16 * h + l)
octet_of (Some h) None = None
octet_of None l = None

-- the byte whose digits stand at an index
unfoldable pub octet_at : List ℕ → ℕ → Option ℕ
octet_at line at =
    pick (ltb (at + 1) (length line)) (octet_of (hex_digit (get_or line at 0)) (hex_digit (get_or line (at + 1) 0))) None
