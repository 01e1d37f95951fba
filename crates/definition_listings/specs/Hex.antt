-- Bytes in hexadecimal, as bytes of a text.
use Rattle.std.specs.Prelude.{[], ◌∷◌, ℕ, ◌+◌, ◌/◌, ◌%◌, ltb}
use Rattle.definition.specs.Basics.{Bytes, pick}

-- a hexadecimal digit; 48 is the code of 0, and 97 that of a
abbrev pub hex_digit : ℕ → ℕ
hex_digit d = pick (ltb d 10) (48 + d) (87 + d)

-- a byte in hexadecimal with two digits; of a greater number the last two
abbrev pub hex_byte : ℕ → Bytes
hex_byte n = hex_digit (n / 16 % 16) ∷ hex_digit (n % 16) ∷ []
