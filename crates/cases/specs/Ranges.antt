-- Where what was read lies.
use Rattle.std.specs.Prelude.{List, ℕ, ◌≡◌, ◌-◌, ◌<◌, length, drop}

-- what is left of a line stands at its end, and is shorter
pub record IsBehind (line rest : List ℕ) : Type 0 where
  pub shorter : length rest < length line
  pub is : rest ≡ drop (length line - length rest) line
