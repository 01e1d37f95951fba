-- What lent rows stand for.
use Rattle.std.specs.Prelude.{List, ◌≡◌, ℕ, ◌<◌, length, get_or}
use Rattle.definition.specs.Classes.{class_number}
use Rattle.definition.specs.Stacks.{built_in}
use Rattle.definition_rules.specs.Maps.{built_in_options, rules_by}

-- 256 rows, each a class number
pub record ClassRows (rows : List ℕ) : Type 0 where
  pub size : length rows ≡ 256
  pub below : (code : ℕ) → get_or rows code 0 < 32

-- "a table of 256 class numbers agrees with those ranges at every entry": its rows are
-- those of the ranges, its rules the built-in ones
pub record BuiltInRows (rows : List ℕ) : Type 0 where
  pub good : ClassRows rows
  pub row : (code : ℕ) → get_or rows code 0 ≡ class_number code
  pub same : rules_by rows built_in_options ≡ built_in
