-- The parts of a paper by their numbers.
use Rattle.std.specs.Prelude.{List, [], ◌∷◌, ℕ, zero, suc, ◌+◌, ◌*◌}
use Rattle.definition.specs.Basics.{Bytes}
use Rattle.definition.specs.Papers.{Part, part_at}

-- n parts from part k on: offset and length of part k stand at 4 + 6 * k, the initialiser is part 0
abbrev pub parts_from : Bytes → ℕ → ℕ → List Part
parts_from paper k zero = []
parts_from paper k (suc n) = part_at paper (4 + 6 * k) ∷ parts_from paper (k + 1) n
