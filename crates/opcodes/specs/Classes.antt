-- What the classes of lent rows stand for.
use Rattle.std.specs.Prelude.{List, ℕ}
use Rattle.opcodes.specs.declared.Classes.{Classes}

-- the rows, each a class number
abbrev pub rows_of : Classes → List ℕ
rows_of c = c.rows.now
