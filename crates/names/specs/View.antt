-- What is read of a name.
use Rattle.std.specs.Prelude.{[], ◌∷◌, ℕ}
use Rattle.std.specs.Prelude as R
use Rattle.std.proofs.Math.Option.{Option, none, some}
use Rattle.definition.specs.Basics.{Bytes}

-- the code that is read of a name, if one is
abbrev pub code_option : Option Bytes → R.Option ℕ
code_option none = R.None
code_option (some []) = R.None
code_option (some (c ∷ l)) = R.Some c
