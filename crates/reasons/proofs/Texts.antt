-- A number past the table has no words.
use mathlib.Core.List.{[]}
use mathlib.Core.Path.{◌≡◌, sym}
use Prim.Native.Nat.{ℕ, ◌<◌}
use lib.ListN.{get_or-eq_default}
use Rattle.definition.specs.Refusals.{greatest_number}
use Rattle.reasons.specs.Reasons.{reasons, reason}

pub past : (number first second : ℕ) → greatest_number < number → [] ≡ reason number first second
unfolding reason
past number first second h = sym (get_or-eq_default (reasons first second) [] h)
