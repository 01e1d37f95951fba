-- A tally's four counters.
use mathlib.Core.List.{[], ◌∷◌}
use mathlib.Core.Path.{◌≡◌, ap}
use Prim.Native.Nat.{ℕ}
use Rattle.definition.specs.Walk as W
use Rattle.tally.proofs.Laws.{unchanged}
use Rattle.places.specs.View.{tally_from, tally_numbers}

-- "22 leaves the tally unchanged": so does what the contract of `listochur_gain` says
pub gain-as-lent : (fragments accepts rows peak : ℕ) (v : W.Verdict) → let lent = fragments ∷ accepts ∷ rows ∷ peak ∷ [] in
    (W.gain (tally_from lent) v).answer.number ≡ 22 → tally_numbers (W.gain (tally_from lent) v).tally ≡ lent
gain-as-lent fragments accepts rows peak v h = ap tally_numbers (unchanged _ v h)
