-- What the tests before the walk and its beginning promise to the entry points.
use Rattle.std.specs.Prelude.{List, ◌≡◌, ℕ, ◌+◌, ◌*◌, ◌≤◌, length, Result, Ok, Err}
use Rattle.definition.specs.Basics.{Bytes}
use Rattle.definition.specs.Decoding.{decode, instructions}
use Rattle.definition.specs.Stacks.{Rules}
use Rattle.definition.specs.Walk.{live, unknowns, begin, walk, answered, analysis, refused_early}
use Rattle.refusals.specs.View.{refusal_of}
use Rattle.refusals.specs.declared.Refused.{Refused}
use Rattle.walk.specs.Runs.{arm_of}
use Rattle.walk.specs.declared.Walk.{Walk}

-- nothing is against the walk, and the analysis is the walk
pub record MayWalk (R : Rules) (s : Bytes) (main alt : ℕ) (log : List ℕ) : Type 0 where
  pub short : length s ≤ 10000
  pub low : main + alt ≤ R.limit
  pub room : 3 * length (instructions (decode s)) ≤ length log
  pub same : analysis R s main alt log ≡ answered (walk R (instructions (decode s)) (begin (unknowns main alt) log))

-- an early refusal leaves the log as lent
abbrev pub Starts : Rules → Bytes → ℕ → ℕ → List ℕ → Result (Unit {0}) Refused → Type 0
Starts R s main alt log (Ok u) = MayWalk R s main alt log
Starts R s main alt log (Err r) = analysis R s main alt log ≡ refused_early r.offset (refusal_of r.refusal) log

-- a walk that has met nothing yet, from so many unknown items
pub record Begins (main alt : ℕ) (w : Walk) : Type 0 where
  pub arm : arm_of w.stacks ≡ live (unknowns main alt)
  pub at : w.place.at ≡ 0
  pub last : w.place.last ≡ 0
  pub rows : w.place.rows ≡ 0
  pub peak : w.peak ≡ main + alt
