use native.Mathlib.Omega.{arith}
use Rattle.places.proofs.Sittings.{counts-more}
use Rattle.places.proofs.write_sitting.Goals as goal

pub loop-k-preserved : goal.loop-k-preserved
loop-k-preserved c = (counts-more _ _ _ _ c.loop-k.invariant.0 (omega arith) _ c.from-in-loop-k.ensures, omega arith)
