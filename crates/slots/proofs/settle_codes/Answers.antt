use mathlib.Core.Path.{sym}
use native.Mathlib.Omega.{arith}
use Rattle.std.proofs.Common.{get_or}
use Rattle.slots.specs.Parts.{settled_code}
use Rattle.slots.proofs.Laws.{each_next}
use Rattle.slots.proofs.settle_codes.Goals as goal

pub loop-i-preserved : goal.loop-i-preserved
loop-i-preserved c = let i = c.loop-i.i in
    each_next _ _ c.args.from _ i (λ x. settled_code x (get_or c.args.bytes.now i 0) (get_or c.args.other.now i 0)) _ (omega arith) (omega arith) c.settled.ensures sym c.loop-i.invariant
