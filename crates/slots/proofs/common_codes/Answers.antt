use mathlib.Core.Path.{sym}
use native.Mathlib.Omega.{arith}
use Rattle.std.proofs.Common.{get_or}
use Rattle.slots.specs.Parts.{common_code}
use Rattle.slots.proofs.Laws.{each_next, suffice-next}
use Rattle.slots.proofs.common_codes.Goals as goal

pub loop-i-preserved : goal.loop-i-preserved
loop-i-preserved c = let i = c.loop-i.i in record {
  common = each_next _ _ c.args.from _ i (λ x. common_code x (get_or c.args.other.now i 0)) _ (omega arith) (omega arith) c.common.ensures sym c.loop-i.invariant.common;
  suffice = suffice-next c.args.from _ i _ _ _ c.loop-i.invariant.suffice c.suffices-suffice.ensures;
}
