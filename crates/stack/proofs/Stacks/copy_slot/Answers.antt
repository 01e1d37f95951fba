use mathlib.Core.Path.{refl}
use native.Mathlib.Omega.{arith}
use Rattle.stack.proofs.Moves.{copied-one}
use Rattle.stack.proofs.Stacks.copy_slot.Goals as goal

pub returns : goal.returns
returns c = let s = c.args.self.now in
    record { mains = refl; alts = refl; placed = copied-one _ _ _ _ (omega (arith, s.sound.whole_bytes)) (omega (arith, s.sound.whole_codes)) }
