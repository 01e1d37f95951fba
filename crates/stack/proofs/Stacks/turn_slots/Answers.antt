use mathlib.Core.Path.{refl}
use Rattle.stack.proofs.Turns.{turned-sound, turned-placed}
use Rattle.stack.proofs.Stacks.turn_slots.Goals as goal

pub invariant_of-self : goal.invariant_of-self
invariant_of-self c = let s = c.args.self.now in
    record {
      room = s.room;
      sound = turned-sound s.bytes s.codes s.sound _ _ _ c.requires.0 c.requires.1 _ c.rotate_left.ensures.after _ c.rotate_left-2.ensures.after;
    }

pub returns : goal.returns
returns c = let s = c.args.self.now in
    record {
      mains = refl;
      alts = refl;
      placed = turned-placed s.bytes s.codes s.sound _ _ _ c.requires.0 c.requires.1 _ c.rotate_left.ensures.after _ c.rotate_left-2.ensures.after;
    }
