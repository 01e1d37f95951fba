use native.Mathlib.Omega.{arith}
use borrow.Author.Rules.{rules}
use Rattle.stack.proofs.Tests.{full, fits}
use Rattle.stack.proofs.Moves.{put-there, put-other}
use Rattle.stack.proofs.Mains.{push-full, push-done}
use Rattle.stack.proofs.Stacks.push_slot.Goals as goal

pub returns-in_err-room : goal.returns-in_err-room
returns-in_err-room c = full _ _ _ _ c.room.ensures _ c.in_err-room.was _ (search rules) _ (push-full _ _ _ _ _)

pub returns : goal.returns
returns c = let s = c.args.self.now in
    let h = fits s _ _ _ c.room.ensures _ c.in_ok-room.was in
    record { same = push-done _ _ _ _ _ h c.args.limit.low _ (put-there s.bytes s.codes s.mains c.args.code c.args.bytes (omega (arith, s.sound.whole_bytes, c.args.limit.low)) (omega (arith, s.sound.whole_codes, c.args.limit.low))) (put-other s.bytes s.codes s.mains c.args.code c.args.bytes) }
