use Rattle.std.proofs.Common.{rules, arith, ◌+◌, ◌*◌, ◌^◌, ◌<◌}
use Rattle.decode.proofs.Bytes.{slice-bytes}
use Rattle.decode.proofs.Numbers.{below-none, turn, turn-fits}
use Rattle.decode.proofs.number.Goals as goal
use Rattle.decode.proofs.number.Goals.{After-from}

fits : (c : After-from) → c.from.result + c.loop-byte.number * 256 < 2 ^ 64
fits c = let a = c.args.bytes.now in
    rw c.from.ensures (turn-fits a _ c.next.new.self.iter.rest.now _ _ c.in-Some.ensures.steps c.loop-byte.invariant (slice-bytes a c.type_inv.bytes) c.requires)

pub loop-byte-init : goal.loop-byte-init
loop-byte-init c = search (rules, below-none)

pub overflow_mul-number : goal.overflow_mul-number
overflow_mul-number c = omega (arith, fits (goal.at.overflow_mul-number c).After-from)

pub overflow_add-number : goal.overflow_add-number
overflow_add-number c = omega (arith, fits (goal.at.overflow_add-number c).After-from)

pub loop-byte-preserved : goal.loop-byte-preserved
loop-byte-preserved c =
    rw c.from.ensures (turn _ _ c.next.new.self.iter.rest.now _ _ c.in-Some.ensures.steps c.loop-byte.invariant)
