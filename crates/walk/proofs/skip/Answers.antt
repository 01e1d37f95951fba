use Rattle.std.proofs.Common.{rules, arith, ◌≡◌, ℕ, Ok, None, refl, sym, ap}
use Rattle.definition.specs.Classes.{class_at}
use Rattle.decode.proofs.Bytes.{slice-bytes}
use Rattle.decode.proofs.Codes.{InstructionAt}
use Rattle.walk.specs.Runs.{rules_in, stand, dead_walk, running}
use Rattle.walk.proofs.Loop.{walking-none, Met, met-if-or-notif, met-else, met-endif, met-dead, nearer, none_left, walk-runs, row_room, short_at, instruction-there, end-there, malformed-there}
use Rattle.walk.proofs.Dead.{skips-others, dead-met-at}
use Rattle.walk.proofs.skip.Goals as goal
use Rattle.walk.proofs.skip.Goals.{In-Ok-Some, After-of}

-- the instruction that is met
at : (c : In-Ok-Some) → InstructionAt c.args.code.now c.loop-instruction.place.at c.in-Ok-Some.instruction
at c = instruction-there (c.loop-instruction.invariant 0).bytes c.decode_at.ensures.same c.in-Ok-Some.is c.in-Ok-Some.field-0-is

-- what is known once its row is written and its class is read
met : (c : After-of) (peak : ℕ)
    → Met (rules_in c.args.rules) c.args.code.now c.args.log.now (stand (dead_walk c.args.place.now peak) running) c.loop-instruction.log (stand (dead_walk c.loop-instruction.place peak) running) c.log_row.new.log c.in-Ok-Some.instruction peak c.of.result
met c peak = dead-met-at (c.loop-instruction.invariant peak) (instruction-there (c.loop-instruction.invariant 0).bytes c.decode_at.ensures.same c.in-Ok-Some.is c.in-Ok-Some.field-0-is)
    c.log_row.auto.log c.log_row.ensures (ap class_at (sym c.of.ensures))

pub loop-instruction-init : goal.loop-instruction-init
loop-instruction-init c = λ peak. walking-none (slice-bytes c.args.code.now c.type_inv.code) c.requires

pub log_row-requires-clause-room : goal.log_row-requires-clause-room
log_row-requires-clause-room c = row_room (c.loop-instruction.invariant 0) (at (goal.at.log_row-requires-clause-room c).In-Ok-Some)

pub log_row-requires-clause-short : goal.log_row-requires-clause-short
log_row-requires-clause-short c = short_at (c.loop-instruction.invariant 0) (at (goal.at.log_row-requires-clause-short c).In-Ok-Some)

pub meet-requires : goal.meet-requires
meet-requires c = omega (arith, row_room (c.loop-instruction.invariant 0) (at (goal.at.meet-requires c).In-Ok-Some))

pub returns-in-If : goal.returns-in-If
returns-in-If c = λ peak.
    let m = met (goal.at.returns-in-If c).After-of peak in
    rw c.meet.ensures (walk-runs (met-if-or-notif m c.in-If.is) (λ e. omega (arith, m.walking.goes.low, m.stands.onward)))

pub returns-in-Else : goal.returns-in-Else
returns-in-Else c = λ peak. rw c.meet.ensures (walk-runs (met-else (met (goal.at.returns-in-Else c).After-of peak) c.in-Else.is) (λ e. cc))

pub returns-in-EndIf : goal.returns-in-EndIf
returns-in-EndIf c = λ peak. rw c.meet.ensures (walk-runs (met-endif (met (goal.at.returns-in-EndIf c).After-of peak) c.in-EndIf.is) (λ e. cc))

pub loop-instruction-smaller : goal.loop-instruction-smaller
loop-instruction-smaller c = rw c.meet.ensures (nearer (met (goal.at.loop-instruction-smaller c).After-of 0))

pub loop-instruction-preserved : goal.loop-instruction-preserved
loop-instruction-preserved c = λ peak.
    let d = c.in_default-of in
    rw c.meet.ensures (met-dead (met (goal.at.loop-instruction-preserved c).After-of peak) (skips-others _ _ d.not-If d.not-NotIf d.not-Else d.not-EndIf) refl)

pub returns-in_default : goal.returns-in_default
returns-in_default c = λ peak.
    let n : c.decode_at.result ≡ Ok None = search rules in
    walk-runs (none_left (c.loop-instruction.invariant peak) refl (omega arith) (end-there _ _ c.decode_at.ensures.same n)) (λ e. cc)

pub returns-in_default-2 : goal.returns-in_default-2
returns-in_default-2 c = λ peak.
    walk-runs (none_left (c.loop-instruction.invariant peak) refl (omega arith) (malformed-there _ _ c.decode_at.ensures.same c.in_default.is)) (λ e. cc)
