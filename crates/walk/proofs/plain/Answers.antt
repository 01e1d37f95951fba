use Rattle.std.proofs.Common.{rules, arith, ◌≡◌, None, Ok, Err, refl, sym, ap}
use Rattle.definition.specs.Classes.{class_at}
use Rattle.definition.specs.Stacks.{step}
use Rattle.decode.proofs.Bytes.{slice-bytes}
use Rattle.decode.proofs.Codes.{InstructionAt}
use Rattle.opcodes.specs.declared.Class.TheVariants as C
use Rattle.walk.specs.Runs.{rules_in, stand, running}
use Rattle.walk.proofs.Rows.{total-live}
use Rattle.walk.proofs.Loop.{walking-none, Met, living, live-met, Did, did-by, does-nothing, unmodelled-refused, met-if-or-notif, met-else, met-endif, met-return, met-operated, nearer, steps-by, data-within, pushes-long, pushes-unknown, pushes-known, none_left, walk-runs, then-runs, refused-runs, room-on, row_room, short_at, instruction-there, end-there, malformed-there}
use Rattle.walk.proofs.Dead.{dead-runs}
use Rattle.walk.proofs.plain.Goals as goal
use Rattle.walk.proofs.plain.Goals.{In-Ok-Some, After-of, Joined-of, in-Nothing, in-Push+in-Unknown+else-too_long, in-Push+in_default-literal, in-ToAlt, in-FromAlt, in-Depth, in-Size, in-Nip, in-Tuck, in-Pick, in-Roll, in-Zk, in-Dup, in-TwoDup, in-ThreeDup, in-Over, in-TwoOver, in-Rot, in-TwoRot, in-Swap, in-TwoSwap, in-Effect10, in-Effect20, in-Effect01, in-Effect11, in-Effect31, in-Effect21}

-- the instruction that is met
at : (c : In-Ok-Some) → InstructionAt c.args.code.now c.loop-instruction.w.1.1.0.at c.in-Ok-Some.instruction
at c = instruction-there c.loop-instruction.invariant.bytes c.decode_at.ensures.same c.in-Ok-Some.is c.in-Ok-Some.field-0-is

-- what is known once its row is written and its class is read
met : (c : After-of) → let w = c.loop-instruction.w.1.1 in
    Met (rules_in c.args.rules) c.args.code.now c.args.log.now (stand c.args.w.now running) c.loop-instruction.log (living c.loop-instruction.stacks w.0 w.1.0) c.log_row.new.log c.in-Ok-Some.instruction c.max-w.result c.of.result
met c = live-met _ _ c.loop-instruction.invariant (instruction-there c.loop-instruction.invariant.bytes c.decode_at.ensures.same c.in-Ok-Some.is c.in-Ok-Some.field-0-is) c.log_row.auto.log c.log_row.ensures c.max-w.ensures (ap class_at (sym c.of.ensures))

-- the same where an operation of the stacks was called
called : (c : Joined-of) → let w = c.loop-instruction.w.1.1 in
    Met (rules_in c.args.rules) c.args.code.now c.args.log.now (stand c.args.w.now running) c.loop-instruction.log (living c.loop-instruction.stacks w.0 w.1.0) c.log_row.new.log c.in-Ok-Some.instruction c.max-w.result c.of.result
called c = live-met _ _ c.loop-instruction.invariant (instruction-there c.loop-instruction.invariant.bytes c.decode_at.ensures.same c.in-Ok-Some.is c.in-Ok-Some.field-0-is) c.log_row.auto.log c.log_row.ensures c.max-w.ensures (ap class_at (sym c.of.ensures))

-- whichever it was, it did what the class says
did : (c : Joined-of) → Did (called c) c.of.result c.match-of.answer c.match-of.stacks c.loop-instruction.stacks
unfolding step
did c =
    let x = c.loop-instruction.stacks in
    let m = called c in
    elim c.match-of.branch [
      | in-Nothing w ↦ did-by m C.Nothing w.in-Nothing.is x _ _ w.answer-is w.stacks-is (does-nothing m x)
      | in-Push+in-Unknown+else-too_long w ↦ did-by m C.Push w.in-Push.is x _ _ w.answer-is w.stacks-is (pushes-unknown m w.in-Unknown.is _ (rw c.meet.ensures at w.too_long.ensures) w.if-too_long.false x w.try_push.ensures)
      | in-Push+in_default-literal w ↦ did-by m C.Push w.in-Push.is x _ _ w.answer-is w.stacks-is (pushes-known m w.in_default-literal.not-Unknown x w.try_push-in_default-literal.ensures)
      | in-ToAlt w ↦ did-by m C.ToAlt w.in-ToAlt.is x _ _ w.answer-is w.stacks-is (tt, w.try_move_to_alt-answer.ensures)
      | in-FromAlt w ↦ did-by m C.FromAlt w.in-FromAlt.is x _ _ w.answer-is w.stacks-is (tt, w.try_move_from_alt-answer.ensures)
      | in-Depth w ↦ did-by m C.Depth w.in-Depth.is x _ _ w.answer-is w.stacks-is (tt, steps-by m _ x w.try_depth-answer.ensures)
      | in-Size w ↦ did-by m C.Size w.in-Size.is x _ _ w.answer-is w.stacks-is (tt, steps-by m _ x w.try_size-answer.ensures)
      | in-Nip w ↦ did-by m C.Nip w.in-Nip.is x _ _ w.answer-is w.stacks-is (tt, w.try_nip-answer.ensures)
      | in-Tuck w ↦ did-by m C.Tuck w.in-Tuck.is x _ _ w.answer-is w.stacks-is (tt, w.try_tuck-answer.ensures)
      | in-Pick w ↦ did-by m C.Pick w.in-Pick.is x _ _ w.answer-is w.stacks-is (tt, steps-by m _ x w.try_pick-answer.ensures)
      | in-Roll w ↦ did-by m C.Roll w.in-Roll.is x _ _ w.answer-is w.stacks-is (tt, w.try_roll-answer.ensures)
      | in-Zk w ↦ did-by m C.Zk w.in-Zk.is x _ _ w.answer-is w.stacks-is (tt, steps-by m _ x w.try_zk-answer.ensures)
      | in-Dup w ↦ did-by m C.Dup w.in-Dup.is x _ _ w.answer-is w.stacks-is (tt, w.try_extend_from_within-answer.ensures)
      | in-TwoDup w ↦ did-by m C.TwoDup w.in-TwoDup.is x _ _ w.answer-is w.stacks-is (tt, w.try_extend_from_within-answer-in-TwoDup.ensures)
      | in-ThreeDup w ↦ did-by m C.ThreeDup w.in-ThreeDup.is x _ _ w.answer-is w.stacks-is (tt, w.try_extend_from_within-answer-in-ThreeDup.ensures)
      | in-Over w ↦ did-by m C.Over w.in-Over.is x _ _ w.answer-is w.stacks-is (tt, w.try_extend_from_within-answer-in-Over.ensures)
      | in-TwoOver w ↦ did-by m C.TwoOver w.in-TwoOver.is x _ _ w.answer-is w.stacks-is (tt, w.try_extend_from_within-answer-in-TwoOver.ensures)
      | in-Rot w ↦ did-by m C.Rot w.in-Rot.is x _ _ w.answer-is w.stacks-is (tt, w.try_rotate_left-answer.ensures)
      | in-TwoRot w ↦ did-by m C.TwoRot w.in-TwoRot.is x _ _ w.answer-is w.stacks-is (tt, w.try_rotate_left-answer-in-TwoRot.ensures)
      | in-Swap w ↦ did-by m C.Swap w.in-Swap.is x _ _ w.answer-is w.stacks-is (tt, w.try_rotate_left-answer-in-Swap.ensures)
      | in-TwoSwap w ↦ did-by m C.TwoSwap w.in-TwoSwap.is x _ _ w.answer-is w.stacks-is (tt, w.try_rotate_left-answer-in-TwoSwap.ensures)
      | in-Effect10 w ↦ did-by m C.Effect10 w.in-Effect10.is x _ _ w.answer-is w.stacks-is (tt, w.try_apply_effect-answer.ensures)
      | in-Effect20 w ↦ did-by m C.Effect20 w.in-Effect20.is x _ _ w.answer-is w.stacks-is (tt, w.try_apply_effect-answer-in-Effect20.ensures)
      | in-Effect01 w ↦ did-by m C.Effect01 w.in-Effect01.is x _ _ w.answer-is w.stacks-is (tt, w.try_apply_effect-answer-in-Effect01.ensures)
      | in-Effect11 w ↦ did-by m C.Effect11 w.in-Effect11.is x _ _ w.answer-is w.stacks-is (tt, w.try_apply_effect-answer-in-Effect11.ensures)
      | in-Effect31 w ↦ did-by m C.Effect31 w.in-Effect31.is x _ _ w.answer-is w.stacks-is (tt, w.try_apply_effect-answer-in-Effect31.ensures)
      | in-Effect21 w ↦ did-by m C.Effect21 w.in-Effect21.is x _ _ w.answer-is w.stacks-is (tt, w.try_apply_effect-answer-in-Effect21.ensures)
    ]

pub loop-instruction-init : goal.loop-instruction-init
loop-instruction-init c = rw (← c.in-Some.is) (walking-none (slice-bytes c.args.code.now c.type_inv.code) c.requires)

pub returns-in_default : goal.returns-in_default
returns-in_default c = dead-runs c.args.w.now _ c.in_default.is (search rules) (c.skip.ensures c.args.w.now.peak)

pub log_row-requires-clause-room : goal.log_row-requires-clause-room
log_row-requires-clause-room c = omega (arith, row_room c.loop-instruction.invariant (at (goal.at.log_row-requires-clause-room c).In-Ok-Some))

pub log_row-requires-clause-short : goal.log_row-requires-clause-short
log_row-requires-clause-short c = short_at c.loop-instruction.invariant (at (goal.at.log_row-requires-clause-short c).In-Ok-Some)

pub meet-requires : goal.meet-requires
meet-requires c = omega (arith, row_room c.loop-instruction.invariant (at (goal.at.meet-requires c).In-Ok-Some))

pub returns-in_default-decode_at : goal.returns-in_default-decode_at
returns-in_default-decode_at c =
    let n : c.decode_at.result ≡ Ok None = search rules in
    walk-runs (none_left c.loop-instruction.invariant refl (rw total-live c.max-w.ensures) (end-there _ _ c.decode_at.ensures.same n)) (λ e. cc)

pub returns-in_default-decode_at-2 : goal.returns-in_default-decode_at-2
returns-in_default-decode_at-2 c =
    walk-runs (none_left c.loop-instruction.invariant refl (rw total-live c.max-w.ensures) (malformed-there _ _ c.decode_at.ensures.same c.in_default-decode_at.is)) (λ e. cc)

pub returns-in-Unmodelled : goal.returns-in-Unmodelled
returns-in-Unmodelled c =
    let m = met (goal.at.returns-in-Unmodelled c).After-of in
    rw c.meet.ensures (walk-runs (met-operated m _ refl _ _ (unmodelled-refused m c.in-Unmodelled.is c.loop-instruction.stacks)) (λ e. cc))

pub returns-in-If : goal.returns-in-If
returns-in-If c =
    let m = met (goal.at.returns-in-If c).After-of in
    rw c.meet.ensures (walk-runs (met-if-or-notif m c.in-If.is) (λ e. omega (arith, m.walking.goes.low, m.stands.onward)))

pub returns-in-Else : goal.returns-in-Else
returns-in-Else c = rw c.meet.ensures (walk-runs (met-else (met (goal.at.returns-in-Else c).After-of) c.in-Else.is) (λ e. cc))

pub returns-in-EndIf : goal.returns-in-EndIf
returns-in-EndIf c = rw c.meet.ensures (walk-runs (met-endif (met (goal.at.returns-in-EndIf c).After-of) c.in-EndIf.is) (λ e. cc))

pub skip-requires-in-Return : goal.skip-requires-in-Return
skip-requires-in-Return c = rw c.meet.ensures (room-on (met-return (met (goal.at.skip-requires-in-Return c).After-of) c.in-Return.is))

pub returns-in-Return : goal.returns-in-Return
returns-in-Return c = then-runs (rw c.meet.ensures (met-return (met (goal.at.returns-in-Return c).After-of) c.in-Return.is)) (c.skip-in-Return.ensures _)

pub too_long-requires : goal.too_long-requires
too_long-requires c = rw c.meet.ensures (data-within (met (goal.at.too_long-requires c).After-of) c.in-Unknown.is)

pub data_size-size-requires : goal.data_size-size-requires
data_size-size-requires c = rw c.meet.ensures (data-within (met (goal.at.data_size-size-requires c).After-of) c.in-Unknown.is)

pub returns-then-too_long : goal.returns-then-too_long
returns-then-too_long c =
    let m = met (goal.at.returns-then-too_long c).After-of in
    let t = rw c.meet.ensures at c.too_long.ensures in
    let z = rw c.meet.ensures at c.data_size-size.ensures in
    rw c.meet.ensures (walk-runs (met-operated m _ refl _ _ (pushes-long m c.in-Unknown.is _ t c.in-Push.is c.loop-instruction.stacks c.if-too_long.true _ z)) (λ e. cc))

pub try_push-requires-in_default-literal : goal.try_push-requires-in_default-literal
try_push-requires-in_default-literal c = (met (goal.at.try_push-requires-in_default-literal c).After-of).stands.held

pub returns-in_err-answer : goal.returns-in_err-answer
returns-in_err-answer c =
    let j = (goal.at.returns-in_err-answer c).Joined-of in
    let e : c.from_residual.result ≡ Err c.in_err-answer.field-0.0 = search rules in
    rw c.meet.ensures (refused-runs _ c.in_err-answer.was e (met-operated (called j) _ refl _ _ (did j)))

pub loop-instruction-smaller : goal.loop-instruction-smaller
loop-instruction-smaller c = rw c.meet.ensures (nearer (called (goal.at.loop-instruction-smaller c).Joined-of))

pub loop-instruction-preserved : goal.loop-instruction-preserved
loop-instruction-preserved c =
    let j = (goal.at.loop-instruction-preserved c).Joined-of in
    rw c.meet.ensures (rw c.in_ok-answer.was at (met-operated (called j) _ refl _ _ (did j)))
