use Rattle.std.proofs.Common.{rules, arith, ◌≡◌, Ok, Err}
use Rattle.definition.specs.Stacks.{built_in}
use Rattle.walk.specs.declared.ArmEnd.TheVariants.{Else}
use Rattle.arms.proofs.Cycle.{ready_on, ready-there, at-there, one_deeper, not_entered, first_refused, one_arm, second_refused, two-arms}
use Rattle.arms.proofs.+arm_conditional.Goals as goal

pub conditional-returns-in_err-enter : goal.conditional-returns-in_err-enter
conditional-returns-in_err-enter t c =
    let e : c.from_residual.result ≡ Err c.in_err-enter.field-0.0 = search rules in
    rw e (not_entered c.requires.ready (c.enter.ensures _ _) _ c.in_err-enter.was)

pub conditional-arm-requires : goal.conditional-arm-requires
conditional-arm-requires t c =
    let e = c.enter.ensures built_in c.args.code.now in
    (omega (arith, c.decreases, at-there e.stays), (ready-there c.requires.ready e.stays, one_deeper c.requires.ready e c.in_ok-enter.was))

pub conditional-returns-in_err-end : goal.conditional-returns-in_err-end
conditional-returns-in_err-end t c =
    let e : c.from_residual-in_err-end.result ≡ Err c.in_err-end.field-0.0 = search rules in
    rw e (first_refused c.requires.ready (c.enter.ensures _ _) c.in_ok-enter.was c.arm.ensures _ c.in_err-end.was)

pub conditional-arm-requires-in-Else : goal.conditional-arm-requires-in-Else
conditional-arm-requires-in-Else t c =
    let e = c.enter.ensures built_in c.args.code.now in
    let r = ready-there c.requires.ready e.stays in
    (omega (arith, c.decreases, at-there e.stays, c.arm.ensures.goes.low), (ready_on r c.arm.ensures.goes c.arm.auto.log, one_deeper c.requires.ready e c.in_ok-enter.was))

pub conditional-returns-in_err-end-in-Else : goal.conditional-returns-in_err-end-in-Else
conditional-returns-in_err-end-in-Else t c =
    let e : c.from_residual-in_err-end-in-Else.result ≡ Err c.in_err-end-in-Else.field-0.0 = search rules in
    let else : c.arm.result ≡ Ok Else = rw c.in-Else.is at c.in_ok-end.was in
    let other = rw c.swap.ensures.x_after at c.arm-in-Else.ensures in
    rw e (second_refused c.requires.ready (c.enter.ensures _ _) c.in_ok-enter.was c.arm.ensures else other _ c.in_err-end-in-Else.was)

pub conditional-returns-in_ok-end-in-Else : goal.conditional-returns-in_ok-end-in-Else
conditional-returns-in_ok-end-in-Else t c =
    let else : c.arm.result ≡ Ok Else = rw c.in-Else.is at c.in_ok-end.was in
    let other = rw c.swap.ensures.x_after at c.arm-in-Else.ensures in
    two-arms c.requires.ready (c.enter.ensures _ _) c.in_ok-enter.was c.arm.ensures else other _ c.in_ok-end-in-Else.was (search rules) (c.finish.ensures _ _)

pub conditional-returns-in_default : goal.conditional-returns-in_default
conditional-returns-in_default t c =
    one_arm c.requires.ready (c.enter.ensures _ _) c.in_ok-enter.was c.arm.ensures _ c.in_ok-end.was c.in_default.not-Else (c.finish-in_default.ensures _ _)
