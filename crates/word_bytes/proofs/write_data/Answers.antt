use native.Mathlib.Omega.{arith}
use Rattle.word_bytes.proofs.Writing.{high-fits, low-fits, data-next, data-all}
use Rattle.word_bytes.proofs.write_data.Goals as goal

pub overflow_mul-place : goal.overflow_mul-place
overflow_mul-place c =
    omega (arith, high-fits c.args.letters.now c.requires.digits c.args.place.now c.requires.room c.loop-j.j c.loop-j-test.true c.digit_value.result c.digit_value.ensures)

pub overflow_add-place : goal.overflow_add-place
overflow_add-place c =
    let l = c.args.letters.now in
    omega (
      arith,
      high-fits l c.requires.digits c.args.place.now c.requires.room c.loop-j.j c.loop-j-test.true c.digit_value.result c.digit_value.ensures,
      low-fits l c.requires.digits c.args.place.now c.requires.room c.loop-j.j c.loop-j-test.true c.digit_value-in-loop-j.result c.digit_value-in-loop-j.ensures,
    )

pub loop-j-preserved : goal.loop-j-preserved
loop-j-preserved c =
    data-next c.args.letters.now c.requires.digits c.args.place.now c.requires.room c.loop-j.j c.loop-j-test.true c.loop-j.place c.digit_value.result c.digit_value-in-loop-j.result
    c.digit_value.ensures c.digit_value-in-loop-j.ensures c.loop-j.invariant

pub returns : goal.returns
returns c = data-all c.args.letters.now c.requires.digits c.args.place.now c.loop-j.place c.loop-j.j c.requires.room (omega (arith, c.loop-j-test.false, c.loop-j.auto.j-end)) c.loop-j.invariant
