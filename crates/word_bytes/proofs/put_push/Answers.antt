use native.Mathlib.Omega.{arith}
use Rattle.word_bytes.proofs.Writing.{two, few, digits, push-puts}
use Rattle.word_bytes.proofs.put_push.Goals as goal

pub slice_bounds-letters-count : goal.slice_bounds-letters-count
slice_bounds-letters-count c = omega (arith, two c.args.word.now c.requires.opens c.requires.good)

pub slice_bounds-letters-start : goal.slice_bounds-letters-start
slice_bounds-letters-start c = omega (arith, two c.args.word.now c.requires.opens c.requires.good)

pub put_head-requires : goal.put_head-requires
put_head-requires c = few c.args.word.now c.requires.opens c.requires.good

pub put_data-requires : goal.put_data-requires
put_data-requires c = record { digits = digits c.args.word.now c.requires.opens c.requires.good }

pub returns : goal.returns
returns c = push-puts c.args.word.now c.requires.opens c.requires.good c.put_head.ensures c.put_data.ensures
