use mathlib.Core.Path.{sym, ◌∙◌}
use Rattle.text.proofs.Puts.{puts_as}
use Rattle.words.proofs.Sizes.{head-4b}
use Rattle.word_bytes.proofs.put_head.Goals as goal

pub returns-then-n-le75 : goal.returns-then-n-le75
returns-then-n-le75 c = puts_as (sym (head-4b c.args.n c.if-n-le75.true)) c.put.ensures

pub returns-else-n-le75 : goal.returns-else-n-le75
returns-else-n-le75 c = puts_as (c.as_slice.ensures.value ∙ c.head.ensures) c.put-else-n-le75.ensures
