use borrow.Author.Rules.{rules}
use Rattle.word_bytes.proofs.Writing.{data-length}
use Rattle.word_bytes.proofs.put_data.Goals as goal

pub returns : goal.returns
returns c = c.fill.ensures _ (data-length c.args.letters.now c.requires.digits) (λ place new n ran. search rules)
