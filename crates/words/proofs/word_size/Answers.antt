use borrow.Author.Rules.{rules}
use Rattle.words.proofs.Sizes.{sized-read}
use Rattle.words.proofs.word_size.Goals as goal

pub returns-else-is_data : goal.returns-else-is_data
returns-else-is_data c = sized-read c.args.word.now _ c.code_read.ensures _ (λ e. search rules) (λ n e. search rules)
