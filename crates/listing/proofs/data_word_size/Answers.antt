use borrow.Author.Rules.{rules}
use Rattle.listing.proofs.Hex.{data-some}
use Rattle.listing.proofs.data_word_size.Goals as goal

pub returns-else-is_empty : goal.returns-else-is_empty
returns-else-is_empty c = data-some c.args.bytes.now (λ e. search rules)
