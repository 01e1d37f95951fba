use borrow.Author.Rules.{rules}
use Rattle.listing.proofs.Hex.{data-puts}
use Rattle.listing.proofs.put_data_word.Goals as goal

pub returns : goal.returns
returns c = data-puts c.args.bytes.now (λ e. search rules) c.put-2.ensures c.put_hex_bytes.ensures c.put-3.ensures
