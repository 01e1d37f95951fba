use borrow.Author.Rules.{rules}
use Rattle.text.proofs.Puts.{puts_as}
use Rattle.listing.proofs.Named.{unmodelled-word}
use Rattle.listing.proofs.put_code_word.Goals as goal

pub returns-then-is_unmodelled : goal.returns-then-is_unmodelled
returns-then-is_unmodelled c =
    puts_as (unmodelled-word c.args.opcode _ _ (search rules) (search rules) c.hex_digit.ensures c.hex_digit-then-is_unmodelled.ensures) c.put.ensures
