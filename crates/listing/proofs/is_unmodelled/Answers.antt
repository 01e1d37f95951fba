use borrow.Author.Rules.{rules}
use mathlib.Core.Path.{◌≡◌, ◌∙◌}
use mathlib.Core.Bool.{false}
use Rattle.listing.proofs.Named.{named}
use Rattle.listing.proofs.is_unmodelled.Goals as goal

pub returns-else-is_empty : goal.returns-else-is_empty
returns-else-is_empty c =
    let no : c.is_empty.result ≡ false = search rules in
    no ∙ named c.args.opcode c.args.name.now (search rules) c.requires (λ e. search rules)
