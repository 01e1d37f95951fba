use borrow.Author.Rules.{rules}
use Rattle.listing.proofs.Hex.{hex-length}
use Rattle.listing.proofs.put_hex_bytes.Goals as goal

pub returns : goal.returns
returns c = c.fill.ensures _ (hex-length c.args.bytes.now) (λ place new n ran. search rules)
