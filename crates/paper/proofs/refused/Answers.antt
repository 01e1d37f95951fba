use borrow.Author.Rules.{rules}
use Rattle.refusals.specs.View.{refusal_of}
use Rattle.paper.specs.View.{paper_of}
use Rattle.paper.proofs.Markings.{holds-refused}
use Rattle.paper.proofs.refused.Goals as goal

pub returns : goal.returns
unfolding paper_of
returns c = holds-refused c.args.entry (refusal_of c.args.refusal) _ (search rules) (search rules)
