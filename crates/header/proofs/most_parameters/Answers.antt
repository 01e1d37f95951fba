use Rattle.std.proofs.Common.{rules}
use Rattle.header.proofs.Entries.{greatest-more}
use Rattle.header.proofs.most_parameters.Goals as goal

pub loop-k-preserved : goal.loop-k-preserved
loop-k-preserved c = search (greatest-more, rules)
