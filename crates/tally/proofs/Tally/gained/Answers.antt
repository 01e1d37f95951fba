use Rattle.tally.proofs.Laws.{gained-is}
use Rattle.tally.proofs.Tally.gained.Goals as goal

pub returns : goal.returns
returns c = rw c.ok_or.ensures.value (gained-is _ _ _ _ _ c.counted.ensures)
