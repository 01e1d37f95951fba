use Rattle.stack.proofs.Tests.{yields_step}
use Rattle.stack.proofs.Indices.{number-held, depth-is}
use Rattle.stack.proofs.Stacks.try_depth.Goals as goal

pub try_push-requires : goal.try_push-requires
try_push-requires c = number-held _ _ c.number_value-height.ensures

pub returns : goal.returns
returns c = yields_step c.try_push.ensures _ _ _ (λ R i g. depth-is R i _ g _ _ _ _ _ c.number_value-height.ensures c.from.ensures)
