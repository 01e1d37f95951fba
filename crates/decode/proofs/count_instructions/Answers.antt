use Rattle.std.proofs.Common.{rules, tests}
use Rattle.decode.proofs.Codes.{counting-next}
use Rattle.decode.proofs.count_instructions.Goals as goal

pub loop-next-preserved : goal.loop-next-preserved
loop-next-preserved c = counting-next _ _ _ c.in-Some.field-0-0 _ c.type_inv.fragment (search (rules, tests)) c.loop-next.invariant
