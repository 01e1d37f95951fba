use Rattle.arms.proofs.Joins.{finishes-endif}
use Rattle.arms.proofs.finish.Goals as goal

pub returns-in-Endif : goal.returns-in-Endif
returns-in-Endif c = λ R s. rw c.in-Endif.is (finishes-endif R s _ _ _ _ (c.close.ensures R s))
