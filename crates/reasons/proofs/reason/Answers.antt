use native.Mathlib.Omega.{arith}
use mathlib.Core.Path.{◌∙◌}
use Rattle.reasons.proofs.Texts.{past}
use Rattle.reasons.proofs.reason.Goals as goal

pub returns-in_default : goal.returns-in_default
returns-in_default c = c.new.ensures ∙ past _ _ _ (omega arith)
