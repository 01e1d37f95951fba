use mathlib.Core.Path.{◌∙◌}
use Rattle.stack.proofs.Indices.{size-value}
use Rattle.stack.proofs.Stacks.size_value.Goals as goal

pub returns-else-code-eq-UNKNOWN : goal.returns-else-code-eq-UNKNOWN
returns-else-code-eq-UNKNOWN c = λ n. size-value c.args.code n _ _ c.if-code-eq-UNKNOWN.false (c.from.ensures ∙ c.code_length.ensures) c.number_value.ensures
