-- What the result of the limit check stands for in the definitions.
use Rattle.std.specs.Prelude.{Result}
use Rattle.definition.specs.Refusals as D
use Rattle.refusals.specs.View.{answer_in}
use Rattle.refusals.specs.declared.Refused.{Refused}

-- the answer of the definitions: accepted, or the refusal with its number, offset and figures
abbrev pub answer_of : Result (Unit {0}) Refused → D.Answer
answer_of outcome = answer_in outcome
