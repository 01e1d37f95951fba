use mathlib.Core.Path.{ap, sym, ◌∙◌}
use lib.ListN.{length}
use Rattle.definition.specs.Basics.{Bytes}
use Rattle.stacklog.proofs.Inputs.{input-read}
use Rattle.stacklog.proofs.logged.Goals as goal

pub returns-clause-size : goal.returns-clause-size
returns-clause-size c = c.write_log.ensures.size ∙ ap (λ (t : Bytes). length t) (sym (input-read c.args.input.now _ c.min.ensures))

pub returns-clause-written : goal.returns-clause-written
returns-clause-written c = rw (input-read c.args.input.now _ c.min.ensures) c.write_log.ensures.written
