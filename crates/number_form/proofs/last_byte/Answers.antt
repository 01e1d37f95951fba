use Rattle.number_form.proofs.Numbers.{last_of}
use Rattle.number_form.proofs.last_byte.Goals as goal

pub returns : goal.returns
returns c = search (last_of)
