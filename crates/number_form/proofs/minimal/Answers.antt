use native.Mathlib.Omega.{arith}
use Rattle.number_form.proofs.Numbers.{minimal-last, minimal-before}
use Rattle.number_form.proofs.minimal.Goals as goal

pub returns-then-last_byte-ne0 : goal.returns-then-last_byte-ne0
returns-then-last_byte-ne0 c = search (minimal-last)

pub returns-then-len-gt1 : goal.returns-then-len-gt1
returns-then-len-gt1 c = let a = c.args in
    minimal-before a.len a.bytes c.last_byte.result _ c.last_byte.ensures (omega arith) (omega arith) (omega arith) c.last_byte-then-len-gt1.ensures
