use mathlib.Core.Path.{sym, ◌∙◌}
use Prim.Native.Nat.{◌-◌, ◌*◌}
use native.Mathlib.Omega.{arith}
use Rattle.number_form.proofs.Numbers.{shift-positive, read-zero, read-long, read-not-minimal, read-negative, read-index}
use Rattle.number_form.proofs.number_index.Goals.{then-len-gt8-via-then-len-gt8, then-len-gt8-via-else-len-gt8+then-not-minimal}
use Rattle.number_form.proofs.number_index.Goals as goal

pub returns-then-len-eq0 : goal.returns-then-len-eq0
returns-then-len-eq0 c = search (read-zero)

pub returns-then-len-gt8 : goal.returns-then-len-gt8
returns-then-len-gt8 c = elim c.then-len-gt8.branch [
  | then-len-gt8-via-then-len-gt8 w ↦ read-long c.args.len c.args.bytes w.if-len-gt8.true
  | then-len-gt8-via-else-len-gt8+then-not-minimal w ↦ read-not-minimal c.args.len c.args.bytes w.if-len-gt8.false (sym w.minimal.ensures ∙ w.if-not-minimal.true)
]

pub returns-then-last_byte-ge128 : goal.returns-then-last_byte-ge128
returns-then-last_byte-ge128 c = let a = c.args in
    read-negative a.len a.bytes _ c.if-len-gt8.false (sym c.minimal.ensures ∙ c.if-not-minimal.false) c.last_byte.ensures c.if-last_byte-ge128.true

pub nonzero_rem-result : goal.nonzero_rem-result
nonzero_rem-result c = shift-positive (c.from.result * 8 - 1) (omega arith)

pub returns : goal.returns
returns c = let a = c.args in
    read-index a.len _ a.bytes _ (omega arith) c.if-len-gt8.false c.from.ensures (sym c.minimal.ensures ∙ c.if-not-minimal.false) c.last_byte.ensures (omega arith)
