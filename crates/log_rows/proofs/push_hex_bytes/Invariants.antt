use Rattle.std.proofs.Common.{◌*◌, take}
use Rattle.log_rows.specs.Rows.{hex}
use Rattle.log_rows.proofs.Rows.{Grown}
use Rattle.log_rows.proofs.push_hex_bytes.Given as goal

abbrev pub invariant-loop-byte : goal.invariant-loop-byte
invariant-loop-byte g l = Grown l.initial.line.items (hex (take l.byte-index l.bytes)) l.line.items (3 * l.byte-index)
