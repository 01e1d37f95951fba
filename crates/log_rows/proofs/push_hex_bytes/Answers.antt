use Rattle.log_rows.proofs.Rows.{hex-more}
use Rattle.log_rows.proofs.push_hex_bytes.Goals as goal

pub loop-byte-preserved : goal.loop-byte-preserved
loop-byte-preserved g c = hex-more c.args.bytes.now c.loop-byte.byte-index c.loop-byte.invariant c.loop-byte-test.true c.push_word.ensures.items c.push_hex.ensures.items
