use Rattle.log_rows.proofs.Words.{data-cut, data-short}
use Rattle.log_rows.proofs.put_shown_data.Goals as goal

pub returns-then-bytes-gt8 : goal.returns-then-bytes-gt8
returns-then-bytes-gt8 c = data-cut c.args.bytes.now c.if-bytes-gt8.true c.put.ensures c.put_hex_bytes.ensures c.put-then-bytes-gt8.ensures

pub returns-else-bytes-gt8 : goal.returns-else-bytes-gt8
returns-else-bytes-gt8 c = data-short c.args.bytes.now c.if-bytes-gt8.false c.put_data_word.ensures
