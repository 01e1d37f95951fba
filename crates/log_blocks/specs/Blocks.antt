-- What `stacklog` prints of a fragment, as bytes.
use Rattle.std.specs.Prelude.{List, ◌++◌, ℕ}
use Rattle.definition.specs.Basics.{Bytes}
use Rattle.definition.specs.Stacks.{Rules}
use Rattle.header.specs.View.{fragment_at}
use Rattle.stack_analysis.specs.View.{Told}
use Rattle.stack_analysis.specs.declared.Heights.{Heights}
use Rattle.log_rows.specs.Rows.{rows}
use Rattle.log_lines.specs.Log.{start, verdict_line}

-- Fragment k of a paper, with what is told of its verdict: the line before its rows, its rows, the first of them row `from` of
-- the log, and the line after them. Where it has no rows there is nothing between the two lines.
unfoldable pub block : Rules → Bytes → List ℕ → ℕ → ℕ → Told Heights → Bytes
block R paper log k from t =
    start paper k
    ++ rows R (fragment_at paper k).bytes log t.peak from t.rows
    ++ verdict_line R (fragment_at paper k).bytes log from t
