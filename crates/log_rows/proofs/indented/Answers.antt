use borrow.Author.Rules.{rules}
use native.Mathlib.Omega.{arith}
use mathlib.Core.List.{[]}
use Prim.Native.Nat.{◌≤◌}
use Rattle.decode.proofs.Bytes.{slice-bytes}
use Rattle.log_rows.proofs.Words.{word-26, indented-is}
use Rattle.log_rows.proofs.indented.Goals as goal

pub overflow_sub-size : goal.overflow_sub-size
overflow_sub-size c =
    let s = c.args.bytes.now in
    omega (arith, word-26 s (slice-bytes s c.type_inv.bytes), c.size-size.ensures, c.put_word.ensures.counted, c.new-word.ensures.empty)

pub slice_bounds-letters-end : goal.slice_bounds-letters-end
slice_bounds-letters-end c =
    let s = c.args.bytes.now in
    let n : c.size-size.result ≤ 26 = omega (arith, word-26 s (slice-bytes s c.type_inv.bytes), c.size-size.ensures, c.put_word.ensures.counted, c.new-word.ensures.empty) in
    search rules

pub slice_bounds-push_word-end : goal.slice_bounds-push_word-end
slice_bounds-push_word-end c =
    let s = c.args.bytes.now in
    let n : c.size-size.result ≤ 26 = omega (arith, word-26 s (slice-bytes s c.type_inv.bytes), c.size-size.ensures, c.put_word.ensures.counted, c.new-word.ensures.empty) in
    search rules

pub returns : goal.returns
returns c =
    let s = c.args.bytes.now in
    indented-is [] c.args.right c.new-word.ensures.as_lent c.new-word.ensures.empty c.put_word.ensures (word-26 s (slice-bytes s c.type_inv.bytes)) c.size-size.ensures (search rules)
    (search rules) c.push_word.ensures.items
