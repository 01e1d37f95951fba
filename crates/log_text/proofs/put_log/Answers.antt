use mathlib.Core.Path.{ap, ◌∙◌}
use Prim.Native.Nat.{◌≤◌}
use native.Mathlib.Omega.{arith}
use lib.ListN.{length, length-take}
use Rattle.definition.specs.Lines.{refused_line}
use Rattle.definition.specs.Refusals.{Answer}
use Rattle.definition_rules.specs.Maps.{rules_by}
use Rattle.opcodes.specs.Classes.{rows_of as class_rows}
use Rattle.log_text.proofs.Texts.{log-accepted, log-refused, rows-left}
use Rattle.log_text.proofs.put_log.Goals as goal

pub returns-in-Ok-clause-same : goal.returns-in-Ok-clause-same
returns-in-Ok-clause-same c = λ options m h.
    log-accepted c.args.marked.now c.as_slice.ensures m c.args.paper.log.now h (rules_by (class_rows c.args.paper.classes) options) c.args.paper.bytes.now c.in-Ok.is
    (c.put_blocks-from.ensures.same options) c.put.ensures

pub returns-in-Err-clause-same : goal.returns-in-Err-clause-same
returns-in-Err-clause-same c = λ options m h.
    log-refused c.args.marked.now c.as_slice.ensures m c.args.paper.log.now h (rules_by (class_rows c.args.paper.classes) options) c.args.paper.bytes.now c.in-Err.is
    (c.put_blocks-from.ensures.same options) c.put_blocks-from.ensures.rows (c.put_refused.ensures.same options) c.put-in-Err.ensures
    (c.deref.ensures.0 ∙ c.refused_line.ensures ∙ ap (λ (a : Answer). refused_line c.in-Err.last.entry a) c.into.ensures) c.put-in-Err-2.ensures

pub returns-in-Err-clause-near : goal.returns-in-Err-clause-near
returns-in-Err-clause-near c = let a = c.args.marked.now.accepted in
    let n : length c.as_slice.result.now ≤ 33 = omega (arith, ap length c.as_slice.ensures, length-take a.count a.fragments, a.few) in
    let h = rows-left c.args.marked.now c.as_slice.ensures c.requires.0 c.args.paper.log.now c.requires.1 c.in-Err.is in
    omega (arith, n, h.0, h.1.1, c.put_blocks-from.ensures.rows, c.put_blocks-from.ensures.near, c.put_refused.ensures.near, c.put-in-Err.ensures.counted, c.put-in-Err-2.ensures.counted, c.deref.ensures.1)
