use mathlib.Core.Path.{◌≡◌, sym, ap, ◌∙◌}
use native.Mathlib.Omega.{arith}
use lib.ListN.{length, take}
use lib.Seq.{take_all}
use Rattle.std.specs.Prelude.{None}
use Rattle.definition.specs.Lines.{last_line}
use Rattle.paper.specs.View.{paper_of, items_of}
use Rattle.lines.proofs.Fragments.{told_lines, lines-next, last-accepted, last-refused, lines-of-marked}
use Rattle.lines.proofs.lines_of.Goals as goal

pub loop-k-preserved : goal.loop-k-preserved
loop-k-preserved c = let items = items_of c.args.marked.now.accepted in
    let more = lines-next c.args.entries c.loop-k.k items (record { rows = 0; peak = 0; end = None }) (omega (arith, ap length c.as_slice-fragment-items.ensures, c.loop-k-test.true)) in (
      c.push_word.ensures.items ∙ rw (c.deref.ensures.0, c.accepted_line.ensures, c.as_slice-fragment-items.ensures, c.loop-k.invariant.0) (sym more),
      omega (arith, c.push_word.ensures.len, c.deref.ensures.1, c.loop-k.invariant.1),
    )

pub returns-in-Ok : goal.returns-in-Ok
returns-in-Ok c m log h = let items = items_of c.args.marked.now.accepted in
    let all : take c.loop-k.k items ≡ items = take_all c.loop-k.k items (omega (arith, ap length c.as_slice-fragment-items.ensures, c.loop-k-test.false)) in
    c.push_word-in-Ok.ensures.items
    ∙ lines-of-marked c.args.entries c.args.marked.now _ _ (c.loop-k.invariant.0 ∙ ap (told_lines c.args.entries 0) all)
    (sym (last-accepted c.in-Ok.field-0) ∙ ap (λ v. last_line (paper_of v)) (sym c.in-Ok.is)) m log h

pub returns-in-Err : goal.returns-in-Err
returns-in-Err c m log h = let items = items_of c.args.marked.now.accepted in
    let all : take c.loop-k.k items ≡ items = take_all c.loop-k.k items (omega (arith, ap length c.as_slice-fragment-items.ensures, c.loop-k-test.false)) in
    c.push_word-in-Err.ensures.items
    ∙ lines-of-marked c.args.entries c.args.marked.now _ _ (c.loop-k.invariant.0 ∙ ap (told_lines c.args.entries 0) all)
    (c.deref-in-Err.ensures.0 ∙ c.refused_line.ensures ∙ rw c.into.ensures (sym (last-refused c.in-Err.paper) ∙ ap (λ v. last_line (paper_of v)) (sym c.in-Err.is))) m log h
