use Rattle.std.proofs.Common.{rules, ◌∙◌, replicate}
use native.Mathlib.Omega.{arith}
use Rattle.std.proofs.lemmas.List.{drop-replicate}
use Rattle.std.proofs.lemmas.Slice.{drop-append-drop}
use Rattle.lines.proofs.Lines.of.Goals as goal

pub invariant_of-result-clause-zeros : goal.invariant_of-result-clause-zeros
invariant_of-result-clause-zeros c = let n = c.len-size.result in
    drop-append-drop n (replicate 4096 0) c.copy_from_slice.new.self n (omega arith) (search rules) ∙ drop-replicate n 4096 0
