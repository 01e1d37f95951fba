use Rattle.std.proofs.Common.{◌≡◌, ◌*◌, ◌≤◌, length}
use lib.ListN.{take}
use Rattle.paper.specs.View.{items_of}
use Rattle.lines.proofs.Fragments.{told_lines}
use Rattle.lines.proofs.lines_of.Given as goal

abbrev pub invariant-loop-k : goal.invariant-loop-k
invariant-loop-k l =
    (l.text.items ≡ told_lines l.entries 0 (take l.k (items_of l.marked.accepted))) × (length l.text.items ≤ 100 * l.k)
