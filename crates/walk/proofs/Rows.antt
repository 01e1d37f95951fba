-- The rows that are written and the peak.
use Rattle.std.proofs.Common.{List, ◌≡◌, ◌∙◌, ℕ, ◌+◌, ◌*◌}
use lib.ListN.{set}
use Rattle.definition.specs.Walk.{dead, live, total_of, log_row}
use Rattle.definition.proofs.Arms.{main_height, alt_height, row-stores}
use Rattle.stack.specs.View.{view, stacks_in}
use Rattle.stack.specs.declared.Stacks.{Stacks}
use Rattle.slots.proofs.Laws.{length-tops}

-- what the log and the peak take from a live arm
main-height : (s : Stacks) → main_height (live (view s)) ≡ s.mains
unfolding stacks_in
main-height s = length-tops _ s.mains

alt-height : (s : Stacks) → alt_height (live (view s)) ≡ s.alts
unfolding stacks_in
alt-height s = length-tops _ s.alts

pub total-live : (s : Stacks) → total_of (live (view s)) ≡ s.mains + s.alts
unfolding stacks_in
total-live s = rw (length-tops, length-tops)

pub row-live : (k offset : ℕ) (s : Stacks) (log new : List ℕ) → new ≡ set (set (set log (3 * k) offset) (3 * k + 1) s.mains) (3 * k + 2) s.alts
    → new ≡ log_row k offset (live (view s)) log
row-live k offset s log new e = e ∙ rw (row-stores, main-height s, alt-height s)

pub row-dead : (k offset : ℕ) (log new : List ℕ) → new ≡ set (set (set log (3 * k) offset) (3 * k + 1) 65535) (3 * k + 2) 65535 → new ≡ log_row k offset dead log
row-dead k offset log new e = e ∙ rw row-stores
