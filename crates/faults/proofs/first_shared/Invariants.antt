use Rattle.std.proofs.Common.{◌≡◌, ◌-◌, ℕ}
use Rattle.faults.specs.Faults.{shared_with}
use Rattle.good_header.specs.View.{parts_from}
use Rattle.header.specs.View.{part_of}
use Rattle.faults.proofs.first_shared.Given as goal

abbrev pub invariant-loop-k : goal.invariant-loop-k
invariant-loop-k l =
    (j : ℕ) → shared_with (part_of l.part) j l.from (parts_from l.paper l.from (l.count - l.from)) ≡ shared_with (part_of l.part) j l.k (parts_from l.paper l.k (l.count - l.k))
