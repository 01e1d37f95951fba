use Rattle.std.proofs.Common.{◌≡◌, ◌-◌, length}
use Rattle.faults.specs.Faults.{part_fault}
use Rattle.good_header.specs.View.{parts_from}
use Rattle.faults.proofs.fault_in.Given as goal

abbrev pub invariant-loop-k : goal.invariant-loop-k
invariant-loop-k l =
    part_fault l.header (length l.paper) 0 (parts_from l.paper 0 l.count) ≡ part_fault l.header (length l.paper) l.k (parts_from l.paper l.k (l.count - l.k))
