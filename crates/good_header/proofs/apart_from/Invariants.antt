use Rattle.std.proofs.Common.{◌≡◌, ◌-◌}
use Rattle.definition.specs.Papers.{shares_none}
use Rattle.good_header.specs.View.{parts_from}
use Rattle.header.specs.View.{part_of}
use Rattle.good_header.proofs.apart_from.Given as goal

abbrev pub invariant-loop-k : goal.invariant-loop-k
invariant-loop-k l =
    shares_none (part_of l.part) (parts_from l.paper l.from (l.count - l.from)) ≡ shares_none (part_of l.part) (parts_from l.paper l.k (l.count - l.k))
