use Rattle.std.proofs.Common.{◌≡◌, ◌-◌, length}
use Rattle.definition.specs.Papers.{good_parts}
use Rattle.good_header.specs.View.{parts_from}
use Rattle.good_header.proofs.parts_ok.Given as goal

abbrev pub invariant-loop-k : goal.invariant-loop-k
invariant-loop-k l =
    good_parts l.header (length l.paper) (parts_from l.paper 0 l.count) ≡ good_parts l.header (length l.paper) (parts_from l.paper l.k (l.count - l.k))
