-- What the code's answers stand for.
use Rattle.std.specs.Prelude.{ℕ, Some, None}
use Rattle.std.specs.Prelude as Rust
use Rattle.std.proofs.Math.Option.{Option, none, some}
use Rattle.faults.specs.Faults.{short_paper, bad_count, cut_header, in_header, past_paper, sharing}
use Rattle.faults.specs.Faults as F
use Rattle.faults.specs.declared.Fault.{Fault}
use Rattle.faults.specs.declared.Fault.TheVariants.{Short, Count, Cut, Inside, Past, Shared}

abbrev pub fault_of : Fault → F.Fault
fault_of (Short bytes) = short_paper bytes
fault_of (Count entries) = bad_count entries
fault_of (Cut entries bytes) = cut_header entries bytes
fault_of (Inside part) = in_header part
fault_of (Past part) = past_paper part
fault_of (Shared part other) = sharing part other

-- the fault found, if one is
abbrev pub found_of : Rust.Option Fault → Option F.Fault
found_of None = none
found_of (Some f) = some (fault_of f)

-- the part that part k shares a byte with, if there is one
abbrev pub shared_of : ℕ → Rust.Option ℕ → Option F.Fault
shared_of k None = none
shared_of k (Some j) = some (sharing k j)
