-- What the answer stands for in the definitions.
use Rattle.std.specs.Prelude.{Result, Ok, Err, suc, replicate}
use Rattle.definition.specs.Refusals.{accepted, refused_at, greatest_number}
use Rattle.definition_sums.specs.Sums as D
use Rattle.refusals.specs.View.{refusal_of}
use Rattle.refusals.specs.declared.Refusal.{Refusal}
use Rattle.sums.specs.declared.SittingSums.{SittingSums}

-- the sums of the definitions, field for field; the number of a refusal, and zeros
abbrev pub sums_of : Result SittingSums Refusal → D.SittingSums
sums_of (Ok r) = record { number = accepted.number; counts = r.counts; sum = r.sum; count = r.count }
sums_of (Err r) = record { number = (refused_at 0 (refusal_of r)).number; counts = replicate (suc greatest_number) 0; sum = 0; count = 0 }
