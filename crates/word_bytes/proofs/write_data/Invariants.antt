use mathlib.Core.Path.{◌≡◌}
use lib.Seq.{paste}
use Rattle.definition_listings.specs.Assembling.{hex_read}
use Rattle.definition_listings.specs.Shortest.{in_form}
use Rattle.word_bytes.proofs.write_data.Given as goal

abbrev pub invariant-loop-j : goal.invariant-loop-j
invariant-loop-j l = l.place ≡ paste l.initial.place 0 (in_form (hex_read l.letters)) l.j
