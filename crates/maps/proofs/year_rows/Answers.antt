use Rattle.std.proofs.Common.{refl}
use Rattle.definition.specs.Classes.{class_number}
use Rattle.definition_rules.specs.Years.{classic_number}
use Rattle.maps.proofs.Judging.{numbers-by}
use Rattle.maps.proofs.Years.{current-rows, classic-rows}
use Rattle.maps.proofs.year_rows.Goals as goal

-- each rule is tested once at all of its table's 256 entries

pub returns-in-0-clause-some : goal.returns-in-0-clause-some
unfolding class_number
returns-in-0-clause-some c = current-rows _ _ c.in-0.is (numbers-by class_number _ refl tt)

pub returns-in-1-clause-some : goal.returns-in-1-clause-some
unfolding classic_number
returns-in-1-clause-some c = classic-rows _ _ c.in-1.is (numbers-by classic_number _ refl tt)
