use Rattle.std.proofs.Common.{rules, arith, ◌∙◌}
use Rattle.maps.proofs.Judging.{bad_map-by, rows_decide, class-rows}
use Rattle.maps.proofs.ClassRows.{rows-lent}
use Rattle.maps.proofs.classes.Goals.{then-field-ne256-via-then-field-ne256, then-field-ne256-via-else-field-ne256+then-first-lt4, then-field-ne256-via-else-field-ne256+else-first-lt4+then-map-first}
use Rattle.maps.proofs.classes.Goals as goal

pub returns-then-field-ne256-clause-none : goal.returns-then-field-ne256-clause-none
returns-then-field-ne256-clause-none c = bad_map-by _ (λ m. elim c.then-field-ne256.branch [ then-field-ne256-via-then-field-ne256 w ↦ omega arith | then-field-ne256-via-else-field-ne256+then-first-lt4 w ↦ omega arith | then-field-ne256-via-else-field-ne256+else-first-lt4+then-map-first w ↦ omega arith ])

pub new-requires : goal.new-requires
new-requires c = class-rows _ _ c.first_row-first.ensures.same (search rules) c.if-first-lt4.false c.if-map-first.false (search rules)

pub returns-then-good_rows-clause-some : goal.returns-then-good_rows-clause-some
returns-then-good_rows-clause-some c = (rows_decide _ _ c.first_row-first.ensures.same (search rules) c.if-first-lt4.false c.if-map-first.false ∙ search rules, c.new.ensures ∙ rows-lent _ _ c.first_row-first.ensures.same)

pub returns-else-good_rows-clause-none : goal.returns-else-good_rows-clause-none
returns-else-good_rows-clause-none c = rows_decide _ _ c.first_row-first.ensures.same (search rules) c.if-first-lt4.false c.if-map-first.false ∙ search rules
