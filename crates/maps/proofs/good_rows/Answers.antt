use Rattle.std.proofs.Common.{rules, tests, ◌≡◌, ◌∙◌, sym, ap}
use Rattle.std.proofs.lemmas.Iterator.{YieldsList-from_slice}
use Rattle.std.proofs.lemmas.Iterator.Search.{all_from_yields_List}
use Rattle.std.specs.List.{list_all}
use Rattle.maps.proofs.Judging.{later_row, own, own_rows, other_rows}
use Rattle.maps.proofs.good_rows.Goals as goal

pub returns-then-eq : goal.returns-then-eq
returns-then-eq c =
    let all = all_from_yields_List later_row _ _ c.all.result c.all.ensures.ran (YieldsList-from_slice c.split_at.result.1.now cc) (λ x b q k. search (rules, tests)) in
    let early : c.split_at.result.0.now ≡ own = search (rules, tests) in
    all ∙ ap (list_all later_row) c.split_at.ensures.back ∙ own_rows _ c.requires (sym c.split_at.ensures.front ∙ early)

pub returns-else-eq : goal.returns-else-eq
returns-else-eq c =
    let early : c.split_at.result.0.now ≡ own → ⊥ = search (rules, tests) in
    c.if-eq.false ∙ other_rows _ c.requires (λ e. early (c.split_at.ensures.front ∙ e))
