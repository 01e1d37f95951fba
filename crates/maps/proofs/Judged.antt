-- What `rules` tells of all that is judged by a map and what is lent beside it.
use Rattle.std.proofs.Common.{Bool, true, false, ◌≡◌, refl, sym, ◌∙◌, ap, Result, Ok, Err}
use Rattle.definition.specs.Basics.{Bytes, pick}
use Rattle.definition.specs.Refusals as D
use Rattle.definition.specs.Refusals.{bad_map, bad_limit}
use Rattle.definition.specs.Stacks as S
use Rattle.definition_rules.specs.Maps.{Options, good_map, good_limit, rules_of, judged}
use Rattle.refusals.specs.View.{refusal_of}
use Rattle.refusals.specs.declared.Refusal.{Refusal}
use Rattle.walk.specs.Runs.{rules_in}
use Rattle.walk.specs.declared.Rules.{Rules}
use Rattle.maps.specs.View.{rules_or_refusal}

module _ {X : Type 0} (stop : D.Refusal → X) (next : S.Rules → X) where
  abbrev either : Result S.Rules D.Refusal → X
  either (Ok r) = next r
  either (Err r) = stop r

  judged-either : (map : Bytes) (options : Options) → judged map options stop next ≡ either (judged map options Err Ok)
  judged-either map options = by (good_map map) (good_limit options.limit)
    where
      by : (a b : Bool) → pick a (pick b (next (rules_of map options)) (stop bad_limit)) (stop bad_map) ≡ either (pick a (pick b (Ok (rules_of map options)) (Err bad_limit)) (Err bad_map))
      by true true = refl
      by true false = refl
      by false b = refl

  module _ (map : Bytes) (options : Options) {r : Result Rules Refusal} (e : rules_or_refusal r ≡ judged map options Err Ok) where
    pub judged-ok : {x : Rules} → r ≡ Ok x → judged map options stop next ≡ next (rules_in x)
    judged-ok {x} h = judged-either map options ∙ ap either (sym e ∙ ap rules_or_refusal h)

    pub judged-err : {x : Refusal} → r ≡ Err x → judged map options stop next ≡ stop (refusal_of x)
    judged-err {x} h = judged-either map options ∙ ap either (sym e ∙ ap rules_or_refusal h)

-- the rules that are read are those of the map
pub rules-are : (map : Bytes) (options : Options) {r : Result Rules Refusal} → rules_or_refusal r ≡ judged map options Err Ok → {x : Rules} → r ≡ Ok x → rules_in x ≡ rules_of map options
rules-are map options e h = sym (judged-ok (λ y. rules_of map options) (λ R. R) map options e h) ∙ by (good_map map) (good_limit options.limit)
  where
    by : (a b : Bool) → pick a (pick b (rules_of map options) (rules_of map options)) (rules_of map options) ≡ rules_of map options
    by true true = refl
    by true false = refl
    by false b = refl
