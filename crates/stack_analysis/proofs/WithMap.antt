-- The entry point that takes a map and a limit: its answer is that of the definition, `analysis_with`, and demand 3 holds of it.
use mathlib.Core.List.{List}
use mathlib.Core.Path.{◌≡◌}
use Prim.Native.Nat.{ℕ}
use Rattle.std.specs.Prelude.{Result, Ok, Err, IsOk}
use Rattle.definition.specs.Basics.{Bytes}
use Rattle.definition.specs.Decoding.{decode, instructions}
use Rattle.definition_rules.specs.Maps.{Options, rules_of, judged, analysis_with}
use Rattle.definition.specs.Replay.{Demand3}
use Rattle.definition.specs.Walk.{Marked, unknowns, analysis, refused_early}
use Rattle.definition_rules.proofs.UnderEveryMap.{true_under_every_map}
use Rattle.refusals.specs.View.{refusal_of}
use Rattle.refusals.specs.declared.Refusal.{Refusal}
use Rattle.walk.specs.Runs.{rules_in}
use Rattle.walk.specs.declared.Rules.{Rules}
use Rattle.maps.specs.View.{rules_or_refusal}
use Rattle.maps.proofs.Judged.{judged-ok, judged-err}
use Rattle.ends.specs.declared.EndStacks.{EndStacks}
use Rattle.stack_analysis.specs.View.{Verdict, verdict_of}
use Rattle.stack_analysis.proofs.Entries.{replayed-as}

module _ (map : Bytes) (options : Options) (s : Bytes) (main alt : ℕ) (log : List ℕ) where
  abbrev with_map : Marked
  with_map = analysis_with map options s main alt log

  -- by the rules that are read, or 28 or 29
  module _ {r : Result Rules Refusal} (told : rules_or_refusal r ≡ judged map options Err Ok) where
    pub with_rules : {x : Rules} → r ≡ Ok x → with_map ≡ analysis (rules_in x) s main alt log
    unfolding analysis_with
    with_rules h = judged-ok (λ y. refused_early 0 y log) (λ R. analysis R s main alt log) map options told h

    pub without_rules : {x : Refusal} → r ≡ Err x → with_map ≡ refused_early 0 (refusal_of x) log
    unfolding analysis_with
    without_rules h = judged-err (λ y. refused_early 0 y log) (λ R. analysis R s main alt log) map options told h

  pub replayed-with : (v : Verdict EndStacks) (new : List ℕ) → verdict_of v ≡ with_map.verdict → new ≡ with_map.log → IsOk v
      → Demand3 (rules_of map options) (instructions (decode s)) (unknowns main alt) (record { verdict = verdict_of v; log = new })
  replayed-with =
      replayed-as (Demand3 (rules_of map options) (instructions (decode s)) (unknowns main alt)) with_map (true_under_every_map map options s main alt log)
