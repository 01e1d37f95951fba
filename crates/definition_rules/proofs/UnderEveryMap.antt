-- Request L6, "Demand 3, whole, is then stated over every valid map and every limit at one go": `true_under_every_map`, and of papers
-- `true_of_paper_under_every_map`, over all bytes lent for a map and every number for a limit. What is accepted has a good map and a
-- good limit (`accepted_is_good`). Request L3 over every map and limit: `long_data_under_every_map`.
use mathlib.Core.Bool.{Bool, true, false}
use mathlib.Core.List.{List}
use mathlib.Core.Path.{◌≡◌, refl, ap, ◌∙◌}
use Prim.Native.Nat.{ℕ, ◌≤◌}
use native.Mathlib.Omega.{arith}
use borrow.Author.Tests.{leb-true}
use lib.Dec.{leb}
use Rattle.definition.specs.Basics.{Bytes, pick}
use Rattle.definition.specs.Decoding.{decode, instructions}
use Rattle.definition.specs.Refusals.{Refusal, bad_map, bad_limit}
use Rattle.definition.specs.Stacks.{Rules, built_in}
use Rattle.definition.specs.Walk.{Marked, refused_early, unknowns, analysis}
use Rattle.definition.specs.Replay.{Demand3}
use Rattle.definition.specs.Papers.{PaperMarked, refused_paper, fragments, mark_paper, EachTrue}
use Rattle.definition_long_data.specs.Blank.{Blanked, Alike, TellsNothing}
use Rattle.definition_rules.specs.Maps.{Options, good_map, good_limit, rules_of, judged, analysis_with, mark_paper_with, built_in_map, built_in_options, TrueWith, TrueOfPaperWith, TellsNothingWith}
use Rattle.definition.proofs.Sound.{and-true}
use Rattle.definition_rules.proofs.BuiltInMap.{built_in_map_good, built_in_map_rules}
use Rattle.definition.proofs.TrueOfEveryReplay.{true_of_analysis}
use Rattle.definition.proofs.TrueOfPaper.{true_of_paper_by}
use Rattle.definition_long_data.proofs.LongData.{alike_tells_nothing}
use Rattle.definition_long_data.proofs.Blanked.{blanked_tells_nothing}

pub limit-within : (limit : ℕ) → good_limit limit ≡ true → (1 ≤ limit) × (limit ≤ 244)
limit-within limit h =
    let b = and-true (leb 1 limit) (leb limit 244) h in
    (leb-true 1 limit b.0, leb-true limit 244 b.1)

-- what holds of both refusals, and of what follows where map and limit are good, holds of what is judged
pub by_judging : {X : Type 0} (P : X → Type 0) (map : Bytes) (options : Options) (stop : Refusal → X) (next : Rules → X) → P (stop bad_map) → P (stop bad_limit)
    → (good_map map ≡ true → good_limit options.limit ≡ true → P (next (rules_of map options))) → P (judged map options stop next)
by_judging {X = X} P map options stop next m l f = first (good_map map) refl
  where
    second : good_map map ≡ true → (b : Bool) → good_limit options.limit ≡ b → P (pick b (next (rules_of map options)) (stop bad_limit))
    second g true e = f g e
    second g false e = l

    first : (b : Bool) → good_map map ≡ b → P (pick b (pick (good_limit options.limit) (next (rules_of map options)) (stop bad_limit)) (stop bad_map))
    first true e = second e (good_limit options.limit) refl
    first false e = m

module _ (map : Bytes) (options : Options) (fragment : Bytes) (main alt : ℕ) (log : List ℕ) where
  pub of_analysis_with : (P : Marked → Type 0) → P (refused_early 0 bad_map log) → P (refused_early 0 bad_limit log)
      → (good_map map ≡ true → good_limit options.limit ≡ true → P (analysis (rules_of map options) fragment main alt log))
      → P (analysis_with map options fragment main alt log)
  unfolding analysis_with
  of_analysis_with P m l f = by_judging P map options (λ r. refused_early 0 r log) (λ R. analysis R fragment main alt log) m l f

  -- Acceptance implies that both are good ..
  pub accepted_is_good : (analysis_with map options fragment main alt log).verdict.answer.number ≡ 0 → (good_map map ≡ true) × (good_limit options.limit ≡ true)
  accepted_is_good h =
      of_analysis_with (λ m. m.verdict.answer.number ≡ 0 → (good_map map ≡ true) × (good_limit options.limit ≡ true))
      (λ h. absurd (omega (arith, h))) (λ h. absurd (omega (arith, h))) (λ g l h. (g, l)) h

  -- .. and where they are good, the analysis goes by their rules
  pub analysis-good : good_map map ≡ true → good_limit options.limit ≡ true
      → analysis_with map options fragment main alt log ≡ analysis (rules_of map options) fragment main alt log
  unfolding analysis_with
  analysis-good g l = rw (g, l)

  -- "Demand 3, whole, is then stated over every valid map and every limit at one go": of all bytes lent for a map, every limit,
  -- every fragment, start heights and log, if the number is 0, what is answered is true of every replay by this map and limit.
  pub true_under_every_map : TrueWith map options fragment main alt log
  true_under_every_map h =
      of_analysis_with (λ m. m.verdict.answer.number ≡ 0 → Demand3 (rules_of map options) (instructions (decode fragment)) (unknowns main alt) m)
      (λ h. absurd (omega (arith, h))) (λ h. absurd (omega (arith, h)))
      (λ g l h. true_of_analysis (rules_of map options) (omega (arith, (limit-within options.limit l).1)) fragment main alt log h) h

-- Of papers
module _ (map : Bytes) (options : Options) (paper : Bytes) (log : List ℕ) where
  pub of_paper_with : (P : PaperMarked → Type 0) → P (refused_paper 0 bad_map log) → P (refused_paper 0 bad_limit log)
      → (good_map map ≡ true → good_limit options.limit ≡ true → P (mark_paper (rules_of map options) paper log)) → P (mark_paper_with map options paper log)
  unfolding mark_paper_with
  of_paper_with P m l f = by_judging P map options (λ r. refused_paper 0 r log) (λ R. mark_paper R paper log) m l f

  pub accepted_paper_is_good : (mark_paper_with map options paper log).paper.verdict.answer.number ≡ 0 → (good_map map ≡ true) × (good_limit options.limit ≡ true)
  accepted_paper_is_good h =
      of_paper_with (λ m. m.paper.verdict.answer.number ≡ 0 → (good_map map ≡ true) × (good_limit options.limit ≡ true))
      (λ h. absurd (omega (arith, h))) (λ h. absurd (omega (arith, h))) (λ g l h. (g, l)) h

  pub paper-good : good_map map ≡ true → good_limit options.limit ≡ true → mark_paper_with map options paper log ≡ mark_paper (rules_of map options) paper log
  unfolding mark_paper_with
  paper-good g l = rw (g, l)

  -- the same of papers: if the number is 0, demand 3 holds of each fragment, of the verdict and the rows that it is answered with
  pub true_of_paper_under_every_map : TrueOfPaperWith map options paper log
  true_of_paper_under_every_map h =
      of_paper_with (λ m. m.paper.verdict.answer.number ≡ 0 → EachTrue (rules_of map options) 0 (fragments paper) m.verdicts m.log)
      (λ h. absurd (omega (arith, h))) (λ h. absurd (omega (arith, h)))
      (λ g l h. true_of_paper_by (rules_of map options) (omega (arith, (limit-within options.limit l).1)) paper log h) h

-- Request L3 over every map and limit: what tells nothing by all rules tells nothing by any map and limit ..
under_every_map : (Related : Bytes → Bytes → Type 0) → ((R : Rules) → TellsNothing R Related) → (map : Bytes) (options : Options) → TellsNothingWith map options Related
unfolding analysis_with mark_paper_with
under_every_map Related t map options = record {
  fragments = λ f g h main alt log. rw ((t (rules_of map options)).fragments f g h main alt log);
  papers = λ p q h log. rw ((t (rules_of map options)).papers p q h log);
}

-- .. so it is with data of 9 or more bytes: in the request's relation ..
pub long_data_under_every_map : (map : Bytes) (options : Options) → TellsNothingWith map options Blanked
long_data_under_every_map = under_every_map Blanked blanked_tells_nothing

-- .. and in the wider one
pub alike_under_every_map : (map : Bytes) (options : Options) → TellsNothingWith map options Alike
alike_under_every_map = under_every_map Alike alike_tells_nothing

-- "the built-in map at 244": by it fragments and papers are marked as document 01 has it
pub built_in_map_analysis : (fragment : Bytes) (main alt : ℕ) (log : List ℕ)
    → analysis_with built_in_map built_in_options fragment main alt log ≡ analysis built_in fragment main alt log
built_in_map_analysis fragment main alt log =
    analysis-good built_in_map built_in_options fragment main alt log built_in_map_good refl ∙ (ap (λ R. analysis R fragment main alt log) built_in_map_rules)

pub built_in_map_paper : (paper : Bytes) (log : List ℕ) → mark_paper_with built_in_map built_in_options paper log ≡ mark_paper built_in paper log
built_in_map_paper paper log = paper-good built_in_map built_in_options paper log built_in_map_good refl ∙ (ap (λ R. mark_paper R paper log) built_in_map_rules)
