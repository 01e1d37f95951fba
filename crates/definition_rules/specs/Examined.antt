-- Request L7, "Data over 520 bytes": what the examined mode changes. The mode itself is a field of the rules, and the one test of it is
-- `push_literal` of Stacks, for the marker and for a replay. Words in quotes are the request's.
use Rattle.std.specs.Prelude.{true, false, List, [], ◌∷◌, ◌⊎◌, ◌↔◌, ◌≡◌, ℕ, zero, suc, ◌<◌, length}
use Rattle.definition.specs.Basics.{Bytes}
use Rattle.definition.specs.Decoding.{Instruction, decode, instructions}
use Rattle.definition.specs.Classes.{push, ordinary}
use Rattle.definition.specs.Refusals.{max_element}
use Rattle.definition.specs.Stacks.{Rules, Stacks}
use Rattle.definition.specs.Walk.{Item, Marked, unknowns}
use Rattle.definition.specs.Replay.{SomeReplayReaches}
use Rattle.definition.specs.Papers.{Fragment, PaperMarked}
use Rattle.definition.specs.Papers as Papers
use Rattle.definition_rules.specs.Maps.{Options, rules_of, analysis_with, mark_paper_with}

-- the two modes at this limit
abbrev pub plain_at : ℕ → Options
plain_at limit = record { limit = limit; examined = false }

abbrev pub examined_at : ℕ → Options
examined_at limit = record { limit = limit; examined = true }

-- the instruction at place k, counted from 0, pushes "a literal above 520 bytes"
abbrev pub LongPushAt : Rules → List Instruction → ℕ → Type 0
LongPushAt R [] k = ⊥
LongPushAt R (i ∷ is) zero = (R.class_for i.opcode ≡ ordinary push) × (max_element < length i.literal)
LongPushAt R (i ∷ is) (suc k) = LongPushAt R is k

-- "a plain replay reaches such a push": some replay by R, which are rules of plain mode below, from stacks that s shows
abbrev pub ReachesLong : Rules → List Instruction → Stacks Item → Type 0
ReachesLong R is s = (k : ℕ) × (LongPushAt R is k) × (SomeReplayReaches R is s k)

-- .. of a fragment, from the heights that its analysis starts from
abbrev pub FragmentReachesLong : Rules → Fragment → Type 0
FragmentReachesLong R f = ReachesLong R (instructions (decode f.bytes)) (unknowns f.main f.alt)

-- .. of one of these fragments
abbrev pub SomeReachesLong : Rules → List Fragment → Type 0
SomeReachesLong R [] = ⊥
SomeReachesLong R (f ∷ fs) = (FragmentReachesLong R f) ⊎ (SomeReachesLong R fs)

-- The claim

-- "gets 30 in the examined one exactly when a plain replay reaches such a push, else the same verdict and log": of the number that
-- the examined mode gives, and of the answers of both modes
pub record ExaminedAs {X : Type 0} (Reaches : Type 0) (number : ℕ) (in_plain in_examined : X) : Type 0 where
  pub exactly : (number ≡ 30) ↔ Reaches
  pub else : (Reaches → ⊥) → in_examined ≡ in_plain

-- "What plain mode accepts", by this map and limit, a fragment or a paper. Where no replay reaches such a push, the verdicts of a
-- paper's fragments are the same too.
pub record Examining (map : Bytes) (limit : ℕ) : Type 0 where
  pub fragments : (fragment : Bytes) (main alt : ℕ) (log : List ℕ) →
      let plain : Marked = analysis_with map (plain_at limit) fragment main alt log in
      let examined : Marked = analysis_with map (examined_at limit) fragment main alt log in
      plain.verdict.answer.number ≡ 0
      → ExaminedAs (ReachesLong (rules_of map (plain_at limit)) (instructions (decode fragment)) (unknowns main alt)) examined.verdict.answer.number plain examined
  pub papers : (paper : Bytes) (log : List ℕ) →
      let plain : PaperMarked = mark_paper_with map (plain_at limit) paper log in
      let examined : PaperMarked = mark_paper_with map (examined_at limit) paper log in
      plain.paper.verdict.answer.number ≡ 0
      → ExaminedAs (SomeReachesLong (rules_of map (plain_at limit)) (Papers.fragments paper)) examined.paper.verdict.answer.number plain examined
