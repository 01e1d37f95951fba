-- One law over rules, which requests L6, L7 and L8 use: what some rules accept, rules that allow as much answer in the same way.
use Rattle.std.specs.Prelude.{true, List, ◌≡◌, ℕ, ◌≤◌}
use Rattle.definition.specs.Basics.{Bytes}
use Rattle.definition.specs.Classes.{Class, Ordinary, unmodelled, ordinary, plain}
use Rattle.definition.specs.Stacks.{Rules}
use Rattle.definition.specs.Walk.{analysis}
use Rattle.definition.specs.Papers.{mark_paper}

-- a class is kept, or it was unmodelled and is ordinary or of a plain class now
pub data Models : Class → Class → Type 0 where
  keeps : (c : Class) → Models c c
  gains_ordinary : (o : Ordinary) → Models (ordinary unmodelled) (ordinary o)
  gains_plain : (pops pushes : ℕ) → Models (ordinary unmodelled) (plain pops pushes)

-- S allows all that R does: so it is with each class, the limit is kept or raised, and S examines no more than R
pub record Allows (R S : Rules) : Type 0 where
  pub class_for : (code : ℕ) → Models (R.class_for code) (S.class_for code)
  pub limit : R.limit ≤ S.limit
  pub examined : S.examined ≡ true → R.examined ≡ true

-- what R accepts S answers with the same verdict and the same log
pub record Follows (R S : Rules) : Type 0 where
  pub fragments : (fragment : Bytes) (main alt : ℕ) (log : List ℕ) → (analysis R fragment main alt log).verdict.answer.number ≡ 0
      → analysis S fragment main alt log ≡ analysis R fragment main alt log
  pub papers : (paper : Bytes) (log : List ℕ) → (mark_paper R paper log).paper.verdict.answer.number ≡ 0
      → mark_paper S paper log ≡ mark_paper R paper log
