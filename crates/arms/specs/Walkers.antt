-- What the walkers of arms and conditionals promise one another: each goes a part of the definition's walk, and what is left of it is the same
-- whatever conditionals are open around that part.
use Rattle.std.specs.Prelude.{List, ◌∷◌, ◌≡◌, ℕ, ◌<◌, length, Result, Ok, Err}
use Rattle.definition.specs.Basics.{Bytes}
use Rattle.definition.specs.Refusals as D
use Rattle.definition.specs.Stacks.{Rules}
use Rattle.definition.specs.Walk.{Arm, FirstArm, not_ended, ended, Frame, join, Verdict, Marked, refused_verdict}
use Rattle.refusals.specs.View.{refusal_of}
use Rattle.refusals.specs.declared.Refusal.{Refusal}
use Rattle.walk.specs.Runs.{arm_of, running, met_conditional, met_endif, halted, ending, going, stand, after, resume, Goes}
use Rattle.walk.specs.declared.ArmEnd.{ArmEnd}
use Rattle.walk.specs.declared.ArmEnd.TheVariants.{End, Else, Endif}
use Rattle.walk.specs.declared.Walk.{Walk}

-- so many conditionals
abbrev pub Open : ℕ → List Frame → Type 0
Open depth fs = length fs ≡ depth

-- the conditional around an arm, whose second arm starts from `start`
abbrev pub frame : Arm → FirstArm → Frame
frame start first = record { start = start; first = first }

-- v is w with another arm
pub record SamePlace (w v : Walk) : Type 0 where
  pub place : v.place ≡ w.place
  pub peak : v.peak ≡ w.peak

module _ (R : Rules) (s : Bytes) where
  -- the first arm, or a refusal, where a walk stood at IF or NOTIF
  abbrev pub entered : Result Unit Refusal → Walk → List Frame → List ℕ → Marked
  entered (Ok u) v fs log = resume R s (stand v running) (frame (arm_of v.stacks) not_ended ∷ fs) log
  entered (Err r) v fs log = resume R s (stand v (halted r)) fs log

  -- with `depth` open; it goes on only where fewer than 24 are
  pub record Enters (depth : ℕ) (w : Walk) (r : Result Unit Refusal) (v : Walk) : Type 0 where
    pub stays : SamePlace w v
    pub shallow : r ≡ Ok tt → depth < 24
    pub same : (fs : List Frame) (log : List ℕ) → Open depth fs → resume R s (stand w met_conditional) fs log ≡ entered r v fs log

  -- at ENDIF the arm of w joins the other
  pub record Joins (w : Walk) (other : Arm) (r : Result Unit Refusal) (v : Walk) : Type 0 where
    pub stays : SamePlace w v
    pub same : (fs : List Frame) (log : List ℕ) → after R s (stand w met_endif) fs log (join (arm_of w.stacks) other fs) ≡ resume R s (stand v (going r)) fs log

  -- the last arm of a conditional has ended so; the other arm is the empty one, which stands as it started, or the first
  pub record Finishes (w : Walk) (end : ArmEnd) (other : Arm) (r : Result Unit Refusal) (v : Walk) : Type 0 where
    pub stays : SamePlace w v
    pub one : (end ≡ Else → ⊥) → (fs : List Frame) (log : List ℕ) → resume R s (stand w (ending (Ok end))) (frame other not_ended ∷ fs) log ≡ resume R s (stand v (going r)) fs log
    pub two : (start : Arm) (fs : List Frame) (log : List ℕ) → resume R s (stand w (ending (Ok end))) (frame start (ended other) ∷ fs) log ≡ resume R s (stand v (going r)) fs log

-- an arm, with `depth` conditionals open around it
pub record Walks (R : Rules) (s : Bytes) (depth : ℕ) (v : Walk) (before : List ℕ) (w : Walk) (r : Result ArmEnd Refusal) (now : List ℕ) : Type 0 where
  pub goes : Goes R s (Open depth) (stand v running) before (stand w (ending r)) now

-- a whole conditional
pub record Closes (R : Rules) (s : Bytes) (depth : ℕ) (v : Walk) (before : List ℕ) (w : Walk) (r : Result Unit Refusal) (now : List ℕ) : Type 0 where
  pub goes : Goes R s (Open depth) (stand v met_conditional) before (stand w (going r)) now

-- how a walk concludes where no conditional is open
abbrev pub concluded : Result ArmEnd Refusal → Walk → Verdict
concluded (Ok End) w = record { answer = D.accepted; rows = w.place.rows; peak = w.peak; end = arm_of w.stacks }
concluded (Ok Else) w = refused_verdict w.place.last D.stray_else w.place.rows
concluded (Ok Endif) w = refused_verdict w.place.last D.stray_endif w.place.rows
concluded (Err r) w = refused_verdict w.place.last (refusal_of r) w.place.rows
