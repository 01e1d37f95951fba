-- What a `Walk` stands for, and what `plain` promises: it goes a part of the definition's walk, and what is left of it is
-- the same whatever conditionals are open around that part.
use Rattle.std.specs.Prelude.{List, [], ◌∷◌, ◌≡◌, ℕ, ◌+◌, ◌*◌, ◌≤◌, ◌<◌, max, length, Option, Some, None, Result, Ok, Err}
use Rattle.definition.specs.Basics.{Bytes}
use Rattle.definition.specs.Decoding.{instructions}
use Rattle.definition.specs.Refusals as D
use Rattle.definition.specs.Stacks as S
use Rattle.definition_rules.specs.Maps as Maps
use Rattle.definition.specs.Walk.{Arm, dead, live, Frame, Move, refuses, on_else, on_endif, conditional, State, total_of, WalkEnd, follow, at_end, walk, Marked, answered, refused_verdict}
use Rattle.decode.specs.View.{code_at}
use Rattle.opcodes.specs.Classes.{rows_of}
use Rattle.refusals.specs.View.{refusal_of}
use Rattle.refusals.specs.declared.Refusal.{Refusal}
use Rattle.stack.specs.View.{view}
use Rattle.stack.specs.declared.Stacks.{Stacks}
use Rattle.walk.specs.declared.ArmEnd.{ArmEnd}
use Rattle.walk.specs.declared.ArmEnd.TheVariants.{End, Else, Endif}
use Rattle.walk.specs.declared.Options.{Options}
use Rattle.walk.specs.declared.Place.{Place}
use Rattle.walk.specs.declared.Rules.{Rules}
use Rattle.walk.specs.declared.Stop.{Stop}
use Rattle.walk.specs.declared.Walk.{Walk}

-- what is lent beside the classes
abbrev pub options_of : Options → Maps.Options
options_of o = record { limit = o.limit; examined = o.examined }

-- what a walk goes by
abbrev pub rules_in : Rules → S.Rules
rules_in r = Maps.rules_by (rows_of r.classes) (record { limit = r.limit.items; examined = r.examined })

-- the arm of these stacks
abbrev pub arm_of : Option Stacks → Arm
arm_of (Some s) = live (view s)
arm_of None = dead

-- how a walk stands: it runs, or has stopped at the end, at an instruction of a conditional, whose row is written, or with a refusal
pub data Halt : Type 0 where
  running finished met_conditional met_else met_endif : Halt
  halted : Refusal → Halt

-- where it stands, and how
pub record Stand : Type 0 where
  pub stacks : Option Stacks
  pub at : ℕ
  pub last : ℕ
  pub rows : ℕ
  pub peak : ℕ
  pub halt : Halt

abbrev pub stand : Walk → Halt → Stand
stand w h = record { stacks = w.stacks; at = w.place.at; last = w.place.last; rows = w.place.rows; peak = w.peak; halt = h }

-- a walk over a dead arm, with this peak
abbrev pub dead_walk : Place → ℕ → Walk
dead_walk p peak = record { stacks = None; place = p; peak = peak }

-- how it stands after what a walker answers: where it ends an arm, where it stops, and where it is to go on
abbrev pub ending : Result ArmEnd Refusal → Halt
ending (Ok End) = finished
ending (Ok Else) = met_else
ending (Ok Endif) = met_endif
ending (Err r) = halted r

abbrev pub stopping : Result Stop Refusal → Halt
stopping (Ok Stop.Conditional) = met_conditional
stopping (Ok (Stop.Arm e)) = ending (Ok e)
stopping (Err r) = halted r

abbrev pub going : Result Unit Refusal → Halt
going (Ok u) = running
going (Err r) = halted r

-- the arm of a walk
abbrev pub arm : Stand → Arm
arm w = arm_of w.stacks

-- the definition's state, with these conditionals open around the arm and this log
abbrev pub state_of : Stand → ℕ → List Frame → List ℕ → State
state_of w peak fs log =
    record { arm = arm w; frames = fs; offset = w.last; rows = w.rows; peak = peak; log = log }

-- ELSE and ENDIF, by the conditionals that are open
abbrev pub else_move : Arm → List Frame → Move
else_move c [] = refuses D.stray_else
else_move c (f ∷ fs) = on_else c f.start f.first fs

abbrev pub endif_move : Arm → List Frame → Move
endif_move c [] = refuses D.stray_endif
endif_move c (f ∷ fs) = on_endif c f.start f.first fs

-- the rows that stand, and one for each instruction that is left
abbrev pub rows_at : Bytes → ℕ → ℕ → ℕ
rows_at s at rows = rows + length (instructions (code_at s at))

abbrev pub rows_in : Bytes → Stand → ℕ
rows_in s w = rows_at s w.at w.rows

module _ (R : S.Rules) (s : Bytes) where
  -- the walk from offset p on
  abbrev pub from : ℕ → State → WalkEnd
  from p t = walk R (instructions (code_at s p)) t

  -- after this move of the instruction met last
  abbrev pub after : Stand → List Frame → List ℕ → Move → Marked
  after w fs log m = answered (follow m (state_of w w.peak fs log) (λ t. from w.at t))

  -- What is left to do where a walk stands. One that is running has yet to take its arm's total into the peak.
  abbrev pub resume_by : Halt → Stand → List Frame → List ℕ → Marked
  resume_by running w fs log = answered (from w.at (state_of w (max w.peak (total_of (arm w))) fs log))
  resume_by finished w fs log = answered (at_end fs (state_of w w.peak fs log))
  resume_by met_conditional w fs log = after w fs log (conditional (arm w) fs)
  resume_by met_else w fs log = after w fs log (else_move (arm w) fs)
  resume_by met_endif w fs log = after w fs log (endif_move (arm w) fs)
  resume_by (halted r) w fs log = record { verdict = refused_verdict w.last (refusal_of r) w.rows; log = log }

  abbrev pub resume : Stand → List Frame → List ℕ → Marked
  resume w fs log = resume_by w.halt w fs log

  -- a walk went from v to w, over the same fragment, whatever conditionals of which P holds are open around it
  pub record Goes (P : List Frame → Type 0) (v : Stand) (before : List ℕ) (w : Stand) (now : List ℕ) : Type 0 where
    pub low : v.at ≤ w.at
    pub high : w.at ≤ length s
    pub fewer : rows_in s w ≤ rows_in s v
    pub same : (fs : List Frame) → P fs → resume v fs before ≡ resume w fs now

-- any conditionals
abbrev pub Any : List Frame → Type 0
Any fs = Unit {0}

-- room in the log for the rows that are left, and offsets that fit it
pub record Room (s : Bytes) (log : List ℕ) (at rows : ℕ) : Type 0 where
  pub high : at ≤ length s
  pub short : length s ≤ 10000
  pub room : 3 * rows_at s at rows ≤ length log

-- what each of the walkers asks
abbrev pub Ready : Bytes → List ℕ → Walk → Type 0
Ready s log w = Room s log w.place.at w.place.rows

-- the instructions up to the next IF, NOTIF, ELSE or ENDIF
pub record Runs (R : S.Rules) (s : Bytes) (v : Walk) (before : List ℕ) (w : Walk) (r : Result Stop Refusal) (now : List ℕ) : Type 0 where
  pub goes : Goes R s Any (stand v running) before (stand w (stopping r)) now
  pub onward : r ≡ Ok Stop.Conditional → v.place.at < w.place.at
