-- One instruction of the walk.
use Rattle.std.proofs.Common.{List, [], ◌∷◌, ◌≡◌, refl, ap, ◌∙◌, ℕ, ◌+◌, ◌≤◌, max, arith, length, Option, Some, None, Result, Ok, Err}
use Rattle.definition.specs.Basics.{Bytes}
use Rattle.definition.specs.Decoding.{instructions, Code}
use Rattle.definition.specs.Decoding as D
use Rattle.definition.specs.Classes.{Class, IF, NOTIF, ELSE, ENDIF, RETURN}
use Rattle.definition.specs.Stacks.{Rules, Outcome}
use Rattle.definition.specs.Walk.{Item, dead, live, Frame, moves, on_outcome, effect, State, met, log_row, total_of, follow, at_end, walk, answered}
use Rattle.decode.specs.View.{code_at}
use Rattle.decode.proofs.Codes.{InstructionAt}
use Rattle.decode.specs.declared.Instruction.{Instruction}
use Rattle.refusals.specs.declared.Refusal.{Refusal}
use Rattle.stack.specs.View.{view, outcome, Yields}
use Rattle.stack.specs.declared.Stacks.{Stacks}
use Rattle.walk.specs.Runs.{Halt, running, finished, met_conditional, met_else, met_endif, going, Stand, arm, state_of, from, resume, resume_by, Goes, Any}

-- w past the instruction i
abbrev pub past : Stand → Instruction → ℕ → Option Stacks → Halt → Stand
past w i peak t halt = record { stacks = t; at = i.next; last = w.at; rows = w.rows + 1; peak = peak; halt = halt }

module _ (R : Rules) (s : Bytes) where
  -- no instruction is left
  walk_none : (p : ℕ) (t : State) → instructions (code_at s p) ≡ [] → from R s p t ≡ at_end t.frames t
  unfolding walk
  walk_none p t e = rw e

  module _ {p : ℕ} {i : Instruction} (at : InstructionAt s p i) where
    abbrev met-there : D.Instruction
    met-there = record { opcode = i.opcode; offset = p; literal = at.literal }

    code-there : instructions (code_at s p) ≡ met-there ∷ instructions (code_at s i.next)
    code-there = ap instructions at.code

    walk-one : (t : State) → from R s p t ≡ follow (effect R met-there (R.class_for i.opcode) t.arm t.frames) (met met-there t) (λ u. from R s i.next u)
    unfolding walk
    walk-one t = rw code-there

    -- One instruction met by a running walk w at p: its row is written and its arm's total is in the peak.
    module _ (w : Stand) (run : w.halt ≡ running) (here : w.at ≡ p) (log : List ℕ) {new : List ℕ} {peak : ℕ}
        (row : new ≡ log_row w.rows p (arm w) log) (high : peak ≡ max w.peak (total_of (arm w))) where
      -- by the class of the instruction
      by-class : (c : Class) → R.class_for i.opcode ≡ c → (fs : List Frame)
          → resume R s w fs log ≡ answered (follow (effect R met-there c (arm w) fs) (state_of (past w i peak w.stacks running) peak fs new) (λ u. from R s i.next u))
      by-class c e fs = rw (run, here, walk-one _, e, high, row)

      one_more_lem : (t : Option Stacks) (halt : Halt)
          → ((fs : List Frame) → resume R s w fs log ≡ resume R s (past w i peak t halt) fs new) → Goes R s Any w log (past w i peak t halt) new
      one_more_lem t halt e = record {
        low = omega (arith, at.onward);
        high = at.within;
        fewer = rw here (omega (arith, ap length code-there));
        same = λ fs p. e fs;
      }

      pub at-if : R.class_for i.opcode ≡ IF → Goes R s Any w log (past w i peak w.stacks met_conditional) new
      at-if e = one_more_lem w.stacks met_conditional (by-class IF e)

      pub at-notif : R.class_for i.opcode ≡ NOTIF → Goes R s Any w log (past w i peak w.stacks met_conditional) new
      at-notif e = one_more_lem w.stacks met_conditional (by-class NOTIF e)

      pub at-else : R.class_for i.opcode ≡ ELSE → Goes R s Any w log (past w i peak w.stacks met_else) new
      at-else e = one_more_lem w.stacks met_else same
        where
          same : (fs : List Frame) → resume R s w fs log ≡ resume R s (past w i peak w.stacks met_else) fs new
          same [] = by-class ELSE e []
          same (g ∷ fs) = by-class ELSE e (g ∷ fs)

      pub at-endif : R.class_for i.opcode ≡ ENDIF → Goes R s Any w log (past w i peak w.stacks met_endif) new
      at-endif e = one_more_lem w.stacks met_endif same
        where
          same : (fs : List Frame) → resume R s w fs log ≡ resume R s (past w i peak w.stacks met_endif) fs new
          same [] = by-class ENDIF e []
          same (g ∷ fs) = by-class ENDIF e (g ∷ fs)

      pub at_return : R.class_for i.opcode ≡ RETURN → Goes R s Any w log (past w i peak None running) new
      at_return e = one_more_lem None running (by-class RETURN e)

      -- an ordinary instruction in a dead arm is skipped
      pub skipped : (k : Class) → R.class_for i.opcode ≡ k → ((fs : List Frame) → effect R met-there k dead fs ≡ moves dead fs) → w.stacks ≡ None
          → Goes R s Any w log (past w i peak None running) new
      skipped k e m d = one_more_lem None running (λ fs. by-class k e fs ∙ rw (d, m fs))

      -- in a live one it does what the stack operation did
      pub stepped : (k : Class) (o : Outcome Item) (x : Stacks) → R.class_for i.opcode ≡ k → ((fs : List Frame) → effect R met-there k (live (view x)) fs ≡ on_outcome o fs)
          → w.stacks ≡ Some x → (a : Result Unit Refusal) (y : Stacks) → Yields a y o → Goes R s Any w log (past w i peak (Some y) (going a)) new
      stepped k o x e m l a y says = one_more_lem (Some y) (going a) (λ fs. by-class k e fs ∙ rw (l, m fs, ← says.same) (by a fs))
        where
          by : (a : Result Unit Refusal) (fs : List Frame)
              → answered (follow (on_outcome (outcome a (view y)) fs) (state_of (past w i peak (Some x) running) peak fs new) (λ u. from R s i.next u))
              ≡ resume_by R s (going a) (past w i peak (Some y) (going a)) fs new
          by (Ok u) fs = refl
          by (Err z) fs = refl

  -- the end of the fragment
  module _ (w : Stand) (run : w.halt ≡ running) (none : instructions (code_at s w.at) ≡ []) {log : List ℕ} {peak : ℕ}
      (high : peak ≡ max w.peak (total_of (arm w))) where
    pub at-end : w.at ≤ length s
        → Goes R s Any w log (record { stacks = w.stacks; at = w.at; last = w.last; rows = w.rows; peak = peak; halt = finished }) log
    at-end b = record {
      low = omega arith;
      high = b;
      fewer = omega arith;
      same = λ fs p. rw (run, walk_none w.at _ none, high);
    }
