-- The arm walker and the conditional walker call each other.
use Rattle.std.proofs.Common.{List, ◌∷◌, ◌≡◌, ◌∙◌, ℕ, ◌+◌, ◌≤◌, ◌<◌, arith, length, Option, Result, Ok, Err, ap, subst, sym}
use Rattle.definition.specs.Basics.{Bytes}
use Rattle.definition.specs.Stacks.{Rules}
use Rattle.definition.specs.Walk.{not_ended, ended, Frame}
use Rattle.refusals.specs.declared.Refusal.{Refusal}
use Rattle.stack.specs.declared.Stacks.{Stacks}
use Rattle.walk.specs.Runs.{arm_of, running, met_conditional, ending, Stand, stand, resume, rows_at, Goes, Room, Ready}
use Rattle.walk.specs.declared.ArmEnd.{ArmEnd}
use Rattle.walk.specs.declared.ArmEnd.TheVariants.{Else}
use Rattle.walk.specs.declared.Place.{Place}
use Rattle.walk.specs.declared.Walk.{Walk}
use Rattle.arms.specs.Walkers.{Open, frame, SamePlace, Enters, Finishes, Walks, Closes}

-- the second arm starts from where the first did, and stands behind what the first has walked
abbrev pub second : Option Stacks → Walk → Walk
second start a = record { stacks = start; place = a.place; peak = a.peak }

pub ready-there : {s : Bytes} {w v : Walk} {log : List ℕ} → Ready s log w → SamePlace w v → Ready s log v
ready-there {s} {w} {v} {log} r p = subst (λ (x : Place). Room s log x.at x.rows) (sym p.place) r

pub at-there : {w v : Walk} → SamePlace w v → v.place.at ≡ w.place.at
at-there p = ap (λ (x : Place). x.at) p.place

rows-there : (s : Bytes) {w v : Walk} → SamePlace w v → rows_at s v.place.at v.place.rows ≡ rows_at s w.place.at w.place.rows
rows-there s p = ap (λ (x : Place). rows_at s x.at x.rows) p.place

module _ {R : Rules} {s : Bytes} where
  -- the next walker may start
  pub ready_on : {P : List Frame → Type 0} {v w : Stand} {log new : List ℕ} → Room s log v.at v.rows → Goes R s P v log w new → length new ≡ length log → Room s new w.at w.rows
  ready_on r g e = record { high = g.high; short = r.short; room = omega (arith, r.room, g.fewer) }

  module _ {depth : ℕ} {w v : Walk} {log : List ℕ} {o : Result Unit Refusal} (r : Ready s log w) (e : Enters R s depth w o v) where
    -- the conditional is refused at its IF or NOTIF
    pub not_entered : (x : Refusal) → o ≡ Err x → Closes R s depth w log v (Err x) log
    not_entered x q = record {
      goes = record {
        low = rw (at-there e.stays) (omega arith);
        high = rw (at-there e.stays) r.high;
        fewer = rw (rows-there s e.stays) (omega arith);
        same = λ fs h. e.same fs log h ∙ rw q;
      };
    }

    module _ (run : o ≡ Ok tt) where
      -- the first arm is walked with one more open
      pub one_deeper : depth + 1 ≤ 24
      one_deeper = let h : depth < 24 = e.shallow run in omega arith

      in-arm : (fs : List Frame) → Open depth fs → resume R s (stand w met_conditional) fs log ≡ resume R s (stand v running) (frame (arm_of v.stacks) not_ended ∷ fs) log
      in-arm fs h = e.same fs log h ∙ rw run

      module _ {p : Result ArmEnd Refusal} {a : Walk} {log₁ : List ℕ} (first : Walks R s (depth + 1) v log a p log₁) where
        in-first : (fs : List Frame) → Open depth fs → resume R s (stand w met_conditional) fs log ≡ resume R s (stand a (ending p)) (frame (arm_of v.stacks) not_ended ∷ fs) log₁
        in-first fs h = in-arm fs h ∙ first.goes.same (frame (arm_of v.stacks) not_ended ∷ fs) (omega arith)

        -- which is refused
        pub first_refused : (x : Refusal) → p ≡ Err x → Closes R s depth w log a (Err x) log₁
        first_refused x q = record {
          goes = record {
            low = omega (arith, at-there e.stays, first.goes.low);
            high = first.goes.high;
            fewer = omega (arith, first.goes.fewer, rows-there s e.stays);
            same = λ fs h. in-first fs h ∙ rw q;
          };
        }

        -- or the only one
        pub one_arm : (end : ArmEnd) → p ≡ Ok end → (end ≡ Else → ⊥) → {z : Result Unit Refusal} {f : Walk} → Finishes R s a end (arm_of v.stacks) z f → Closes R s depth w log f z log₁
        one_arm end q n {z} {f} h = record {
          goes = record {
            low = rw (at-there h.stays) (omega (arith, at-there e.stays, first.goes.low));
            high = rw (at-there h.stays) first.goes.high;
            fewer = rw (rows-there s h.stays) (omega (arith, first.goes.fewer, rows-there s e.stays));
            same = λ fs k. in-first fs k ∙ rw q (h.one n fs log₁);
          };
        }

        module _ (else : p ≡ Ok Else) {q : Result ArmEnd Refusal} {b : Walk} {log₂ : List ℕ} (other : Walks R s (depth + 1) (second v.stacks a) log₁ b q log₂) where
          in-second : (fs : List Frame) → Open depth fs → resume R s (stand w met_conditional) fs log ≡ resume R s (stand b (ending q)) (frame (arm_of v.stacks) (ended (arm_of a.stacks)) ∷ fs) log₂
          in-second fs h = in-first fs h ∙ rw else (other.goes.same (frame (arm_of v.stacks) (ended (arm_of a.stacks)) ∷ fs) (omega arith))

          pub second_refused : (x : Refusal) → q ≡ Err x → Closes R s depth w log b (Err x) log₂
          second_refused x z = record {
            goes = record {
              low = omega (arith, at-there e.stays, first.goes.low, other.goes.low);
              high = other.goes.high;
              fewer = omega (arith, first.goes.fewer, other.goes.fewer, rows-there s e.stays);
              same = λ fs h. in-second fs h ∙ rw z;
            };
          }

          pub two-arms : (end : ArmEnd) → q ≡ Ok end → {x : Option Stacks} → x ≡ a.stacks → {z : Result Unit Refusal} {f : Walk} → Finishes R s b end (arm_of x) z f → Closes R s depth w log f z log₂
          two-arms end e₂ e₃ {z} {f} h = record {
            goes = record {
              low = rw (at-there h.stays) (omega (arith, at-there e.stays, first.goes.low, other.goes.low));
              high = rw (at-there h.stays) other.goes.high;
              fewer = rw (rows-there s h.stays) (omega (arith, first.goes.fewer, other.goes.fewer, rows-there s e.stays));
              same = λ fs k. in-second fs k ∙ rw (e₂, ← e₃) (h.two (arm_of v.stacks) fs log₂);
            };
          }

-- The loop of the arm walker, at the head of each turn.
pub record Arming (R : Rules) (s : Bytes) (depth : ℕ) (v : Walk) (before : List ℕ) (w : Walk) (now : List ℕ) : Type 0 where
  pub ready : Ready s before v
  pub len : length now ≡ length before
  pub goes : Goes R s (Open depth) (stand v running) before (stand w running) now
