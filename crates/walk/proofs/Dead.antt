-- The loop over a dead arm.
use Rattle.std.proofs.Common.{◌≡◌, refl, ℕ, ◌+◌, ◌*◌, List, None, Result, max, arith, length}
use lib.ListN.{set}
use Rattle.definition.specs.Basics.{Bytes}
use Rattle.definition.specs.Stacks.{Rules}
use Rattle.definition.specs.Classes.{class_at}
use Rattle.definition.specs.Walk.{total_of}
use Rattle.opcodes.specs.Class.{number_of}
use Rattle.opcodes.specs.declared.Class.{Class}
use Rattle.opcodes.specs.declared.Class.TheVariants.{Unmodelled, Push, Nothing, If, NotIf, Else, EndIf, Return, ToAlt, FromAlt, Depth, Size, Nip, Tuck, Pick, Roll, Zk, Dup, TwoDup, ThreeDup, Over, TwoOver, Rot, TwoRot, Swap, TwoSwap, Effect10, Effect20, Effect01, Effect11, Effect31, Effect21}
use Rattle.walk.specs.Runs.{running, Stand, stand, dead_walk, arm, Runs}
use Rattle.refusals.specs.declared.Refusal.{Refusal}
use Rattle.walk.specs.declared.Place.{Place}
use Rattle.walk.specs.declared.Stop.{Stop}
use Rattle.walk.specs.declared.Walk.{Walk}
use Rattle.decode.proofs.Codes.{InstructionAt}
use Rattle.decode.specs.declared.Instruction.{Instruction}
use Rattle.walk.proofs.Rows.{row-dead}
use Rattle.walk.proofs.Loop.{Skips, Walking, Met}

-- every instruction is skipped but those of conditionals
pub skips-others : (R : Rules) (k : Class) → (k ≡ If → ⊥) → (k ≡ NotIf → ⊥) → (k ≡ Else → ⊥) → (k ≡ EndIf → ⊥) → Skips R (class_at (number_of k))
skips-others R Unmodelled a b c d i fs = refl
skips-others R Push a b c d i fs = refl
skips-others R Nothing a b c d i fs = refl
skips-others R If a b c d i fs = absurd (a refl)
skips-others R NotIf a b c d i fs = absurd (b refl)
skips-others R Else a b c d i fs = absurd (c refl)
skips-others R EndIf a b c d i fs = absurd (d refl)
skips-others R Return a b c d i fs = refl
skips-others R ToAlt a b c d i fs = refl
skips-others R FromAlt a b c d i fs = refl
skips-others R Depth a b c d i fs = refl
skips-others R Size a b c d i fs = refl
skips-others R Nip a b c d i fs = refl
skips-others R Tuck a b c d i fs = refl
skips-others R Pick a b c d i fs = refl
skips-others R Roll a b c d i fs = refl
skips-others R Zk a b c d i fs = refl
skips-others R Dup a b c d i fs = refl
skips-others R TwoDup a b c d i fs = refl
skips-others R ThreeDup a b c d i fs = refl
skips-others R Over a b c d i fs = refl
skips-others R TwoOver a b c d i fs = refl
skips-others R Rot a b c d i fs = refl
skips-others R TwoRot a b c d i fs = refl
skips-others R Swap a b c d i fs = refl
skips-others R TwoSwap a b c d i fs = refl
skips-others R Effect10 a b c d i fs = refl
skips-others R Effect20 a b c d i fs = refl
skips-others R Effect01 a b c d i fs = refl
skips-others R Effect11 a b c d i fs = refl
skips-others R Effect31 a b c d i fs = refl
skips-others R Effect21 a b c d i fs = refl

-- a dead arm counts nothing to the peak
pub dead-high : (w : Walk) → w.stacks ≡ None → w.peak ≡ max w.peak (total_of (arm (stand w running)))
dead-high w d = rw d (omega arith)

-- what is known once an instruction is met in a dead arm
pub dead-met : {R : Rules} {s : Bytes} {before : List ℕ} {v : Stand} {old new : List ℕ} {w : Walk} {i : Instruction} {class : Class} → Walking R s before v old (stand w running) → w.stacks ≡ None
    → InstructionAt s w.place.at i → length new ≡ length old → new ≡ set (set (set old (3 * w.place.rows) w.place.at) (3 * w.place.rows + 1) 65535) (3 * w.place.rows + 2) 65535 → R.class_for i.opcode ≡ class_at (number_of class)
    → Met R s before v old (stand w running) new i w.peak class
dead-met {old = old} {new} {w} k d at len row kind =
    record { walking = k; run = refl; stands = at; len = len; row = rw d (row-dead w.place.rows w.place.at old new row); high = dead-high w d; kind = kind }

-- the same by the place alone
pub dead-met-at : {R : Rules} {s : Bytes} {before : List ℕ} {v : Stand} {old new : List ℕ} {p : Place} {peak : ℕ} {i : Instruction} {class : Class} → Walking R s before v old (stand (dead_walk p peak) running)
    → InstructionAt s p.at i → length new ≡ length old → new ≡ set (set (set old (3 * p.rows) p.at) (3 * p.rows + 1) 65535) (3 * p.rows + 2) 65535 → R.class_for i.opcode ≡ class_at (number_of class)
    → Met R s before v old (stand (dead_walk p peak) running) new i peak class
dead-met-at {p = p} {peak} k at len row kind = dead-met {w = dead_walk p peak} k refl at len row kind

-- a walk whose arm is dead from its start to its end
pub dead-runs : {R : Rules} {s : Bytes} {before now : List ℕ} {r : Result Stop Refusal} (v w : Walk) → v.stacks ≡ None → w.stacks ≡ None
    → Runs R s (dead_walk v.place v.peak) before (dead_walk w.place w.peak) r now → Runs R s v before w r now
dead-runs v w d e k = record { goes = rw (d, e) k.goes; onward = k.onward }
