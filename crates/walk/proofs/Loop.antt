-- The loop over plain instructions.
use Rattle.std.proofs.Common.{Bool, true, false, ◌&&◌, List, [], ◌∷◌, ◌≡◌, refl, sym, ap, ◌∙◌, subst, ℕ, ◌+◌, ◌*◌, ◌-◌, ◌^◌, ◌≤◌, ◌<◌, max, arith, length, Option, Some, None, Result, Ok, Err}
use mathlib.Core.Logic.{◌⊎◌, ⊎_elim}
use lib.Dec.{ltb}
use lib.ListN.{set}
use Rattle.definition.specs.Basics.{Bytes}
use Rattle.definition.specs.Decoding.{instructions}
use Rattle.definition.specs.Decoding as Decoding
use Rattle.definition.specs.Classes.{Class, Ordinary, IF, NOTIF, ELSE, ENDIF, RETURN, ordinary, plain, class_at}
use Rattle.definition.specs.Refusals.{max_element}
use Rattle.definition.specs.Replay.{AreBytes}
use Rattle.definition.specs.Stacks.{Rules, Outcome, done, step, push_item, push_literal, plain_step}
use Rattle.definition.specs.Stacks as S
use Rattle.definition.specs.Walk.{Item, unknown, dead, Frame, moves, effect, marking, total_of, log_row}
use Rattle.decode.specs.View.{code_at, Decoded, decoded_at, data_start, item_of}
use Rattle.decode.proofs.Codes.{InstructionAt, code-instruction, code-ends, code-malformed}
use Rattle.decode.specs.declared.Instruction.{Instruction}
use Rattle.decode.specs.declared.Malformed.{Malformed}
use Rattle.decode.specs.declared.Value.{Value}
use Rattle.decode.specs.declared.Value.TheVariants.{Unknown, Exact}
use Rattle.opcodes.specs.Class.{number_of}
use Rattle.opcodes.specs.declared.Class as Opcodes
use Rattle.opcodes.specs.declared.Class.TheVariants as C
use Rattle.refusals.specs.declared.Refusal.{Refusal}
use Rattle.refusals.specs.declared.Refusal.TheVariants as F
use Rattle.stack.specs.View.{view, Yields, YieldsStep}
use Rattle.stack.specs.declared.Stacks.{Stacks}
use Rattle.walk.specs.Runs.{running, finished, met_conditional, met_else, met_endif, going, stopping, Stand, stand, arm, Goes, Any, Room, Runs}
use Rattle.walk.specs.declared.Place.{Place}
use Rattle.walk.specs.declared.Stop.{Stop}
use Rattle.walk.specs.declared.Walk.{Walk}
use Rattle.walk.proofs.Rows.{row-live, total-live}
use Rattle.walk.proofs.Literals.{unknown-long, exact-pushed, long-pushed, short-pushed}
use Rattle.walk.proofs.Goings.{stays, goes_on_lem}
use Rattle.walk.proofs.Steps.{past, at-if, at-notif, at-else, at-endif, at_return, skipped, stepped, at-end}

-- the loop's invariant
pub record Walking (R : Rules) (s : Bytes) (before : List ℕ) (v : Stand) (now : List ℕ) (w : Stand) : Type 0 where
  pub bytes : AreBytes s
  pub ready : Room s before v.at v.rows
  pub len : length now ≡ length before
  pub goes : Goes R s Any v before w now

pub walking-none : {R : Rules} {s : Bytes} {log : List ℕ} {v : Stand} → AreBytes s → Room s log v.at v.rows → Walking R s log v log v
walking-none b r = record { bytes = b; ready = r; len = refl; goes = stays r.high }

-- in a dead arm an instruction of this class is skipped
abbrev pub Skips : Rules → Class → Type 0
Skips R k = (i : Decoding.Instruction) (fs : List Frame) → effect R i k dead fs ≡ moves dead fs

-- What is known once the instruction i is met by w, its row is written, and its class is read.
pub record Met (R : Rules) (s : Bytes) (before : List ℕ) (v : Stand) (old : List ℕ) (w : Stand) (new : List ℕ) (i : Instruction) (peak : ℕ) (class : Opcodes.Class) : Type 0 where
  pub walking : Walking R s before v old w
  pub run : w.halt ≡ running
  pub stands : InstructionAt s w.at i
  pub len : length new ≡ length old
  pub row : new ≡ log_row w.rows w.at (arm w) old
  pub high : peak ≡ max w.peak (total_of (arm w))
  pub kind : R.class_for i.opcode ≡ class_at (number_of class)

-- a walk whose arm has these stacks
abbrev pub living : Stacks → Place → ℕ → Stand
living x p peak = record { stacks = Some x; at = p.at; last = p.last; rows = p.rows; peak = peak; halt = running }

pub live-met : {R : Rules} {s : Bytes} {before : List ℕ} {v : Stand} {old new : List ℕ} {x : Stacks} {i : Instruction} {peak : ℕ} {class : Opcodes.Class} (p : Place) (least : ℕ)
    → Walking R s before v old (living x p least) → InstructionAt s p.at i → length new ≡ length old → new ≡ set (set (set old (3 * p.rows) p.at) (3 * p.rows + 1) x.mains) (3 * p.rows + 2) x.alts
    → peak ≡ max least (x.mains + x.alts) → R.class_for i.opcode ≡ class_at (number_of class) → Met R s before v old (living x p least) new i peak class
live-met {old = old} {new} {x} p least k at len row high kind =
    record { walking = k; run = refl; stands = at; len = len; row = row-live p.rows p.at x old new row; high = rw total-live high; kind = kind }

-- what an instruction of this class makes of live stacks
abbrev pub operated : Rules → Decoding.Instruction → Class → S.Stacks Item → Outcome Item
operated R i (ordinary o) x = step marking R i o x
operated R i (plain pops pushes) x = plain_step marking R.limit pops pushes x
operated R i IF x = done x
operated R i NOTIF x = done x
operated R i ELSE x = done x
operated R i ENDIF x = done x
operated R i RETURN x = done x

-- a class that an instruction of a live arm does so by
abbrev pub Operates : Class → Type 0
Operates (ordinary o) = Unit {0}
Operates (plain pops pushes) = Unit {0}
Operates IF = ⊥
Operates NOTIF = ⊥
Operates ELSE = ⊥
Operates ENDIF = ⊥
Operates RETURN = ⊥

module _ {R : Rules} {s : Bytes} {before : List ℕ} {v : Stand} {old : List ℕ} {w : Stand} {new : List ℕ} {i : Instruction} {peak : ℕ} {class : Opcodes.Class} (m : Met R s before v old w new i peak class) where
  -- the loop goes on, or the walk has stopped
  on : {u : Stand} → Goes R s Any w old u new → Walking R s before v new u
  on g = record { bytes = m.walking.bytes; ready = m.walking.ready; len = m.len ∙ m.walking.len; goes = goes_on_lem m.walking.goes g }

  -- the class of the instruction, by its number
  kind : {k : Opcodes.Class} → class ≡ k → R.class_for i.opcode ≡ class_at (number_of k)
  kind e = m.kind ∙ ap (λ k. class_at (number_of k)) e

  met-if : class ≡ C.If → Walking R s before v new (past w i peak w.stacks met_conditional)
  met-if e = on (at-if R s m.stands w m.run refl old m.row m.high (kind e))

  met-notif : class ≡ C.NotIf → Walking R s before v new (past w i peak w.stacks met_conditional)
  met-notif e = on (at-notif R s m.stands w m.run refl old m.row m.high (kind e))

  pub met-if-or-notif : (class ≡ C.If) ⊎ (class ≡ C.NotIf) → Walking R s before v new (past w i peak w.stacks met_conditional)
  met-if-or-notif = ⊎_elim met-if met-notif

  pub met-else : class ≡ C.Else → Walking R s before v new (past w i peak w.stacks met_else)
  met-else e = on (at-else R s m.stands w m.run refl old m.row m.high (kind e))

  pub met-endif : class ≡ C.EndIf → Walking R s before v new (past w i peak w.stacks met_endif)
  met-endif e = on (at-endif R s m.stands w m.run refl old m.row m.high (kind e))

  pub met-return : class ≡ C.Return → Walking R s before v new (past w i peak None running)
  met-return e = on (at_return R s m.stands w m.run refl old m.row m.high (kind e))

  -- an ordinary instruction in a dead arm
  pub met-dead : Skips R (class_at (number_of class)) → w.stacks ≡ None → Walking R s before v new (past w i peak w.stacks running)
  met-dead k l = rw l (on (skipped R s m.stands w m.run refl old m.row m.high (class_at (number_of class)) m.kind (k _) l))

  -- the instruction as the definition has it
  abbrev pub there : Decoding.Instruction
  there = record { opcode = i.opcode; offset = w.at; literal = m.stands.literal }

  -- one that is no conditional and no RETURN, in a live arm
  module _ (x : Stacks) (l : w.stacks ≡ Some x) (a : Result Unit Refusal) (y : Stacks) where
    met-ordinary : (o : Ordinary) → class_at (number_of class) ≡ ordinary o → Yields a y (step marking R there o (view x)) → Walking R s before v new (past w i peak (Some y) (going a))
    met-ordinary o k says = on (stepped R s m.stands w m.run refl old m.row m.high (ordinary o) _ x (m.kind ∙ k) (λ fs. refl) l a y says)

    met-plain : (pops pushes : ℕ) → class_at (number_of class) ≡ plain pops pushes → Yields a y (plain_step marking R.limit pops pushes (view x)) → Walking R s before v new (past w i peak (Some y) (going a))
    met-plain pops pushes k says = on (stepped R s m.stands w m.run refl old m.row m.high (plain pops pushes) _ x (m.kind ∙ k) (λ fs. refl) l a y says)

    pub met-operated : Operates (class_at (number_of class)) × Yields a y (operated R there (class_at (number_of class)) (view x)) → Walking R s before v new (past w i peak (Some y) (going a))
    met-operated did = by (class_at (number_of class)) refl did.0 did.1
      where
        by : (k : Class) → class_at (number_of class) ≡ k → Operates k → Yields a y (operated R there k (view x)) → Walking R s before v new (past w i peak (Some y) (going a))
        by (ordinary o) e f says = met-ordinary o e says
        by (plain pops pushes) e f says = met-plain pops pushes e says
        by IF e f says = absurd f
        by NOTIF e f says = absurd f
        by ELSE e f says = absurd f
        by ENDIF e f says = absurd f
        by RETURN e f says = absurd f

  -- the loop's measure falls
  pub nearer : length s - i.next < length s - w.at
  nearer = omega (arith, m.stands.onward, m.stands.within)

  -- what an operation did, by the class k that the match has told
  abbrev pub Did : Opcodes.Class → Result Unit Refusal → Stacks → Stacks → Type 0
  Did k a y x = Operates (class_at (number_of k)) × Yields a y (operated R there (class_at (number_of k)) (view x))

  pub did-by : (k : Opcodes.Class) → class ≡ k → (x : Stacks) (a : Result Unit Refusal) (y : Stacks) {b : Result Unit Refusal} {z : Stacks} → a ≡ b → y ≡ z → Did k b z x → Did class a y x
  did-by k e x a y f g did = rw (e, f, g) did

  -- one that is a step by its own contract
  pub steps-by : (o : Ordinary) (x : Stacks) {a : Result Unit Refusal} {y : Stacks} → YieldsStep a y R.limit o (view x) → Yields a y (step marking R there o (view x))
  steps-by o x says = record { same = says.same R there refl }

  pub does-nothing : (x : Stacks) → Did C.Nothing (Ok tt) x x
  unfolding step
  does-nothing x = (tt, record { same = refl })

  pub unmodelled-refused : class ≡ C.Unmodelled → (x : Stacks) → Did class (Err (F.Unmodelled i.opcode)) x x
  unfolding step
  unmodelled-refused e x = rw e (tt, record { same = refl })

  -- an unknown literal ends where the next instruction stands
  module _ (u : i.literal ≡ Unknown) where
    data-long : 8 < length m.stands.literal
    data-long = unknown-long m.stands.literal (m.stands.value ∙ u)

    data_is : i.next - data_start s w.at ≡ length m.stands.literal
    data_is = omega (arith, m.stands.long data-long)

    -- what `too_long` and `data_size` ask
    pub data-within : (w.at < length s) × (data_start s w.at ≤ i.next)
    data-within = (omega (arith, m.stands.onward, m.stands.within), omega (arith, m.stands.long data-long))

    module _ (b : Bool) (t : b ≡ (R.examined && ltb max_element (i.next - data_start s w.at))) where
      -- one that is too long is refused
      pub pushes-long : class ≡ C.Push → (x : Stacks) → b ≡ true → (size : ℕ) → size ≡ i.next - data_start s w.at → Did class (Err (F.LongElement size)) x x
      unfolding step
      pushes-long e x f size z = rw e (tt, record { same = rw z (sym (long-pushed R m.stands.literal (view x) _ data_is b t f)) })

      -- another is pushed
      pub pushes-unknown : b ≡ false → (x : Stacks) {a : Result Unit Refusal} {y : Stacks} → Yields a y (push_item R.limit unknown (view x)) → Did C.Push a y x
      unfolding step
      pushes-unknown f x {a} {y} says = (
        tt,
        subst (λ o. Yields a y o) (sym (short-pushed R m.stands.literal (view x) _ data_is b t f))
            (subst (λ (z : Item). Yields a y (push_item R.limit z (view x))) (ap item_of (sym u) ∙ m.stands.item) says),
      )

  -- a literal that is known is no long one
  pub pushes-known : (i.literal ≡ Unknown → ⊥) → (x : Stacks) {a : Result Unit Refusal} {y : Stacks} → Yields a y (push_item R.limit (item_of i.literal) (view x)) → Did C.Push a y x
  unfolding step
  pushes-known n x {a} {y} says = by i.literal refl
    where
      by : (l : Value) → i.literal ≡ l → Did C.Push a y x
      by Unknown q = absurd (n q)
      by (Exact len bytes) q = (
        tt,
        subst (λ o. Yields a y o) (sym (exact-pushed R m.stands.literal (view x) len bytes (m.stands.value ∙ q)))
            (subst (λ (z : Item). Yields a y (push_item R.limit z (view x))) m.stands.item says),
      )

-- The other needs of the loops
module _ {R : Rules} {s : Bytes} {before : List ℕ} {v : Stand} {now : List ℕ} where
  -- no instruction stands at the offset
  pub none_left : {w : Stand} → Walking R s before v now w → w.halt ≡ running → {peak : ℕ} → peak ≡ max w.peak (total_of (arm w)) → instructions (code_at s w.at) ≡ []
      → Walking R s before v now (record { stacks = w.stacks; at = w.at; last = w.last; rows = w.rows; peak = peak; halt = finished })
  none_left {w} k run h n = record { bytes = k.bytes; ready = k.ready; len = k.len; goes = goes_on_lem k.goes (at-end R s w run n h k.goes.high) }

  -- the log has room for one more row, and the offset fits it
  pub row_room : {w : Stand} {i : Instruction} → Walking R s before v now w → InstructionAt s w.at i → 3 * w.rows + 2 < length now
  row_room {w} {i} k at =
      let e : instructions (code_at s w.at) ≡ record { opcode = i.opcode; offset = w.at; literal = at.literal } ∷ instructions (code_at s i.next) = ap instructions at.code in
      omega (arith, k.ready.room, k.goes.fewer, k.len, ap length e)

  pub short_at : {w : Stand} {i : Instruction} → Walking R s before v now w → InstructionAt s w.at i → w.at < 2 ^ 16
  short_at k at = omega (arith, k.ready.short, at.onward, at.within)

  -- room for the rows that are left
  pub room-on : {w : Stand} → Walking R s before v now w → Room s now w.at w.rows
  room-on k = record { high = k.goes.high; short = k.ready.short; room = omega (arith, k.ready.room, k.goes.fewer, k.len) }

-- the walk has stopped
pub walk-runs : {R : Rules} {s : Bytes} {before : List ℕ} {v : Walk} {now : List ℕ} {w : Walk} {r : Result Stop Refusal} → Walking R s before (stand v running) now (stand w (stopping r))
    → (r ≡ Ok Stop.Conditional → v.place.at < w.place.at) → Runs R s v before w r now
walk-runs k h = record { goes = k.goes; onward = h }

-- a step was refused
pub refused-runs : {R : Rules} {s : Bytes} {before : List ℕ} {v : Walk} {now : List ℕ} (w : Walk) {a : Result Unit Refusal} {r : Result Stop Refusal} {z : Refusal} → a ≡ Err z → r ≡ Err z
    → Walking R s before (stand v running) now (stand w (going a)) → Runs R s v before w r now
refused-runs w e f k = rw f (walk-runs (rw e at k) (λ g. cc))

-- by way of another walk
pub then-runs : {R : Rules} {s : Bytes} {before : List ℕ} {v u : Walk} {mid : List ℕ} {w : Walk} {r : Result Stop Refusal} {now : List ℕ} → Walking R s before (stand v running) mid (stand u running)
    → Runs R s u mid w r now → Runs R s v before w r now
then-runs k r = record { goes = goes_on_lem k.goes r.goes; onward = λ e. omega (arith, k.goes.low, r.onward e) }

-- what stands where `decode_at` has answered
pub instruction-there : {s : Bytes} {p : ℕ} → AreBytes s → {d : Decoded} → d ≡ decoded_at s p → {o : Option Instruction} → d ≡ Ok o → {i : Instruction} → o ≡ Some i → InstructionAt s p i
instruction-there {s} {p} b e f {i} g = code-instruction s p b i (sym e ∙ f ∙ rw g)

pub end-there : (s : Bytes) (p : ℕ) {d : Decoded} → d ≡ decoded_at s p → d ≡ Ok None → instructions (code_at s p) ≡ []
end-there s p e h = ap instructions (code-ends s p (sym e ∙ h)).0

pub malformed-there : (s : Bytes) (p : ℕ) {d : Decoded} {m : Malformed} → d ≡ decoded_at s p → d ≡ Err m → instructions (code_at s p) ≡ []
malformed-there s p e h = ap instructions (code-malformed s p (sym e ∙ h)).0
