-- Wherever the marker's arm is live, at an instruction or at the end, some replay comes: its choices are found backwards from
-- there, and it starts with the bytes of the exact items and with no bytes for the unknown ones.
use mathlib.Core.Bool.{Bool, true, false}
use mathlib.Core.List.{List, [], ◌∷◌}
use mathlib.Core.Logic.{◌⊎◌, ⊎_elim}
use mathlib.Core.Path.{◌≡◌, refl, sym, ap, subst}
use Prim.Native.Nat.{ℕ, zero, suc, ◌+◌, ◌≤◌}
use native.Mathlib.Omega.{arith}
use lib.Dec.{ltb}
use lib.ListN.{length, get_or, drop, replicate, length-replicate}
use Rattle.definition.specs.Basics.{Bytes, pick}
use Rattle.definition.specs.Decoding.{Instruction}
use Rattle.definition.specs.Classes.{Class, IF, NOTIF, ELSE, ENDIF, RETURN, ordinary, plain}
use Rattle.definition.specs.Refusals.{nesting, max_open}
use Rattle.definition.specs.Stacks.{Rules, Stacks, Outcome, done, refused, drop_items, step, plain_step}
use Rattle.definition.specs.Walk.{Item, unknown, exact, marking, Arm, dead, live, FirstArm, not_ended, ended, Frame, Move, moves, refuses, on_outcome, join, on_if, conditional, on_else, on_endif, effect}
use Rattle.definition.specs.Replay.{Replay, replaying, Going, running, jumping, Carried, goes_on, halts, fails, carried_out, chosen, carry, past, Trace, visit, on_carried, replay_from, whole_replay, ShowsAll, ShowsStacks, AreStrings, ReplayOf}
use Rattle.definition.proofs.Related.{paired_stacks}
use Rattle.definition.proofs.Arms.{Goes, Accepts, after, arm_at, Alive}
use Rattle.definition.proofs.Sound.{Leads, opened, LiveAs, Joins, join-leads, Waits, Inv, Next, act, act-next}

-- Choices alone steer a replay that does not fault

-- where an instruction leads: on in a mode, with what is left of the choices, or to the replay's end
pub data Turn : Type 0 where
  turn : Going → List Bool → Turn
  over : Turn

abbrev carried : Class → List Bool → Turn
carried IF choices = turn (chosen (get_or choices 0 true)) (drop 1 choices)
carried NOTIF choices = turn (chosen (get_or choices 0 true)) (drop 1 choices)
carried ELSE choices = turn (jumping false 0) choices
carried ENDIF choices = turn running choices
carried RETURN choices = over
carried (ordinary o) choices = turn running choices
carried (plain pops pushes) choices = turn running choices

abbrev steer : Class → Going → List Bool → Turn
steer k running choices = carried k choices
steer k (jumping to_else n) choices = turn (past k to_else n) choices

abbrev Then : Turn → (Going → List Bool → Type 0) → Type 0
Then (turn m choices) P = P m choices
Then over P = ⊥

-- these choices lead to the instruction j places on, to be carried out, or to the end
abbrev Route : Rules → List Instruction → Going → List Bool → ℕ → Type 0
Route R is m choices zero = m ≡ running
Route R [] m choices (suc j) = ⊥
Route R (i ∷ is) m choices (suc j) = Then (steer (R.class_for i.opcode) m choices) (λ m choices. Route R is m choices j)

-- A live arm has a route

-- a replay could be in this mode
abbrev Opening : FirstArm → Arm → Type 0
Opening not_ended s = Alive s
Opening (ended a) s = ⊥

abbrev Closing : FirstArm → Type 0
Closing not_ended = ⊥
Closing (ended a) = Alive a

abbrev May : Going → Arm → List Frame → Type 0
May running c fs = Alive c
May (jumping true n) c fs = Waits n (λ f. Opening f.first f.start) fs
May (jumping false n) c fs = Waits n (λ f. Closing f.first) fs

-- some mode before the instruction leads to this one, with no fewer choices
abbrev Back : Class → Arm → List Frame → Going → List Bool → Type 0
Back k c fs m' choices' = (m : Going) × (choices : List Bool) × (May m c fs) × (steer k m choices ≡ turn m' choices') × (length choices' ≤ length choices)

abbrev BackFrom : Class → Arm → List Frame → Arm → List Frame → Type 0
BackFrom k c fs c' fs' = (m : Going) (choices : List Bool) → May m c' fs' → Back k c fs m choices

-- a class that changes neither the mode nor the choices
abbrev Passing : Class → Type 0
Passing k = ((choices : List Bool) → carried k choices ≡ turn running choices) × ((to_else : Bool) (n : ℕ) → past k to_else n ≡ jumping to_else n)

moved_back : (k : Class) → Passing k → (s : Stacks Item) (fs : List Frame) (p : Outcome Item) → Leads (on_outcome p fs) (BackFrom k (live s) fs)
moved_back k q s fs (refused x) = tt
moved_back k q s fs (done t) = back
  where
    back : BackFrom k (live s) fs (live t) fs
    back running choices h = (running, choices, tt, q.0 choices, omega arith)
    back (jumping true n) choices h = (jumping true n, choices, h, ap (λ m. turn m choices) (q.1 true n), omega arith)
    back (jumping false n) choices h = (jumping false n, choices, h, ap (λ m. turn m choices) (q.1 false n), omega arith)

-- a dead arm is left by jumps alone
dead-back : (k : Class) (c : Arm) (fs : List Frame) → ((to_else : Bool) (n : ℕ) → past k to_else n ≡ jumping to_else n) → BackFrom k c fs dead fs
dead-back k c fs e running choices h = absurd h
dead-back k c fs e (jumping true n) choices h = (jumping true n, choices, h, ap (λ m. turn m choices) (e true n), omega arith)
dead-back k c fs e (jumping false n) choices h = (jumping false n, choices, h, ap (λ m. turn m choices) (e false n), omega arith)

-- IF or NOTIF
abbrev Opener : Class → Type 0
Opener k = ((choices : List Bool) → carried k choices ≡ turn (chosen (get_or choices 0 true)) (drop 1 choices))
    × ((to_else : Bool) (n : ℕ) → past k to_else n ≡ jumping to_else (suc n))

-- the next choice, true or false, leads to the first arm or to the second
open-back : (k : Class) → Opener k → (c c' : Arm) (fs : List Frame) → (Alive c' → Alive c) → BackFrom k c fs c' (record { start = c'; first = not_ended } ∷ fs)
open-back k q c c' fs a running choices h = (running, true ∷ choices, a h, q.0 (true ∷ choices), omega arith)
open-back k q c c' fs a (jumping true zero) choices h = (running, false ∷ choices, a h, q.0 (false ∷ choices), omega arith)
open-back k q c c' fs a (jumping true (suc n)) choices h = (jumping true n, choices, h, ap (λ m. turn m choices) (q.1 true n), omega arith)
open-back k q c c' fs a (jumping false zero) choices h = absurd h
open-back k q c c' fs a (jumping false (suc n)) choices h = (jumping false n, choices, h, ap (λ m. turn m choices) (q.1 false n), omega arith)

if-back : (k : Class) → Opener k → (c : Arm) (fs : List Frame) → Leads (conditional c fs) (BackFrom k c fs)
if-back k q c fs = nested (ltb (length fs) max_open)
  where
    opened-back : (s : Stacks Item) (p : Outcome Item) → Leads (opened p fs) (BackFrom k (live s) fs)
    opened-back s (done t) = open-back k q (live s) (live t) fs (λ h. tt)
    opened-back s (refused x) = tt

    either : (c : Arm) → Leads (on_if c fs) (BackFrom k c fs)
    either dead = open-back k q dead dead fs (λ h. h)
    either (live s) = opened-back s (drop_items 1 s)

    nested : (b : Bool) → Leads (pick b (on_if c fs) (refuses nesting)) (BackFrom k c fs)
    nested true = either c
    nested false = tt

-- the second arm is reached by a jump; what waits past the ENDIF ran to the ELSE
else-back : (c : Arm) (f : Frame) (fs : List Frame) (t : FirstArm) → f.first ≡ t → Leads (on_else c f.start t fs) (BackFrom ELSE c (f ∷ fs))
else-back c f fs (ended a) e = tt
else-back c f fs not_ended e = back
  where
    back : BackFrom ELSE c (f ∷ fs) f.start (record { start = f.start; first = ended c } ∷ fs)
    back running choices h = (jumping true 0, choices, rw e h, refl, omega arith)
    back (jumping true zero) choices h = absurd h
    back (jumping true (suc n)) choices h = (jumping true (suc n), choices, h, refl, omega arith)
    back (jumping false zero) choices h = (running, choices, h, refl, omega arith)
    back (jumping false (suc n)) choices h = (jumping false (suc n), choices, h, refl, omega arith)

-- the joined arm is reached from a side that is live
joins-back : (c : Arm) (f : Frame) (fs : List Frame) (a b : Arm) → ((Alive a) ⊎ (Alive b) → (choices : List Bool) → Back ENDIF c (f ∷ fs) running choices)
    → Leads (join a b fs) (BackFrom ENDIF c (f ∷ fs))
joins-back c f fs a b g = leads (join a b fs) (join-leads a b fs)
  where
    back : (c' : Arm) (gs : List Frame) → Joins a b fs c' gs → BackFrom ENDIF c (f ∷ fs) c' gs
    back c' gs j running choices h = g (j.1 h) choices
    back c' gs j (jumping true n) choices h = (jumping true (suc n), choices, rw j.2 at h, refl, omega arith)
    back c' gs j (jumping false n) choices h = (jumping false (suc n), choices, rw j.2 at h, refl, omega arith)

    leads : (mv : Move) → Leads mv (Joins a b fs) → Leads mv (BackFrom ENDIF c (f ∷ fs))
    leads (moves c' gs) j = back c' gs j
    leads (refuses x) j = tt

endif-back : (c : Arm) (f : Frame) (fs : List Frame) (t : FirstArm) → f.first ≡ t → Leads (on_endif c f.start t fs) (BackFrom ENDIF c (f ∷ fs))
endif-back c f fs not_ended e = joins-back c f fs c f.start
    (λ l choices. ⊎_elim (λ h. (running, choices, h, refl, omega arith)) (λ h. (jumping true 0, choices, rw e h, refl, omega arith)) l)
endif-back c f fs (ended a) e = joins-back c f fs a c
    (λ l choices. ⊎_elim (λ h. (jumping false 0, choices, rw e h, refl, omega arith)) (λ h. (running, choices, h, refl, omega arith)) l)

module _ (R : Rules) where
  back : (i : Instruction) (k : Class) (c : Arm) (fs : List Frame) → Leads (effect R i k c fs) (BackFrom k c fs)
  back i IF c fs = if-back IF ((λ choices. refl), (λ e n. refl)) c fs
  back i NOTIF c fs = if-back NOTIF ((λ choices. refl), (λ e n. refl)) c fs
  back i ELSE c [] = tt
  back i ELSE c (f ∷ fs) = else-back c f fs f.first refl
  back i ENDIF c [] = tt
  back i ENDIF c (f ∷ fs) = endif-back c f fs f.first refl
  back i RETURN c fs = dead-back RETURN c fs (λ e n. refl)
  back i (ordinary o) dead fs = dead-back (ordinary o) dead fs (λ e n. refl)
  back i (ordinary o) (live s) fs = moved_back (ordinary o) ((λ choices. refl), (λ e n. refl)) s fs (step marking R i o s)
  back i (plain pops pushes) dead fs = dead-back (plain pops pushes) dead fs (λ e n. refl)
  back i (plain pops pushes) (live s) fs = moved_back (plain pops pushes) ((λ choices. refl), (λ e n. refl)) s fs (plain_step marking R.limit pops pushes s)

  -- from a mode and choices that begin with those found, and end in the ones given
  abbrev Routed : List Instruction → Arm → List Frame → List Bool → ℕ → Type 0
  Routed is c fs rest j = (m : Going) × (choices : List Bool) × (May m c fs) × (Route R is m choices j) × (length rest ≤ length choices)

  routes : (is : List Instruction) (c : Arm) (fs : List Frame) (rest : List Bool) → Accepts R is c fs → (j : ℕ) → Alive (arm_at R is c fs j) → Routed is c fs rest j
  routes is c fs rest g zero h = (running, rest, h, refl, omega arith)
  routes [] c fs rest g (suc j) h = absurd h
  routes (i ∷ is) c fs rest g (suc j) h =
      onto (effect R i (R.class_for i.opcode) c fs) (back i (R.class_for i.opcode) c fs) g h (λ c fs g h. routes is c fs rest g j h)
    where
      onto : (mv : Move) → Leads mv (BackFrom (R.class_for i.opcode) c fs) → Goes mv (λ c fs. Accepts R is c fs) → Alive (after mv (λ c fs. arm_at R is c fs j))
          → ((c : Arm) (fs : List Frame) → Accepts R is c fs → Alive (arm_at R is c fs j) → Routed is c fs rest j) → Routed (i ∷ is) c fs rest (suc j)
      onto (moves c' fs') b g h f =
          let q = f c' fs' g h in
          let p = b q.0 q.1 q.2 in
          (p.0, p.1, p.2, subst (λ w. Then w (λ m choices. Route R is m choices j)) (sym p.3) q.3, omega (arith, p.4, q.4))
      onto (refuses x) b g h f = absurd g

-- A replay follows its choices

abbrev Steers : Carried → Turn → Type 0
Steers (goes_on m r) (turn m' choices) = (m ≡ m') × (r.choices ≡ choices)
Steers (goes_on m r) over = ⊥
Steers halts (turn m choices) = ⊥
Steers halts over = Unit {0}
Steers fails w = Unit {0}

carried_out-steers : (o : Outcome Bytes) (m : Going) (choices : List Bool) (results : List Bytes) → Steers (carried_out o m choices results) (turn m choices)
carried_out-steers (done s) m choices results = (refl, refl)
carried_out-steers (refused x) m choices results = tt

carry-steers : (R : Rules) (i : Instruction) (k : Class) (r : Replay) → Steers (carry R i k r) (carried k r.choices)
carry-steers R i IF r = carried_out-steers (drop_items 1 r.stacks) _ _ _
carry-steers R i NOTIF r = carried_out-steers (drop_items 1 r.stacks) _ _ _
carry-steers R i ELSE r = (refl, refl)
carry-steers R i ENDIF r = (refl, refl)
carry-steers R i RETURN r = tt
carry-steers R i (ordinary o) r = carried_out-steers (step (replaying r.results) R i o r.stacks) _ _ _
carry-steers R i (plain pops pushes) r = carried_out-steers (plain_step (replaying r.results) R.limit pops pushes r.stacks) _ _ _

act-steers : (R : Rules) (i : Instruction) (k : Class) (m : Going) (r : Replay) → Steers (act R i k m r) (steer k m r.choices)
act-steers R i k running r = carry-steers R i k r
act-steers R i k (jumping to_else n) r = (refl, refl)

-- P is what is looked for in a trace: where it holds of a later part, it holds of the trace.
module _ (R : Rules) (P : Trace → Type 0) (earlier : (k : ℕ) (u : Stacks Bytes) (t : Trace) → P t → P (visit k u t)) where
  -- P holds of each replay that comes to the instruction j places on, there at place x, with stacks that its arm shows
  abbrev There : List Instruction → Arm → ℕ → ℕ → Type 0
  There is c j x = (r : Replay) → LiveAs c r.stacks → P (replay_from R (drop j is) x running r)

  traced-follows : (is : List Instruction) (k : ℕ) (u : Stacks Bytes) (j x : ℕ) (mv : Move) (a : Carried) (w : Turn) → Next mv a → Steers a w
      → Goes mv (λ c fs. Accepts R is c fs) → Then w (λ m choices. Route R is m choices j) → There is (after mv (λ c fs. arm_at R is c fs j)) j x
      → ((c : Arm) (fs : List Frame) (m : Going) (r : Replay) → Accepts R is c fs → Inv m r.stacks c fs → Route R is m r.choices j
      → There is (arm_at R is c fs j) j x → P (replay_from R is (k + 1) m r))
      → P (on_carried a u (λ m r. replay_from R is (k + 1) m r))
  traced-follows is k u j x (moves c fs) (goes_on m r) (turn m' choices) h s g p q f = f c fs m r g h (rw (s.0, s.1) p) q
  traced-follows is k u j x (moves c fs) (goes_on m r) over h s g p q f = absurd s
  traced-follows is k u j x (moves c fs) halts (turn m choices) h s g p q f = absurd s
  traced-follows is k u j x (moves c fs) halts over h s g p q f = absurd p
  traced-follows is k u j x (moves c fs) fails w h s g p q f = absurd h
  traced-follows is k u j x (refuses y) a w h s g p q f = absurd g

  follows : (is : List Instruction) (k : ℕ) (c : Arm) (fs : List Frame) (m : Going) (r : Replay) (j x : ℕ) → Accepts R is c fs → Inv m r.stacks c fs
      → Route R is m r.choices j → k + j ≡ x → There is (arm_at R is c fs j) j x → P (replay_from R is k m r)
  unfolding replay_from
  follows is k c fs m r zero x g h p e q =
      let z : k ≡ x = omega arith in
      rw (p, z) (q r (rw p at h))
  follows [] k c fs m r (suc j) x g h p e q = absurd p
  follows (i ∷ is) k c fs m r (suc j) x g h p e q =
      onto m (traced-follows is k r.stacks j x (effect R i (R.class_for i.opcode) c fs) (act R i (R.class_for i.opcode) m r)
      (steer (R.class_for i.opcode) m r.choices) (act-next R i r (R.class_for i.opcode) m c fs h) (act-steers R i (R.class_for i.opcode) m r) g p q
      (λ c fs m r g h p q. follows is (k + 1) c fs m r j x g h p (omega arith) q))
    where
      onto : (m : Going) → P (on_carried (act R i (R.class_for i.opcode) m r) r.stacks (λ m r. replay_from R is (k + 1) m r)) → P (replay_from R (i ∷ is) k m r)
      onto running t = earlier k r.stacks _ t
      onto (jumping to_else n) t = t

-- A replay to start with

-- the bytes of an exact item, and no bytes for an unknown one
abbrev pub bytes_for : Item → Bytes
bytes_for unknown = []
bytes_for (exact l) = l

abbrev pub strings_for : List Item → List Bytes
strings_for [] = []
strings_for (x ∷ l) = bytes_for x ∷ strings_for l

-- the exact items of these stacks are byte strings: every byte is below 256
pub record ExactBytes (s : Stacks Item) : Type 0 where
  pub main : AreStrings (strings_for s.main)
  pub alt : AreStrings (strings_for s.alt)

strings_for-shows : (l : List Item) → ShowsAll l (strings_for l)
strings_for-shows [] = tt
strings_for-shows (unknown ∷ l) = (tt, strings_for-shows l)
strings_for-shows (exact b ∷ l) = (refl, strings_for-shows l)

pub no_bytes : (n : ℕ) → AreStrings (replicate n [])
no_bytes zero = tt
no_bytes (suc n) = (tt, no_bytes n)

-- from these stacks, with these choices, and results without bytes
abbrev replay_for : List Instruction → Stacks Item → List Bool → Replay
replay_for is s choices = record {
  stacks = record { main = strings_for s.main; alt = strings_for s.alt };
  choices = choices;
  results = replicate (length is) [];
}

replay_for-shows : (is : List Instruction) (s : Stacks Item) (choices : List Bool) → ShowsStacks s (replay_for is s choices).stacks
replay_for-shows is s choices = record { main = strings_for-shows s.main; alt = strings_for-shows s.alt }

replay_for-is : (is : List Instruction) (s : Stacks Item) (choices : List Bool) → ExactBytes s → length is ≤ length choices → ReplayOf is s (replay_for is s choices)
replay_for-is is s choices b h = record {
  start = replay_for-shows is s choices;
  main = b.main;
  alt = b.alt;
  results = no_bytes (length is);
  enough_choices = h;
  enough_results = rw (length-replicate {A = Bytes} (length is) []) (omega arith);
}

-- wherever the arm of an accepted fragment is live, a replay comes
pub comes : (R : Rules) (is : List Instruction) (s : Stacks Item) → ExactBytes s → Accepts R is (live s) [] → (j : ℕ) → Alive (arm_at R is (live s) [] j)
    → (P : Trace → Type 0) (earlier : (k : ℕ) (u : Stacks Bytes) (t : Trace) → P t → P (visit k u t)) → There R P earlier is (arm_at R is (live s) [] j) j j
    → (r : Replay) × (ReplayOf is s r) × (P (whole_replay R is r))
comes R is s b g j h P earlier q = from (routes R is (live s) [] (replicate (length is) true) g j h)
  where
    none-waits : (m : Going) → May m (live s) [] → m ≡ running
    none-waits running h = refl
    none-waits (jumping true n) h = absurd h
    none-waits (jumping false n) h = absurd h

    from : Routed R is (live s) [] (replicate (length is) true) j → (r : Replay) × (ReplayOf is s r) × (P (whole_replay R is r))
    from w =
        let long : length is ≤ length w.1 = rw (length-replicate {A = Bool} (length is) true) at w.4 in (
          replay_for is s w.1,
          replay_for-is is s w.1 b long,
          follows R P earlier is 0 (live s) [] running (replay_for is s w.1) j j g (paired_stacks (replay_for-shows is s w.1))
              (subst (λ m. Route R is m w.1 j) (none-waits w.0 w.2) w.3) (omega arith) q,
        )
