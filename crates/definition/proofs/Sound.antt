-- Every replay of an accepted fragment follows the marker: it never faults, the marker's arm is live and shows its stacks at
-- each instruction that it reaches and at the end, and no replay leads over the limit.
use mathlib.Core.Bool.{Bool, true, false, ◌&&◌}
use mathlib.Core.List.{List, [], ◌∷◌}
use mathlib.Core.Logic.{◌⊎◌, inl, inr, ⊎_elim}
use mathlib.Core.Path.{◌≡◌, refl, sym, ap, subst, ◌∙◌}
use Prim.Native.Nat.{ℕ, zero, suc, ◌+◌, ◌≤◌, ◌<◌}
use native.Mathlib.Omega.{arith}
use borrow.Author.Tests.{eqb-true}
use lib.Dec.{ltb, eqb}
use lib.ListN.{length, get_or, drop}
use Rattle.definition.specs.Basics.{Bytes, pick}
use Rattle.definition.specs.Decoding.{Instruction}
use Rattle.definition.specs.Classes.{Class, IF, NOTIF, ELSE, ENDIF, RETURN, ordinary, plain}
use Rattle.definition.specs.Refusals.{max_open, nesting, arms_differ}
use Rattle.definition.specs.Stacks.{Rules, Stacks, Outcome, done, refused, total, on_done, drop_items, step, plain_step}
use Rattle.definition.specs.Walk.{Item, unknown, exact, marking, Arm, dead, live, FirstArm, not_ended, ended, Frame, Move, moves, refuses, same_bytes, join_item, join_items, join_stacks, on_outcome, join, opens, on_if, conditional, on_else, on_endif, effect}
use Rattle.definition.specs.Replay.{Replay, replaying, Going, running, jumping, Carried, goes_on, halts, fails, carried_out, chosen, branches, carry, past, Trace, visit, off_end, returned, faulted, on_carried, replay_from, ReachedAt, EndsInFault, RunsOffWith, HasTotal, Shows}
use Rattle.definition.proofs.Related.{Paired, bottom, above, PairedStacks, Agree, agree, stops, drop_items-agrees, step-agrees, plain_step-agrees, Within, drop_items-within, step-within, plain_step-within}
use Rattle.definition.proofs.Arms.{Goes, Accepts, after, arm_at, Alive}

-- Joins

-- a move of which something holds, if it leads on
abbrev pub Leads : Move → (Arm → List Frame → Type 0) → Type 0
Leads (moves c fs) P = P c fs
Leads (refuses r) P = Unit {0}

-- a live arm, item for item
abbrev pub LiveAs : Arm → Stacks Bytes → Type 0
LiveAs dead u = ⊥
LiveAs (live s) u = PairedStacks s u

pub and-true : (a b : Bool) → (a && b) ≡ true → (a ≡ true) × (b ≡ true)
and-true true true h = (refl, refl)
and-true true false h = (refl, h)
and-true false true h = (h, refl)
and-true false false h = (h, h)

same_bytes_lem : (l m : Bytes) → same_bytes l m ≡ true → l ≡ m
same_bytes_lem [] [] h = refl
same_bytes_lem [] (b ∷ m) h = let z : false ≡ true = h in cc
same_bytes_lem (a ∷ l) [] h = let z : false ≡ true = h in cc
same_bytes_lem (a ∷ l) (b ∷ m) h = let e = and-true (eqb a b) (same_bytes l m) h in rw (eqb-true a b e.0, same_bytes_lem l m e.1)

-- what either side shows, the joined item shows
join_item-left : (x y : Item) (b : Bytes) → Shows x b → Shows (join_item x y) b
join_item-left unknown y b h = tt
join_item-left (exact l) unknown b h = tt
join_item-left (exact l) (exact m) b h = either (same_bytes l m)
  where
    either : (t : Bool) → Shows (pick t (exact l) unknown) b
    either true = h
    either false = tt

join_item-right : (x y : Item) (b : Bytes) → Shows y b → Shows (join_item x y) b
join_item-right unknown y b h = tt
join_item-right (exact l) unknown b h = tt
join_item-right (exact l) (exact m) b h = either (same_bytes l m) refl
  where
    either : (t : Bool) → same_bytes l m ≡ t → Shows (pick t (exact l) unknown) b
    either true e = same_bytes_lem l m e ∙ h
    either false e = tt

join_items-left : (l m : List Item) {k : List Bytes} → length l ≡ length m → Paired l k → Paired (join_items l m) k
join_items-left [] m e bottom = bottom
join_items-left (x ∷ l) [] e (above r h) = absurd (omega arith)
join_items-left (x ∷ l) (y ∷ m) e (above {b = b} r h) = above (join_item-left x y b r) (join_items-left l m (omega arith) h)

join_items-right : (l m : List Item) {k : List Bytes} → length l ≡ length m → Paired m k → Paired (join_items l m) k
join_items-right [] [] e bottom = bottom
join_items-right [] (y ∷ m) e h = absurd (omega arith)
join_items-right (x ∷ l) [] e h = absurd (omega arith)
join_items-right (x ∷ l) (y ∷ m) e (above {b = b} r h) = above (join_item-right x y b r) (join_items-right l m (omega arith) h)

-- A join that leads on shows what either side shows, is live only where a side is, and leaves the frames below.
abbrev pub Joins : Arm → Arm → List Frame → Arm → List Frame → Type 0
Joins a b fs c gs = ((u : Stacks Bytes) → (LiveAs a u) ⊎ (LiveAs b u) → LiveAs c u) × (Alive c → (Alive a) ⊎ (Alive b)) × (gs ≡ fs)

pub join-leads : (a b : Arm) (fs : List Frame) → Leads (join a b fs) (Joins a b fs)
unfolding join_stacks
join-leads dead b fs = ((λ u h. ⊎_elim (λ n. absurd n) (λ l. l) h), (λ h. inr h), refl)
join-leads (live s) dead fs = ((λ u h. ⊎_elim (λ l. l) (λ n. absurd n) h), (λ h. inl tt), refl)
join-leads (live s) (live t) fs = heights (eqb (length s.main) (length t.main) && eqb (length s.alt) (length t.alt)) refl
  where
    joined : Stacks Item
    joined = record { main = join_items s.main t.main; alt = join_items s.alt t.alt }

    heights : (b : Bool) → (eqb (length s.main) (length t.main) && eqb (length s.alt) (length t.alt)) ≡ b
        → Leads (on_outcome (pick b (done joined) (refused arms_differ)) fs) (Joins (live s) (live t) fs)
    heights true e =
        let f = and-true (eqb (length s.main) (length t.main)) (eqb (length s.alt) (length t.alt)) e in
        let m = eqb-true (length s.main) (length t.main) f.0 in
        let a = eqb-true (length s.alt) (length t.alt) f.1 in (
          (λ u h. ⊎_elim
              (λ l. record { main = join_items-left s.main t.main m l.main; alt = join_items-left s.alt t.alt a l.alt })
              (λ r. record { main = join_items-right s.main t.main m r.main; alt = join_items-right s.alt t.alt a r.alt }) h),
          (λ h. inl tt),
          refl,
        )
    heights false e = tt

-- The simulation

-- of the n-th frame
abbrev pub Waits : ℕ → (Frame → Type 0) → List Frame → Type 0
Waits n P [] = ⊥
Waits zero P (f ∷ fs) = P f
Waits (suc n) P (f ∷ fs) = Waits n P fs

-- its second arm, still to come, starts with these stacks
abbrev Opens : Stacks Bytes → FirstArm → Arm → Type 0
Opens u not_ended s = LiveAs s u
Opens u (ended a) s = ⊥

-- its first arm has ended with these stacks
abbrev Ended : Stacks Bytes → FirstArm → Type 0
Ended u not_ended = ⊥
Ended u (ended a) = LiveAs a u

-- A running replay is in the marker's arm; one that jumps waits for the start of a second arm, or past the end of a first
-- one, n conditionals out.
abbrev pub Inv : Going → Stacks Bytes → Arm → List Frame → Type 0
Inv running u c fs = LiveAs c u
Inv (jumping true n) u c fs = Waits n (λ f. Opens u f.first f.start) fs
Inv (jumping false n) u c fs = Waits n (λ f. Ended u f.first) fs

-- where the marker moves on, the replay does not fault, and the two still agree
abbrev pub Next : Move → Carried → Type 0
Next (moves c fs) (goes_on m r) = Inv m r.stacks c fs
Next (moves c fs) halts = Unit {0}
Next (moves c fs) fails = ⊥
Next (refuses x) a = Unit {0}

-- an instruction met in any mode: carried out, or jumped over
abbrev pub act : Rules → Instruction → Class → Going → Replay → Carried
act R i k running r = carry R i k r
act R i k (jumping to_else n) r = goes_on (past k to_else n) r

-- a conditional opens with what an operation yields
abbrev pub opened : Outcome Item → List Frame → Move
opened o fs = on_done o refuses (λ s. opens (live s) fs)

module _ (R : Rules) (i : Instruction) (r : Replay) where
  -- an ordinary opcode carried out, and one jumped over
  moved-next : {o : Outcome Item} {p : Outcome Bytes} (fs : List Frame) (results : List Bytes) → Agree o p → Next (on_outcome o fs) (carried_out p running r.choices results)
  moved-next fs results (agree h) = h
  moved-next fs results stops = tt

  moved-waits : (m : Going) (o : Outcome Item) (fs : List Frame) → ((c : Arm) → Inv m r.stacks c fs) → Next (on_outcome o fs) (goes_on m r)
  moved-waits m (done s) fs h = h (live s)
  moved-waits m (refused x) fs h = tt

  -- IF and NOTIF
  nested : (b : Bool) (mv : Move) (a : Carried) → Next mv a → Next (pick b mv (refuses nesting)) a
  nested true mv a h = h
  nested false mv a h = tt

  chosen-next : (b : Bool) {s : Stacks Item} {t : Stacks Bytes} (fs : List Frame) → PairedStacks s t
      → Inv (chosen b) t (live s) (record { start = live s; first = not_ended } ∷ fs)
  chosen-next true fs h = h
  chosen-next false fs h = h

  opened-next : {o : Outcome Item} {p : Outcome Bytes} (fs : List Frame) → Agree o p
      → Next (opened o fs) (carried_out p (chosen (get_or r.choices 0 true)) (drop 1 r.choices) r.results)
  opened-next fs (agree h) = chosen-next (get_or r.choices 0 true) fs h
  opened-next fs stops = tt

  if-next : (c : Arm) (fs : List Frame) → LiveAs c r.stacks → Next (conditional c fs) (branches r)
  if-next dead fs h = absurd h
  if-next (live s) fs h = nested (ltb (length fs) max_open) (opened (drop_items 1 s) fs) _ (opened-next fs (drop_items-agrees h 1))

  if-waits : (m : Going) (c : Arm) (fs : List Frame) → ((c : Arm) (f : Frame) → Inv m r.stacks c (f ∷ fs)) → Next (conditional c fs) (goes_on m r)
  if-waits m c fs h = nested (ltb (length fs) max_open) (on_if c fs) (goes_on m r) (open-waits c)
    where
      opened-waits : (o : Outcome Item) → Next (opened o fs) (goes_on m r)
      opened-waits (done s) = h (live s) (record { start = live s; first = not_ended })
      opened-waits (refused x) = tt

      open-waits : (c : Arm) → Next (on_if c fs) (goes_on m r)
      open-waits dead = h dead (record { start = dead; first = not_ended })
      open-waits (live s) = opened-waits (drop_items 1 s)

  -- ELSE: met in the first arm, jumped to, met in the second arm, and met further in
  else-next : (c s : Arm) (t : FirstArm) (fs : List Frame) → LiveAs c r.stacks → Next (on_else c s t fs) (goes_on (jumping false 0) r)
  else-next c s not_ended fs h = h
  else-next c s (ended a) fs h = tt

  else-opens : (c s : Arm) (t : FirstArm) (fs : List Frame) → Opens r.stacks t s → Next (on_else c s t fs) (goes_on running r)
  else-opens c s not_ended fs h = h
  else-opens c s (ended a) fs h = tt

  else-past : (c s : Arm) (t : FirstArm) (fs : List Frame) → Ended r.stacks t → Next (on_else c s t fs) (goes_on (jumping false 0) r)
  else-past c s not_ended fs h = absurd h
  else-past c s (ended a) fs h = tt

  else-waits : (m : Going) (c s : Arm) (t : FirstArm) (fs : List Frame) → ((c : Arm) (f : Frame) → Inv m r.stacks c (f ∷ fs)) → Next (on_else c s t fs) (goes_on m r)
  else-waits m c s not_ended fs h = h s (record { start = s; first = ended c })
  else-waits m c s (ended a) fs h = tt

  -- ENDIF
  joins-next : (a b : Arm) (fs : List Frame) → (LiveAs a r.stacks) ⊎ (LiveAs b r.stacks) → Next (join a b fs) (goes_on running r)
  joins-next a b fs h = leads (join a b fs) (join-leads a b fs)
    where
      leads : (mv : Move) → Leads mv (Joins a b fs) → Next mv (goes_on running r)
      leads (moves c gs) j = j.0 r.stacks h
      leads (refuses x) j = tt

  joins-waits : (m : Going) (a b : Arm) (fs : List Frame) → ((c : Arm) → Inv m r.stacks c fs) → Next (join a b fs) (goes_on m r)
  joins-waits m a b fs h = leads (join a b fs) (join-leads a b fs)
    where
      leads : (mv : Move) → Leads mv (Joins a b fs) → Next mv (goes_on m r)
      leads (moves c gs) j = rw j.2 (h c)
      leads (refuses x) j = tt

  endif-next : (c s : Arm) (t : FirstArm) (fs : List Frame) → LiveAs c r.stacks → Next (on_endif c s t fs) (goes_on running r)
  endif-next c s not_ended fs h = joins-next c s fs (inl h)
  endif-next c s (ended a) fs h = joins-next a c fs (inr h)

  endif-opens : (c s : Arm) (t : FirstArm) (fs : List Frame) → Opens r.stacks t s → Next (on_endif c s t fs) (goes_on running r)
  endif-opens c s not_ended fs h = joins-next c s fs (inr h)
  endif-opens c s (ended a) fs h = absurd h

  endif-past : (c s : Arm) (t : FirstArm) (fs : List Frame) → Ended r.stacks t → Next (on_endif c s t fs) (goes_on running r)
  endif-past c s not_ended fs h = absurd h
  endif-past c s (ended a) fs h = joins-next a c fs (inl h)

  endif-waits : (m : Going) (c s : Arm) (t : FirstArm) (fs : List Frame) → ((c : Arm) → Inv m r.stacks c fs) → Next (on_endif c s t fs) (goes_on m r)
  endif-waits m c s not_ended fs h = joins-waits m c s fs h
  endif-waits m c s (ended a) fs h = joins-waits m a c fs h

  -- one instruction of any class, in any mode
  pub act-next : (k : Class) (m : Going) (c : Arm) (fs : List Frame) → Inv m r.stacks c fs → Next (effect R i k c fs) (act R i k m r)
  act-next IF running c fs h = if-next c fs h
  act-next IF (jumping true n) c fs h = if-waits (jumping true (suc n)) c fs (λ c f. h)
  act-next IF (jumping false n) c fs h = if-waits (jumping false (suc n)) c fs (λ c f. h)
  act-next NOTIF running c fs h = if-next c fs h
  act-next NOTIF (jumping true n) c fs h = if-waits (jumping true (suc n)) c fs (λ c f. h)
  act-next NOTIF (jumping false n) c fs h = if-waits (jumping false (suc n)) c fs (λ c f. h)
  act-next ELSE m c [] h = tt
  act-next ELSE running c (f ∷ fs) h = else-next c f.start f.first fs h
  act-next ELSE (jumping true zero) c (f ∷ fs) h = else-opens c f.start f.first fs h
  act-next ELSE (jumping true (suc n)) c (f ∷ fs) h = else-waits (jumping true (suc n)) c f.start f.first fs (λ c f. h)
  act-next ELSE (jumping false zero) c (f ∷ fs) h = else-past c f.start f.first fs h
  act-next ELSE (jumping false (suc n)) c (f ∷ fs) h = else-waits (jumping false (suc n)) c f.start f.first fs (λ c f. h)
  act-next ENDIF m c [] h = tt
  act-next ENDIF running c (f ∷ fs) h = endif-next c f.start f.first fs h
  act-next ENDIF (jumping true zero) c (f ∷ fs) h = endif-opens c f.start f.first fs h
  act-next ENDIF (jumping true (suc n)) c (f ∷ fs) h = endif-waits (jumping true n) c f.start f.first fs (λ c. h)
  act-next ENDIF (jumping false zero) c (f ∷ fs) h = endif-past c f.start f.first fs h
  act-next ENDIF (jumping false (suc n)) c (f ∷ fs) h = endif-waits (jumping false n) c f.start f.first fs (λ c. h)
  act-next RETURN running c fs h = tt
  act-next RETURN (jumping true n) c fs h = h
  act-next RETURN (jumping false n) c fs h = h
  act-next (ordinary o) running dead fs h = absurd h
  act-next (ordinary o) running (live s) fs h = moved-next fs r.results (step-agrees r.results R i o h)
  act-next (ordinary o) (jumping true n) dead fs h = h
  act-next (ordinary o) (jumping true n) (live s) fs h = moved-waits (jumping true n) (step marking R i o s) fs (λ c. h)
  act-next (ordinary o) (jumping false n) dead fs h = h
  act-next (ordinary o) (jumping false n) (live s) fs h = moved-waits (jumping false n) (step marking R i o s) fs (λ c. h)
  act-next (plain pops pushes) running dead fs h = absurd h
  act-next (plain pops pushes) running (live s) fs h =
      moved-next fs (drop pushes r.results) (plain_step-agrees r.results R.limit pops pushes h)
  act-next (plain pops pushes) (jumping true n) dead fs h = h
  act-next (plain pops pushes) (jumping true n) (live s) fs h = moved-waits (jumping true n) (plain_step marking R.limit pops pushes s) fs (λ c. h)
  act-next (plain pops pushes) (jumping false n) dead fs h = h
  act-next (plain pops pushes) (jumping false n) (live s) fs h = moved-waits (jumping false n) (plain_step marking R.limit pops pushes s) fs (λ c. h)

-- Whole replays

module _ (R : Rules) (A : ℕ → Arm) (n : ℕ) where
  -- A trace that follows the arms A of a fragment of n instructions.
  abbrev pub Good : Trace → Type 0
  Good (visit k u t) = (k < n) × (LiveAs (A k) u) × (Good t)
  Good (off_end u) = LiveAs (A n) u
  Good (returned u) = (k : ℕ) × (k ≤ n) × (LiveAs (A k) u)
  Good faulted = ⊥

  no-mode-waits : (m : Going) (u : Stacks Bytes) (c : Arm) (fs : List Frame) → fs ≡ [] → Inv m u c fs → LiveAs c u
  no-mode-waits running u c fs e h = h
  no-mode-waits (jumping true k) u c fs e h = absurd (rw e at h)
  no-mode-waits (jumping false k) u c fs e h = absurd (rw e at h)

  -- what holds of the rest of the replay, wherever the marker moves on to
  abbrev Rest : List Instruction → ℕ → Type 0
  Rest is k = (c : Arm) (fs : List Frame) (m : Going) (r : Replay) → ((j : ℕ) → A (k + j) ≡ arm_at R is c fs j) → Accepts R is c fs → Inv m r.stacks c fs
      → Good (replay_from R is k m r)

  traced-good : (is : List Instruction) (k : ℕ) (u : Stacks Bytes) (mv : Move) (a : Carried) → Next mv a → Goes mv (λ c fs. Accepts R is c fs)
      → ((j : ℕ) → A (k + suc j) ≡ after mv (λ c fs. arm_at R is c fs j)) → (a ≡ halts → (k ≤ n) × (LiveAs (A k) u)) → Rest is (k + 1)
      → Good (on_carried a u (λ m r. replay_from R is (k + 1) m r))
  traced-good is k u (moves c fs) (goes_on m r) h g e l f = f c fs m r (λ j. ap A (omega arith) ∙ e j) g h
  traced-good is k u (moves c fs) halts h g e l f = (k, (l refl).0, (l refl).1)
  traced-good is k u (moves c fs) fails h g e l f = absurd h
  traced-good is k u (refuses x) a h g e l f = absurd g

  -- the trace from an instruction on
  act-good : (i : Instruction) (is : List Instruction) (k : ℕ) (c : Arm) (fs : List Frame) (m : Going) (r : Replay)
      → ((j : ℕ) → A (k + j) ≡ arm_at R (i ∷ is) c fs j) → Accepts R (i ∷ is) c fs → Inv m r.stacks c fs
      → (act R i (R.class_for i.opcode) m r ≡ halts → (k ≤ n) × (LiveAs (A k) r.stacks)) → Rest is (k + 1)
      → Good (on_carried (act R i (R.class_for i.opcode) m r) r.stacks (λ m r. replay_from R is (k + 1) m r))
  act-good i is k c fs m r e g h l f =
      traced-good is k r.stacks (effect R i (R.class_for i.opcode) c fs) (act R i (R.class_for i.opcode) m r)
      (act-next R i r (R.class_for i.opcode) m c fs h) g (λ j. e (suc j)) l f

  -- a replay that agrees with the marker, where the rest of the walk is accepted, goes on as the marker does
  pub sound : (is : List Instruction) (k : ℕ) (c : Arm) (fs : List Frame) (m : Going) (r : Replay)
      → ((j : ℕ) → A (k + j) ≡ arm_at R is c fs j) → k + length is ≡ n → Accepts R is c fs → Inv m r.stacks c fs → Good (replay_from R is k m r)
  unfolding replay_from
  sound [] k c fs m r e l g h = subst (λ a. LiveAs a r.stacks) (sym (e 0) ∙ ap A l) (no-mode-waits m r.stacks c fs g h)
  sound (i ∷ is) k c fs running r e l g h =
      let here : LiveAs (A k) r.stacks = subst (λ a. LiveAs a r.stacks) (sym (e 0) ∙ ap A (omega arith)) h in (
        omega arith,
        here,
        act-good i is k c fs running r e g h (λ z. (omega arith, here)) (λ c fs m r e g h. sound is (k + 1) c fs m r e (omega arith) g h),
      )
  sound (i ∷ is) k c fs (jumping to_else d) r e l g h =
      act-good i is k c fs (jumping to_else d) r e g h (λ z. let y : ◌≡◌ {A = ℕ} 0 1 = cc in absurd (omega arith))
      (λ c fs m r e g h. sound is (k + 1) c fs m r e (omega arith) g h)

  -- what a trace that follows the arms says: of faults, of what it reaches, of the end and of its totals
  pub good-faults : (t : Trace) → Good t → EndsInFault t → ⊥
  good-faults (visit k u t) g h = good-faults t g.2 h
  good-faults (off_end u) g h = h
  good-faults (returned u) g h = h
  good-faults faulted g h = g

  pub good-reaches : (t : Trace) → Good t → (k : ℕ) (u : Stacks Bytes) → ReachedAt k u t → (k < n) × (LiveAs (A k) u)
  good-reaches (visit j v t) g k u h =
      ⊎_elim (λ e. (rw (← e.0) g.0, rw (← e.0, ← e.1) g.1)) (λ l. good-reaches t g.2 k u l) h
  good-reaches (off_end v) g k u h = absurd h
  good-reaches (returned v) g k u h = absurd h
  good-reaches faulted g k u h = absurd h

  pub good-runs_off : (t : Trace) → Good t → (u : Stacks Bytes) → RunsOffWith u t → LiveAs (A n) u
  good-runs_off (visit j v t) g u h = good-runs_off t g.2 u h
  good-runs_off (off_end v) g u h = rw (← h) g
  good-runs_off (returned v) g u h = absurd h
  good-runs_off faulted g u h = absurd h

  pub good-total : (t : Trace) → Good t → (x : ℕ) → HasTotal x t → (k : ℕ) × (u : Stacks Bytes) × (k ≤ n) × (LiveAs (A k) u) × (total u ≡ x)
  good-total (visit j v t) g x h = ⊎_elim (λ e. (j, v, omega (arith, g.0), g.1, e)) (λ l. good-total t g.2 x l) h
  good-total (off_end v) g x h = (n, v, omega arith, g, h)
  good-total (returned v) g x h = (g.0, v, g.1, g.2, h)
  good-total faulted g x h = absurd h

-- The limit

module _ (R : Rules) (x : ℕ) where
  abbrev Stays : Carried → Type 0
  Stays (goes_on m r) = total r.stacks ≤ R.limit
  Stays halts = Unit {0}
  Stays fails = Unit {0}

  carried_out-stays : (o : Outcome Bytes) (m : Going) (choices : List Bool) (results : List Bytes) → Within R.limit o → Stays (carried_out o m choices results)
  carried_out-stays (done s) m choices results h = h
  carried_out-stays (refused r) m choices results h = tt

  branches-stays : (r : Replay) → total r.stacks ≤ R.limit → Stays (branches r)
  branches-stays r h = carried_out-stays (drop_items 1 r.stacks) _ _ _ (drop_items-within R.limit 1 r.stacks h)

  carry-stays : (i : Instruction) (k : Class) (r : Replay) → total r.stacks ≤ R.limit → Stays (carry R i k r)
  carry-stays i IF r h = branches-stays r h
  carry-stays i NOTIF r h = branches-stays r h
  carry-stays i ELSE r h = h
  carry-stays i ENDIF r h = h
  carry-stays i RETURN r h = tt
  carry-stays i (ordinary o) r h =
      carried_out-stays (step (replaying r.results) R i o r.stacks) _ _ _ (step-within (replaying r.results) R i o r.stacks h)
  carry-stays i (plain pops pushes) r h =
      carried_out-stays (plain_step (replaying r.results) R.limit pops pushes r.stacks) _ _ _
      (plain_step-within (replaying r.results) R.limit pops pushes r.stacks h)

  traced-stays : (a : Carried) (u : Stacks Bytes) (next : Going → Replay → Trace) → total u ≤ R.limit → Stays a
      → ((m : Going) (r : Replay) → total r.stacks ≤ R.limit → HasTotal x (next m r) → x ≤ R.limit) → HasTotal x (on_carried a u next) → x ≤ R.limit
  traced-stays (goes_on m r) u next h s f p = f m r s p
  traced-stays halts u next h s f p = rw (← p) h
  traced-stays fails u next h s f p = absurd p

  -- a replay that starts within the limit stays within it
  pub stays_within : (is : List Instruction) (k : ℕ) (m : Going) (r : Replay) → total r.stacks ≤ R.limit → HasTotal x (replay_from R is k m r) → x ≤ R.limit
  unfolding replay_from
  stays_within [] k m r h p = rw (← p) h
  stays_within (i ∷ is) k running r h p =
      ⊎_elim (λ e. rw (← e) h)
      (λ q. traced-stays (carry R i (R.class_for i.opcode) r) r.stacks (λ m t. replay_from R is (k + 1) m t) h (carry-stays i (R.class_for i.opcode) r h)
      (λ m t g q. stays_within is (k + 1) m t g q) q) p
  stays_within (i ∷ is) k (jumping to_else n) r h p = stays_within is (k + 1) (past (R.class_for i.opcode) to_else n) r h p
