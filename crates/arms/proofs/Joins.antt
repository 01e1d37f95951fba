-- How the last arm of a conditional joins the other.
use Rattle.std.proofs.Common.{Bool, true, false, ◌&&◌, List, [], ◌∷◌, ◌≡◌, refl, sym, ap, ◌∙◌, ℕ, arith, length, Result}
use borrow.Author.Tests.{eqb-true, eq-eqb}
use lib.Dec.{eqb}
use Rattle.definition.specs.Basics.{Bytes, pick}
use Rattle.definition.specs.Stacks as S
use Rattle.definition.specs.Stacks.{Rules, Outcome}
use Rattle.definition.specs.Walk.{Item, unknown, exact, Arm, dead, live, not_ended, ended, Frame, Move, moves, refuses, same_bytes, join_item, join_items, join_stacks, on_outcome, join}
use Rattle.refusals.specs.declared.Refusal.{Refusal}
use Rattle.walk.specs.Runs.{arm_of, stand, Stand, met_endif, after}
use Rattle.walk.specs.declared.ArmEnd.TheVariants.{Endif}
use Rattle.walk.specs.declared.Walk.{Walk}
use Rattle.arms.specs.Walkers.{frame, Joins, Finishes}

-- the two sides of a join may be exchanged
same_bytes_lem : (l m : Bytes) → same_bytes l m ≡ true → l ≡ m
same_bytes_lem [] [] h = refl
same_bytes_lem [] (b ∷ m) h = let z : false ≡ true = h in cc
same_bytes_lem (a ∷ l) [] h = let z : false ≡ true = h in cc
same_bytes_lem (a ∷ l) (b ∷ m) h = by (eqb a b) refl h (λ e. same_bytes_lem l m e)
  where
    by : (t : Bool) → eqb a b ≡ t → (t && same_bytes l m) ≡ true → (same_bytes l m ≡ true → l ≡ m) → (a ∷ l) ≡ (b ∷ m)
    by true e g ih = rw (eqb-true a b e, ih g)
    by false e g ih = let z : false ≡ true = g in cc

eqb_comm : (a b : ℕ) → eqb a b ≡ eqb b a
eqb_comm a b = by (eqb a b) (eqb b a) refl refl
  where
    by : (t u : Bool) → eqb a b ≡ t → eqb b a ≡ u → eqb a b ≡ eqb b a
    by true u e f = e ∙ sym (eq-eqb b a (sym (eqb-true a b e)))
    by false true e f = let z : false ≡ true = sym e ∙ eq-eqb a b (sym (eqb-true b a f)) in cc
    by false false e f = e ∙ sym f

same-bytes-comm : (l m : Bytes) → same_bytes l m ≡ same_bytes m l
same-bytes-comm [] [] = refl
same-bytes-comm [] (b ∷ m) = refl
same-bytes-comm (a ∷ l) [] = refl
same-bytes-comm (a ∷ l) (b ∷ m) = rw (eqb_comm a b, same-bytes-comm l m)

join-item-comm : (x y : Item) → join_item x y ≡ join_item y x
join-item-comm unknown unknown = refl
join-item-comm unknown (exact m) = refl
join-item-comm (exact l) unknown = refl
join-item-comm (exact l) (exact m) = by (same_bytes l m) refl
  where
    by : (t : Bool) → same_bytes l m ≡ t → pick (same_bytes l m) (exact l) unknown ≡ pick (same_bytes m l) (exact m) unknown
    by true e = rw (← (same-bytes-comm l m), e, same_bytes_lem l m e)
    by false e = rw (← (same-bytes-comm l m), e)

join-items-comm : (l m : List Item) → length l ≡ length m → join_items l m ≡ join_items m l
join-items-comm [] [] e = refl
join-items-comm [] (y ∷ m) e = absurd (omega arith)
join-items-comm (x ∷ l) [] e = absurd (omega arith)
join-items-comm (x ∷ l) (y ∷ m) e = rw (join-item-comm x y, join-items-comm l m (omega arith))

join-stacks-comm : (s t : S.Stacks Item) → join_stacks s t ≡ join_stacks t s
unfolding join_stacks
join-stacks-comm s t = rw (eqb_comm (length t.main) (length s.main), eqb_comm (length t.alt) (length s.alt)) (by _ refl _ refl)
  where
    by : (a : Bool) → eqb (length s.main) (length t.main) ≡ a → (b : Bool) → eqb (length s.alt) (length t.alt) ≡ b
        → pick (a && b) (S.done (record { main = join_items s.main t.main; alt = join_items s.alt t.alt })) (S.refused Rattle.definition.specs.Refusals.arms_differ)
        ≡ pick (a && b) (S.done (record { main = join_items t.main s.main; alt = join_items t.alt s.alt })) (S.refused Rattle.definition.specs.Refusals.arms_differ)
    by true e true f = rw (join-items-comm s.main t.main (eqb-true _ _ e), join-items-comm s.alt t.alt (eqb-true _ _ f))
    by true e false f = refl
    by false e b f = refl

pub join-comm : (a b : Arm) (fs : List Frame) → join a b fs ≡ join b a fs
join-comm dead dead fs = refl
join-comm dead (live t) fs = refl
join-comm (live s) dead fs = refl
join-comm (live s) (live t) fs = ap (λ (o : Outcome Item). on_outcome o fs) (join-stacks-comm s t)

module _ (R : Rules) (s : Bytes) where
  -- the conditionals that were open before a move do not show after it
  apart : (w : Stand) (fs gs : List Frame) (log : List ℕ) (m : Move) → after R s w fs log m ≡ after R s w gs log m
  apart w fs gs log (moves c hs) = refl
  apart w fs gs log (refuses r) = refl

  pub finishes-endif : (w : Walk) (other : Arm) (r : Result Unit Refusal) (v : Walk) → Joins R s w other r v → Finishes R s w Endif other r v
  finishes-endif w other r v j = record {
    stays = j.stays;
    one = λ n fs log. apart (stand w met_endif) (frame other not_ended ∷ fs) fs log (join (arm_of w.stacks) other fs) ∙ j.same fs log;
    two = λ start fs log. rw (join-comm other (arm_of w.stacks) fs) (apart (stand w met_endif) (frame start (ended other) ∷ fs) fs log (join (arm_of w.stacks) other fs) ∙ j.same fs log);
  }
