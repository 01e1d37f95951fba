-- Request L7, "What plain mode accepts gets 30 in the examined one exactly when a plain replay reaches such a push, else the same
-- verdict and log": `examining`, of fragments and of papers, by every map and every limit.
--
-- The walk of the examined mode goes as that of plain mode, up to the first live push of a literal above 520 bytes; and where the
-- arm is live, some plain replay comes. One law to a layer: effect, walk, analysis, paper.
use mathlib.Core.Bool.{Bool, true, false}
use mathlib.Core.List.{List, [], ◌∷◌}
use mathlib.Core.Logic.{◌⊎◌, inl, inr, ⊎_elim}
use mathlib.Core.Option.{Option, none, some}
use mathlib.Core.Path.{◌≡◌, refl, sym, ap, subst}
use Prim.Native.Nat.{ℕ, zero, suc, ◌+◌, ◌*◌, ◌≤◌, ◌<◌}
use native.Mathlib.Omega.{arith}
use borrow.Author.Tests.{leb-true, ltb-true, ltb-false, eqb-true, eqb-false}
use lib.Dec.{leb, ltb, eqb}
use lib.ListN.{length, drop, length-replicate}
use Rattle.definition.specs.Basics.{Bytes, pick}
use Rattle.definition.specs.Decoding.{Instruction, decode, instructions, malformed_at}
use Rattle.definition.specs.Classes.{Class, IF, NOTIF, ELSE, ENDIF, RETURN, ordinary, plain, unmodelled, push, nothing, TOALT, FROMALT, DEPTH, SIZE, NIP, TUCK, PICK, ROLL, ZK, copies, rotates}
use Rattle.definition.specs.Refusals.{max_fragment, max_element, max_paper, long_fragment, long_element, start_too_large, short_log, long_paper, bad_header, dispatch_too_large}
use Rattle.definition.specs.Stacks.{Rules, Stacks, refused, total, push_item, step}
use Rattle.definition.specs.Walk.{Item, known, Arm, dead, live, Frame, Move, moves, refuses, on_outcome, effect, State, met, onward, WalkEnd, passed, stopped, follow, walk, Marked, refused_early, answered, begin, tested, analysis_of, unknowns, analysis}
use Rattle.definition.specs.Papers.{Entry, state_fields, entries, good_header, Fragment, fragments, PaperMarked, refused_paper, mark_from, dispatch, mark_paper, after}
use Rattle.definition_rules.specs.Examined.{plain_at, examined_at, LongPushAt, ReachesLong, SomeReachesLong, ExaminedAs, Examining}
use Rattle.definition.proofs.Arms.{Alive, arm_at, goes_on_lem}
use Rattle.definition.proofs.Arms as Arms
use Rattle.definition.proofs.Complete.{ExactBytes}
use Rattle.definition.proofs.TrueOfEveryReplay.{refused-number, alive-reached, reached-alive, unknown-exacts}
use Rattle.definition_rules.proofs.AllowedPapers.{next}
use Rattle.definition_rules.proofs.UnderEveryMap.{limit-within, accepted_is_good, analysis-good, accepted_paper_is_good, paper-good}

-- 1 of push alone
is_push : Class → ℕ
is_push IF = 0
is_push NOTIF = 0
is_push ELSE = 0
is_push ENDIF = 0
is_push RETURN = 0
is_push (plain pops pushes) = 0
is_push (ordinary unmodelled) = 0
is_push (ordinary push) = 1
is_push (ordinary nothing) = 0
is_push (ordinary TOALT) = 0
is_push (ordinary FROMALT) = 0
is_push (ordinary DEPTH) = 0
is_push (ordinary SIZE) = 0
is_push (ordinary NIP) = 0
is_push (ordinary TUCK) = 0
is_push (ordinary PICK) = 0
is_push (ordinary ROLL) = 0
is_push (ordinary ZK) = 0
is_push (ordinary (copies depth count)) = 0
is_push (ordinary (rotates count shift)) = 0

-- a place with a long push is one of an instruction
long-place : (R : Rules) (is : List Instruction) (k : ℕ) → LongPushAt R is k → k < length is
long-place R [] k h = absurd h
long-place R (i ∷ is) zero h = omega arith
long-place R (i ∷ is) (suc k) h = omega (arith, long-place R is k h)

module _ (class_for : ℕ → Class) (limit : ℕ) where
  -- plain mode, and the examined one
  abbrev R : Rules
  R = record { class_for = class_for; limit = limit; examined = false }

  abbrev S : Rules
  S = record { class_for = class_for; limit = limit; examined = true }

  -- An effect

  -- an instruction of this class that pushes too much
  abbrev Long : Instruction → Class → Type 0
  Long i k = (k ≡ ordinary push) × (max_element < length i.literal)

  -- what it does in both modes: the same, or, in a live arm, 30
  data Moved (i : Instruction) (k : Class) (c : Arm) : Move → Move → Type 0 where
    same_move : (m : Move) → (Long i k → Alive c → ⊥) → Moved i k c m m
    long_move : (m : Move) → Long i k → Alive c → Moved i k c m (refuses (long_element (length i.literal)))

  no-push : (i : Instruction) (k : Class) → is_push k ≡ 0 → (c : Arm) → Long i k → Alive c → ⊥
  unfolding is_push
  no-push i k z c l a = omega (arith, z, ap is_push l.0)

  effect-moved : (i : Instruction) (k : Class) (c : Arm) (fs : List Frame) → Moved i k c (effect R i k c fs) (effect S i k c fs)
  unfolding step is_push
  effect-moved i IF c fs = same_move _ (no-push i IF refl c)
  effect-moved i NOTIF c fs = same_move _ (no-push i NOTIF refl c)
  effect-moved i ELSE c [] = same_move _ (no-push i ELSE refl c)
  effect-moved i ELSE c (f ∷ fs) = same_move _ (no-push i ELSE refl c)
  effect-moved i ENDIF c [] = same_move _ (no-push i ENDIF refl c)
  effect-moved i ENDIF c (f ∷ fs) = same_move _ (no-push i ENDIF refl c)
  effect-moved i RETURN c fs = same_move _ (no-push i RETURN refl c)
  effect-moved i (plain pops pushes) dead fs = same_move _ (λ l a. a)
  effect-moved i (plain pops pushes) (live s) fs = same_move _ (no-push i (plain pops pushes) refl (live s))
  effect-moved i (ordinary o) dead fs = same_move _ (λ l a. a)
  effect-moved i (ordinary unmodelled) (live s) fs = same_move _ (no-push i (ordinary unmodelled) refl (live s))
  effect-moved i (ordinary push) (live s) fs = by (ltb max_element (length i.literal)) refl
    where
      by : (b : Bool) → ltb max_element (length i.literal) ≡ b
          → Moved i (ordinary push) (live s) (on_outcome (push_item limit (known i.literal) s) fs)
          (on_outcome (pick b (refused (long_element (length i.literal))) (push_item limit (known i.literal) s)) fs)
      by true e = long_move _ (refl, ltb-true max_element (length i.literal) e) tt
      by false e = same_move _ (λ l a. omega (arith, l.1, ltb-false max_element (length i.literal) e))
  effect-moved i (ordinary nothing) (live s) fs = same_move _ (no-push i (ordinary nothing) refl (live s))
  effect-moved i (ordinary TOALT) (live s) fs = same_move _ (no-push i (ordinary TOALT) refl (live s))
  effect-moved i (ordinary FROMALT) (live s) fs = same_move _ (no-push i (ordinary FROMALT) refl (live s))
  effect-moved i (ordinary DEPTH) (live s) fs = same_move _ (no-push i (ordinary DEPTH) refl (live s))
  effect-moved i (ordinary SIZE) (live s) fs = same_move _ (no-push i (ordinary SIZE) refl (live s))
  effect-moved i (ordinary NIP) (live s) fs = same_move _ (no-push i (ordinary NIP) refl (live s))
  effect-moved i (ordinary TUCK) (live s) fs = same_move _ (no-push i (ordinary TUCK) refl (live s))
  effect-moved i (ordinary PICK) (live s) fs = same_move _ (no-push i (ordinary PICK) refl (live s))
  effect-moved i (ordinary ROLL) (live s) fs = same_move _ (no-push i (ordinary ROLL) refl (live s))
  effect-moved i (ordinary ZK) (live s) fs = same_move _ (no-push i (ordinary ZK) refl (live s))
  effect-moved i (ordinary (copies depth count)) (live s) fs = same_move _ (no-push i (ordinary (copies depth count)) refl (live s))
  effect-moved i (ordinary (rotates count shift)) (live s) fs = same_move _ (no-push i (ordinary (rotates count shift)) refl (live s))

  -- The walk

  -- the examined walk stops with 30
  abbrev StopsLong : WalkEnd → Type 0
  StopsLong w = (n : ℕ) × (u : State) × (w ≡ stopped (long_element n) u)

  -- in the arms of this walk, the long push at place j is live
  abbrev LiveLong : List Instruction → Arm → List Frame → ℕ → Type 0
  LiveLong is c fs j = (LongPushAt R is j) × (Alive (arm_at R is c fs j))

  -- no long push is live and the walk is that of plain mode, or one is and it stops there
  abbrev WalkExamined : List Instruction → Arm → List Frame → State → WalkEnd → Type 0
  WalkExamined is c fs t w = ((w ≡ passed t) × ((j : ℕ) → LiveLong is c fs j → ⊥)) ⊎ (((j : ℕ) × (LiveLong is c fs j)) × (StopsLong w))

  -- of an instruction with this move, and of those behind it
  abbrev LiveFrom : Instruction → List Instruction → Arm → Move → ℕ → Type 0
  LiveFrom i is c mv zero = (Long i (class_for i.opcode)) × (Alive c)
  LiveFrom i is c mv (suc j) = (LongPushAt R is j) × (Alive (Arms.after mv (λ c fs. arm_at R is c fs j)))

  abbrev MoveExamined : Instruction → List Instruction → Arm → Move → State → WalkEnd → Type 0
  MoveExamined i is c mv t w = ((w ≡ passed t) × ((j : ℕ) → LiveFrom i is c mv j → ⊥)) ⊎ (((j : ℕ) × (LiveFrom i is c mv j)) × (StopsLong w))

  module _ (i : Instruction) (is : List Instruction) (c : Arm) (fs : List Frame) where
    live-from : (j : ℕ) → LiveLong (i ∷ is) c fs j → LiveFrom i is c (effect R i (class_for i.opcode) c fs) j
    live-from zero h = h
    live-from (suc j) h = h

    from-live : (j : ℕ) → LiveFrom i is c (effect R i (class_for i.opcode) c fs) j → LiveLong (i ∷ is) c fs j
    from-live zero h = h
    from-live (suc j) h = h

  module _ (t : State) where
    moved : (i : Instruction) (is : List Instruction) (s : State) (c : Arm) (fs : List Frame) {mv nv : Move}
        → Moved i (class_for i.opcode) s.arm mv nv → mv ≡ moves c fs → WalkExamined is c fs t (walk S is (onward c fs (met i s)))
        → MoveExamined i is s.arm mv t (follow nv (met i s) (λ u. walk S is u))
    moved i is s c fs (same_move mv never) e w = subst (λ mv. MoveExamined i is s.arm mv t (follow mv (met i s) (λ u. walk S is u))) (sym e) (⊎_elim
        (λ q. inl (q.0, λ j. none q.1 j)) (λ q. inr ((suc q.0.0, q.0.1), q.1)) w)
      where
        none : ((j : ℕ) → LiveLong is c fs j → ⊥) → (j : ℕ) → LiveFrom i is s.arm (moves c fs) j → ⊥
        none f zero h = never h.0 h.1
        none f (suc j) h = f j h
    moved i is s c fs (long_move mv l a) e w = inr ((0, (l, a)), (length i.literal, met i s, refl))

    walk-examined : (is : List Instruction) (s : State) → walk R is s ≡ passed t → WalkExamined is s.arm s.frames t (walk S is s)
    unfolding walk
    walk-examined [] s h = inl (h, λ j l. l.0)
    walk-examined (i ∷ is) s h = goes_on_lem R t i is s h (λ c fs e g. ⊎_elim
        (λ q. inl (q.0, λ j l. q.1 j (live-from i is s.arm s.frames j l)))
        (λ q. inr ((q.0.0, from-live i is s.arm s.frames q.0.0 q.0.1), q.1))
        (moved i is s c fs (effect-moved i (class_for i.opcode) s.arm s.frames) e (walk-examined is (onward c fs (met i s)) g)))

  -- The analysis

  -- of what plain mode accepts: the same answer, and nothing long is reached; or 30, and something is
  abbrev Examined : {X : Type 0} → Type 0 → (X → ℕ) → X → X → Type 0
  Examined Reaches number m n = number m ≡ 0 → ((n ≡ m) × (Reaches → ⊥)) ⊎ ((number n ≡ 30) × Reaches)

  module _ (small : limit < 65535) where
    walked-examined : (is : List Instruction) (s : Stacks Item) (log : List ℕ) → total s ≤ limit → ExactBytes s → 3 * length is ≤ length log
        → Examined (ReachesLong R is s) (λ m. m.verdict.answer.number) (answered (walk R is (begin s log))) (answered (walk S is (begin s log)))
    walked-examined is s log start exacts enough h = by (walk R is (begin s log)) refl h
      where
        by : (w : WalkEnd) → walk R is (begin s log) ≡ w
            → Examined (ReachesLong R is s) (λ m. m.verdict.answer.number) (answered w) (answered (walk S is (begin s log)))
        by (passed t) e h = ⊎_elim
            (λ q. inl (ap answered q.0, λ r. q.1 r.0 (r.1, reached-alive R is s log t small start exacts enough e r.0 r.2)))
            (λ q. inr (
              ap (λ w. (answered w).verdict.answer.number) q.1.2,
              (q.0.0, q.0.1.0, alive-reached R is s log t small start exacts enough e q.0.0 (long-place R is q.0.0 q.0.1.0) q.0.1.1),
            ))
            (walk-examined t is (begin s log) e)
        by (stopped r t) e h = absurd (refused-number t.offset r h)

    analysis-examined : (fragment : Bytes) (main alt : ℕ) (log : List ℕ)
        → Examined (ReachesLong R (instructions (decode fragment)) (unknowns main alt)) (λ m. m.verdict.answer.number)
        (analysis R fragment main alt log) (analysis S fragment main alt log)
    unfolding analysis analysis_of
    analysis-examined fragment main alt log = long (ltb max_fragment (length fragment))
      where
        is : List Instruction
        is = instructions (decode fragment)

        s : Stacks Item
        s = unknowns main alt

        Both : Marked → Marked → Type 0
        Both m n = Examined (ReachesLong R is s) (λ m. m.verdict.answer.number) m n

        lent : main + alt ≤ limit → (b : Bool) → leb (3 * length is) (length log) ≡ b → Both
            (pick b (answered (walk R is (begin s log))) (refused_early 0 (short_log (3 * length is) (length log)) log))
            (pick b (answered (walk S is (begin s log))) (refused_early 0 (short_log (3 * length is) (length log)) log))
        lent l true e h = walked-examined is s log (simp length-replicate l) (unknown-exacts main alt) (leb-true (3 * length is) (length log) e) h
        lent l false e h = absurd (omega (arith, h))

        whole : main + alt ≤ limit → (o : Option ℕ) → Both (tested R o is s log) (tested S o is s log)
        whole l (some offset) h = absurd (omega (arith, h))
        whole l none h = lent l (leb (3 * length is) (length log)) refl h

        large : (b : Bool) → ltb limit (main + alt) ≡ b → Both
            (pick b (refused_early 0 (start_too_large (main + alt) limit) log) (tested R (malformed_at (decode fragment)) is s log))
            (pick b (refused_early 0 (start_too_large (main + alt) limit) log) (tested S (malformed_at (decode fragment)) is s log))
        large true e h = absurd (omega (arith, h))
        large false e h = whole (ltb-false limit (main + alt) e) (malformed_at (decode fragment)) h

        long : (b : Bool) → Both
            (pick b (refused_early 0 (long_fragment (length fragment)) log)
            (pick (ltb limit (main + alt)) (refused_early 0 (start_too_large (main + alt) limit) log) (tested R (malformed_at (decode fragment)) is s log)))
            (pick b (refused_early 0 (long_fragment (length fragment)) log)
            (pick (ltb limit (main + alt)) (refused_early 0 (start_too_large (main + alt) limit) log) (tested S (malformed_at (decode fragment)) is s log)))
        long true h = absurd (omega (arith, h))
        long false h = large (ltb limit (main + alt)) refl h

    -- The fragments of a paper, one after another

    abbrev paper_number : PaperMarked → ℕ
    paper_number m = m.paper.verdict.answer.number

    module _ (k rows peak : ℕ) (fs : List Fragment) (log : List ℕ) (Here : Type 0) (m n : Marked)
        (fits : Examined Here (λ m. m.verdict.answer.number) m n)
        (onward : (rows p : ℕ) (log : List ℕ) → Examined (SomeReachesLong R fs) paper_number (mark_from R (k + 1) rows p fs log) (mark_from S (k + 1) rows p fs log)) where
      abbrev NextExamined : PaperMarked → Type 0
      NextExamined q = ((q ≡ next k rows peak fs log R m true) × (Here ⊎ (SomeReachesLong R fs) → ⊥)) ⊎ ((paper_number q ≡ 30) × (Here ⊎ (SomeReachesLong R fs)))

      same_next : (Here → ⊥) → paper_number (next k rows peak fs log R m true) ≡ 0 → NextExamined (next k rows peak fs log S m true)
      unfolding next
      same_next never h = ⊎_elim
          (λ q. inl (ap (after m.verdict) q.0, λ r. ⊎_elim never q.1 r))
          (λ q. inr (q.0, inr q.1))
          (onward _ _ _ h)

      long-next : n.verdict.answer.number ≡ 30 → Here → (c : Bool) → eqb n.verdict.answer.number 0 ≡ c → NextExamined (next k rows peak fs log S n c)
      unfolding next
      long-next z r true e = absurd (omega (arith, z, eqb-true n.verdict.answer.number 0 e))
      long-next z r false e = inr (z, inl r)

      refused-next : eqb m.verdict.answer.number 0 ≡ false → paper_number (next k rows peak fs log R m false) ≡ 0 → ⊥
      unfolding next
      refused-next e h = eqb-false m.verdict.answer.number 0 e h

      next-examined : (b : Bool) → eqb m.verdict.answer.number 0 ≡ b
          → Examined (Here ⊎ (SomeReachesLong R fs)) paper_number (next k rows peak fs log R m b) (next k rows peak fs log S n (eqb n.verdict.answer.number 0))
      next-examined true e h = ⊎_elim
          (λ q. subst (λ a. NextExamined (next k rows peak fs log S a (eqb a.verdict.answer.number 0))) (sym q.0)
          (subst (λ b. NextExamined (next k rows peak fs log S m b)) (sym e) (same_next q.1 h)))
          (λ q. long-next q.0 q.1 (eqb n.verdict.answer.number 0) refl)
          (fits (eqb-true m.verdict.answer.number 0 e))
      next-examined false e h = absurd (refused-next e h)

    from-examined : (k rows peak : ℕ) (fs : List Fragment) (log : List ℕ)
        → Examined (SomeReachesLong R fs) paper_number (mark_from R k rows peak fs log) (mark_from S k rows peak fs log)
    unfolding mark_from next
    from-examined k rows peak [] log h = inl (refl, λ r. r)
    from-examined k rows peak (f ∷ fs) log h =
        next-examined k rows peak fs log (ReachesLong R (instructions (decode f.bytes)) (unknowns f.main f.alt))
        (analysis R f.bytes f.main f.alt (drop (3 * rows) log)) (analysis S f.bytes f.main f.alt (drop (3 * rows) log))
        (analysis-examined f.bytes f.main f.alt (drop (3 * rows) log))
        (λ rows p log. from-examined (k + 1) rows p fs log)
        (eqb (analysis R f.bytes f.main f.alt (drop (3 * rows) log)).verdict.answer.number 0) refl h

    -- The paper

    module _ (paper : Bytes) (log : List ℕ) where
      abbrev BothPapers : PaperMarked → PaperMarked → Type 0
      BothPapers m n = Examined (SomeReachesLong R (fragments paper)) paper_number m n

      dispatch-examined : (k : ℕ) (es : List Entry) → BothPapers (dispatch R paper k es log) (dispatch S paper k es log)
      unfolding dispatch
      dispatch-examined k [] h = from-examined 0 0 0 (fragments paper) log h
      dispatch-examined k (e ∷ es) h = by (dispatch-examined (k + 1) es) (ltb limit sum) h
        where
          sum : ℕ
          sum = e.parameters + state_fields paper + 3

          by : BothPapers (dispatch R paper (k + 1) es log) (dispatch S paper (k + 1) es log) → (b : Bool) → BothPapers
              (pick b (refused_paper k (dispatch_too_large sum limit) log) (dispatch R paper (k + 1) es log))
              (pick b (refused_paper k (dispatch_too_large sum limit) log) (dispatch S paper (k + 1) es log))
          by onward true h = absurd (omega (arith, h))
          by onward false h = onward h

      paper-examined : BothPapers (mark_paper R paper log) (mark_paper S paper log)
      unfolding mark_paper
      paper-examined = long (ltb max_paper (length paper))
        where
          header : (b : Bool) → BothPapers
              (pick b (dispatch R paper 0 (entries paper) log) (refused_paper 0 bad_header log)) (pick b (dispatch S paper 0 (entries paper) log) (refused_paper 0 bad_header log))
          header true h = dispatch-examined 0 (entries paper) h
          header false h = absurd (omega (arith, h))

          long : (b : Bool) → BothPapers
              (pick b (refused_paper 0 (long_paper (length paper)) log) (pick (good_header paper) (dispatch R paper 0 (entries paper) log) (refused_paper 0 bad_header log)))
              (pick b (refused_paper 0 (long_paper (length paper)) log) (pick (good_header paper) (dispatch S paper 0 (entries paper) log) (refused_paper 0 bad_header log)))
          long true h = absurd (omega (arith, h))
          long false h = header (good_header paper) h

-- by one of the two cases, both of the request's sentences
as_said : {X : Type 0} {Reaches : Type 0} (number : X → ℕ) (m n : X) → number m ≡ 0 → ((n ≡ m) × (Reaches → ⊥)) ⊎ ((number n ≡ 30) × Reaches)
    → ExaminedAs Reaches (number n) m n
as_said number m n z (inl q) =
    record { exactly = ((λ h. absurd (omega (arith, z, h, ap number q.0))), (λ r. absurd (q.1 r))); else = λ h. q.0 }
as_said number m n z (inr q) = record { exactly = ((λ h. q.1), (λ r. q.0)); else = λ h. absurd (h q.1) }

-- "What plain mode accepts gets 30 in the examined one exactly when a plain replay reaches such a push, else the same verdict and
-- log": by all bytes lent for a map and every limit, since what is accepted has both good.
pub examining : (map : Bytes) (limit : ℕ) → Examining map limit
examining map limit = record {
  fragments = λ fragment main alt log h.
      let b = accepted_is_good map (plain_at limit) fragment main alt log h in
      let here = analysis-good map (plain_at limit) fragment main alt log b.0 b.1 in
      let there = analysis-good map (examined_at limit) fragment main alt log b.0 b.1 in
      rw (here, there) (as_said (λ (m : Marked). m.verdict.answer.number) _ _ (rw here at h)
      (analysis-examined _ limit (omega (arith, (limit-within limit b.1).1)) fragment main alt log (rw here at h)));
  papers = λ paper log h.
      let b = accepted_paper_is_good map (plain_at limit) paper log h in
      let here = paper-good map (plain_at limit) paper log b.0 b.1 in
      let there = paper-good map (examined_at limit) paper log b.0 b.1 in
      rw (here, there) (as_said (λ (m : PaperMarked). m.paper.verdict.answer.number) _ _ (rw here at h)
      (paper-examined _ limit (omega (arith, (limit-within limit b.1).1)) paper log (rw here at h)));
}
