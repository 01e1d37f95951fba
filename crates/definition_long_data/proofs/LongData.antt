-- Request L3 of the wider relation: alike fragments have the same verdict and the same log, and so have papers of alike parts.
-- One law to a layer: step, walk, analysis, paper.
use mathlib.Core.Bool.{Bool, true, false, ◌&&◌}
use mathlib.Core.List.{List, [], ◌∷◌, ◌++◌}
use mathlib.Core.Logic.{◌⊎◌, inl, inr}
use mathlib.Core.Option.{Option, none, some}
use mathlib.Core.Path.{◌≡◌, refl, sym, ap, subst, ◌∙◌}
use Prim.Native.Nat.{ℕ, zero, suc, ◌+◌, ◌*◌, ◌≤◌, ◌<◌}
use native.Mathlib.Omega.{arith}
use borrow.Author.Tests.{leb-true, lt-leb}
use lib.Dec.{ltb}
use lib.ListN.{length, take, drop}
use Rattle.definition.specs.Basics.{Bytes, pick}
use Rattle.definition.specs.Decoding.{Instruction, number, Code, decode, instructions, malformed_at}
use Rattle.definition.specs.Classes.{Class, IF, NOTIF, ELSE, ENDIF, RETURN, ordinary, plain, Ordinary, unmodelled, push, nothing, TOALT, FROMALT, DEPTH, SIZE, NIP, TUCK, PICK, ROLL, ZK, copies, rotates}
use Rattle.definition.specs.Refusals.{unmodelled_opcode, long_element, max_element}
use Rattle.definition.specs.Stacks.{Rules, Stacks, refused, push_item, step}
use Rattle.definition.specs.Walk.{Item, unknown, known, marking, Arm, dead, live, Frame, Move, moves, refuses, on_outcome, effect, State, met, WalkEnd, follow, walk, begin, tested, analysis_of, unknowns, analysis}
use Rattle.definition.specs.Papers.{field, Entry, entries_at, entry_count, state_fields, initialiser, entries, header_size, bodies, good_header, Fragment, body_fragments, state_fragments, fragments, mark_from, dispatch, mark_paper}
use Rattle.definition_long_data.specs.Blank.{long, AlikeInstructions, AlikeCode, both_end, both_malformed, both_then, Alike, EachPart, RelatedPapers, TellsNothing}
use Rattle.definition.proofs.TrueOfPaper.{within-front}

-- A step

-- the marker knows nothing of long data
pub known-long : (l : Bytes) → long (length l) ≡ true → known l ≡ unknown
known-long l h =
    let above : 8 < length l = omega (arith, leb-true _ (length l) h) in
    rw lt-leb

-- so it knows the same of the literals of alike instructions
known_alike : (i j : Instruction) → AlikeInstructions i j → known i.literal ≡ known j.literal
known_alike i j a = either a.literal
  where
    either : (i.literal ≡ j.literal) ⊎ (long (length i.literal) ≡ true) → known i.literal ≡ known j.literal
    either (inl e) = ap known e
    either (inr h) = known-long i.literal h ∙ sym (known-long j.literal (rw a.size at h))

pub step-alike : (R : Rules) (i j : Instruction) → AlikeInstructions i j → (o : Ordinary) (s : Stacks Item) → step marking R i o s ≡ step marking R j o s
unfolding step
step-alike R i j a unmodelled s = ap (λ n. refused (unmodelled_opcode n)) a.opcode
step-alike R i j a push s =
    ap (λ n. pick (R.examined && ltb max_element n) (refused (long_element n)) (push_item R.limit (known i.literal) s)) a.size
    ∙ ap (λ x. pick (R.examined && ltb max_element (length j.literal)) (refused (long_element (length j.literal))) (push_item R.limit x s)) (known_alike i j a)
step-alike R i j a nothing s = refl
step-alike R i j a TOALT s = refl
step-alike R i j a FROMALT s = refl
step-alike R i j a DEPTH s = refl
step-alike R i j a SIZE s = refl
step-alike R i j a NIP s = refl
step-alike R i j a TUCK s = refl
step-alike R i j a PICK s = refl
step-alike R i j a ROLL s = refl
step-alike R i j a ZK s = refl
step-alike R i j a (copies depth count) s = refl
step-alike R i j a (rotates count shift) s = refl

effect-alike : (R : Rules) (i j : Instruction) → AlikeInstructions i j → (k : Class) (c : Arm) (fs : List Frame) → effect R i k c fs ≡ effect R j k c fs
effect-alike R i j a IF c fs = refl
effect-alike R i j a NOTIF c fs = refl
effect-alike R i j a ELSE c [] = refl
effect-alike R i j a ELSE c (f ∷ fs) = refl
effect-alike R i j a ENDIF c [] = refl
effect-alike R i j a ENDIF c (f ∷ fs) = refl
effect-alike R i j a RETURN c fs = refl
effect-alike R i j a (ordinary o) dead fs = refl
effect-alike R i j a (ordinary o) (live s) fs = ap (λ p. on_outcome p fs) (step-alike R i j a o s)
effect-alike R i j a (plain pops pushes) dead fs = refl
effect-alike R i j a (plain pops pushes) (live s) fs = refl

-- The walk

follow-alike : (m : Move) (s : State) (f g : State → WalkEnd) → ((t : State) → f t ≡ g t) → follow m s f ≡ follow m s g
follow-alike (moves c fs) s f g e = e _
follow-alike (refuses r) s f g e = refl

pub walk-alike : (R : Rules) {c d : Code} → AlikeCode c d → (s : State) → walk R (instructions c) s ≡ walk R (instructions d) s
unfolding walk
walk-alike R both_end s = refl
walk-alike R (both_malformed offset) s = refl
walk-alike R (both_then {i = i} {j = j} {c = c} {d = d} a h) s =
    ap (λ m. follow m (met i s) (λ t. walk R (instructions c) t)) (effect-alike R i j a (R.class_for i.opcode) s.arm s.frames)
    ∙ rw (a.opcode, a.offset) (follow-alike (effect R j (R.class_for j.opcode) s.arm s.frames) (met j s) _ _ (λ t. walk-alike R h t))

-- The analysis

-- both break off at the same offset, or neither does
pub malformed-alike : {c d : Code} → AlikeCode c d → malformed_at c ≡ malformed_at d
malformed-alike both_end = refl
malformed-alike (both_malformed offset) = refl
malformed-alike (both_then a h) = malformed-alike h

pub count-alike : {c d : Code} → AlikeCode c d → length (instructions c) ≡ length (instructions d)
count-alike both_end = refl
count-alike (both_malformed offset) = refl
count-alike (both_then a h) = ap suc (count-alike h)

-- from any stacks
pub code_alike : (R : Rules) (c d : Code) → AlikeCode c d → (s : Stacks Item) (log : List ℕ) → analysis_of R c s log ≡ analysis_of R d s log
unfolding analysis_of
code_alike R c d h s log = rw (malformed-alike h) (from (malformed_at d))
  where
    from : (m : Option ℕ) → tested R m (instructions c) s log ≡ tested R m (instructions d) s log
    from (some offset) = refl
    from none = rw (count-alike h, walk-alike R h (begin s log))

-- from any heights
pub analysis-alike : (R : Rules) (f g : Bytes) → Alike f g → (main alt : ℕ) (log : List ℕ) → analysis R f main alt log ≡ analysis R g main alt log
unfolding analysis
analysis-alike R f g a main alt log = rw (a.0, code_alike R (decode f) (decode g) a.1 (unknowns main alt) log)

-- The paper

-- fragments one by one, from the same heights
data EachAlike : List Fragment → List Fragment → Type 0 where
  no_more : EachAlike [] []
  more : {f g : Bytes} (main alt : ℕ) {fs gs : List Fragment} → Alike f g → EachAlike fs gs
      → EachAlike (record { bytes = f; main = main; alt = alt } ∷ fs) (record { bytes = g; main = main; alt = alt } ∷ gs)

each_append : {fs gs fs' gs' : List Fragment} → EachAlike fs gs → EachAlike fs' gs' → EachAlike (fs ++ fs') (gs ++ gs')
each_append no_more e = e
each_append (more main alt a h) e = more main alt a (each_append h e)

marked-alike : (R : Rules) {fs gs : List Fragment} → EachAlike fs gs → (k rows peak : ℕ) (log : List ℕ)
    → mark_from R k rows peak fs log ≡ mark_from R k rows peak gs log
unfolding mark_from
marked-alike R no_more k rows peak log = refl
marked-alike R (more {f = f} {g = g} main alt {fs = fs} {gs = gs} a h) k rows peak log = by (λ k rows peak log. marked-alike R h k rows peak log)
  where
    by : ((k rows peak : ℕ) (log : List ℕ) → mark_from R k rows peak fs log ≡ mark_from R k rows peak gs log)
        → mark_from R k rows peak (record { bytes = f; main = main; alt = alt } ∷ fs) log
        ≡ mark_from R k rows peak (record { bytes = g; main = main; alt = alt } ∷ gs) log
    by onward = rw (analysis-alike R f g a main alt (drop (3 * rows) log), onward)

-- papers that begin with the same bytes, as many as the first one's header has
module _ (p q : Bytes) (begins : take (header_size p) p ≡ take (header_size p) q) where
  field-same : (offset : ℕ) → offset + 2 ≤ header_size p → field p offset ≡ field q offset
  field-same offset h =
      ap number (sym (within-front offset 2 (header_size p) p h) ∙ ap (λ l. take 2 (drop offset l)) begins ∙ within-front offset 2 (header_size p) q h)

  entries_from_lem : (n offset : ℕ) → offset + 6 * n ≤ header_size p → entries_at p offset n ≡ entries_at q offset n
  entries_from_lem zero offset h = refl
  entries_from_lem (suc n) offset h =
      rw (field-same offset (omega arith), field-same (offset + 2) (omega arith), field-same (offset + 2 + 2) (omega arith), entries_from_lem n (offset + 6) (omega arith))

  count_same : entry_count p ≡ entry_count q
  count_same = field-same 0 (omega arith)

  size_same : header_size p ≡ header_size q
  size_same = ap (λ n. 8 + 6 * n) count_same

  state-same : state_fields p ≡ state_fields q
  state-same = field-same 2 (omega arith)

  entries-same : entries p ≡ entries q
  entries-same = entries_from_lem (entry_count p) 8 (omega arith) ∙ ap (entries_at q 8) count_same

  -- the same header is good in both or in neither
  header-same : length p ≡ length q → good_header p ≡ good_header q
  unfolding good_header
  header-same e = cc (e, entries-same, size_same, count_same, field-same 4 (omega arith), field-same 6 (omega arith))

  each-body : (es : List Entry) → EachPart Alike p q (bodies es) → EachAlike (body_fragments p es) (body_fragments q es)
  each-body [] h = no_more
  each-body (e ∷ es) h = rw state-same (more _ _ h.0 (each-body es h.1))

  fragments-alike : EachPart Alike p q (initialiser p ∷ bodies (entries p)) → EachAlike (fragments p) (fragments q)
  unfolding fragments
  fragments-alike h = each_append (subst (λ es. EachAlike (body_fragments p (entries p)) (body_fragments q es)) entries-same (each-body (entries p) h.1)) state
    where
      one : (b : Bool) (main alt : ℕ) (f g : Bytes) → Alike f g
          → EachAlike (pick b [] (record { bytes = f; main = main; alt = alt } ∷ [])) (pick b [] (record { bytes = g; main = main; alt = alt } ∷ []))
      one true main alt f g a = no_more
      one false main alt f g a = more main alt a no_more

      state : EachAlike (state_fragments p) (state_fragments q)
      state = rw (← (field-same 4 (omega arith)), ← (field-same 6 (omega arith)), ← entries-same) (search (one, h.0))

  dispatch-alike : (R : Rules) → EachAlike (fragments p) (fragments q) → (k : ℕ) (es : List Entry) (log : List ℕ)
      → dispatch R p k es log ≡ dispatch R q k es log
  unfolding dispatch
  dispatch-alike R h k [] log = marked-alike R h 0 0 0 log
  dispatch-alike R h k (e ∷ es) log = rw (state-same, dispatch-alike R h (k + 1) es log)

pub paper-alike : (R : Rules) (p q : Bytes) → RelatedPapers Alike p q → (log : List ℕ) → mark_paper R p log ≡ mark_paper R q log
unfolding mark_paper
paper-alike R p q a log = by (good_header p) refl
  where
    good : good_header p ≡ good_header q
    good = header-same p q a.header a.size

    by : (b : Bool) → good_header p ≡ b → mark_paper R p log ≡ mark_paper R q log
    by true e = rw (
      a.size,
      good,
      ← (entries-same p q a.header),
      dispatch-alike p q a.header R (fragments-alike p q a.header (a.parts e)) 0 (entries p) log,
    )
    by false e = rw (a.size, ← good, e)

-- Alike fragments, and papers of alike parts, have the same verdict and the same log.
pub alike_tells_nothing : (R : Rules) → TellsNothing R Alike
alike_tells_nothing R = record { fragments = analysis-alike R; papers = paper-alike R }
