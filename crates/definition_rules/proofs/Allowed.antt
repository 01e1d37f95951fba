-- One law over rules, for requests L6, L7 and L8: what some rules accept, rules that allow as much (`Allows`) answer with the same
-- verdict and the same log, fragments and papers: `allowed_follows`.
--
-- It is proved in a stronger form, for rules S with any limit: S answers the same, or it is short of room at its own limit. One
-- law to a layer: step, walk, analysis, paper.
use mathlib.Core.Bool.{Bool, true, false, ◌&&◌}
use mathlib.Core.List.{List, [], ◌∷◌}
use mathlib.Core.Logic.{◌⊎◌, inl, inr, ⊎_elim}
use mathlib.Core.Option.{Option, none, some}
use mathlib.Core.Path.{◌≡◌, refl, sym, ap, subst}
use Prim.Native.Nat.{ℕ, zero, suc, ◌+◌, ◌*◌, ◌≤◌, ◌<◌, max}
use native.Mathlib.Omega.{arith}
use borrow.Author.Tests.{leb-true, leb-false, ltb-true, ltb-false}
use lib.Dec.{leb, ltb}
use lib.ListN.{length, length-append, length-take, length-drop, length-replicate}
use Rattle.definition.specs.Basics.{Bytes, pick}
use Rattle.definition.specs.Decoding.{Instruction, Code, decode, instructions, malformed_at, Index, not_known, no_number, negative, index, index_of}
use Rattle.definition.specs.Classes.{Class, IF, NOTIF, ELSE, ENDIF, RETURN, ordinary, plain, Ordinary, unmodelled, push, nothing, TOALT, FROMALT, DEPTH, SIZE, NIP, TUCK, PICK, ROLL, ZK, copies, rotates}
use Rattle.definition.specs.Refusals.{Refusal, max_fragment, max_element, long_element, long_fragment, start_too_large, short_log, stacks_full, main_dry}
use Rattle.definition.specs.Stacks.{Rules, Stacks, Outcome, done, refused, ItemOps, Tag, no_tag, groth16, r0_succinct, tag_of, total, with_main, needs, room, on_done, push_item, pop_from, drop_items, copy_items, tuck_top, readable, pop_index, zk_drop, zk_by, push_literal, step, push_results, plain_step}
use Rattle.definition.specs.Walk.{Item, marking, Arm, dead, live, Frame, Move, moves, refuses, on_outcome, effect, State, met, total_of, onward, WalkEnd, passed, stopped, follow, walk, Marked, refused_early, answered, begin, tested, analysis_of, unknowns, analysis}
use Rattle.definition_rules.specs.Allows.{Models, keeps, gains_ordinary, gains_plain}
use Rattle.definition.proofs.Arms.{goes_on_lem, peak-grows}
use Rattle.definition.proofs.TrueOfEveryReplay.{refused-number, of_code}

-- A step

-- a copy of no more items than it looks at, as all in Section 2 are: what it wants room for is there afterwards
abbrev pub ModestCopy : Ordinary → Type 0
ModestCopy unmodelled = Unit {0}
ModestCopy push = Unit {0}
ModestCopy nothing = Unit {0}
ModestCopy TOALT = Unit {0}
ModestCopy FROMALT = Unit {0}
ModestCopy DEPTH = Unit {0}
ModestCopy SIZE = Unit {0}
ModestCopy NIP = Unit {0}
ModestCopy TUCK = Unit {0}
ModestCopy PICK = Unit {0}
ModestCopy ROLL = Unit {0}
ModestCopy ZK = Unit {0}
ModestCopy (copies depth count) = count ≤ depth
ModestCopy (rotates count shift) = Unit {0}

abbrev pub Modest : Class → Type 0
Modest IF = Unit {0}
Modest NOTIF = Unit {0}
Modest ELSE = Unit {0}
Modest ENDIF = Unit {0}
Modest RETURN = Unit {0}
Modest (ordinary o) = ModestCopy o
Modest (plain pops pushes) = Unit {0}

-- An operation with room up to l, and the same with room up to m. Where the first is done, the second is done alike, or it is
-- full: it wants more than m, and no more than l. P is what makes the stacks hold what was wanted.
pub data Fits {A : Type 0} (l m : ℕ) (P : Type 0) : Outcome A → Outcome A → Type 0 where
  alike : (o : Outcome A) → Fits l m P o o
  full : (t : Stacks A) (n : ℕ) → m < n → n ≤ l → (P → n ≤ total t) → Fits l m P (done t) (refused (stacks_full n m))
  never : (r : Refusal) (p : Outcome A) → Fits l m P (refused r) p

module _ {A : Type 0} {l m : ℕ} {P : Type 0} where
  needs-fits : (k : ℕ) (s : Stacks A) (o p : Outcome A) → (k ≤ length s.main → Fits l m P o p) → Fits l m P (needs k s o) (needs k s p)
  needs-fits k s o p h = by (leb k (length s.main)) refl
    where
      by : (b : Bool) → leb k (length s.main) ≡ b
          → Fits l m P (pick b o (refused (main_dry k (length s.main)))) (pick b p (refused (main_dry k (length s.main))))
      by true e = h (leb-true k (length s.main) e)
      by false e = alike _

  room_fits : (k : ℕ) (s t : Stacks A) → (P → total s + k ≤ total t) → Fits l m P (room l k s (done t)) (room m k s (done t))
  room_fits k s t h = by (leb (total s + k) l) (leb (total s + k) m) refl refl
    where
      by : (b c : Bool) → leb (total s + k) l ≡ b → leb (total s + k) m ≡ c
          → Fits l m P (pick b (done t) (refused (stacks_full (total s + k) l))) (pick c (done t) (refused (stacks_full (total s + k) m)))
      by true true e f = alike _
      by true false e f = full t (total s + k) (leb-false (total s + k) m f) (leb-true (total s + k) l e) h
      by false c e f = never _ _

  push_item-fits : (x : A) (s : Stacks A) → Fits l m P (push_item l x s) (push_item m x s)
  unfolding push_item
  push_item-fits x s = room_fits 1 s (with_main s (x ∷ s.main)) (λ p. omega arith)

  copy_items-fits : (depth count : ℕ) → (P → count ≤ depth) → (s : Stacks A) → Fits l m P (copy_items l depth count s) (copy_items m depth count s)
  unfolding copy_items
  copy_items-fits depth count h s =
      needs-fits depth s _ _ (λ n. room_fits count s _ (λ p. simp (length-append, length-drop, length-take) (omega (arith, h p))))

  tuck_top-fits : (s : Stacks A) → Fits l m P (tuck_top l s) (tuck_top m s)
  unfolding tuck_top
  tuck_top-fits s =
      needs-fits 1 s _ _ (λ n. needs-fits 2 s _ _ (λ n. room_fits 1 s _ (λ p. simp (length-append, length-drop, length-take) (omega arith))))

  on_done-fits : (o : Outcome A) (f g : Stacks A → Outcome A) → ((t : Stacks A) → Fits l m P (f t) (g t)) → Fits l m P (on_done o refused f) (on_done o refused g)
  on_done-fits (done t) f g h = h t
  on_done-fits (refused r) f g h = alike _

  pop_from-fits : (main alt : List A) (f g : A → Stacks A → Outcome A) → ((x : A) (t : Stacks A) → Fits l m P (f x t) (g x t))
      → Fits l m P (pop_from main alt f) (pop_from main alt g)
  pop_from-fits [] alt f g h = alike _
  pop_from-fits (x ∷ main) alt f g h = h x _

  module _ (I : ItemOps A) where
    pop_index-fits : (s : Stacks A) (f g : ℕ → Stacks A → Outcome A) → ((n : ℕ) (t : Stacks A) → Fits l m P (f n t) (g n t))
        → Fits l m P (pop_index I s f) (pop_index I s g)
    pop_index-fits s f g h = pop_from-fits s.main s.alt _ _ (λ x t. read (index_of (I.to_bytes x)) t)
      where
        read : (i : Index) (t : Stacks A) → Fits l m P (readable I i (λ n. f n t)) (readable I i (λ n. g n t))
        read not_known t = alike _
        read no_number t = alike _
        read negative t = alike _
        read (index n) t = h n t

    zk_drop-fits : (n : ℕ) (s : Stacks A) → Fits l m P (zk_drop I l n s) (zk_drop I m n s)
    zk_drop-fits n s = on_done-fits (drop_items n s) _ _ (λ t. push_item-fits _ t)

    zk_by-fits : (g : Tag) (s : Stacks A) → Fits l m P (zk_by I l g s) (zk_by I m g s)
    zk_by-fits no_tag s = alike _
    zk_by-fits groth16 s =
        pop_from-fits s.main s.alt _ _ (λ key t. pop_from-fits t.main t.alt _ _ (λ proof u. pop_index-fits u _ _ (λ n v. zk_drop-fits n v)))
    zk_by-fits r0_succinct s = zk_drop-fits 8 s

    plain_step-fits : (pops pushes : ℕ) (s : Stacks A) → Fits l m P (plain_step I l pops pushes s) (plain_step I m pops pushes s)
    unfolding plain_step
    plain_step-fits pops pushes s = on_done-fits (drop_items pops s) _ _ (results pushes)
      where
        results : (n : ℕ) (t : Stacks A) → Fits l m P (push_results I l n t) (push_results I m n t)
        results zero t = alike _
        results (suc n) t = push_item-fits _ t

-- S examines no more than R
abbrev pub Examines : Rules → Rules → Type 0
Examines R S = S.examined ≡ true → R.examined ≡ true

push_literal-fits : {A : Type 0} {P : Type 0} (I : ItemOps A) (R S : Rules) → Examines R S → (l : Bytes) (s : Stacks A)
    → Fits R.limit S.limit P (push_literal I R l s) (push_literal I S l s)
push_literal-fits {P = P} I R S m l s = by R.examined S.examined (ltb max_element (length l)) m
  where
    by : (a b c : Bool) → (b ≡ true → a ≡ true)
        → Fits R.limit S.limit P
        (pick (a && c) (refused (long_element (length l))) (push_item R.limit (I.from_bytes l) s))
        (pick (b && c) (refused (long_element (length l))) (push_item S.limit (I.from_bytes l) s))
    by true b true h = never _ _
    by true true false h = push_item-fits _ s
    by true false false h = push_item-fits _ s
    by false true c h = let y : false ≡ true = h refl in let z : ◌≡◌ {A = ℕ} 0 1 = cc in absurd (omega arith)
    by false false c h = push_item-fits _ s

pub step_fits : {A : Type 0} (I : ItemOps A) (R S : Rules) → Examines R S → (i : Instruction) (o : Ordinary) (s : Stacks A)
    → Fits R.limit S.limit (ModestCopy o) (step I R i o s) (step I S i o s)
unfolding step
step_fits I R S m i unmodelled s = alike _
step_fits I R S m i push s = push_literal-fits I R S m i.literal s
step_fits I R S m i nothing s = alike _
step_fits I R S m i TOALT s = alike _
step_fits I R S m i FROMALT s = alike _
step_fits I R S m i DEPTH s = push_item-fits _ s
step_fits I R S m i SIZE s = pop_from-fits s.main s.alt _ _ (λ x t. push_item-fits _ s)
step_fits I R S m i NIP s = alike _
step_fits I R S m i TUCK s = tuck_top-fits s
step_fits I R S m i PICK s = pop_index-fits I s _ _ (λ n t. copy_items-fits (n + 1) 1 (λ p. omega arith) t)
step_fits I R S m i ROLL s = alike _
step_fits I R S m i ZK s = pop_from-fits s.main s.alt _ _ (λ x t. zk_by-fits I (tag_of (I.to_bytes x)) t)
step_fits I R S m i (copies depth count) s = copy_items-fits depth count (λ p. p) s
step_fits I R S m i (rotates count shift) s = alike _

-- A move

-- the classes of R and S, and their modes
pub record Covers (R S : Rules) : Type 0 where
  pub class_for : (code : ℕ) → Models (R.class_for code) (S.class_for code)
  pub examined : Examines R S

data FitsMove (l m : ℕ) (P : Type 0) : Move → Move → Type 0 where
  alike_move : (mv : Move) → FitsMove l m P mv mv
  full_move : (c : Arm) (fs : List Frame) (n : ℕ) → m < n → n ≤ l → (P → n ≤ total_of c) → FitsMove l m P (moves c fs) (refuses (stacks_full n m))
  never_move : (r : Refusal) (mv : Move) → FitsMove l m P (refuses r) mv

outcome_fits : {l m : ℕ} {P : Type 0} {o p : Outcome Item} (fs : List Frame) → Fits l m P o p → FitsMove l m P (on_outcome o fs) (on_outcome p fs)
outcome_fits fs (alike o) = alike_move _
outcome_fits fs (full t n g h f) = full_move (live t) fs n g h f
outcome_fits fs (never r p) = never_move r _

module _ (R S : Rules) (m : Examines R S) (i : Instruction) where
  class-fits : (k : Class) (c : Arm) (fs : List Frame) → FitsMove R.limit S.limit (Modest k) (effect R i k c fs) (effect S i k c fs)
  class-fits IF c fs = alike_move _
  class-fits NOTIF c fs = alike_move _
  class-fits ELSE c [] = alike_move _
  class-fits ELSE c (f ∷ fs) = alike_move _
  class-fits ENDIF c [] = alike_move _
  class-fits ENDIF c (f ∷ fs) = alike_move _
  class-fits RETURN c fs = alike_move _
  class-fits (ordinary o) dead fs = alike_move _
  class-fits (ordinary o) (live s) fs = outcome_fits fs (step_fits marking R S m i o s)
  class-fits (plain pops pushes) dead fs = alike_move _
  class-fits (plain pops pushes) (live s) fs = outcome_fits fs (plain_step-fits marking pops pushes s)

  -- an opcode that R leaves unmodelled is refused by R in live code, and skipped by both in dead code
  effect-fits : {k j : Class} → Models k j → (c : Arm) (fs : List Frame) → FitsMove R.limit S.limit (Modest k) (effect R i k c fs) (effect S i j c fs)
  unfolding step
  effect-fits (keeps k) c fs = class-fits k c fs
  effect-fits (gains_ordinary o) dead fs = alike_move _
  effect-fits (gains_ordinary o) (live s) fs = never_move _ _
  effect-fits (gains_plain pops pushes) dead fs = alike_move _
  effect-fits (gains_plain pops pushes) (live s) fs = never_move _ _

-- The walk

-- a walk that wants more room than m, and no more than l; with modest copies, no more than the peak
pub record Full (l m : ℕ) (P : Type 0) (peak : ℕ) (w : WalkEnd) : Type 0 where
  pub wanted : ℕ
  pub at : State
  pub over : m < wanted
  pub within : wanted ≤ l
  pub in_peak : P → wanted ≤ peak
  pub stop : w ≡ stopped (stacks_full wanted m) at

abbrev pub AllModest : Rules → Type 0
AllModest R = (code : ℕ) → Modest (R.class_for code)

moved : (d : Arm) (gs : List Frame) (c : Arm) (fs : List Frame) → moves d gs ≡ moves c fs → total_of d ≡ total_of c
moved d gs c fs e = let z : d ≡ c = cc in ap total_of z

module _ (R S : Rules) (covers : Covers R S) (t : State) where
  abbrev WalkFits : WalkEnd → Type 0
  WalkFits w = (w ≡ passed t) ⊎ (Full R.limit S.limit (AllModest R) t.peak w)

  pub walk-fits : (is : List Instruction) (s : State) → walk R is s ≡ passed t → WalkFits (walk S is s)
  unfolding walk
  walk-fits [] s h = inl h
  walk-fits (i ∷ is) s h = goes_on_lem R t i is s h (λ c fs e g.
      by c fs (walk-fits is (onward c fs (met i s)) g) (peak-grows R t is (onward c fs (met i s)) g)
      (effect-fits R S covers.examined i (covers.class_for i.opcode) s.arm s.frames) e)
    where
      by : (c : Arm) (fs : List Frame) → WalkFits (walk S is (onward c fs (met i s))) → max s.peak (total_of c) ≤ t.peak
          → {mv nv : Move} → FitsMove R.limit S.limit (Modest (R.class_for i.opcode)) mv nv → mv ≡ moves c fs
          → WalkFits (follow nv (met i s) (λ u. walk S is u))
      by c fs rest q (alike_move mv) e = subst (λ mv. WalkFits (follow mv (met i s) (λ u. walk S is u))) (sym e) rest
      by c fs rest q (full_move d gs n over within f) e = inr (record {
        wanted = n;
        at = met i s;
        over = over;
        within = within;
        in_peak = λ p. omega (arith, q, f (p i.opcode), moved d gs c fs e);
        stop = refl;
      })
      by c fs rest q (never_move r mv) e = let z : ◌≡◌ {A = ℕ} 0 1 = cc in absurd (omega arith)

-- The analysis

-- An analysis from so many items that is short of room at the limit m, which is below l: 2 or 6. With modest copies, the peak
-- is above m.
pub record Short (l m : ℕ) (P : Type 0) (start peak : ℕ) (n : Marked) : Type 0 where
  pub number : ((m < start) × (n.verdict.answer.number ≡ 2)) ⊎ ((start ≤ m) × (n.verdict.answer.number ≡ 6))
  pub lower : m < l
  pub over_peak : P → m < peak

module _ (R S : Rules) (covers : Covers R S) where
  abbrev pub AnalysisFits : ℕ → Marked → Marked → Type 0
  AnalysisFits start m n =
      m.verdict.answer.number ≡ 0 → (n ≡ m) ⊎ (Short R.limit S.limit (AllModest R) start m.verdict.peak n)

  walked-fits : (is : List Instruction) (s : Stacks Item) (log : List ℕ) → total s ≤ S.limit
      → AnalysisFits (total s) (answered (walk R is (begin s log))) (answered (walk S is (begin s log)))
  walked-fits is s log start h = by (walk R is (begin s log)) refl h
    where
      by : (w : WalkEnd) → walk R is (begin s log) ≡ w → AnalysisFits (total s) (answered w) (answered (walk S is (begin s log)))
      by (passed t) e h =
          ⊎_elim (λ g. inl (ap answered g))
          (λ f. inr (record {
            number = inr (start, ap (λ w. (answered w).verdict.answer.number) f.stop);
            lower = omega (arith, f.over, f.within);
            over_peak = λ p. omega (arith, f.over, f.in_peak p);
          }))
          (walk-fits R S covers t is (begin s log) e)
      by (stopped r t) e h = absurd (refused-number t.offset r h)

  -- of decoded code, from any stacks within the limit
  pub code_fits : (code : Code) (s : Stacks Item) (log : List ℕ) → total s ≤ S.limit
      → AnalysisFits (total s) (analysis_of R code s log) (analysis_of S code s log)
  unfolding analysis_of
  code_fits code s log start = by (malformed_at code)
    where
      is : List Instruction
      is = instructions code

      lent : (b : Bool) → AnalysisFits (total s)
          (pick b (answered (walk R is (begin s log))) (refused_early 0 (short_log (3 * length is) (length log)) log))
          (pick b (answered (walk S is (begin s log))) (refused_early 0 (short_log (3 * length is) (length log)) log))
      lent true h = walked-fits is s log start h
      lent false h = absurd (omega (arith, h))

      by : (o : Option ℕ) → AnalysisFits (total s) (tested R o is s log) (tested S o is s log)
      by (some offset) h = absurd (omega (arith, h))
      by none h = lent (leb (3 * length is) (length log)) h

  -- of a fragment, from so many unknown items
  pub analysis-fits : (fragment : Bytes) (main alt : ℕ) (log : List ℕ)
      → AnalysisFits (main + alt) (analysis R fragment main alt log) (analysis S fragment main alt log)
  unfolding analysis
  analysis-fits fragment main alt log = long (ltb max_fragment (length fragment))
    where
      s : Stacks Item
      s = unknowns main alt

      started : total s ≡ main + alt
      started = simp length-replicate refl

      peaked : (analysis_of R (decode fragment) s log).verdict.answer.number ≡ 0 → total s ≤ (analysis_of R (decode fragment) s log).verdict.peak
      peaked h = of_code R (λ m. total s ≤ m.verdict.peak) (decode fragment) s log (λ t l e. peak-grows R t (instructions (decode fragment)) (begin s log) e) h

      large : (b c : Bool) → ltb R.limit (main + alt) ≡ b → ltb S.limit (main + alt) ≡ c → AnalysisFits (main + alt)
          (pick b (refused_early 0 (start_too_large (main + alt) R.limit) log) (analysis_of R (decode fragment) s log))
          (pick c (refused_early 0 (start_too_large (main + alt) S.limit) log) (analysis_of S (decode fragment) s log))
      large true c e f h = absurd (omega (arith, h))
      large false true e f h =
          let over = ltb-true S.limit (main + alt) f in
          inr (record {
            number = inl (over, refl);
            lower = omega (arith, over, ltb-false R.limit (main + alt) e);
            over_peak = λ p. omega (arith, over, peaked h, started);
          })
      large false false e f h =
          subst (λ n. AnalysisFits n (analysis_of R (decode fragment) s log) (analysis_of S (decode fragment) s log)) started
          (code_fits (decode fragment) s log (omega (arith, ltb-false S.limit (main + alt) f, started))) h

      long : (b : Bool) → AnalysisFits (main + alt)
          (pick b (refused_early 0 (long_fragment (length fragment)) log)
          (pick (ltb R.limit (main + alt)) (refused_early 0 (start_too_large (main + alt) R.limit) log) (analysis_of R (decode fragment) s log)))
          (pick b (refused_early 0 (long_fragment (length fragment)) log)
          (pick (ltb S.limit (main + alt)) (refused_early 0 (start_too_large (main + alt) S.limit) log) (analysis_of S (decode fragment) s log)))
      long true h = absurd (omega (arith, h))
      long false h = large (ltb R.limit (main + alt)) (ltb S.limit (main + alt)) refl refl h
