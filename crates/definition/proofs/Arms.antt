-- An accepted walk by the marker's arm at each place: what the log, the verdict's end and its peak say of these arms.
use mathlib.Core.Bool.{Bool, true, false}
use mathlib.Core.List.{List, [], ◌∷◌}
use mathlib.Core.Logic.{◌⊎◌, inl, inr, ⊎_elim}
use mathlib.Core.Path.{◌≡◌, refl, sym, ap, subst, ◌∙◌}
use Prim.Native.Nat.{ℕ, zero, suc, ◌+◌, ◌*◌, ◌≤◌, ◌<◌, max}
use native.Mathlib.Omega.{arith}
use borrow.Author.Tests.{leb-true, leb-false}
use lib.Dec.{leb}
use lib.ListN.{length, get_or, set, length-set}
use lib.Seq.{get_or-set_same, get_or-set_other, length-sets}
use Rattle.definition.specs.Decoding.{Instruction}
use Rattle.definition.specs.Stacks.{Rules, total}
use Rattle.definition.specs.Walk.{Arm, dead, live, Frame, Move, moves, refuses, effect, heights_of, log_row, State, met, total_of, onward, WalkEnd, passed, follow, at_end, walk}

-- a move that must lead on, and to what
abbrev pub Goes : Move → (Arm → List Frame → Type 0) → Type 0
Goes (moves c fs) P = P c fs
Goes (refuses r) P = ⊥

-- every instruction moves the marker on, and no conditional is left open
abbrev pub Accepts : Rules → List Instruction → Arm → List Frame → Type 0
Accepts R [] c fs = fs ≡ []
Accepts R (i ∷ is) c fs = Goes (effect R i (R.class_for i.opcode) c fs) (λ c fs. Accepts R is c fs)

abbrev pub after : Move → (Arm → List Frame → Arm) → Arm
after (moves c fs) next = next c fs
after (refuses r) next = dead

-- the arm just before the instruction at place j; past the last one, the end
abbrev pub arm_at : Rules → List Instruction → Arm → List Frame → ℕ → Arm
arm_at R is c fs zero = c
arm_at R [] c fs (suc j) = dead
arm_at R (i ∷ is) c fs (suc j) = after (effect R i (R.class_for i.opcode) c fs) (λ c fs. arm_at R is c fs j)

abbrev pub Alive : Arm → Type 0
Alive dead = ⊥
Alive (live s) = Unit {0}

-- the two heights that the log says of an arm
abbrev pub main_height : Arm → ℕ
main_height dead = 65535
main_height (live s) = length s.main

abbrev pub alt_height : Arm → ℕ
alt_height dead = 65535
alt_height (live s) = length s.alt

pub both-heights : (c : Arm) → heights_of c ≡ (main_height c ∷ alt_height c ∷ [])
both-heights dead = refl
both-heights (live s) = refl

-- a row is three stores
pub row-stores : (k offset : ℕ) (c : Arm) (log : List ℕ)
    → log_row k offset c log ≡ set (set (set log (3 * k) offset) (3 * k + 1) (main_height c)) (3 * k + 2) (alt_height c)
unfolding log_row
row-stores k offset c log =
    let e : 3 * k + 1 ≡ suc (3 * k) = omega arith in
    let f : 3 * k + 2 ≡ suc (suc (3 * k)) = omega arith in
    rw (e, f, both-heights c)

-- row k of the log is the arm's
abbrev pub Row : List ℕ → ℕ → Arm → Type 0
Row log k c = (get_or log (3 * k + 1) 0 ≡ main_height c) × (get_or log (3 * k + 2) 0 ≡ alt_height c)

-- a live arm, and its total
abbrev pub Tops : ℕ → Arm → Type 0
Tops p c = (Alive c) × (p ≡ total_of c)

higher : (c : Arm) (q p : ℕ) → p ≡ max q (total_of c) → (p ≡ q) ⊎ (Tops p c)
higher dead q p h = inl (omega arith)
higher (live s) q p h = test (leb (total s) q) refl
  where
    test : (b : Bool) → leb (total s) q ≡ b → (p ≡ q) ⊎ (Tops p (live s))
    test true e = let l = leb-true (total s) q e in inl (omega arith)
    test false e = let l = leb-false (total s) q e in inr (tt, omega arith)

module _ (k offset : ℕ) (c : Arm) (log : List ℕ) where
  -- the log with the first one, and the first two, numbers of the row
  abbrev one : List ℕ
  one = set log (3 * k) offset

  abbrev two : List ℕ
  two = set one (3 * k + 1) (main_height c)

  row-length : length (log_row k offset c log) ≡ length log
  unfolding log_row
  row-length = length-sets log (3 * k) (offset ∷ heights_of c)

  row_before : (j : ℕ) → j < 3 * k → get_or (log_row k offset c log) j 0 ≡ get_or log j 0
  row_before j h = rw row-stores (get_or-set_other two (3 * k + 2) j (alt_height c) 0 (omega arith) ∙ get_or-set_other one (3 * k + 1) j (main_height c) 0 (omega arith)
      ∙ get_or-set_other log (3 * k) j offset 0 (omega arith))

  row_written : 3 * k + 2 < length log → Row (log_row k offset c log) k c
  row_written h = rw row-stores (
    get_or-set_other two (3 * k + 2) (3 * k + 1) (alt_height c) 0 (omega arith) ∙ get_or-set_same one (3 * k + 1) (main_height c) 0 (simp length-set (omega arith)),
    get_or-set_same two (3 * k + 2) (alt_height c) 0 (simp length-set h),
  )

module _ (R : Rules) (t : State) where
  through : {P : Type 0} (mv : Move) (s : State) (next : State → WalkEnd) → follow mv s next ≡ passed t
      → ((c : Arm) (fs : List Frame) → mv ≡ moves c fs → next (onward c fs s) ≡ passed t → P) → P
  through (moves c fs) s next h f = f c fs refl h
  through (refuses r) s next h f = let z : ◌≡◌ {A = ℕ} 0 1 = cc in absurd (omega arith)

  -- an accepted walk moves on at each instruction, and the rest of it is accepted
  pub goes_on_lem : {P : Type 0} (i : Instruction) (is : List Instruction) (s : State) → walk R (i ∷ is) s ≡ passed t
      → ((c : Arm) (fs : List Frame) → effect R i (R.class_for i.opcode) s.arm s.frames ≡ moves c fs → walk R is (onward c fs (met i s)) ≡ passed t → P) → P
  unfolding walk
  goes_on_lem i is s h f = through (effect R i (R.class_for i.opcode) s.arm s.frames) (met i s) (λ u. walk R is u) h f

  -- and past the last one no conditional is open
  at-end : (s : State) → walk R [] s ≡ passed t → (s.frames ≡ []) × (s ≡ t)
  unfolding walk
  at-end s h = none_open s.frames h
    where
      none_open : (fs : List Frame) → at_end fs s ≡ passed t → (fs ≡ []) × (s ≡ t)
      none_open [] h = (refl, cc)
      none_open (f ∷ fs) h = let z : ◌≡◌ {A = ℕ} 0 1 = cc in absurd (omega arith)

  pub accepts : (is : List Instruction) (s : State) → walk R is s ≡ passed t → Accepts R is s.arm s.frames
  accepts [] s h = (at-end s h).0
  accepts (i ∷ is) s h = goes_on_lem i is s h
      (λ c fs e g. subst (λ mv. Goes mv (λ c fs. Accepts R is c fs)) (sym e) (accepts is (onward c fs (met i s)) g))

  -- the arm past the last instruction is the verdict's end
  pub end-at : (is : List Instruction) (s : State) → walk R is s ≡ passed t → t.arm ≡ arm_at R is s.arm s.frames (length is)
  end-at [] s h = ap (λ (u : State). u.arm) (sym (at-end s h).1)
  end-at (i ∷ is) s h = goes_on_lem i is s h
      (λ c fs e g. end-at is (onward c fs (met i s)) g ∙ ap (λ mv. after mv (λ c fs. arm_at R is c fs (length is))) (sym e))

  -- what was logged before stays
  keeps : (is : List Instruction) (s : State) → walk R is s ≡ passed t → (j : ℕ) → j < 3 * s.rows → get_or t.log j 0 ≡ get_or s.log j 0
  keeps [] s h j lt = ap (λ (u : State). get_or u.log j 0) (sym (at-end s h).1)
  keeps (i ∷ is) s h j lt = goes_on_lem i is s h
      (λ c fs e g. keeps is (onward c fs (met i s)) g j (omega arith) ∙ row_before s.rows i.offset s.arm s.log j lt)

  -- the log keeps its length
  pub log-length : (is : List Instruction) (s : State) → walk R is s ≡ passed t → length t.log ≡ length s.log
  log-length [] s h = ap (λ (u : State). length u.log) (sym (at-end s h).1)
  log-length (i ∷ is) s h = goes_on_lem i is s h (λ c fs e g. log-length is (onward c fs (met i s)) g ∙ row-length s.rows i.offset s.arm s.log)

  -- there is a row for every instruction
  pub rows_all : (is : List Instruction) (s : State) → walk R is s ≡ passed t → t.rows ≡ s.rows + length is
  rows_all [] s h = omega (arith, ap (λ (u : State). u.rows) (at-end s h).1)
  rows_all (i ∷ is) s h = goes_on_lem i is s h (λ c fs e g. omega (arith, rows_all is (onward c fs (met i s)) g))

  -- each instruction's row is that of the arm before it
  pub row_at : (is : List Instruction) (s : State) → walk R is s ≡ passed t → 3 * (s.rows + length is) ≤ length s.log
      → (j : ℕ) → j < length is → Row t.log (s.rows + j) (arm_at R is s.arm s.frames j)
  row_at [] s h len j lt = absurd (omega arith)
  row_at (i ∷ is) s h len zero lt = goes_on_lem i is s h
      (λ c fs e g. let w = row_written s.rows i.offset s.arm s.log (omega arith) in
      subst (λ k. Row t.log k s.arm) (omega arith)
      (let u = onward c fs (met i s) in
      (keeps is u g (3 * s.rows + 1) (omega arith) ∙ w.0, keeps is u g (3 * s.rows + 2) (omega arith) ∙ w.1)))
  row_at (i ∷ is) s h len (suc j) lt = goes_on_lem i is s h
      (λ c fs e g. subst (λ mv. Row t.log (s.rows + suc j) (after mv (λ c fs. arm_at R is c fs j))) (sym e)
      (subst (λ k. Row t.log k (arm_at R is c fs j)) (omega arith)
      (row_at is (onward c fs (met i s)) g (rw row-length (omega arith)) j (omega arith))))

  pub peak-grows : (is : List Instruction) (s : State) → walk R is s ≡ passed t → s.peak ≤ t.peak
  peak-grows [] s h = subst (λ (u : State). s.peak ≤ u.peak) (at-end s h).1 (omega arith)
  peak-grows (i ∷ is) s h = goes_on_lem i is s h (λ c fs e g. let p = peak-grows is (onward c fs (met i s)) g in omega arith)

  -- no arm's total is over the peak
  pub peak-over : (is : List Instruction) (s : State) → walk R is s ≡ passed t → total_of s.arm ≤ s.peak
      → (j : ℕ) → j ≤ length is → total_of (arm_at R is s.arm s.frames j) ≤ t.peak
  peak-over is s h p zero le = let q = peak-grows is s h in omega arith
  peak-over [] s h p (suc j) le = absurd (omega arith)
  peak-over (i ∷ is) s h p (suc j) le = goes_on_lem i is s h
      (λ c fs e g. subst (λ mv. total_of (after mv (λ c fs. arm_at R is c fs j)) ≤ t.peak) (sym e)
      (peak-over is (onward c fs (met i s)) g (omega arith) j (omega arith)))

  -- the peak is what it was before, or the total of a live arm
  pub peak-at : (is : List Instruction) (s : State) → walk R is s ≡ passed t
      → (t.peak ≡ s.peak) ⊎ ((j : ℕ) × (j ≤ length is) × (Tops t.peak (arm_at R is s.arm s.frames j)))
  peak-at [] s h = inl (ap (λ (u : State). u.peak) (sym (at-end s h).1))
  peak-at (i ∷ is) s h = goes_on_lem i is s h
      (λ c fs e g. ⊎_elim
      (λ p. ⊎_elim inl (λ q. inr (1, omega arith, subst (λ mv. Tops t.peak (after mv (λ c fs. c))) (sym e) q)) (higher c s.peak t.peak p))
      (λ q. inr (suc q.0, omega (arith, q.1), subst (λ mv. Tops t.peak (after mv (λ c fs. arm_at R is c fs q.0))) (sym e) q.2))
      (peak-at is (onward c fs (met i s)) g))
