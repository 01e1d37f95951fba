-- Laws of a fragment's analysis: the rows that it writes, what the log becomes.
use mathlib.Core.Bool.{Bool, true, false}
use mathlib.Core.List.{List, [], ◌∷◌, ◌++◌, append-nil}
use mathlib.Core.Option.{Option, none, some}
use mathlib.Core.Path.{◌≡◌, refl, sym, ap, ap₂, subst, ◌∙◌}
use Prim.Native.Nat.{ℕ, suc, ◌+◌, ◌-◌, ◌*◌, ◌≤◌, ◌<◌, min}
use native.Mathlib.Omega.{arith}
use borrow.Author.Tests.{lt-ltb, le-ltb, leb-true, leb-false}
use lib.Dec.{ltb, leb}
use lib.ListN.{length, take, drop, length-drop, drop_of_length-le}
use lib.Seq.{take_all}
use Rattle.definition.specs.Basics.{Bytes}
use Rattle.definition.specs.Decoding.{Instruction, decode, instructions, malformed_at}
use Rattle.definition.specs.Papers.{Fragment, fragments}
use Rattle.definition.specs.Refusals.{bad_header}
use Rattle.definition.specs.Stacks.{Rules, Stacks}
use Rattle.definition.specs.Walk.{Item, Move, moves, refuses, effect, Frame, State, met, onward, follow, at_end, walk, answered, begin, unknowns, tested, Marked, analysis_of, analysis, refused_verdict}
use Rattle.stack_analysis.specs.View.{Verdict, Told, told, told_of, heights_of}
use Rattle.stack_analysis.specs.declared.Heights.{Heights}
use Rattle.header.specs.View.{fragment_at}
use Rattle.paper.specs.View.{fragment_analysis, fragment_marked}

-- The rows that an analysis writes

module _ (R : Rules) where
  rows_end : (fs : List Frame) (s : State) → (answered (at_end fs s)).verdict.rows ≡ s.rows
  rows_end [] s = refl
  rows_end (f ∷ fs) s = refl

  pub rows-walk : (is : List Instruction) (s : State) → (answered (walk R is s)).verdict.rows ≤ s.rows + length is
  unfolding walk
  rows-walk [] s = omega (arith, rows_end s.frames s)
  rows-walk (i ∷ is) s = by (λ t. rows-walk is t) (effect R i (R.class_for i.opcode) s.arm s.frames)
    where
      by : ((t : State) → (answered (walk R is t)).verdict.rows ≤ t.rows + length is) → (m : Move)
          → (answered (follow m (met i s) (λ t. walk R is t))).verdict.rows ≤ s.rows + suc (length is)
      by h (moves c fs) = omega (arith, h (onward c fs (met i s)))
      by h (refuses r) = omega arith

  rows-tested : (m : Option ℕ) (is : List Instruction) (s : Stacks Item) (log : List ℕ) → 3 * (tested R m is s log).verdict.rows ≤ length log
  rows-tested (some offset) is s log = omega arith
  rows-tested none is s log = by (leb (3 * length is) (length log)) refl
    where
      by : (b : Bool) → leb (3 * length is) (length log) ≡ b → 3 * (tested R none is s log).verdict.rows ≤ length log
      by true e =
          let w = rows-walk is (begin s log) in
          rw e (omega (arith, w, leb-true (3 * length is) (length log) e))
      by false e = rw e (omega arith)

  pub rows-analysis : (s : Bytes) (main alt : ℕ) (log : List ℕ) → 3 * (analysis R s main alt log).verdict.rows ≤ length log
  unfolding analysis analysis_of
  rows-analysis s main alt log = by (ltb 10000 (length s)) (ltb R.limit (main + alt)) refl refl
    where
      by : (b d : Bool) → ltb 10000 (length s) ≡ b → ltb R.limit (main + alt) ≡ d → 3 * (analysis R s main alt log).verdict.rows ≤ length log
      by true d e f = rw e (omega arith)
      by false true e f = rw (e, f) (omega arith)
      by false false e f = rw (e, f) (rows-tested (malformed_at (decode s)) (instructions (decode s)) (unknowns main alt) log)

-- What a part of the log becomes

-- all of a list and more is all of it
take_min : (n : ℕ) (l : List ℕ) → take (min n (length l)) l ≡ take n l
take_min n l = either-by (leb n (length l)) refl
  where
    either-by : (b : Bool) → leb n (length l) ≡ b → take (min n (length l)) l ≡ take n l
    either-by true e = let m : min n (length l) ≡ n = omega (arith, leb-true n (length l) e) in rw m
    either-by false e =
        let g : length l < n = leb-false n (length l) e in
        let m : min n (length l) ≡ length l = omega arith in
        rw m (take_all (length l) l (omega arith) ∙ sym (take_all n l (omega arith)))

drop_min : (n : ℕ) (l : List ℕ) → drop (min n (length l)) l ≡ drop n l
drop_min n l = either-by (leb n (length l)) refl
  where
    either-by : (b : Bool) → leb n (length l) ≡ b → drop (min n (length l)) l ≡ drop n l
    either-by true e = let m : min n (length l) ≡ n = omega (arith, leb-true n (length l) e) in rw m
    either-by false e =
        let g : length l < n = leb-false n (length l) e in
        let m : min n (length l) ≡ length l = omega arith in
        rw m (drop_of_length-le l {i = length l} (omega arith) ∙ sym (drop_of_length-le l {i = n} (omega arith)))

module _ (log : List ℕ) (from : ℕ) where
  all_left : take (length log - from) (drop from log) ≡ drop from log
  all_left = take_all (length log - from) (drop from log) (omega (arith, length-drop from log))

  none_after : (rest : List ℕ) → rest ++ drop (length log - from) (drop from log) ≡ rest
  none_after rest = ap (λ l. rest ++ l) (drop_of_length-le (drop from log) {i = length log - from} (omega (arith, length-drop from log))) ∙ append-nil rest

-- the answer r and the new log are those of the analysis m of what the log has from a number on, and its rows have room
pub record Marks (m : Marked) (from : ℕ) (log : List ℕ) (r : Verdict Heights) (new : List ℕ) : Type 0 where
  pub same : told r ≡ told_of heights_of m.verdict
  pub logged : new ≡ take from log ++ m.log
  pub room : from + 3 * (told r).rows ≤ length log

-- the analysis of s from there on
module _ (R : Rules) (s : Bytes) (main alt from : ℕ) (log : List ℕ) where
  abbrev analysed : List ℕ → Marked
  analysed l = analysis R s main alt l

  marks-part : (rest : List ℕ) (r : Verdict Heights) → from ≤ length log
      → told r ≡ told_of heights_of (analysed (take (length log - from) (drop from log))).verdict → rest ≡ (analysed (take (length log - from) (drop from log))).log
      → Marks (analysed (drop from log)) from log r (take from log ++ (rest ++ drop (length log - from) (drop from log)))
  marks-part rest r h e f =
      let e' : told r ≡ told_of heights_of (analysed (drop from log)).verdict = e ∙ ap (λ l. told_of heights_of (analysed l).verdict) (all_left log from) in
      let f' : rest ≡ (analysed (drop from log)).log = f ∙ ap (λ l. (analysed l).log) (all_left log from) in
      record {
        same = e';
        logged = ap (λ l. take from log ++ l) (none_after log from rest ∙ f');
        room = omega (arith, ap (λ (t : Told Heights). t.rows) e', rows-analysis R s main alt (drop from log), length-drop from log);
      }

-- What is promised of a fragment

pub record FragmentMarks (R : Rules) (p : Bytes) (k rows : ℕ) (log : List ℕ) (r : Verdict Heights) (new : List ℕ) : Type 0 where
  pub same : told r ≡ told_of heights_of (fragment_marked R p k rows log).verdict
  pub logged : new ≡ (fragment_marked R p k rows log).log
  pub room : 3 * rows ≤ length log → 3 * (rows + (told r).rows) ≤ length log

pub fragment-marks-by : {R Q : Rules} → R ≡ Q → (p : Bytes) (k rows : ℕ) (log : List ℕ) (r : Verdict Heights) (new : List ℕ) → FragmentMarks R p k rows log r new
    → FragmentMarks Q p k rows log r new
fragment-marks-by e p k rows log r new m = subst (λ (X : Rules). FragmentMarks X p k rows log r new) e m

module _ (R : Rules) (p : Bytes) (k rows : ℕ) (log : List ℕ) where
  pub no-fragment : length (fragments p) ≤ k → (r : Verdict Heights) → told r ≡ told_of heights_of (refused_verdict 0 bad_header 0) → FragmentMarks R p k rows log r log
  unfolding fragment_marked
  no-fragment h r e = record {
    same = rw (le-ltb k (length (fragments p)) h) e;
    logged = rw (le-ltb k (length (fragments p)) h);
    room = λ g. omega (arith, g, ap (λ (t : Told Heights). t.rows) e);
  }

  module _ (there : k < length (fragments p)) where
    marked-there : fragment_marked R p k rows log ≡ record { verdict = (fragment_analysis R p k rows log).verdict; log = take (3 * rows) log ++ (fragment_analysis R p k rows log).log }
    unfolding fragment_marked
    marked-there = rw (lt-ltb k (length (fragments p)) there)

    module _ (r : Verdict Heights) (new : List ℕ) where
      -- for a caller whose rows lie within the log
      pub fragment-marks : FragmentMarks R p k rows log r new → 3 * rows ≤ length log → Marks (fragment_analysis R p k rows log) (3 * rows) log r new
      fragment-marks m h = record {
        same = m.same ∙ ap (λ (x : Marked). told_of heights_of x.verdict) marked-there;
        logged = m.logged ∙ ap (λ (x : Marked). x.log) marked-there;
        room = omega (arith, m.room h);
      }

      module _ (from : ℕ) (start : from ≡ min (3 * rows) (length log)) where
        in-log : (f : Fragment) → fragment_at p k ≡ f → Marks (analysis R f.bytes f.main f.alt (drop from log)) from log r new → FragmentMarks R p k rows log r new
        in-log f e m =
            let d : drop from log ≡ drop (3 * rows) log = ap (λ n. drop n log) start ∙ drop_min (3 * rows) log in
            let t : take from log ≡ take (3 * rows) log = ap (λ n. take n log) start ∙ take_min (3 * rows) log in
            let a : analysis R f.bytes f.main f.alt (drop from log) ≡ fragment_analysis R p k rows log = rw (d, ← e) in
            record {
              same = m.same ∙ ap (λ (x : Marked). told_of heights_of x.verdict) a ∙ sym (ap (λ (x : Marked). told_of heights_of x.verdict) marked-there);
              logged = m.logged ∙ ap₂ (λ (x : List ℕ) (y : Marked). x ++ y.log) t a ∙ sym (ap (λ (x : Marked). x.log) marked-there);
              room = λ h. omega (arith, m.room, start);
            }

    -- the analysis of fragment k, on the log from where its rows start
    pub marks-fragment : (bytes : Bytes) (main alt : ℕ) → bytes ≡ (fragment_at p k).bytes → main ≡ (fragment_at p k).main → alt ≡ (fragment_at p k).alt
        → (from : ℕ) → from ≡ min (3 * rows) (length log) → (r : Verdict Heights) (rest : List ℕ)
        → told r ≡ told_of heights_of (analysis R bytes main alt (take (length log - from) (drop from log))).verdict
        → rest ≡ (analysis R bytes main alt (take (length log - from) (drop from log))).log
        → FragmentMarks R p k rows log r (take from log ++ (rest ++ drop (length log - from) (drop from log)))
    marks-fragment bytes main alt b m a from start r rest g h =
        in-log r _ from start (record { bytes = bytes; main = main; alt = alt }) (rw (b, m, a)) (marks-part R bytes main alt from log rest r (omega (arith, start)) g h)
