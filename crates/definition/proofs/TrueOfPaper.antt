-- What acceptance of a paper means, proved of the definitions: demand 3 holds of each of its fragments, of the verdict and the
-- rows that the paper is answered with.
use mathlib.Core.Bool.{Bool, true, false}
use mathlib.Core.List.{List, [], ◌∷◌}
use mathlib.Core.Logic.{⊎_elim}
use mathlib.Core.Path.{◌≡◌, refl, sym, ap, ◌∙◌}
use Prim.Native.Nat.{ℕ, zero, suc, ◌+◌, ◌*◌, ◌≤◌, ◌<◌, max}
use native.Mathlib.Omega.{arith}
use borrow.Author.Tests.{eqb-true, eqb-false}
use lib.Dec.{ltb, eqb}
use lib.ListN.{length, take, drop, length-take, length-drop}
use lib.Seq.{length-take-le, take_at, drop_at, take-take, drop-drop}
use Rattle.definition.specs.Basics.{Bytes, pick}
use Rattle.definition.specs.Decoding.{Instruction, decode, instructions}
use Rattle.definition.specs.Refusals.{max_paper, bad_header, dispatch_too_large, long_paper}
use Rattle.definition.specs.Stacks.{Rules, Stacks, built_in}
use Rattle.definition.specs.Walk.{Item, dead, Verdict, Marked, begin, unknowns, analysis}
use Rattle.definition.specs.Replay.{Replay, Going, running, jumping, Carried, goes_on, halts, fails, carry, past, Trace, on_carried, replay_from, ReachedAt, heights_at, Demand3}
use Rattle.definition.specs.Papers.{Entry, Fragment, PaperMarked, after, mark_from, dispatch, refused_paper, mark_paper, good_header, state_fields, entries, fragments, EachTrue, TrueOfPaper}
use Rattle.definition.proofs.Arms.{rows_all, log-length}
use Rattle.definition.proofs.TrueOfEveryReplay.{of_analysis, true_of_analysis}

-- Another log

-- a replay reaches places below the number of instructions
module _ (R : Rules) (k : ℕ) (u : Stacks Bytes) where
  traced-below : (n : ℕ) (a : Carried) (s : Stacks Bytes) (next : Going → Replay → Trace)
      → ((m : Going) (r : Replay) → ReachedAt k u (next m r) → k < n) → ReachedAt k u (on_carried a s next) → k < n
  traced-below n (goes_on m r) s next f h = f m r h
  traced-below n halts s next f h = absurd h
  traced-below n fails s next f h = absurd h

  reached-below : (is : List Instruction) (j : ℕ) (m : Going) (r : Replay) → ReachedAt k u (replay_from R is j m r) → k < j + length is
  unfolding replay_from
  reached-below [] j m r h = absurd h
  reached-below (i ∷ is) j running r h =
      ⊎_elim (λ e. omega (arith, e.0))
      (λ q. traced-below (j + suc (length is)) (carry R i (R.class_for i.opcode) r) r.stacks (λ m t. replay_from R is (j + 1) m t)
      (λ m t g. omega (arith, reached-below is (j + 1) m t g)) q) h
  reached-below (i ∷ is) j (jumping to_else n) r h = omega (arith, reached-below is (j + 1) (past (R.class_for i.opcode) to_else n) r h)

-- demand 3 holds of any log with the same heights for each instruction
other-log : (R : Rules) (is : List Instruction) (s : Stacks Item) (m : Marked) (log : List ℕ)
    → ((k : ℕ) → k < length is → heights_at k m.log ≡ heights_at k log) → Demand3 R is s m
    → Demand3 R is s (record { verdict = m.verdict; log = log })
other-log R is s m log e d = record {
  no_fault = d.no_fault;
  within_limit = d.within_limit;
  heights = λ r p k t h. sym (e k (omega (arith, reached-below R k t is 0 running r h))) ∙ d.heights r p k t h;
  ending = d.ending;
  liveness = λ k l. ((λ n. (d.liveness k l).0 (λ z. n (sym (e k l) ∙ z))), (λ q z. (d.liveness k l).1 q (e k l ∙ z)));
  no_end = d.no_end;
  peak_bounds = d.peak_bounds;
  peak_reached = d.peak_reached;
}

-- The rows of an accepted analysis

-- one for every instruction, with room in the log, which keeps its length
record Rows (is : List Instruction) (log : List ℕ) (m : Marked) : Type 0 where
  pub all : m.verdict.rows ≡ length is
  pub room : 3 * length is ≤ length log
  pub kept : length m.log ≡ length log

analysis-rows : (R : Rules) (fragment : Bytes) (main alt : ℕ) (log : List ℕ)
    → (analysis R fragment main alt log).verdict.answer.number ≡ 0
    → Rows (instructions (decode fragment)) log (analysis R fragment main alt log)
analysis-rows R fragment main alt log h =
    let is : List Instruction = instructions (decode fragment) in
    of_analysis R (Rows is log) fragment main alt log
    (λ start t l e. record {
      all = rows_all R t is (begin (unknowns main alt) log) e ∙ omega arith;
      room = l;
      kept = log-length R t is (begin (unknowns main alt) log) e;
    }) h

-- The rows of a fragment in the paper's log

-- two logs with the same first n numbers have the same heights in each row within them
pub within-front : (i j n : ℕ) (l : List ℕ) → i + j ≤ n → take j (drop i (take n l)) ≡ take j (drop i l)
within-front zero j n l h = take-take j n l (omega arith)
within-front (suc i) j zero l h = absurd (omega arith)
within-front (suc i) j (suc n) [] h = refl
within-front (suc i) j (suc n) (x ∷ l) h = within-front i j n l (omega arith)

same-heights : (from n : ℕ) (a b : List ℕ) → take n a ≡ take n b → (k : ℕ) → from + 3 * (k + 1) ≤ n
    → heights_at k (drop from a) ≡ heights_at k (drop from b)
same-heights from n a b e k h = two a ∙ ap (λ l. take 2 (drop (from + (3 * k + 1)) l)) e ∙ sym (two b)
  where
    two : (l : List ℕ) → heights_at k (drop from l) ≡ take 2 (drop (from + (3 * k + 1)) (take n l))
    two l = ap (λ r. take 2 r) (drop-drop (3 * k + 1) from l) ∙ sym (within-front (from + (3 * k + 1)) 2 n l (omega arith))

-- a log with the rows before it as they were and then what the analysis left, and a last log that keeps all rows so far
module _ (rows : ℕ) (log out : List ℕ) (is : List Instruction) (m : Marked) (lent : 3 * rows ≤ length log)
    (r : Rows is (drop (3 * rows) log) m) (front : take (3 * rows) out ≡ take (3 * rows) log)
    (behind : drop (3 * rows) out ≡ m.log) where
  still-lent : 3 * (rows + m.verdict.rows) ≤ length out
  still-lent =
      let f : length (take (3 * rows) out) ≡ 3 * rows = ap length front ∙ length-take-le (3 * rows) log lent in
      omega (arith, f, length-take (3 * rows) out, ap length behind, length-drop (3 * rows) out, r.all, r.room, r.kept)

  module _ (last : List ℕ) (keeps : take (3 * (rows + m.verdict.rows)) last ≡ take (3 * (rows + m.verdict.rows)) out) where
    keeps-before : take (3 * rows) last ≡ take (3 * rows) log
    keeps-before =
        sym (take-take (3 * rows) (3 * (rows + m.verdict.rows)) last (omega arith)) ∙ ap (λ l. take (3 * rows) l) keeps
        ∙ take-take (3 * rows) (3 * (rows + m.verdict.rows)) out (omega arith) ∙ front

    keeps-heights : (k : ℕ) → k < length is → heights_at k m.log ≡ heights_at k (drop (3 * rows) last)
    keeps-heights k h =
        ap (λ l. heights_at k l) (sym behind)
        ∙ sym (same-heights (3 * rows) (3 * (rows + m.verdict.rows)) last out keeps k (omega (arith, r.all)))

-- The fragments one after another, by any rules with a limit below 65,535

module _ (R : Rules) (small : R.limit < 65535) where
  -- the last log keeps what stands before the first of these, and demand 3 holds of each
  abbrev Marks : ℕ → List Fragment → List ℕ → PaperMarked → Type 0
  Marks rows fs log m = (take (3 * rows) m.log ≡ take (3 * rows) log) × (EachTrue R rows fs m.verdicts m.log)

  -- of the fragments from one on
  true_from : (k rows peak : ℕ) (fs : List Fragment) (log : List ℕ) → 3 * rows ≤ length log
      → (mark_from R k rows peak fs log).paper.verdict.answer.number ≡ 0
      → Marks rows fs log (mark_from R k rows peak fs log)
  unfolding mark_from EachTrue
  true_from k rows peak [] log l h = (refl, tt)
  true_from k rows peak (f ∷ fs) log l h =
      by _ (eqb v.answer.number 0) refl h (λ s g. true_from (k + 1) (rows + v.rows) (max peak v.peak) fs _ s g)
      (take_at (take (3 * rows) log) m.log (3 * rows) (length-take-le (3 * rows) log l))
      (drop_at (take (3 * rows) log) m.log (3 * rows) (length-take-le (3 * rows) log l))
    where
      is : List Instruction
      is = instructions (decode f.bytes)

      m : Marked
      m = analysis R f.bytes f.main f.alt (drop (3 * rows) log)

      v : Verdict
      v = m.verdict

      rest : List ℕ → PaperMarked
      rest out = mark_from R (k + 1) (rows + v.rows) (max peak v.peak) fs out

      stop : List ℕ → PaperMarked
      stop out = record {
        paper = record { entry = k; verdict = record { answer = v.answer; rows = rows + v.rows; peak = 0; end = dead } };
        verdicts = [];
        log = out;
      }

      by : (out : List ℕ) (b : Bool) → eqb v.answer.number 0 ≡ b
          → (pick b (after v (rest out)) (stop out)).paper.verdict.answer.number ≡ 0
          → (3 * (rows + v.rows) ≤ length out → (rest out).paper.verdict.answer.number ≡ 0
          → Marks (rows + v.rows) fs out (rest out))
          → take (3 * rows) out ≡ take (3 * rows) log → drop (3 * rows) out ≡ m.log
          → Marks rows (f ∷ fs) log (pick b (after v (rest out)) (stop out))
      by out true e h onward front behind =
          let z : v.answer.number ≡ 0 = eqb-true v.answer.number 0 e in
          let r = analysis-rows R f.bytes f.main f.alt (drop (3 * rows) log) z in
          let t = onward (still-lent rows log out is m l r front behind) h in
          let d =
          other-log R is (unknowns f.main f.alt) m (drop (3 * rows) (rest out).log)
          (keeps-heights rows log out is m l r front behind (rest out).log t.0)
          (true_of_analysis R small f.bytes f.main f.alt (drop (3 * rows) log) z) in
          (keeps-before rows log out is m l r front behind (rest out).log t.0, (d, t.1))
      by out false e h onward front behind = absurd (eqb-false v.answer.number 0 e h)

  -- The whole paper

  -- what is claimed of an answer
  abbrev TrueOf : Bytes → PaperMarked → Type 0
  TrueOf paper m = m.paper.verdict.answer.number ≡ 0 → EachTrue R 0 (fragments paper) m.verdicts m.log

  -- behind the dispatch check
  true_dispatched : (paper : Bytes) (k : ℕ) (es : List Entry) (log : List ℕ) → TrueOf paper (dispatch R paper k es log)
  unfolding dispatch
  true_dispatched paper k [] log h = (true_from 0 0 0 (fragments paper) log (omega arith) h).1
  true_dispatched paper k (e ∷ es) log h = by (λ g. true_dispatched paper (k + 1) es log g) (ltb R.limit sum) h
    where
      sum : ℕ
      sum = e.parameters + state_fields paper + 3

      by : TrueOf paper (dispatch R paper (k + 1) es log) → (b : Bool)
          → TrueOf paper (pick b (refused_paper k (dispatch_too_large sum R.limit) log) (dispatch R paper (k + 1) es log))
      by onward true h = absurd (omega (arith, h))
      by onward false h = onward h

  -- of every paper and log
  pub true_of_paper_by : (paper : Bytes) (log : List ℕ) → TrueOfPaper R paper log
  unfolding mark_paper
  true_of_paper_by paper log h = long (ltb max_paper (length paper)) h
    where
      header : (b : Bool) → TrueOf paper (pick b (dispatch R paper 0 (entries paper) log) (refused_paper 0 bad_header log))
      header true h = true_dispatched paper 0 (entries paper) log h
      header false h = absurd (omega (arith, h))

      rest : PaperMarked
      rest = pick (good_header paper) (dispatch R paper 0 (entries paper) log) (refused_paper 0 bad_header log)

      long : (b : Bool) → TrueOf paper (pick b (refused_paper 0 (long_paper (length paper)) log) rest)
      long true h = absurd (omega (arith, h))
      long false h = header (good_header paper) h

-- Of every paper and log, if the paper is accepted, demand 3 holds of each of its fragments.
pub true_of_paper : (paper : Bytes) (log : List ℕ) → TrueOfPaper built_in paper log
true_of_paper paper log h = true_of_paper_by built_in (omega arith) paper log h
