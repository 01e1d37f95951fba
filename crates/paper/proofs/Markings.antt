-- Laws of marking: the fragments one after another, then the whole paper.
use mathlib.Core.Bool.{Bool, true, false, ◌&&◌, not}
use mathlib.Core.List.{List, [], ◌∷◌, ◌++◌, map, append_assoc, append-nil}
use mathlib.Core.Path.{◌≡◌, refl, sym, ap, subst, ◌∙◌}
use Prim.Native.Nat.{ℕ, suc, ◌+◌, ◌*◌, ◌≤◌, ◌<◌, max}
use native.Mathlib.Omega.{arith}
use borrow.Author.Tests.{lt-ltb, le-ltb, leb-true, eq-eqb, ne_eqb, not-true, not-false}
use lib.Dec.{leb}
use lib.ListN.{length, take, drop, drop_of_length-le, length-append}
use lib.Seq.{drop-cons}
use Rattle.std.specs.Prelude.{Result, Ok, Err, IsOk}
use Rattle.definition.specs.Basics.{Bytes}
use Rattle.definition.specs.Papers.{Fragment, fragments, entries, entry_count, header_size, initialiser, bodies, good_parts, good_header, PaperMarked, refused_paper, after, mark_from, dispatch, mark_paper, EachTrue}
use Rattle.definition.specs.Papers as P
use Rattle.definition.specs.Refusals.{Refusal, bad_header, long_paper, dispatch_too_large}
use Rattle.definition.specs.Stacks.{Rules}
use Rattle.definition.specs.Walk.{dead, analysis}
use Rattle.definition.specs.Walk as W
use Rattle.definition.proofs.TrueOfPaper.{true_of_paper_by}
use Rattle.header.proofs.Fragments.{length-fragments-le}
use Rattle.header.specs.View.{dispatched, fragment_at}
use Rattle.header.specs.declared.DispatchError.{DispatchError}
use Rattle.refusals.proofs.OneForm.{refused-some}
use Rattle.stack_analysis.specs.View.{Told, told_of, heights_of}
use Rattle.stack_analysis.specs.declared.Accepted.{Accepted}
use Rattle.stack_analysis.specs.declared.Heights.{Heights}
use Rattle.stack_analysis.specs.declared.Rejected.{Rejected}
use Rattle.paper.specs.View.{PaperVerdict, fragment_analysis, paper_of, told_accepted, items_of, rows_of, Holds}
use Rattle.paper.specs.declared.Marked.{Marked}
use Rattle.paper.proofs.Few.{analysis-few}
use Rattle.paper.proofs.Fragments.{Marks}

-- The fragments one after another

-- m, with these in front of its accepted verdicts
abbrev behind : List W.Verdict → PaperMarked → PaperMarked
behind vs m = record { paper = m.paper; verdicts = vs ++ m.verdicts; log = m.log }

-- what is told of verdicts
abbrev all_told : List W.Verdict → List (Told Heights)
all_told vs = map (told_of heights_of) vs

told_more : (vs : List W.Verdict) (v : W.Verdict) → all_told (vs ++ (v ∷ [])) ≡ all_told vs ++ (told_of heights_of v ∷ [])
told_more [] v = refl
told_more (u ∷ vs) v = ap (λ (l : List (Told Heights)). told_of heights_of u ∷ l) (told_more vs v)

accepted_more : (l : List (Accepted Heights)) (a : Accepted Heights) → map told_accepted (l ++ (a ∷ [])) ≡ map told_accepted l ++ (told_accepted a ∷ [])
accepted_more [] a = refl
accepted_more (b ∷ l) a = ap (λ (x : List (Told Heights)). told_accepted b ∷ x) (accepted_more l a)

rows_more : (ts : List (Told Heights)) (t : Told Heights) → rows_of (ts ++ (t ∷ [])) ≡ rows_of ts + t.rows
rows_more [] t = omega arith
rows_more (u ∷ ts) t = omega (arith, rows_more ts t)

-- the fragments before k are accepted, with so many rows and this peak; the log stands so, and what is told of them is kept
pub record Marking (R : Rules) (p : Bytes) (lent : List ℕ) (k rows peak : ℕ) (log : List ℕ) (kept : List (Accepted Heights)) : Type 0 where
  pub verdicts : List W.Verdict
  pub same : mark_from R 0 0 0 (fragments p) lent ≡ behind verdicts (mark_from R k rows peak (drop k (fragments p)) log)
  pub holds : map told_accepted kept ≡ all_told verdicts
  pub sum : rows_of (map told_accepted kept) ≡ rows
  pub few : rows ≤ 10000 * k
  pub count : length kept ≡ k
  pub room : 3 * rows ≤ length log

abbrev out_of : ℕ → List ℕ → W.Marked → List ℕ
out_of rows log m = take (3 * rows) log ++ m.log

abbrev analysed : Rules → Fragment → ℕ → List ℕ → W.Marked
analysed R f rows log = analysis R f.bytes f.main f.alt (drop (3 * rows) log)

module _ (R : Rules) (k rows peak : ℕ) (f : Fragment) (fs : List Fragment) (log : List ℕ) where
  from-accepted : (analysed R f rows log).verdict.answer.number ≡ 0
      → mark_from R k rows peak (f ∷ fs) log
      ≡ after (analysed R f rows log).verdict
      (mark_from R (k + 1) (rows + (analysed R f rows log).verdict.rows) (max peak (analysed R f rows log).verdict.peak) fs (out_of rows log (analysed R f rows log)))
  unfolding mark_from
  from-accepted h = rw (eq-eqb (analysed R f rows log).verdict.answer.number 0 h)

  from-refused : ((analysed R f rows log).verdict.answer.number ≡ 0 → ⊥)
      → mark_from R k rows peak (f ∷ fs) log
      ≡ record {
        paper = record { entry = k; verdict = record { answer = (analysed R f rows log).verdict.answer; rows = rows + (analysed R f rows log).verdict.rows; peak = 0; end = dead } };
        verdicts = [];
        log = out_of rows log (analysed R f rows log);
      }
  unfolding mark_from
  from-refused h = rw (ne_eqb (analysed R f rows log).verdict.answer.number 0 h)

module _ (R : Rules) (p : Bytes) (lent : List ℕ) where
  pub marking-none : Marking R p lent 0 0 0 lent []
  marking-none = record { verdicts = []; same = refl; holds = refl; sum = refl; few = omega arith; count = refl; room = omega arith }

  module _ (k rows peak : ℕ) (log : List ℕ) (kept : List (Accepted Heights)) (i : Marking R p lent k rows peak log kept) where
    -- no fragment is left
    pub marking-end : length (fragments p) ≤ k → k ≤ 33 → (r : Marked) → r.verdict ≡ Ok (record { rows = rows; peak = peak }) → items_of r.accepted ≡ kept
        → Holds (mark_from R 0 0 0 (fragments p) lent) r log
    unfolding mark_from paper_of
    marking-end h l r v a =
        let e : mark_from R 0 0 0 (fragments p) lent ≡ behind i.verdicts (mark_from R k rows peak [] log) =
        i.same ∙ ap (λ fs. behind i.verdicts (mark_from R k rows peak fs log)) (drop_of_length-le (fragments p) h) in
        subst (λ (m : PaperMarked). Holds m r log) (sym e) (record {
          verdict = rw v;
          accepted = rw a (i.holds ∙ ap all_told (sym (append-nil i.verdicts)));
          logged = refl;
          among = rw a (omega (arith, i.sum));
          few = omega (arith, i.few);
          room = i.room;
        })

    module _ (more : k < length (fragments p)) where
      front : drop k (fragments p) ≡ fragment_at p k ∷ drop (k + 1) (fragments p)
      front =
          let e : suc k ≡ k + 1 = omega arith in
          drop-cons (fragments p) k _ more ∙ ap (λ n. fragment_at p k ∷ drop n (fragments p)) e

      -- the definition's verdict on fragment k
      abbrev its : W.Verdict
      its = (fragment_analysis R p k rows log).verdict

      rows_few : its.rows ≤ 10000
      rows_few = analysis-few R (fragment_at p k).bytes (fragment_at p k).main (fragment_at p k).alt (drop (3 * rows) log)

      -- it is accepted
      pub marking-more : (a : Accepted Heights) (new : List ℕ) → Marks (fragment_analysis R p k rows log) (3 * rows) log (Ok a) new → length new ≡ length log
          → (greater : ℕ) → greater ≡ max peak a.peak → Marking R p lent (k + 1) (rows + a.rows) greater new (kept ++ (a ∷ []))
      marking-more a new m l greater g =
          let q : its.rows ≡ a.rows = sym (ap (λ (t : Told Heights). t.rows) m.same) in
          let o : mark_from R k rows peak (drop k (fragments p)) log ≡ after its (mark_from R (k + 1) (rows + a.rows) greater (drop (k + 1) (fragments p)) new) =
          ap (λ fs. mark_from R k rows peak fs log) front
          ∙ from-accepted R k rows peak (fragment_at p k) (drop (k + 1) (fragments p)) log (sym (ap (λ (t : Told Heights). t.answer.number) m.same))
          ∙ rw (g, m.logged, ← q, ap (λ (t : Told Heights). t.peak) m.same) in
          record {
            verdicts = i.verdicts ++ (its ∷ []);
            same = i.same ∙ ap (behind i.verdicts) o
                ∙ ap (λ (vs : List W.Verdict). record {
                  paper = (mark_from R (k + 1) (rows + a.rows) greater (drop (k + 1) (fragments p)) new).paper;
                  verdicts = vs;
                  log = (mark_from R (k + 1) (rows + a.rows) greater (drop (k + 1) (fragments p)) new).log;
                }) (sym (append_assoc i.verdicts (its ∷ []) (mark_from R (k + 1) (rows + a.rows) greater (drop (k + 1) (fragments p)) new).verdicts));
            holds = accepted_more kept a ∙ rw (i.holds, m.same) (sym (told_more i.verdicts its));
            sum = ap rows_of (accepted_more kept a) ∙ rows_more (map told_accepted kept) (told_accepted a) ∙ omega (arith, i.sum);
            few = omega (arith, i.few, rows_few, q);
            count = length-append kept (a ∷ []) ∙ omega (arith, i.count);
            room = omega (arith, m.room, l);
          }

      -- it is refused
      pub marking-stops : (x : Rejected) (new : List ℕ) → Marks (fragment_analysis R p k rows log) (3 * rows) log (Err x) new → length new ≡ length log → k < 33
          → (r : Marked) → r.verdict ≡ Err (record { entry = k; rows = rows + x.rows; refused = x.refused }) → items_of r.accepted ≡ kept
          → Holds (mark_from R 0 0 0 (fragments p) lent) r new
      unfolding paper_of
      marking-stops x new m l less r v a =
          let q : its.rows ≡ x.rows = sym (ap (λ (t : Told Heights). t.rows) m.same) in
          let e : mark_from R 0 0 0 (fragments p) lent ≡ record {
            paper = record { entry = k; verdict = record { answer = its.answer; rows = rows + its.rows; peak = 0; end = dead } };
            verdicts = i.verdicts ++ [];
            log = out_of rows log (fragment_analysis R p k rows log);
          } =
          i.same ∙ ap (λ fs. behind i.verdicts (mark_from R k rows peak fs log)) front
          ∙ ap (behind i.verdicts) (from-refused R k rows peak (fragment_at p k) (drop (k + 1) (fragments p)) log
          (λ z. refused-some x.refused (ap (λ (t : Told Heights). t.answer.number) m.same ∙ z))) in
          subst (λ (d : PaperMarked). Holds d r new) (sym e) (record {
            verdict = rw (v, ap (λ (t : Told Heights). t.answer) m.same, q);
            accepted = rw a (i.holds ∙ ap all_told (sym (append-nil i.verdicts)));
            logged = m.logged;
            among = rw a (omega (arith, i.sum));
            few = omega (arith, i.few, rows_few);
            room = omega (arith, m.room, l, q);
          })

-- The whole paper

-- a refusal of the paper itself
pub holds-refused : (entry : ℕ) (f : Refusal) (r : Marked) → paper_of r.verdict ≡ (refused_paper entry f []).paper → items_of r.accepted ≡ []
    → (lent : List ℕ) → Holds (refused_paper entry f lent) r lent
holds-refused entry f r v a lent = record { verdict = v; accepted = rw a; logged = refl; among = rw a (omega arith); few = omega arith; room = omega arith }

third : (a b c d : Bool) → (a && (b && (c && d))) ≡ true → c ≡ true
third true true true d e = refl
third true true false d e = e
third true false c d e = cc
third false b c d e = cc

few-entries : (p : Bytes) → good_header p ≡ true → entry_count p ≤ 32
unfolding good_header
few-entries p h =
    leb-true (entry_count p) 32
    (third (leb 8 (length p)) (leb 1 (entry_count p)) (leb (entry_count p) 32)
    (leb (header_size p) (length p) && good_parts (header_size p) (length p) (initialiser p ∷ bodies (entries p))) h)

pub few-fragments : (p : Bytes) (t : Bool) → t ≡ good_header p → not t ≡ false → length (fragments p) ≤ 33
few-fragments p t g h = omega (arith, few-entries p (sym g ∙ not-false t h), length-fragments-le p)

module _ (R : Rules) (p : Bytes) (lent : List ℕ) (r : Marked) where
  pub paper-long : 8000 < length p → Holds (refused_paper 0 (long_paper (length p)) lent) r lent → Holds (mark_paper R p lent) r lent
  unfolding mark_paper
  paper-long h q = rw (lt-ltb 8000 (length p) h) q

  module _ (short : length p ≤ 8000) (t : Bool) (g : t ≡ good_header p) where
    pub paper-bad : not t ≡ true → Holds (refused_paper 0 bad_header lent) r lent → Holds (mark_paper R p lent) r lent
    unfolding mark_paper
    paper-bad h q = rw (le-ltb 8000 (length p) short, ← g, not-true t h) q

    module _ (h : not t ≡ false) (limit : ℕ) (l : limit ≡ R.limit) (d : Result (Unit {0}) DispatchError)
        (f : (Q : Rules) (l : List ℕ) → Q.limit ≡ limit → dispatch Q p 0 (entries p) l ≡ dispatched Q p d l) where
      checked : mark_paper R p lent ≡ dispatched R p d lent
      unfolding mark_paper
      checked = rw (le-ltb 8000 (length p) short, ← g, not-false t h) (f R lent (sym l))

      pub paper-over : (x : DispatchError) → d ≡ Err x → Holds (refused_paper x.entry (dispatch_too_large x.sum limit) lent) r lent → Holds (mark_paper R p lent) r lent
      paper-over x e q =
          subst (λ (m : PaperMarked). Holds m r lent)
          (sym (checked ∙ ap (λ (y : Result (Unit {0}) DispatchError). dispatched R p y lent) e ∙ ap (λ n. refused_paper x.entry (dispatch_too_large x.sum n) lent) (sym l))) q

      pub paper-marked : d ≡ Ok tt → {log : List ℕ} → Holds (mark_from R 0 0 0 (fragments p) lent) r log → Holds (mark_paper R p lent) r log
      paper-marked e {log} w =
          subst (λ (m : PaperMarked). Holds m r log) (sym (checked ∙ ap (λ (y : Result (Unit {0}) DispatchError). dispatched R p y lent) e)) w

-- what acceptance means
pub accepted-number : (v : PaperVerdict) → IsOk v → (paper_of v).verdict.answer.number ≡ 0
unfolding paper_of
accepted-number (Ok a) h = refl
accepted-number (Err x) h = cc

pub paper-replays : (R : Rules) → R.limit ≤ 244 → (p : Bytes) (log : List ℕ) (v : PaperVerdict) (new : List ℕ) → paper_of v ≡ (mark_paper R p log).paper
    → new ≡ (mark_paper R p log).log → IsOk v → EachTrue R 0 (fragments p) (mark_paper R p log).verdicts new
paper-replays R low p log v new e l h =
    subst (λ x. EachTrue R 0 (fragments p) (mark_paper R p log).verdicts x) (sym l)
    (true_of_paper_by R (omega (arith, low)) p log (sym (ap (λ (u : P.PaperVerdict). u.verdict.answer.number) e) ∙ accepted-number v h))
