-- The law over rules of papers, and with it whole: `allowed_follows`, for requests L6, L7 and L8. What some rules accept, rules that
-- allow as much answer with the same verdict and the same log.
use mathlib.Core.Bool.{Bool, true, false}
use mathlib.Core.List.{List, [], ◌∷◌, ◌++◌}
use mathlib.Core.Logic.{◌⊎◌, inl, inr, ⊎_elim}
use mathlib.Core.Path.{◌≡◌, refl, sym, ap, subst}
use Prim.Native.Nat.{ℕ, zero, suc, ◌+◌, ◌*◌, ◌≤◌, ◌<◌, max}
use native.Mathlib.Omega.{arith}
use borrow.Author.Tests.{leb-true, ltb-true, ltb-false, eqb-true, eqb-false}
use lib.Dec.{leb, ltb, eqb}
use lib.ListN.{length, take, drop}
use Rattle.definition.specs.Basics.{Bytes, pick}
use Rattle.definition.specs.Refusals.{max_paper, long_paper, bad_header, dispatch_too_large}
use Rattle.definition.specs.Stacks.{Rules}
use Rattle.definition.specs.Walk.{dead, Verdict, Marked, analysis}
use Rattle.definition.specs.Papers.{Entry, entries_at, entry_count, state_fields, initialiser, entries, good_header, Fragment, bytes_of, body_fragments, most_parameters, state_fragments, fragments, PaperMarked, refused_paper, after, mark_from, dispatch, mark_paper}
use Rattle.definition_rules.specs.Allows.{Allows, Follows}
use Rattle.definition.proofs.Sound.{and-true}
use Rattle.definition_rules.proofs.Allowed.{Covers, AllModest, Short, AnalysisFits, analysis-fits}

-- The fragments one after another

-- each of these starts within the limit
abbrev pub StartsWithin : ℕ → List Fragment → Type 0
StartsWithin m [] = Unit {0}
StartsWithin m (f ∷ fs) = (f.main + f.alt ≤ m) × (StartsWithin m fs)

-- Marking fragments that is short of room at the limit m, which is below l: 6 where each starts within it. With modest copies,
-- the peak is above m.
pub record ShortFrom (l m : ℕ) (P Starts : Type 0) (peak : ℕ) (n : PaperMarked) : Type 0 where
  pub number : Starts → n.paper.verdict.answer.number ≡ 6
  pub lower : m < l
  pub over_peak : P → m < peak

-- an accepted paper has no lower peak than its fragments so far
module _ (R : Rules) where
  abbrev Grows : ℕ → PaperMarked → Type 0
  Grows peak m = m.paper.verdict.answer.number ≡ 0 → peak ≤ m.paper.verdict.peak

  from-grows : (k rows peak : ℕ) (fs : List Fragment) (log : List ℕ) → Grows peak (mark_from R k rows peak fs log)
  unfolding mark_from
  from-grows k rows peak [] log h = omega arith
  from-grows k rows peak (f ∷ fs) log h = by _ (λ rows p log. from-grows (k + 1) rows p fs log) (eqb v.answer.number 0) refl h
    where
      v : Verdict
      v = (analysis R f.bytes f.main f.alt (drop (3 * rows) log)).verdict

      by : (out : List ℕ) → ((rows p : ℕ) (log : List ℕ) → Grows p (mark_from R (k + 1) rows p fs log)) → (b : Bool) → eqb v.answer.number 0 ≡ b
          → Grows peak (pick b (after v (mark_from R (k + 1) (rows + v.rows) (max peak v.peak) fs out))
          (record {
            paper = record { entry = k; verdict = record { answer = v.answer; rows = rows + v.rows; peak = 0; end = dead } };
            verdicts = [];
            log = out;
          }))
      by out onward true e h = let g = onward (rows + v.rows) (max peak v.peak) out h in omega (arith, g)
      by out onward false e h = absurd (eqb-false v.answer.number 0 e h)

-- on from the answer for fragment k by these rules, as `mark_from` goes
module _ (k rows peak : ℕ) (fs : List Fragment) (log : List ℕ) where
  unfoldable pub next : Rules → Marked → Bool → PaperMarked
  next T a b =
      pick b (after a.verdict (mark_from T (k + 1) (rows + a.verdict.rows) (max peak a.verdict.peak) fs (take (3 * rows) log ++ a.log)))
      (record {
        paper = record { entry = k; verdict = record { answer = a.verdict.answer; rows = rows + a.verdict.rows; peak = 0; end = dead } };
        verdicts = [];
        log = take (3 * rows) log ++ a.log;
      })

module _ (R S : Rules) (covers : Covers R S) where
  abbrev FromFits : Type 0 → PaperMarked → PaperMarked → Type 0
  FromFits Starts m n =
      m.paper.verdict.answer.number ≡ 0
      → (n ≡ m) ⊎ (ShortFrom R.limit S.limit (AllModest R) Starts m.paper.verdict.peak n)

  module _ (k rows peak : ℕ) (fs : List Fragment) (log : List ℕ) where
    module _ (start : ℕ) (Starts : Type 0) (m n : Marked) (fits : AnalysisFits R S covers start m n)
        (onward : (rows p : ℕ) (log : List ℕ) → FromFits Starts (mark_from R (k + 1) rows p fs log) (mark_from S (k + 1) rows p fs log)) where
      abbrev NextFits : PaperMarked → Type 0
      NextFits q = (q ≡ next k rows peak fs log R m true) ⊎ (ShortFrom R.limit S.limit (AllModest R) ((start ≤ S.limit) × Starts) (next k rows peak fs log R m true).paper.verdict.peak q)

      -- the same answer
      same_next : (next k rows peak fs log R m true).paper.verdict.answer.number ≡ 0 → NextFits (next k rows peak fs log S m true)
      unfolding next
      same_next h =
          ⊎_elim (λ g. inl (ap (after m.verdict) g)) (λ s. inr (record { number = λ q. s.number q.1; lower = s.lower; over_peak = s.over_peak }))
          (onward (rows + m.verdict.rows) (max peak m.verdict.peak) (take (3 * rows) log ++ m.log) h)

      -- a fragment that is short of room
      short-next : (next k rows peak fs log R m true).paper.verdict.answer.number ≡ 0 → Short R.limit S.limit (AllModest R) start m.verdict.peak n
          → (c : Bool) → eqb n.verdict.answer.number 0 ≡ c → NextFits (next k rows peak fs log S n c)
      unfolding next
      short-next h s true e =
          let z = eqb-true n.verdict.answer.number 0 e in
          absurd (⊎_elim (λ q. omega (arith, z, q.1)) (λ q. omega (arith, z, q.1)) s.number)
      short-next h s false e =
          let g = from-grows R (k + 1) (rows + m.verdict.rows) (max peak m.verdict.peak) fs (take (3 * rows) log ++ m.log) h in
          inr (record {
            number = λ q. ⊎_elim (λ w. absurd (omega (arith, w.0, q.0))) (λ w. w.1) s.number;
            lower = s.lower;
            over_peak = λ p. omega (arith, g, s.over_peak p);
          })

      refused-next : eqb m.verdict.answer.number 0 ≡ false → (next k rows peak fs log R m false).paper.verdict.answer.number ≡ 0 → ⊥
      unfolding next
      refused-next e h = eqb-false m.verdict.answer.number 0 e h

      next_fits : (b : Bool) → eqb m.verdict.answer.number 0 ≡ b
          → FromFits ((start ≤ S.limit) × Starts) (next k rows peak fs log R m b) (next k rows peak fs log S n (eqb n.verdict.answer.number 0))
      next_fits true e h =
          ⊎_elim (λ g. subst (λ a. NextFits (next k rows peak fs log S a (eqb a.verdict.answer.number 0))) (sym g) (subst (λ b. NextFits (next k rows peak fs log S m b)) (sym e) (same_next h)))
          (λ s. short-next h s (eqb n.verdict.answer.number 0) refl) (fits (eqb-true m.verdict.answer.number 0 e))
      next_fits false e h = absurd (refused-next e h)

  from-fits : (k rows peak : ℕ) (fs : List Fragment) (log : List ℕ)
      → FromFits (StartsWithin S.limit fs) (mark_from R k rows peak fs log) (mark_from S k rows peak fs log)
  unfolding mark_from next
  from-fits k rows peak [] log h = inl refl
  from-fits k rows peak (f ∷ fs) log h =
      next_fits k rows peak fs log (f.main + f.alt) (StartsWithin S.limit fs)
      (analysis R f.bytes f.main f.alt (drop (3 * rows) log)) (analysis S f.bytes f.main f.alt (drop (3 * rows) log))
      (analysis-fits R S covers f.bytes f.main f.alt (drop (3 * rows) log))
      (λ rows p log. from-fits (k + 1) rows p fs log)
      (eqb (analysis R f.bytes f.main f.alt (drop (3 * rows) log)).verdict.answer.number 0) refl h

-- The dispatch check

-- each sum "parameters + F + 3" is within the limit
abbrev pub SumsWithin : ℕ → Bytes → List Entry → Type 0
SumsWithin m paper [] = Unit {0}
SumsWithin m paper (e ∷ es) = (e.parameters + state_fields paper + 3 ≤ m) × (SumsWithin m paper es)

-- short of room at the limit m from the check of these entries on: 20, or 6 where each fragment starts within it
pub record ShortDispatch (l m : ℕ) (P Starts : Type 0) (paper : Bytes) (es : List Entry) (peak : ℕ) (n : PaperMarked) : Type 0 where
  pub number : (n.paper.verdict.answer.number ≡ 20) ⊎ ((SumsWithin m paper es) × (Starts → n.paper.verdict.answer.number ≡ 6))
  pub lower : m < l
  pub over_peak : P → SumsWithin m paper es → m < peak

module _ (R S : Rules) (covers : Covers R S) (paper : Bytes) (log : List ℕ) where
  abbrev DispatchFits : List Entry → PaperMarked → PaperMarked → Type 0
  DispatchFits es m n =
      m.paper.verdict.answer.number ≡ 0
      → (n ≡ m) ⊎ (ShortDispatch R.limit S.limit (AllModest R) (StartsWithin S.limit (fragments paper)) paper es m.paper.verdict.peak n)

  dispatch-fits : (k : ℕ) (es : List Entry) → DispatchFits es (dispatch R paper k es log) (dispatch S paper k es log)
  unfolding dispatch
  dispatch-fits k [] h =
      ⊎_elim inl (λ s. inr (record { number = inr (tt, s.number); lower = s.lower; over_peak = λ p q. s.over_peak p }))
      (from-fits R S covers 0 0 0 (fragments paper) log h)
  dispatch-fits k (e ∷ es) h = by (dispatch-fits (k + 1) es) (ltb R.limit sum) (ltb S.limit sum) refl refl h
    where
      sum : ℕ
      sum = e.parameters + state_fields paper + 3

      by : DispatchFits es (dispatch R paper (k + 1) es log) (dispatch S paper (k + 1) es log) → (b c : Bool) → ltb R.limit sum ≡ b → ltb S.limit sum ≡ c
          → DispatchFits (e ∷ es)
          (pick b (refused_paper k (dispatch_too_large sum R.limit) log) (dispatch R paper (k + 1) es log))
          (pick c (refused_paper k (dispatch_too_large sum S.limit) log) (dispatch S paper (k + 1) es log))
      by onward true c f g h = absurd (omega (arith, h))
      by onward false true f g h =
          let over = ltb-true S.limit sum g in
          inr (record { number = inl refl; lower = omega (arith, over, ltb-false R.limit sum f); over_peak = λ p q. absurd (omega (arith, over, q.0)) })
      by onward false false f g h =
          ⊎_elim inl
          (λ s. inr (record {
            number = ⊎_elim inl (λ q. inr ((ltb-false S.limit sum g, q.0), q.1)) s.number;
            lower = s.lower;
            over_peak = λ p q. s.over_peak p q.1;
          }))
          (onward h)

-- where every sum is within the limit, so is every start
module _ (m : ℕ) (paper : Bytes) where
  body-starts : (es : List Entry) → SumsWithin m paper es → StartsWithin m (body_fragments paper es)
  body-starts [] h = tt
  body-starts (e ∷ es) h = (omega (arith, h.0), body-starts es h.1)

  most-starts : (es : List Entry) → 1 ≤ length es → SumsWithin m paper es → most_parameters es + 3 ≤ m
  most-starts [] l h = absurd (omega arith)
  most-starts (e ∷ []) l h = omega (arith, h.0)
  most-starts (e ∷ d ∷ es) l h = omega (arith, h.0, most-starts (d ∷ es) (omega arith) h.1)

  append-starts : (fs gs : List Fragment) → StartsWithin m fs → StartsWithin m gs → StartsWithin m (fs ++ gs)
  append-starts [] gs f g = g
  append-starts (x ∷ fs) gs f g = (f.0, append-starts fs gs f.1 g)

  entries-length : (offset n : ℕ) → length (entries_at paper offset n) ≡ n
  entries-length offset zero = refl
  entries-length offset (suc n) = ap suc (entries-length (offset + 6) n)

  all_start : 1 ≤ entry_count paper → SumsWithin m paper (entries paper) → StartsWithin m (fragments paper)
  unfolding fragments
  all_start l h = append-starts (body_fragments paper (entries paper)) (state_fragments paper) (body-starts (entries paper) h) (state (eqb (initialiser paper).size 0))
    where
      most : most_parameters (entries paper) + 1 ≤ m
      most = omega (arith, most-starts (entries paper) (omega (arith, l, entries-length 8 (entry_count paper))) h)

      state : (b : Bool) → StartsWithin m (pick b [] (record { bytes = bytes_of paper (initialiser paper); main = most_parameters (entries paper); alt = 1 } ∷ []))
      state true = tt
      state false = (most, tt)

some-entry : (paper : Bytes) → good_header paper ≡ true → 1 ≤ entry_count paper
unfolding good_header
some-entry paper h =
    leb-true 1 (entry_count paper) (and-true (leb 1 (entry_count paper)) _ (and-true (leb 8 (length paper)) _ h).1).0

-- The paper

-- short of room at the limit m: 20 or 6. With modest copies and every sum within m, the peak is above m.
pub record ShortPaper (l m : ℕ) (P : Type 0) (paper : Bytes) (peak : ℕ) (n : PaperMarked) : Type 0 where
  pub number : (n.paper.verdict.answer.number ≡ 20) ⊎ (n.paper.verdict.answer.number ≡ 6)
  pub lower : m < l
  pub over_peak : P → SumsWithin m paper (entries paper) → m < peak

module _ (R S : Rules) (covers : Covers R S) (paper : Bytes) (log : List ℕ) where
  abbrev pub PaperFits : PaperMarked → PaperMarked → Type 0
  PaperFits m n =
      m.paper.verdict.answer.number ≡ 0 → (n ≡ m) ⊎ (ShortPaper R.limit S.limit (AllModest R) paper m.paper.verdict.peak n)

  pub paper-fits : PaperFits (mark_paper R paper log) (mark_paper S paper log)
  unfolding mark_paper
  paper-fits = long (ltb max_paper (length paper))
    where
      header : (b : Bool) → good_header paper ≡ b
          → PaperFits (pick b (dispatch R paper 0 (entries paper) log) (refused_paper 0 bad_header log)) (pick b (dispatch S paper 0 (entries paper) log) (refused_paper 0 bad_header log))
      header true e h =
          ⊎_elim inl
          (λ s. inr (record {
            number = ⊎_elim inl (λ q. inr (q.1 (all_start S.limit paper (some-entry paper e) q.0))) s.number;
            lower = s.lower;
            over_peak = s.over_peak;
          }))
          (dispatch-fits R S covers paper log 0 (entries paper) h)
      header false e h = absurd (omega (arith, h))

      long : (b : Bool) → PaperFits
          (pick b (refused_paper 0 (long_paper (length paper)) log) (pick (good_header paper) (dispatch R paper 0 (entries paper) log) (refused_paper 0 bad_header log)))
          (pick b (refused_paper 0 (long_paper (length paper)) log) (pick (good_header paper) (dispatch S paper 0 (entries paper) log) (refused_paper 0 bad_header log)))
      long true h = absurd (omega (arith, h))
      long false h = header (good_header paper) refl h

-- The law: rules S that allow all that R does answer what R accepts with the same verdict and the same log.
pub allowed_follows : (R S : Rules) → Allows R S → Follows R S
allowed_follows R S a = record {
  fragments = λ fragment main alt log h.
      ⊎_elim (λ e. e) (λ s. absurd (omega (arith, s.lower, a.limit))) (analysis-fits R S (record { class_for = a.class_for; examined = a.examined }) fragment main alt log h);
  papers = λ paper log h. ⊎_elim (λ e. e) (λ s. absurd (omega (arith, s.lower, a.limit))) (paper-fits R S (record { class_for = a.class_for; examined = a.examined }) paper log h);
}
