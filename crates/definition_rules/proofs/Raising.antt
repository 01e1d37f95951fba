-- Request L6, "Raising the limit under one map never turns acceptance into refusal, and peak, log and end stay equal":
-- `raising_the_limit`. Stronger: what is accepted at some limit is, at each limit from 1 to 244, accepted exactly where the peak is
-- within it (`accepted_exactly`), a paper exactly where its peak and every dispatch sum are (`paper_accepted_exactly`).
use mathlib.Core.Bool.{Bool, true, false}
use mathlib.Core.List.{List, [], ◌∷◌}
use mathlib.Core.Logic.{◌⊎◌, inl, inr, ⊎_elim, ◌↔◌}
use mathlib.Core.Path.{◌≡◌, refl, sym, ◌∙◌}
use Prim.Native.Nat.{ℕ, zero, suc, ◌+◌, ◌*◌, ◌≤◌, ◌<◌, max}
use native.Mathlib.Omega.{arith}
use borrow.Author.Tests.{le-leb, ltb-false, eqb-true, eqb-false}
use lib.Dec.{ltb, eqb}
use lib.ListN.{length, drop, get_or}
use Rattle.definition.specs.Basics.{Bytes, pick}
use Rattle.definition.specs.Classes.{Class, ordinary, unmodelled, classes}
use Rattle.definition.specs.Refusals.{max_paper, long_paper, bad_header, dispatch_too_large}
use Rattle.definition.specs.Stacks.{Rules}
use Rattle.definition.specs.Walk.{dead, Verdict, Marked, analysis}
use Rattle.definition.specs.Papers.{Entry, state_fields, entries, good_header, Fragment, fragments, PaperMarked, refused_paper, after, mark_from, dispatch, mark_paper}
use Rattle.definition_rules.specs.Allows.{keeps, Follows}
use Rattle.definition_rules.specs.Maps.{Options, good_limit, rows_of, rules_of, analysis_with, mark_paper_with, Raised, Raises}
use Rattle.definition.proofs.TrueOfEveryReplay.{true_of_analysis}
use Rattle.definition_rules.proofs.UnderEveryMap.{limit-within, accepted_is_good, analysis-good, accepted_paper_is_good, paper-good}
use Rattle.definition_rules.proofs.Allowed.{Modest, Examines, Covers, AllModest, Short, analysis-fits}
use Rattle.definition_rules.proofs.AllowedPapers.{SumsWithin, ShortPaper, paper-fits, allowed_follows}

limit-good : (limit : ℕ) → 1 ≤ limit → limit ≤ 244 → good_limit limit ≡ true
limit-good limit l m = rw (le-leb 1 limit l, le-leb limit 244 m)

-- the classes of a map do not go by the limit, nor by the mode
same_map : (map : Bytes) (from to : Options) → Examines (rules_of map from) (rules_of map to) → Covers (rules_of map from) (rules_of map to)
same_map map from to m = record { class_for = λ code. keeps _; examined = m }

-- "Raising the limit under one map never turns acceptance into refusal, and peak, log and end stay equal"
pub raising_the_limit : (map : Bytes) → Raises map
raising_the_limit map = record {
  fragments = λ from to r fragment main alt log h.
      let b = accepted_is_good map from fragment main alt log h in
      let here = analysis-good map from fragment main alt log b.0 b.1 in
      let there = analysis-good map to fragment main alt log b.0 (limit-good to.limit (omega (arith, r.limit, (limit-within from.limit b.1).0)) r.most) in
      there ∙ (law from to r).fragments fragment main alt log (rw here at h) ∙ sym here;
  papers = λ from to r paper log h.
      let b = accepted_paper_is_good map from paper log h in
      let here = paper-good map from paper log b.0 b.1 in
      let there = paper-good map to paper log b.0 (limit-good to.limit (omega (arith, r.limit, (limit-within from.limit b.1).0)) r.most) in
      there ∙ (law from to r).papers paper log (rw here at h) ∙ sym here;
}
  where
    law : (from to : Options) → Raised from to → Follows (rules_of map from) (rules_of map to)
    law from to r = allowed_follows (rules_of map from) (rules_of map to) (record { class_for = λ code. keeps _; limit = r.limit; examined = r.mode })

-- The stronger form

-- every copy of Section 2 is of no more items than it looks at
abbrev EachModest : List Class → Type 0
EachModest [] = Unit {0}
EachModest (c ∷ l) = (Modest c) × (EachModest l)

listed-modest : EachModest classes
listed-modest = (tt, (tt, (tt, (tt, (tt, (tt, (tt, (tt, (tt, (tt, (tt, (tt, (tt, (tt, (tt, (tt, (tt, (omega arith, (omega arith, (omega arith, (omega arith, (omega arith, (tt, (tt, (tt, (tt, (tt, (tt, (tt, (tt, (tt, (tt, tt))))))))))))))))))))))))))))))))

modest-at : (l : List Class) → EachModest l → (n : ℕ) → Modest (get_or l n (ordinary unmodelled))
modest-at [] h n = tt
modest-at (c ∷ l) h zero = h.0
modest-at (c ∷ l) h (suc n) = modest-at l h.1 n

map-modest : (map : Bytes) (options : Options) → AllModest (rules_of map options)
map-modest map options code = modest-at classes listed-modest (get_or (rows_of map) code 0)

-- what is accepted has a peak within the limit: some replay comes to the peak, and none holds more than the limit
module _ (R : Rules) (small : R.limit < 65535) where
  peak-within : (fragment : Bytes) (main alt : ℕ) (log : List ℕ) → (analysis R fragment main alt log).verdict.answer.number ≡ 0
      → (analysis R fragment main alt log).verdict.peak ≤ R.limit
  peak-within fragment main alt log h =
      let d = true_of_analysis R small fragment main alt log h in
      let r = d.peak_reached in
      d.within_limit r.0 r.1 _ r.2

  abbrev PeakWithin : PaperMarked → Type 0
  PeakWithin m = m.paper.verdict.answer.number ≡ 0 → m.paper.verdict.peak ≤ R.limit

  from-within : (k rows peak : ℕ) (fs : List Fragment) (log : List ℕ) → peak ≤ R.limit → PeakWithin (mark_from R k rows peak fs log)
  unfolding mark_from
  from-within k rows peak [] log p h = p
  from-within k rows peak (f ∷ fs) log p h = by _ (λ rows q log l. from-within (k + 1) rows q fs log l) (eqb v.answer.number 0) refl h
    where
      v : Verdict
      v = (analysis R f.bytes f.main f.alt (drop (3 * rows) log)).verdict

      by : (out : List ℕ) → ((rows q : ℕ) (log : List ℕ) → q ≤ R.limit → PeakWithin (mark_from R (k + 1) rows q fs log)) → (b : Bool) → eqb v.answer.number 0 ≡ b
          → PeakWithin (pick b (after v (mark_from R (k + 1) (rows + v.rows) (max peak v.peak) fs out))
          (record {
            paper = record { entry = k; verdict = record { answer = v.answer; rows = rows + v.rows; peak = 0; end = dead } };
            verdicts = [];
            log = out;
          }))
      by out onward true e h =
          let q = peak-within f.bytes f.main f.alt (drop (3 * rows) log) (eqb-true v.answer.number 0 e) in
          onward (rows + v.rows) (max peak v.peak) out (omega (arith, p, q)) h
      by out onward false e h = absurd (eqb-false v.answer.number 0 e h)

  -- and an accepted paper has every dispatch sum within it
  module _ (paper : Bytes) (log : List ℕ) where
    abbrev AllWithin : List Entry → PaperMarked → Type 0
    AllWithin es m = m.paper.verdict.answer.number ≡ 0 → (m.paper.verdict.peak ≤ R.limit) × (SumsWithin R.limit paper es)

    dispatch-within : (k : ℕ) (es : List Entry) → AllWithin es (dispatch R paper k es log)
    unfolding dispatch
    dispatch-within k [] h = (from-within 0 0 0 (fragments paper) log (omega arith) h, tt)
    dispatch-within k (e ∷ es) h = by (dispatch-within (k + 1) es) (ltb R.limit sum) refl h
      where
        sum : ℕ
        sum = e.parameters + state_fields paper + 3

        by : AllWithin es (dispatch R paper (k + 1) es log) → (b : Bool) → ltb R.limit sum ≡ b
            → AllWithin (e ∷ es) (pick b (refused_paper k (dispatch_too_large sum R.limit) log) (dispatch R paper (k + 1) es log))
        by onward true f h = absurd (omega (arith, h))
        by onward false f h = let q = onward h in (q.0, (ltb-false R.limit sum f, q.1))

    paper-within : AllWithin (entries paper) (mark_paper R paper log)
    unfolding mark_paper
    paper-within = long (ltb max_paper (length paper))
      where
        header : (b : Bool) → AllWithin (entries paper) (pick b (dispatch R paper 0 (entries paper) log) (refused_paper 0 bad_header log))
        header true h = dispatch-within 0 (entries paper) h
        header false h = absurd (omega (arith, h))

        long : (b : Bool) → AllWithin (entries paper)
            (pick b (refused_paper 0 (long_paper (length paper)) log) (pick (good_header paper) (dispatch R paper 0 (entries paper) log) (refused_paper 0 bad_header log)))
        long true h = absurd (omega (arith, h))
        long false h = header (good_header paper) h

-- accepted exactly when the limit is at least the peak, and otherwise 2 or 6
pub record ExactlyAt (limit peak : ℕ) (m : Marked) : Type 0 where
  pub exactly : (m.verdict.answer.number ≡ 0) ↔ (peak ≤ limit)
  pub otherwise : (limit < peak) → (m.verdict.answer.number ≡ 2) ⊎ (m.verdict.answer.number ≡ 6)

-- accepted exactly when the limit is at least the peak and every dispatch sum, and otherwise 20 or 6
pub record PaperExactlyAt (limit peak : ℕ) (paper : Bytes) (m : PaperMarked) : Type 0 where
  pub exactly : (m.paper.verdict.answer.number ≡ 0) ↔ ((peak ≤ limit) × (SumsWithin limit paper (entries paper)))
  pub otherwise : ((peak ≤ limit) × (SumsWithin limit paper (entries paper)) → ⊥)
      → (m.paper.verdict.answer.number ≡ 20) ⊎ (m.paper.verdict.answer.number ≡ 6)

module _ (map : Bytes) (from to : Options) (least : 1 ≤ to.limit) (most : to.limit ≤ 244) (mode : to.examined ≡ true → from.examined ≡ true) where
  abbrev R : Rules
  R = rules_of map from

  abbrev S : Rules
  S = rules_of map to

  -- A fragment accepted at some limit is, at each limit from 1 to 244, accepted exactly where its peak is within it, and otherwise
  -- 2 or 6.
  pub accepted_exactly : (fragment : Bytes) (main alt : ℕ) (log : List ℕ) → (analysis_with map from fragment main alt log).verdict.answer.number ≡ 0
      → ExactlyAt to.limit (analysis_with map from fragment main alt log).verdict.peak (analysis_with map to fragment main alt log)
  accepted_exactly fragment main alt log h =
      let b = accepted_is_good map from fragment main alt log h in
      let here = analysis-good map from fragment main alt log b.0 b.1 in
      let there = analysis-good map to fragment main alt log b.0 (limit-good to.limit least most) in
      rw (here, there) (both (rw here at h))
    where
      both : (analysis R fragment main alt log).verdict.answer.number ≡ 0 → ExactlyAt to.limit (analysis R fragment main alt log).verdict.peak (analysis S fragment main alt log)
      both h = ⊎_elim same short (analysis-fits R S (same_map map from to mode) fragment main alt log h)
        where
          same : analysis S fragment main alt log ≡ analysis R fragment main alt log → ExactlyAt to.limit (analysis R fragment main alt log).verdict.peak (analysis S fragment main alt log)
          same e =
              let z : (analysis S fragment main alt log).verdict.answer.number ≡ 0 = rw e h in
              let q = peak-within S (omega (arith, most)) fragment main alt log z in
              let p : (analysis R fragment main alt log).verdict.peak ≤ to.limit = rw e at q in
              record { exactly = ((λ y. p), (λ y. z)); otherwise = λ over. absurd (omega (arith, over, p)) }

          short : Short from.limit to.limit (AllModest R) (main + alt) (analysis R fragment main alt log).verdict.peak (analysis S fragment main alt log)
              → ExactlyAt to.limit (analysis R fragment main alt log).verdict.peak (analysis S fragment main alt log)
          short s =
              let over = s.over_peak (map-modest map from) in
              record {
                exactly = ((λ z. absurd (⊎_elim (λ q. omega (arith, z, q.1)) (λ q. omega (arith, z, q.1)) s.number)), (λ p. absurd (omega (arith, over, p))));
                otherwise = λ u. ⊎_elim (λ q. inl q.1) (λ q. inr q.1) s.number;
              }

  -- A paper accepted at some limit is accepted exactly where its peak and every dispatch sum are within the limit, and otherwise
  -- 20 or 6.
  pub paper_accepted_exactly : (paper : Bytes) (log : List ℕ) → (mark_paper_with map from paper log).paper.verdict.answer.number ≡ 0
      → PaperExactlyAt to.limit (mark_paper_with map from paper log).paper.verdict.peak paper (mark_paper_with map to paper log)
  paper_accepted_exactly paper log h =
      let b = accepted_paper_is_good map from paper log h in
      let here = paper-good map from paper log b.0 b.1 in
      let there = paper-good map to paper log b.0 (limit-good to.limit least most) in
      rw (here, there) (both (rw here at h))
    where
      both : (mark_paper R paper log).paper.verdict.answer.number ≡ 0 → PaperExactlyAt to.limit (mark_paper R paper log).paper.verdict.peak paper (mark_paper S paper log)
      both h = ⊎_elim same short (paper-fits R S (same_map map from to mode) paper log h)
        where
          same : mark_paper S paper log ≡ mark_paper R paper log → PaperExactlyAt to.limit (mark_paper R paper log).paper.verdict.peak paper (mark_paper S paper log)
          same e =
              let z : (mark_paper S paper log).paper.verdict.answer.number ≡ 0 = rw e h in
              let q = paper-within S (omega (arith, most)) paper log z in
              let p : (mark_paper R paper log).paper.verdict.peak ≤ to.limit = rw e at q.0 in
              record { exactly = ((λ y. (p, q.1)), (λ y. z)); otherwise = λ no. absurd (no (p, q.1)) }

          short : ShortPaper from.limit to.limit (AllModest R) paper (mark_paper R paper log).paper.verdict.peak (mark_paper S paper log)
              → PaperExactlyAt to.limit (mark_paper R paper log).paper.verdict.peak paper (mark_paper S paper log)
          short s = record {
            exactly = (
              (λ z. absurd (⊎_elim (λ q. omega (arith, z, q)) (λ q. omega (arith, z, q)) s.number)),
              (λ p. absurd (omega (arith, s.over_peak (map-modest map from) p.1, p.0))),
            );
            otherwise = λ u. s.number;
          }
