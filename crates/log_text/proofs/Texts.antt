-- Laws of the whole text: what was refused, and all of a marked paper.
use mathlib.Core.Bool.{Bool, true, false}
use mathlib.Core.List.{List, [], ◌++◌, map}
use mathlib.Core.Logic.{◌⊎◌, ⊎_elim}
use mathlib.Core.Path.{◌≡◌, refl, sym, ap, subst, ◌∙◌}
use Rattle.std.specs.Prelude.{Result, Ok, Err, None}
use Prim.Native.Nat.{ℕ, ◌-◌, ◌*◌, ◌≤◌}
use native.Mathlib.Omega.{arith}
use borrow.Author.Tests.{ne_eqb}
use lib.Dec.{eqb}
use lib.ListN.{length}
use Rattle.definition.specs.Basics.{Bytes, pick}
use Rattle.definition.specs.Lines.{text, last_line, refused_line}
use Rattle.definition.specs.Papers.{PaperMarked, refused_paper, mark_paper}
use Rattle.definition.specs.Papers as P
use Rattle.definition.specs.Refusals.{Answer, refused_at}
use Rattle.definition.specs.Refusals as D
use Rattle.definition_rules.specs.Maps.{Options, good_map, good_limit, rules_of, judged, mark_paper_with}
use Rattle.definition.specs.Stacks.{Rules}
use Rattle.refusals.proofs.OneForm.{refused-some}
use Rattle.refusals.specs.View.{refusal_of, answer_of, numbers_of}
use Rattle.refusals.specs.declared.Answer as RA
use Rattle.refusals.specs.declared.Refusal as RF
use Rattle.refusals.specs.declared.Refusal.TheVariants.{BadHeader, DispatchTooLarge, LongPaper, BadMap, BadLimit}
use Rattle.walk.specs.declared.Rules as W
use Rattle.walk.specs.Runs.{rules_in}
use Rattle.maps.specs.View.{rules_or_refusal}
use Rattle.maps.proofs.Judged.{judged-ok, judged-err, rules-are}
use Rattle.stack_analysis.specs.View.{Told, told}
use Rattle.stack_analysis.specs.declared.Accepted.{Accepted}
use Rattle.stack_analysis.specs.declared.Heights.{Heights}
use Rattle.stack_analysis.specs.declared.Rejected.{Rejected}
use Rattle.paper.specs.View.{paper_of, told_accepted, items_of, rows_of, Holds}
use Rattle.paper.specs.declared.AcceptedPaper.{AcceptedPaper}
use Rattle.paper.specs.declared.Marked.{Marked}
use Rattle.paper.specs.declared.RejectedPaper.{RejectedPaper}
use Rattle.lines.proofs.Fragments.{last-accepted, last-refused}
use Rattle.text.specs.declared.Lent.{Lent}
use Rattle.text.specs.View.{Puts}
use Rattle.text.proofs.Puts.{puts_as, puts-none, then-puts}
use Rattle.log_lines.specs.Log.{refusal_line, header_line, dispatch_line}
use Rattle.log_lines.proofs.Verdicts.{number-is}
use Rattle.log_blocks.specs.Blocks.{block}
use Rattle.log_text.specs.LogText.{blocks, alone, refused, refused_told, log_of, log_text, log_text_with}
use Rattle.log_text.specs.View.{Tells, LogsOf, LogsBy, LogsWith}
use Rattle.log_text.specs.declared.LogText.{LogText}

-- All of a marked paper, by its verdict and what is told of the fragments accepted

module _ (R : Rules) (paper : Bytes) (log : List ℕ) where
  abbrev log_by : P.PaperVerdict → List (Told Heights) → Bytes
  log_by p ts =
      blocks R paper log 0 0 ts
      ++ pick (eqb p.verdict.answer.number 0) []
      (refused R paper log p.entry (rows_of ts) (record { answer = p.verdict.answer; rows = p.verdict.rows - rows_of ts; peak = 0; end = None }) ++ text "\n")
      ++ last_line p

module _ {items : List (Accepted Heights)} (s : Marked) (q : items ≡ items_of s.accepted) (m : PaperMarked) (log : List ℕ) (h : Holds m s log) where
  abbrev ts : List (Told Heights)
  ts = map told_accepted items

  ts_are : ts ≡ map told_accepted (items_of s.accepted)
  ts_are = ap (λ (l : List (Accepted Heights)). map told_accepted l) q

  module _ (R : Rules) (paper : Bytes) where
    log_is : log_by R paper log (paper_of s.verdict) ts ≡ log_of R paper m
    unfolding refused_told
    log_is =
        ap (λ (l : List ℕ). log_by R paper l (paper_of s.verdict) ts) h.logged
        ∙ ap (λ (p : P.PaperVerdict). log_by R paper m.log p ts) h.verdict
        ∙ ap (log_by R paper m.log m.paper) (ts_are ∙ h.accepted)

    pub log-accepted : {a : AcceptedPaper} {x y z : Lent} → s.verdict ≡ Ok a → Puts x (blocks R paper log 0 0 ts) y → Puts y (text "accepted\n") z
        → Puts x (log_of R paper m) z
    unfolding paper_of
    log-accepted {a} e w v =
        puts_as
        (ap (λ (l : Bytes). blocks R paper log 0 0 ts ++ [] ++ l) (sym (last-accepted a))
        ∙ ap (λ (v : Result AcceptedPaper RejectedPaper). log_by R paper log (paper_of v) ts) (sym e) ∙ log_is)
        (then-puts (then-puts w (puts-none _)) v)

    pub log-refused : {r : RejectedPaper} {x y z u v : Lent} {from : ℕ} {shown : Bytes} → s.verdict ≡ Err r → Puts x (blocks R paper log 0 0 ts) y → from ≡ rows_of ts
        → Puts y (refused R paper log r.entry from (told (Err (record { rows = r.rows - from; refused = r.refused })))) z
        → Puts z (text "\n") u → shown ≡ refused_line r.entry (answer_of r.refused) → Puts u shown v → Puts x (log_of R paper m) v
    unfolding paper_of
    log-refused {r} e w f p n l q =
        let t : ℕ → Bytes = λ from. refused R paper log r.entry from (told (Err (record { rows = r.rows - from; refused = r.refused }))) in
        let b : Bytes = blocks R paper log 0 0 ts in
        puts_as
        (ap (λ (l : Bytes). b ++ (t (rows_of ts) ++ text "\n") ++ l) (sym (last-refused r))
        ∙ ap (λ c. b ++ pick c [] (t (rows_of ts) ++ text "\n") ++ last_line (paper_of (Err r))) (sym (ne_eqb (answer_of r.refused).number 0 (refused-some r.refused)))
        ∙ ap (λ (v : Result AcceptedPaper RejectedPaper). log_by R paper log (paper_of v) ts) (sym e) ∙ log_is)
        (then-puts (then-puts w (then-puts (puts_as (ap t f) p) n)) (puts_as l q))

  -- what put_log asks, and how many rows it puts
  rows_are : rows_of ts ≡ rows_of (map told_accepted (items_of s.accepted))
  rows_are = ap rows_of ts_are

  pub rows-in : (3 * rows_of ts ≤ length log) × (rows_of ts ≤ 330000)
  rows-in = (omega (arith, rows_are, h.among, h.room), omega (arith, rows_are, h.among, h.few))

  pub rows-left : {r : RejectedPaper} → s.verdict ≡ Err r → (rows_of ts ≤ r.rows) × ((3 * r.rows ≤ length log) × (r.rows ≤ 330000))
  unfolding paper_of
  rows-left {r} e =
      let n : r.rows ≡ m.paper.verdict.rows = ap (λ (v : Result AcceptedPaper RejectedPaper). (paper_of v).verdict.rows) (sym e) ∙ ap (λ (p : P.PaperVerdict). p.verdict.rows) h.verdict in
      (omega (arith, n, rows_are, h.among), (omega (arith, n, h.room), omega (arith, n, h.few)))

-- What was refused

abbrev number : Rejected → ℕ
number r = (answer_of r.refused).number

-- number and figures
abbrev figures : Rejected → Bytes
figures r = refusal_line [] (number r) (answer_of r.refused).first (answer_of r.refused).second []

module _ (R : Rules) (paper : Bytes) (log : List ℕ) (entry from : ℕ) (r : Rejected) where
  abbrev what : Bytes
  what = refused R paper log entry from (told (Err r))

  refused-alone : alone (number r) ≡ true → {x y : Lent} {shown : Bytes} → shown ≡ figures r → Puts x shown y → Puts x what y
  unfolding refused
  refused-alone a e w = rw a (puts_as e w)

  pub refused-told : ((l : ℕ) × r.refused.refusal ≡ LongPaper l) ⊎ ((r.refused.refusal ≡ BadMap) ⊎ (r.refused.refusal ≡ BadLimit))
      → {x y : Lent} {shown : Bytes} → shown ≡ figures r → Puts x shown y → Puts x what y
  refused-told c = refused-alone (⊎_elim (λ p. is p.1) (⊎_elim is is) c)
    where
      is : {f : RF.Refusal} → r.refused.refusal ≡ f → alone (number r) ≡ alone (refused_at r.refused.offset (refusal_of f)).number
      is e = ap (λ (f : RF.Refusal). alone (refused_at r.refused.offset (refusal_of f)).number) e

  pub refused-header : r.refused.refusal ≡ BadHeader → {x y : Lent} {shown : Bytes} → shown ≡ header_line paper → Puts x shown y → Puts x what y
  unfolding refused
  refused-header e s w = rw e (puts_as s w)

  -- the answer in numbers tells the sum and the limit
  pub refused-dispatch : {sum limit : ℕ} → r.refused.refusal ≡ DispatchTooLarge sum limit → {a : RA.Answer} → numbers_of a ≡ answer_of r.refused → {line : Bytes}
      → (a.number ≡ 20 → line ≡ dispatch_line entry a.first a.second) → {x y : Lent} {shown : Bytes} → shown ≡ line → Puts x shown y → Puts x what y
  unfolding refused
  refused-dispatch e {a} n l s w =
      let m = n ∙ ap (λ (f : RF.Refusal). refused_at r.refused.offset (refusal_of f)) e in
      let t = l (ap (λ (x : Answer). x.number) m) ∙ ap (λ (x : Answer). dispatch_line entry x.first x.second) m in
      rw e (puts_as (s ∙ t) w)

  pub refused-fragment : ((l : ℕ) → r.refused.refusal ≡ LongPaper l → ⊥) → (r.refused.refusal ≡ BadMap → ⊥) → (r.refused.refusal ≡ BadLimit → ⊥)
      → (r.refused.refusal ≡ BadHeader → ⊥) → ((sum limit : ℕ) → r.refused.refusal ≡ DispatchTooLarge sum limit → ⊥)
      → {x y : Lent} → Puts x (block R paper log entry from (told (Err r))) y → Puts x what y
  unfolding refused
  refused-fragment l m i h d w =
      rw (
        ne_eqb (number r) 21 (λ e. l _ (number-is r.refused e)),
        ne_eqb (number r) 28 (λ e. m (number-is r.refused e)),
        ne_eqb (number r) 29 (λ e. i (number-is r.refused e)),
        ne_eqb (number r) 19 (λ e. h (number-is r.refused e)),
        ne_eqb (number r) 20 (λ e. d _ _ (number-is r.refused e)),
      ) w

-- By lent rows

module _ (paper : Bytes) (lent_log : List ℕ) {lent : Bytes} {r : LogText} {log : List ℕ} {new : Bytes} where
  pub logs-marked : (R : Rules) {s : Marked} → Holds (mark_paper R paper lent_log) s log
      → Tells (mark_paper R paper lent_log).paper (log_of R paper (mark_paper R paper lent_log)) lent r new → LogsBy R paper lent_log lent r log new
  unfolding log_text
  logs-marked R h w = record { verdict = w.verdict; size = w.size; logged = h.logged; written = w.written }

  pub logs-by : {R Q : Rules} → R ≡ Q → LogsBy R paper lent_log lent r log new → LogsBy Q paper lent_log lent r log new
  logs-by e w = subst (λ (X : Rules). LogsBy X paper lent_log lent r log new) e w

-- By a map and a limit: a text of 28 or 29 reads no class

log-alone : (R Q : Rules) (paper : Bytes) (log : List ℕ) (f : D.Refusal) → alone (refused_at 0 f).number ≡ true
    → log_of R paper (refused_paper 0 f log) ≡ log_of Q paper (refused_paper 0 f log)
unfolding refused refused_told
log-alone R Q paper log f a = rw a refl

module _ (map : Bytes) (options : Options) {o : Result W.Rules RF.Refusal} (told : rules_or_refusal o ≡ judged map options Err Ok) where
  number-alone : {x : RF.Refusal} → o ≡ Err x → alone (refused_at 0 (refusal_of x)).number ≡ true
  number-alone h = sym (judged-err (λ f. alone (refused_at 0 f).number) (λ R. true) map options told h) ∙ by (good_map map) (good_limit options.limit)
    where
      by : (a b : Bool) → pick a (pick b true (alone 29)) (alone 28) ≡ true
      by true true = refl
      by true false = refl
      by false b = refl

  module _ (paper : Bytes) (lent_log : List ℕ) {lent : Bytes} {r : LogText} {new : Bytes} where
    pub logs-refused : {x : RF.Refusal} → o ≡ Err x → (R : Rules)
        → Tells (refused_paper 0 (refusal_of x) lent_log).paper (log_of R paper (refused_paper 0 (refusal_of x) lent_log)) lent r new
        → LogsWith map options paper lent_log lent r lent_log new
    unfolding log_text_with mark_paper_with
    logs-refused {x} h R w =
        let p : PaperMarked = refused_paper 0 (refusal_of x) lent_log in
        let e : p ≡ mark_paper_with map options paper lent_log = sym (judged-err (λ f. refused_paper 0 f lent_log) (λ R. mark_paper R paper lent_log) map options told h) in
        let v : Tells p.paper (log_of (rules_of map options) paper p) lent r new =
        subst (λ (t : Bytes). Tells p.paper t lent r new) (log-alone R (rules_of map options) paper lent_log (refusal_of x) (number-alone h)) w in
        subst (λ (m : PaperMarked). LogsOf m (log_of (rules_of map options) paper m) lent r lent_log new) e
        (record { verdict = v.verdict; size = v.size; logged = refl; written = v.written })

    pub logs-with : {x : W.Rules} → o ≡ Ok x → {log : List ℕ} → LogsBy (rules_in x) paper lent_log lent r log new → LogsWith map options paper lent_log lent r log new
    unfolding log_text log_text_with mark_paper_with
    logs-with {x} h {log} w =
        let b : LogsBy (rules_of map options) paper lent_log lent r log new = subst (λ (R : Rules). LogsBy R paper lent_log lent r log new) (rules-are map options told h) w in
        let e : mark_paper_with map options paper lent_log ≡ mark_paper (rules_of map options) paper lent_log =
        judged-ok (λ f. refused_paper 0 f lent_log) (λ R. mark_paper R paper lent_log) map options told h ∙ ap (λ R. mark_paper R paper lent_log) (rules-are map options told h) in
        rw e b

-- how many rows are put
pub ruleset rows_put = (rows-in, rows-left)

pub ruleset same_rules = (logs-by)
