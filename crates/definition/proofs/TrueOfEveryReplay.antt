-- Demand 3 proved of the definitions: `true_of_every_replay` in the words of document 01, and before it
-- the general form, for every map of classes, every limit that the log's 16 bits can tell from dead, and every start stacks.
use mathlib.Core.Bool.{Bool, true, false}
use mathlib.Core.List.{List, [], ◌∷◌}
use mathlib.Core.Logic.{◌⊎◌, inl, inr, ⊎_elim}
use mathlib.Core.Option.{Option, none, some}
use mathlib.Core.Path.{◌≡◌, refl, sym, ap, subst, ◌∙◌}
use Prim.Native.Nat.{ℕ, zero, suc, ◌+◌, ◌*◌, ◌≤◌, ◌<◌}
use native.Mathlib.Omega.{arith}
use borrow.Author.Tests.{leb-true, ltb-false}
use lib.Dec.{ltb, leb}
use lib.ListN.{length, get_or, take, drop, replicate, length-drop, length-replicate}
use Rattle.definition.specs.Basics.{Bytes, pick}
use Rattle.definition.specs.Decoding.{Instruction, Code, decode, instructions, malformed_at}
use Rattle.definition.specs.Refusals.{Refusal, malformed_fragment, nesting, alt_dry, bad_index, bad_tag, arms_differ, stray_else, second_else, stray_endif, open_if, bad_header, tally_full, bad_sitting, crooked_number, negative_index, strange_word, output_short, bad_map, bad_limit, long_fragment, unmodelled_opcode, opcode_count, script_size, long_paper, long_element, start_too_large, short_log, stacks_full, main_dry, dispatch_too_large, max_fragment, refused_at}
use Rattle.definition.specs.Stacks.{Rules, built_in, Stacks, total, stack_heights}
use Rattle.definition.specs.Walk.{Item, unknown, Arm, dead, live, heights_of, State, total_of, WalkEnd, passed, stopped, walk, Marked, refused_early, answered, begin, tested, analysis_of, unknowns, analysis}
use Rattle.definition.specs.Replay.{Replay, running, Trace, visit, off_end, returned, faulted, replay_from, whole_replay, ReachedAt, RunsOffWith, HasTotal, TotalsWithin, ShowsArm, AreStrings, ReplayOf, EveryReplay, SomeReplay, heights_at, LiveRow, SomeReplayReaches, Demand3, TrueOfEveryReplay}
use Rattle.definition.proofs.Related.{paired_stacks, shown_stacks, paired-length, paired-total}
use Rattle.definition.proofs.Arms.{Accepts, arm_at, Alive, both-heights, Row, Tops, accepts, end-at, log-length, row_at, peak-over, peak-at}
use Rattle.definition.proofs.Sound.{LiveAs, Good, sound, good-faults, good-reaches, good-runs_off, good-total, stays_within}
use Rattle.definition.proofs.Complete.{strings_for, ExactBytes, comes}

-- A live arm

live-heights : (c : Arm) (u : Stacks Bytes) → LiveAs c u → (heights_of c ≡ stack_heights u) × (total_of c ≡ total u)
live-heights dead u h = absurd h
live-heights (live s) u h = (rw (paired-length h.main, paired-length h.alt), paired-total h)

live_shows : (c : Arm) (u : Stacks Bytes) → LiveAs c u → ShowsArm c u
live_shows dead u h = h
live_shows (live s) u h = shown_stacks h

live-alive : (c : Arm) (u : Stacks Bytes) → LiveAs c u → Alive c
live-alive dead u h = h
live-alive (live s) u h = tt

dead-or-alive : (c : Arm) → (c ≡ dead) ⊎ (Alive c)
dead-or-alive dead = inl refl
dead-or-alive (live s) = inr tt

-- A row of the log

-- the two heights of a row that is there
two_at : (l : List ℕ) (j i : ℕ) → i ≡ suc j → i < length l → take 2 (drop j l) ≡ (get_or l j 0 ∷ get_or l i 0 ∷ [])
two_at [] j i e h = absurd (omega arith)
two_at (x ∷ []) zero i e h = absurd (omega arith)
two_at (x ∷ y ∷ l) zero i e h = rw e
two_at (x ∷ []) (suc j) i e h = absurd (omega arith)
two_at (x ∷ y ∷ l) (suc j) i e h = rw e (two_at (y ∷ l) j (suc j) refl (omega arith))

heights-there : (log : List ℕ) (k : ℕ) → 3 * k + 2 < length log → heights_at k log ≡ (get_or log (3 * k + 1) 0 ∷ get_or log (3 * k + 2) 0 ∷ [])
heights-there log k h = two_at log (3 * k + 1) (3 * k + 2) (omega arith) h

two-same : (a b c d : ℕ) → (a ∷ b ∷ []) ≡ (c ∷ d ∷ []) → (a ≡ c) × (b ≡ d)
two-same a b c d e = (ap (λ (l : List ℕ). get_or l 0 0) e, ap (λ (l : List ℕ). get_or l 1 0) e)

row-heights : (log : List ℕ) (k : ℕ) (c : Arm) → 3 * k + 2 < length log → Row log k c → heights_at k log ≡ heights_of c
row-heights log k c h r = rw (heights-there log k h, r.0, r.1) (sym (both-heights c))

logged-alive : (log : List ℕ) (k : ℕ) (c : Arm) → heights_at k log ≡ heights_of c → LiveRow k log → Alive c
logged-alive log k dead h n = absurd (n h)
logged-alive log k (live s) h n = tt

-- A running replay reaches the next instruction, or runs off the end; either way its total is counted.

reaches-total : (k : ℕ) (u : Stacks Bytes) (t : Trace) → ReachedAt k u t → HasTotal (total u) t
reaches-total k u (visit j v t) h = ⊎_elim (λ e. inl (ap (λ (w : Stacks Bytes). total w) e.1)) (λ l. inr (reaches-total k u t l)) h
reaches-total k u (off_end v) h = absurd h
reaches-total k u (returned v) h = absurd h
reaches-total k u faulted h = absurd h

module _ (R : Rules) (k : ℕ) (r : Replay) where
  first-reached : (is : List Instruction) → 0 < length is → ReachedAt k r.stacks (replay_from R is k running r)
  unfolding replay_from
  first-reached [] h = absurd (omega arith)
  first-reached (i ∷ is) h = inl (refl, refl)

  nothing_left : (is : List Instruction) → length is ≡ 0 → RunsOffWith r.stacks (replay_from R is k running r)
  unfolding replay_from
  nothing_left [] h = refl
  nothing_left (i ∷ is) h = absurd (omega arith)

  total_here : (is : List Instruction) → HasTotal (total r.stacks) (replay_from R is k running r)
  unfolding replay_from
  total_here [] = refl
  total_here (i ∷ is) = inl refl

-- The general form, of an accepted walk. The log's numbers have 16 bits, and 65,535 says dead: so the limit is below it.

module _ (R : Rules) (is : List Instruction) (s : Stacks Item) (log : List ℕ) (t : State) (small : R.limit < 65535)
    (start : total s ≤ R.limit) (exacts : ExactBytes s) (enough : 3 * length is ≤ length log) (accepted : walk R is (begin s log) ≡ passed t) where
  -- the marker's arm at each place, and past the last instruction
  abbrev A : ℕ → Arm
  A j = arm_at R is (live s) [] j

  moves-on : Accepts R is (live s) []
  moves-on = accepts R t is (begin s log) accepted

  -- every replay follows these arms
  follows : (r : Replay) → ReplayOf is s r → Good R A (length is) (whole_replay R is r)
  follows r p = sound R A (length is) is 0 (live s) [] running r (λ j. let e : 0 + j ≡ j = omega arith in ap A e) (omega arith) moves-on (paired_stacks p.start)

  -- and the log tells of them
  row : (k : ℕ) → k < length is → heights_at k t.log ≡ heights_of (A k)
  row k h =
      row-heights t.log k (A k) (omega (arith, log-length R t is (begin s log) accepted))
      (subst (λ j. Row t.log j (A k)) (omega arith) (row_at R t is (begin s log) accepted (omega arith) k h))

  -- within_limit
  within : EveryReplay R is s (λ z. TotalsWithin R.limit z)
  within r p n h = stays_within R n is 0 running r (rw (← paired-total (paired_stacks p.start)) start) h

  -- heights
  logged : EveryReplay R is s (λ z. (k : ℕ) (u : Stacks Bytes) → ReachedAt k u z → heights_at k t.log ≡ stack_heights u)
  logged r p k u h =
      let g = good-reaches R A (length is) (whole_replay R is r) (follows r p) k u h in
      row k g.0 ∙ (live-heights (A k) u g.1).0

  -- ending
  end_live : EveryReplay R is s (λ z. (u : Stacks Bytes) → RunsOffWith u z → LiveAs t.arm u)
  end_live r p u h = subst (λ c. LiveAs c u) (sym (end-at R t is (begin s log) accepted)) (good-runs_off R A (length is) (whole_replay R is r) (follows r p) u h)

  -- where the arm before an instruction is live, some replay reaches it, and only there
  pub alive-reached : (k : ℕ) → k < length is → Alive (A k) → SomeReplayReaches R is s k
  alive-reached k lt a =
      comes R is s exacts moves-on k a (λ z. (u : Stacks Bytes) × (ReachedAt k u z)) (λ j v z q. (q.0, inr q.1))
      (λ r l. (r.stacks, first-reached R k r (drop k is) (rw length-drop (omega arith))))

  pub reached-alive : (k : ℕ) → SomeReplayReaches R is s k → Alive (A k)
  reached-alive k q =
      let u = q.2 in
      live-alive (A k) u.0 (good-reaches R A (length is) (whole_replay R is q.0) (follows q.0 q.1) k u.0 u.1).1

  -- liveness: a row that is not dead is reached ..
  reached : (k : ℕ) → k < length is → LiveRow k t.log → SomeReplayReaches R is s k
  reached k lt h = alive-reached k lt (logged-alive t.log k (A k) (row k lt) h)

  -- .. and what is reached has a row that is not dead: a height is at most the limit
  not_dead : (k : ℕ) → SomeReplayReaches R is s k → LiveRow k t.log
  not_dead k q d =
      let u = q.2 in
      let e = logged q.0 q.1 k u.0 u.1 in
      let l = within q.0 q.1 (total u.0) (reaches-total k u.0 (whole_replay R is q.0) u.1) in
      omega (arith, (two-same _ _ _ _ (sym e ∙ d)).0)

  -- no_end: where the end is live, some replay runs off the end
  runs-off : Alive t.arm → EveryReplay R is s (λ z. (u : Stacks Bytes) → RunsOffWith u z → ⊥) → ⊥
  runs-off a f =
      let c = comes R is s exacts moves-on (length is) (subst Alive (end-at R t is (begin s log) accepted) a) (λ z. (u : Stacks Bytes) × (RunsOffWith u z)) (λ j v z q. q)
      (λ r l. (r.stacks, nothing_left R (length is) r (drop (length is) is) (rw length-drop (omega arith)))) in
      f c.0 c.1 c.2.0 c.2.1

  -- the peak is the total of some live arm
  peak-place : (j : ℕ) × (Tops t.peak (A j))
  peak-place = ⊎_elim (λ e. (0, (tt, e))) (λ q. (q.0, q.2)) (peak-at R t is (begin s log) accepted)

  -- peak_bounds
  bounded : EveryReplay R is s (λ z. TotalsWithin t.peak z)
  bounded r p n h =
      let g = good-total R A (length is) (whole_replay R is r) (follows r p) n h in
      let e = live-heights (A g.0) g.1 g.3 in
      let q = peak-over R t is (begin s log) accepted (omega arith) g.0 g.2 in
      omega (arith, e.1, g.4)

  -- peak_reached: a replay comes to that arm's place, and there its total is counted
  peaked : SomeReplay R is s (λ z. HasTotal t.peak z)
  peaked =
      let p = peak-place in
      comes R is s exacts moves-on p.0 p.1.0 (λ z. HasTotal t.peak z) (λ j v z q. inr q)
      (λ r l. subst (λ n. HasTotal n (replay_from R (drop p.0 is) p.0 running r)) (sym (live-heights (A p.0) r.stacks l).1 ∙ sym p.1.1)
      (total_here R p.0 r (drop p.0 is)))

  pub true_of_walk : Demand3 R is s (answered (passed t))
  true_of_walk = record {
    no_fault = λ r p h. good-faults R A (length is) (whole_replay R is r) (follows r p) h;
    within_limit = within;
    heights = logged;
    ending = λ r p u h. live_shows t.arm u (end_live r p u h);
    liveness = λ k lt. (reached k lt, not_dead k);
    no_end = ((λ e r p u h. subst (λ c. LiveAs c u) e (end_live r p u h)), (λ f. ⊎_elim (λ e. e) (λ a. absurd (runs-off a f)) (dead-or-alive t.arm)));
    peak_bounds = bounded;
    peak_reached = peaked;
  }

-- The analysis

-- no refusal has the number 0
pub refused-number : (at : ℕ) (r : Refusal) → (refused_at at r).number ≡ 0 → ⊥
refused-number at malformed_fragment h = omega (arith, h)
refused-number at nesting h = omega (arith, h)
refused-number at alt_dry h = omega (arith, h)
refused-number at bad_index h = omega (arith, h)
refused-number at bad_tag h = omega (arith, h)
refused-number at arms_differ h = omega (arith, h)
refused-number at stray_else h = omega (arith, h)
refused-number at second_else h = omega (arith, h)
refused-number at stray_endif h = omega (arith, h)
refused-number at open_if h = omega (arith, h)
refused-number at bad_header h = omega (arith, h)
refused-number at tally_full h = omega (arith, h)
refused-number at bad_sitting h = omega (arith, h)
refused-number at crooked_number h = omega (arith, h)
refused-number at negative_index h = omega (arith, h)
refused-number at strange_word h = omega (arith, h)
refused-number at output_short h = omega (arith, h)
refused-number at bad_map h = omega (arith, h)
refused-number at bad_limit h = omega (arith, h)
refused-number at (long_fragment n) h = omega (arith, h)
refused-number at (unmodelled_opcode n) h = omega (arith, h)
refused-number at (opcode_count n) h = omega (arith, h)
refused-number at (script_size n) h = omega (arith, h)
refused-number at (long_paper n) h = omega (arith, h)
refused-number at (long_element n) h = omega (arith, h)
refused-number at (start_too_large n m) h = omega (arith, h)
refused-number at (short_log n m) h = omega (arith, h)
refused-number at (stacks_full n m) h = omega (arith, h)
refused-number at (main_dry n m) h = omega (arith, h)
refused-number at (dispatch_too_large n m) h = omega (arith, h)

-- what holds wherever the walk passes with room in the log holds of an accepted analysis
module _ (R : Rules) (P : Marked → Type 0) where
  pub of_code : (code : Code) (s : Stacks Item) (log : List ℕ)
      → ((t : State) → 3 * length (instructions code) ≤ length log → walk R (instructions code) (begin s log) ≡ passed t
      → P (answered (passed t)))
      → (analysis_of R code s log).verdict.answer.number ≡ 0 → P (analysis_of R code s log)
  unfolding analysis_of
  of_code code s log f h = whole (malformed_at code) h
    where
      is : List Instruction
      is = instructions code

      ended : 3 * length is ≤ length log → (w : WalkEnd) → walk R is (begin s log) ≡ w → (answered w).verdict.answer.number ≡ 0
          → P (answered w)
      ended l (passed t) e h = f t l e
      ended l (stopped r t) e h = absurd (refused-number t.offset r h)

      lent : (b : Bool) → leb (3 * length is) (length log) ≡ b
          → (pick b (answered (walk R is (begin s log))) (refused_early 0 (short_log (3 * length is) (length log)) log)).verdict.answer.number ≡ 0
          → P (pick b (answered (walk R is (begin s log))) (refused_early 0 (short_log (3 * length is) (length log)) log))
      lent true e h = ended (leb-true (3 * length is) (length log) e) (walk R is (begin s log)) refl h
      lent false e h = absurd (omega (arith, h))

      whole : (m : Option ℕ) → (tested R m is s log).verdict.answer.number ≡ 0 → P (tested R m is s log)
      whole (some offset) h = absurd (omega (arith, h))
      whole none h = lent (leb (3 * length is) (length log)) refl h

  pub of_analysis : (fragment : Bytes) (main alt : ℕ) (log : List ℕ)
      → (main + alt ≤ R.limit → (t : State) → 3 * length (instructions (decode fragment)) ≤ length log
      → walk R (instructions (decode fragment)) (begin (unknowns main alt) log) ≡ passed t → P (answered (passed t)))
      → (analysis R fragment main alt log).verdict.answer.number ≡ 0 → P (analysis R fragment main alt log)
  unfolding analysis
  of_analysis fragment main alt log f h = long (ltb max_fragment (length fragment)) h
    where
      large : (b : Bool) → ltb R.limit (main + alt) ≡ b
          → (pick b (refused_early 0 (start_too_large (main + alt) R.limit) log) (analysis_of R (decode fragment) (unknowns main alt) log)).verdict.answer.number ≡ 0
          → P (pick b (refused_early 0 (start_too_large (main + alt) R.limit) log) (analysis_of R (decode fragment) (unknowns main alt) log))
      large true e h = absurd (omega (arith, h))
      large false e h = of_code (decode fragment) (unknowns main alt) log (f (ltb-false R.limit (main + alt) e)) h

      rest : Marked
      rest = pick (ltb R.limit (main + alt)) (refused_early 0 (start_too_large (main + alt) R.limit) log) (analysis_of R (decode fragment) (unknowns main alt) log)

      long : (b : Bool) → (pick b (refused_early 0 (long_fragment (length fragment)) log) rest).verdict.answer.number ≡ 0
          → P (pick b (refused_early 0 (long_fragment (length fragment)) log) rest)
      long true h = absurd (omega (arith, h))
      long false h = large (ltb R.limit (main + alt)) refl h

unknown-strings : (n : ℕ) → AreStrings (strings_for (replicate n unknown))
unknown-strings zero = tt
unknown-strings (suc n) = (tt, unknown-strings n)

pub unknown-exacts : (main alt : ℕ) → ExactBytes (unknowns main alt)
unknown-exacts main alt = record { main = unknown-strings main; alt = unknown-strings alt }

module _ (R : Rules) (small : R.limit < 65535) where
  -- of decoded code, from any stacks within the limit whose exact items are byte strings
  pub true_of_code : (code : Code) (s : Stacks Item) (log : List ℕ) → total s ≤ R.limit → ExactBytes s
      → (analysis_of R code s log).verdict.answer.number ≡ 0 → Demand3 R (instructions code) s (analysis_of R code s log)
  true_of_code code s log start exacts h =
      of_code R (Demand3 R (instructions code) s) code s log
      (λ t l e. true_of_walk R (instructions code) s log t small start exacts l e) h

  -- of a fragment, from so many unknown items, for any rules with a limit below 65,535
  pub true_of_analysis : (fragment : Bytes) (main alt : ℕ) (log : List ℕ) → TrueOfEveryReplay R fragment main alt log
  true_of_analysis fragment main alt log h =
      let is : List Instruction = instructions (decode fragment) in
      of_analysis R (Demand3 R is (unknowns main alt)) fragment main alt log
      (λ start t l e. true_of_walk R is (unknowns main alt) log t small (simp length-replicate start) (unknown-exacts main alt) l e) h

-- Demand 3: of every fragment, start heights and log, if the analysis accepts, what it answers is true of every replay.
pub true_of_every_replay : (fragment : Bytes) (main alt : ℕ) (log : List ℕ) → TrueOfEveryReplay built_in fragment main alt log
true_of_every_replay fragment main alt log h = true_of_analysis built_in (omega arith) fragment main alt log h
