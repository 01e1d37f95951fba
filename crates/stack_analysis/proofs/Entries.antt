-- The entry point: its answer is the definition's analysis, and demand 3 holds of it.
use mathlib.Core.List.{List, []}
use mathlib.Core.Option as O
use mathlib.Core.Option.{none, some}
use mathlib.Core.Path.{◌≡◌, refl, sym, ap, subst, ◌∙◌}
use Prim.Native.Nat.{ℕ, ◌+◌, ◌*◌, ◌-◌, ◌≤◌, ◌<◌, max}
use native.Mathlib.Omega.{arith}
use borrow.Author.Tests.{lt-ltb, le-ltb, le-leb, lt-leb}
use lib.ListN.{length, replicate, length-replicate}
use Rattle.std.specs.Prelude.{Option, Result, Ok, Err, IsOk}
use Rattle.definition.specs.Basics.{Bytes}
use Rattle.definition.specs.Decoding.{decode, instructions, malformed_at}
use Rattle.definition.specs.Refusals as D
use Rattle.definition.specs.Replay.{Demand3}
use Rattle.definition.specs.Stacks.{Rules}
use Rattle.definition.specs.Stacks as S
use Rattle.definition.specs.Walk.{Item, Arm, dead, live, Marked, answered, begin, walk, unknowns, analysis_of, analysis, refused_early, refused_verdict, tested}
use Rattle.definition.specs.Walk as W
use Rattle.definition.proofs.TrueOfEveryReplay.{true_of_analysis}
use Rattle.decode.specs.View.{code_at, Count, counted_of, count_by, count_in}
use Rattle.decode.specs.declared.Malformed.{Malformed}
use Rattle.decode.proofs.Codes.{code-start, code-length}
use Rattle.refusals.specs.declared.Refusal.{Refusal}
use Rattle.ends.specs.View.{packed_end}
use Rattle.ends.specs.declared.EndStacks.{EndStacks}
use Rattle.stack.specs.View.{view}
use Rattle.ends.proofs.Ends.{packed-main, packed-alt}
use Rattle.stack.specs.declared.Stacks.{Stacks}
use Rattle.ends.proofs.Packing.{main-length, alt-length}
use Rattle.stack_analysis.specs.View.{Verdict, told, end_as, told_of, heights_of, arm_in, verdict_in, verdict_of}
use Rattle.stack_analysis.specs.Entry.{MayWalk, Begins}
use Rattle.walk.specs.Runs.{ending, running, stand, resume, Ready}
use Rattle.arms.specs.Walkers.{Walks, concluded}
use Rattle.walk.specs.declared.ArmEnd.{ArmEnd}
use Rattle.walk.specs.declared.ArmEnd.TheVariants.{End, Else, Endif}
use Rattle.stack_analysis.specs.declared.Accepted.{Accepted}
use Rattle.stack_analysis.specs.declared.Rejected.{Rejected}
use Rattle.walk.specs.declared.Walk.{Walk}

-- what is left of the definition's walk, where no conditional is open
concluded-is : (R : Rules) (s : Bytes) (w : Walk) (log : List ℕ) (r : Result ArmEnd Refusal)
    → resume R s (stand w (ending r)) [] log ≡ record { verdict = concluded r w; log = log }
concluded-is R s w log (Ok End) = refl
concluded-is R s w log (Ok Else) = refl
concluded-is R s w log (Ok Endif) = refl
concluded-is R s w log (Err r) = refl

-- a walk from main and alt unknown items
module _ (R : Rules) (s : Bytes) (main alt : ℕ) (log : List ℕ) where
  abbrev pub walked : Marked
  walked = answered (walk R (instructions (decode s)) (begin (unknowns main alt) log))

  started : (v : Walk) → Begins main alt v → resume R s (stand v running) [] log ≡ walked
  started v b =
      let total : max (main + alt) (length (replicate main W.unknown) + length (replicate alt W.unknown)) ≡ length (replicate main W.unknown) + length (replicate alt W.unknown)
      = simp length-replicate (omega arith) in
      rw (b.arm, b.at, ← (code-start s), b.last, b.rows, b.peak, total)

-- the walk of a fragment has ended
pub walk-ends : (R : Rules) (s : Bytes) (main alt : ℕ) (log new : List ℕ) (v w : Walk) (r : Result ArmEnd Refusal) → Walks R s 0 v log w r new
    → Begins main alt v → walked R s main alt log ≡ record { verdict = concluded r w; log = new }
walk-ends R s main alt log new v w r g b = sym (started R s main alt log v b) ∙ g.goes.same [] refl ∙ concluded-is R s w new r

-- The tests before the walk

counted-malformed : (m : O.Option ℕ) (n : ℕ) (e : Malformed) → counted_of (Err e) ≡ count_by m n → m ≡ some e.offset
counted-malformed none n e q = absurd (omega (arith, ap (λ (c : Count). c.answer.number) q))
counted-malformed (some p) n e q = ap some (sym (ap (λ (c : Count). c.answer.offset) q))

counted-whole : (m : O.Option ℕ) (n k : ℕ) → counted_of (Ok k) ≡ count_by m n → (m ≡ none) × (k ≡ n)
counted-whole none n k e = (refl, ap (λ (c : Count). c.count) e)
counted-whole (some p) n k e = absurd (omega (arith, ap (λ (c : Count). c.answer.number) e))

pub counts : (s : Bytes) (n : ℕ) → counted_of (Ok n) ≡ count_in (decode s) → n ≡ length (instructions (decode s))
counts s n c = (counted-whole (malformed_at (decode s)) (length (instructions (decode s))) n c).1

module _ (R : Rules) (s : Bytes) (main alt : ℕ) (log : List ℕ) where
  pub too_long_lem : 10000 < length s → analysis R s main alt log ≡ refused_early 0 (D.long_fragment (length s)) log
  unfolding analysis
  too_long_lem h = rw (lt-ltb 10000 (length s) h)

  module _ (limit : ℕ) (limited : R.limit ≡ limit) (short : length s ≤ 10000) where
    pub too-high : limit < main + alt → analysis R s main alt log ≡ refused_early 0 (D.start_too_large (main + alt) limit) log
    unfolding analysis
    too-high h = rw (le-ltb 10000 (length s) short, limited, lt-ltb limit (main + alt) h)

    module _ (low : main + alt ≤ limit) where
      in_code : analysis R s main alt log ≡ tested R (malformed_at (decode s)) (instructions (decode s)) (unknowns main alt) log
      unfolding analysis analysis_of
      in_code = rw (le-ltb 10000 (length s) short, limited, le-ltb limit (main + alt) low)

      pub not-whole : (e : Malformed) → counted_of (Err e) ≡ count_in (decode s) → analysis R s main alt log ≡ refused_early e.offset D.malformed_fragment log
      not-whole e c = in_code ∙ rw (counted-malformed (malformed_at (decode s)) (length (instructions (decode s))) e c)

      module _ (n : ℕ) (c : counted_of (Ok n) ≡ count_in (decode s)) where
        in-walk : analysis R s main alt log ≡ tested R none (instructions (decode s)) (unknowns main alt) log
        in-walk = in_code ∙ rw (counted-whole (malformed_at (decode s)) (length (instructions (decode s))) n c).0

        module _ (lent : ℕ) (l : length log ≡ lent) where
          pub short-log : lent < 3 * n → analysis R s main alt log ≡ refused_early 0 (D.short_log (3 * n) lent) log
          short-log h = in-walk ∙ rw (← (counts s n c), l, lt-leb (3 * n) lent h)

          pub may-walk : 3 * n ≤ lent → MayWalk R s main alt log
          may-walk h = record { short = short; low = omega (arith, limited, low); room = omega (arith, counts s n c, l); same = in-walk ∙ rw (← (counts s n c), l, le-leb (3 * n) lent h) }

-- The verdict with its end in another form

-- a fragment's verdict d, where the code's has the stacks that its walk ends with
module _ {E : Type 0} (form : S.Stacks Item → E) (d : W.Verdict) where
  pub refused-form : (r : Rejected) → verdict_in view (Err r) ≡ d → told {E = E} (Err r) ≡ told_of form d
  refused-form r e = ap (λ (v : W.Verdict). told_of form v) e

  pub accepted-form : (a : Accepted Stacks) → verdict_in view (Ok a) ≡ d → (end : Option E) → end ≡ end_as form (arm_in view a.end)
      → told (Ok (record { rows = a.rows; peak = a.peak; end = end })) ≡ told_of form d
  accepted-form a e end h = rw h (ap (λ (v : W.Verdict). told_of form v) e)

-- the heights of stacks are their counts
pub heights-form : (t : Stacks) → record { main = t.mains; alt = t.alts } ≡ heights_of (view t)
heights-form t = rw (main-length t, alt-length t)

-- an end has room
pub packed-within : (t : Stacks) (e : EndStacks) → e ≡ packed_end (view t) → e.main + e.alt ≤ 244
packed-within t e k = omega (arith, ap (λ (x : EndStacks). x.main) k, ap (λ (x : EndStacks). x.alt) k, packed-main (view t), packed-alt (view t), main-length t, alt-length t, t.room)

-- what is claimed of an accepted fragment's definition a holds of the code's verdict v and its log
module _ (Q : Marked → Type 0) (a : Marked) (claim : a.verdict.answer.number ≡ 0 → Q a) where
  pub replayed-as : (v : Verdict EndStacks) (new : List ℕ) → verdict_of v ≡ a.verdict → new ≡ a.log → IsOk v → Q (record { verdict = verdict_of v; log = new })
  replayed-as (Ok x) new e l k =
      let q : record { verdict = verdict_of (Ok x); log = new } ≡ a = (λ i. record { verdict = e i; log = l i }) in
      subst Q (sym q) (claim (sym (ap (λ (y : W.Verdict). y.answer.number) e)))
  replayed-as (Err x) new e l k = cc

pub replayed-by : (R : Rules) → R.limit ≤ 244 → (s : Bytes) (main alt : ℕ) (log : List ℕ) (v : Verdict EndStacks) (new : List ℕ)
    → verdict_of v ≡ (analysis R s main alt log).verdict → new ≡ (analysis R s main alt log).log → IsOk v
    → Demand3 R (instructions (decode s)) (unknowns main alt) (record { verdict = verdict_of v; log = new })
replayed-by R small s main alt log =
    replayed-as (Demand3 R (instructions (decode s)) (unknowns main alt)) (analysis R s main alt log) (true_of_analysis R (omega (arith, small)) s main alt log)

-- the walk may start
pub ready-start : (s : Bytes) (log : List ℕ) (main alt : ℕ) (v : Walk) → Begins main alt v → length s ≤ 10000 → 3 * length (instructions (decode s)) ≤ length log → Ready s log v
ready-start s log main alt v b short room = record {
  high = omega (arith, b.at);
  short = short;
  room =
      let e : v.place.rows + length (instructions (code_at s v.place.at)) ≡ length (instructions (decode s)) = rw (b.at, b.rows, ← (code-start s)) (omega arith) in
      omega (arith, e, room);
}

-- a fragment has no more instructions than bytes
pub few : (s : Bytes) (n : ℕ) → counted_of (Ok n) ≡ count_in (decode s) → length s ≤ 10000 → n ≤ 10000
few s n c h =
    let e : instructions (decode s) ≡ instructions (code_at s 0) = ap instructions (code-start s) in
    let l : length (instructions (code_at s 0)) ≤ length s - 0 = code-length s 0 in
    omega (arith, counts s n c, ap length e)
