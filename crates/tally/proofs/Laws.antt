-- What the definition's tally gives.
use mathlib.Core.Bool.{Bool, true, false}
use mathlib.Core.Path.{◌≡◌, refl, ap}
use native.Mathlib.Omega.{arith}
use Rattle.std.specs.Prelude.{Option, Some, None, ok_or, eqb, ℕ}
use Rattle.std.specs.Option.{SomeIff}
use Rattle.definition.specs.Basics.{pick}
use Rattle.definition.specs.Refusals.{accepted, refused_at, tally_full}
use Rattle.definition.specs.Walk.{Verdict, gain, one_more, fits}
use Rattle.definition.specs.Walk as W
use Rattle.tally.specs.View.{tally_of, packed, gained_of, Gives}
use Rattle.tally.specs.declared.Tally.{Tally}
use Rattle.refusals.specs.declared.Refusal.TheVariants.{TallyFull}

-- The definition's tally gives the counts that fit, and 22 where they do not.
not_true : (b : Bool) → (b ≡ true → ⊥) → b ≡ false
not_true true h = absurd (h refl)
not_true false h = refl

pub gained-is : (t : Tally) (number rows peak : ℕ) (o : Option Tally)
    → SomeIff o (fits (one_more (tally_of t) (pick (eqb number 0) 1 0) rows peak) ≡ true) (packed (one_more (tally_of t) (pick (eqb number 0) 1 0) rows peak))
    → (v : Verdict) → Gives v number rows peak → gained_of (tally_of t) (ok_or o TallyFull) ≡ gain (tally_of t) v
unfolding gain
gained-is t number rows peak None h v g = rw (g.is_number, g.is_rows, g.is_peak, not_true _ h)
gained-is t number rows peak (Some new) h v g = rw (g.is_number, g.is_rows, g.is_peak, h.0, h.1)

-- 22 leaves the tally unchanged
pick_second : (b : Bool) (x y : W.TallyAnswer) → x.answer.number ≡ 0 → (pick b x y).answer.number ≡ 22 → pick b x y ≡ y
pick_second true x y e h = absurd (omega (arith, e, h))
pick_second false x y e h = refl

pub unchanged : (t : W.Tally) (v : Verdict) → (gain t v).answer.number ≡ 22 → (gain t v).tally ≡ t
unfolding gain
unchanged t v h =
    let new : W.Tally = one_more t (pick (eqb v.answer.number 0) 1 0) v.rows v.peak in
    ap (λ (r : W.TallyAnswer). r.tally) (pick_second (fits new) (record { answer = accepted; tally = new }) (record { answer = refused_at 0 tally_full; tally = t }) refl h)
