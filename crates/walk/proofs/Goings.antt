-- Walks follow one another.
use Rattle.std.proofs.Common.{List, refl, ◌∙◌, ℕ, ◌≤◌, arith, length}
use Rattle.definition.specs.Basics.{Bytes}
use Rattle.definition.specs.Stacks.{Rules}
use Rattle.definition.specs.Walk.{Frame}
use Rattle.walk.specs.Runs.{Goes, Stand}

module _ {R : Rules} {s : Bytes} {P : List Frame → Type 0} where
  pub stays : {w : Stand} {log : List ℕ} → w.at ≤ length s → Goes R s P w log w log
  stays h = record { low = omega arith; high = h; fewer = omega arith; same = λ fs p. refl }

  pub goes_on_lem : {u v w : Stand} {l m n : List ℕ} → Goes R s P u l v m → Goes R s P v m w n → Goes R s P u l w n
  goes_on_lem a b = record {
    low = omega (arith, a.low, b.low);
    high = b.high;
    fewer = omega (arith, a.fewer, b.fewer);
    same = λ fs p. a.same fs p ∙ b.same fs p;
  }

  -- what holds whatever is open holds where P does
  pub among : {v w : Stand} {l m : List ℕ} → Goes R s (λ fs. Unit {0}) v l w m → Goes R s P v l w m
  among a = record { low = a.low; high = a.high; fewer = a.fewer; same = λ fs p. a.same fs tt }
