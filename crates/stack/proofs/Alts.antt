-- Transfers between main and alt, by their definitions.
use mathlib.Core.Path.{◌≡◌, refl, ◌∙◌}
use mathlib.Core.List.{◌∷◌}
use Prim.Native.Nat.{ℕ, ◌+◌, ◌-◌, ◌≤◌, ◌<◌}
use native.Mathlib.Nat.{add-zero}
use native.Mathlib.Numerals.{add-one}
use native.Mathlib.Omega.{arith}
use borrow.Author.Tests.{le-leb, lt-leb}
use Rattle.definition.specs.Refusals.{main_dry, alt_dry}
use Rattle.definition.specs.Stacks as S
use Rattle.definition.specs.Stacks.{move_to_alt, move_from_alt}
use Rattle.definition.specs.Walk.{Item}
use Rattle.slots.specs.View.{Slots, cells, backs, tops}
use Rattle.slots.specs.Parts.{Placed, apart}
use Rattle.slots.proofs.Laws.{length-tops, tops-ext, tops-seg, wrote-copies, placed_one, placed-other}
use Rattle.stack.specs.View.{stacks_in}
use Rattle.stack.proofs.Mains.{changed, main-is}

top : (c : ℕ → Item) (m : ℕ) → 1 ≤ m → tops c m ≡ c (m - 1) ∷ tops c (m - 1)
top c m h = tops-seg c (m - 1) 1 m (omega arith) ∙ rw add-zero

module _ (p : Slots) (m a : ℕ) where
  pub to-alt-short : m < 1 → move_to_alt (stacks_in p m a) ≡ S.refused (main_dry 1 m)
  unfolding move_to_alt stacks_in
  to-alt-short h = rw (length-tops, lt-leb 1 m h)

  module _ (h : 1 ≤ m) where
    to-alt-is : move_to_alt (stacks_in p m a) ≡ S.done (record { main = tops (cells p) (m - 1); alt = cells p (m - 1) ∷ tops (backs p) a })
    unfolding move_to_alt stacks_in
    to-alt-is = rw (length-tops, le-leb 1 m h, top (cells p) m h)

    pub to-alt-done : m + a ≤ 244 → (q : Slots) → Placed (apart (m - 1) (243 - a)) p (243 - a) (243 - a + 1) q → S.done (stacks_in q (m - 1) (a + 1)) ≡ move_to_alt (stacks_in p m a)
    unfolding stacks_in
    to-alt-done r q w =
        let g = placed-other _ p (243 - a) q w in
        rw (
          to-alt-is,
          tops-ext (cells q) (cells p) (m - 1) (λ j lt. g j (λ n. omega arith)),
          add-one,
          placed_one p (m - 1) (243 - a) q w,
          tops-ext (backs q) (backs p) a (λ j lt. g (243 - j) (λ n. omega arith)),
        )

  pub from-alt-short : a ≡ 0 → move_from_alt (stacks_in p m a) ≡ S.refused alt_dry
  unfolding move_from_alt stacks_in
  from-alt-short h = rw (length-tops, lt-leb 1 a (omega arith))

  module _ (h : a ≡ 0 → ⊥) where
    from-alt-is : move_from_alt (stacks_in p m a) ≡ changed p (cells p (244 - a) ∷ tops (cells p) m) (a - 1)
    unfolding move_from_alt stacks_in
    from-alt-is =
        let e : 243 - (a - 1) ≡ 244 - a = omega (arith, h) in
        rw (length-tops, le-leb 1 a (omega (arith, h)), top (backs p) a (omega (arith, h)), e)

    pub from-alt-done : m + a ≤ 244 → (q : Slots) → Placed (apart (244 - a) m) p m (m + 1) q → S.done (stacks_in q (m + 1) (a - 1)) ≡ move_from_alt (stacks_in p m a)
    from-alt-done r q w = main-is p q m 1 (a - 1) _ (wrote-copies p m 1 q (244 - a) w) (m + 1) refl (omega (arith, h)) _ (from-alt-is ∙ rw add-zero)
