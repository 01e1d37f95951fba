-- Slots written and copied.
use mathlib.Core.Path.{◌≡◌, refl, ◌∙◌}
use mathlib.Core.List.{List}
use Prim.Native.Nat.{ℕ, ◌+◌, ◌-◌, ◌≤◌, ◌<◌}
use native.Mathlib.Omega.{arith}
use lib.ListN.{length, get_or, set}
use lib.Seq.{get_or-set_same, get_or-set_other}
use Rattle.slots.specs.View.{slots, slot_item, cells}
use Rattle.slots.specs.Parts.{Placed, apart}
use Rattle.slots.proofs.Codes.{either}
use Rattle.stack.specs.View.{slots_of}
use Rattle.stack.specs.Parts.{Moves}
use Rattle.stack.specs.declared.Stacks.{Stacks}

-- a code and bytes put into slot i
module _ (y c : List ℕ) (i code n : ℕ) where
  pub put-there : i < length y → i < length c → cells (slots (set y i n) (set c i code)) i ≡ slot_item code n
  put-there h g = rw (get_or-set_same c i code 0 g, get_or-set_same y i n 0 h)

  pub put-other : (j : ℕ) → (j ≡ i → ⊥) → cells (slots (set y i n) (set c i code)) j ≡ cells (slots y c) j
  put-other j e = rw (get_or-set_other c i j code 0 e, get_or-set_other y i j n 0 e)

-- a slot copied
pub copied-one : (y c : List ℕ) (a b : ℕ) → b < length y → b < length c → Placed (apart a b) (slots y c) b (b + 1) (slots (set y b (get_or y a 0)) (set c b (get_or c a 0)))
unfolding apart
copied-one y c a b h g = record {
  there = λ j k lt. let e : j ≡ b = omega arith in let z : a + (b - b) ≡ a = omega arith in
      rw (e, z) (put-there y c b (get_or c a 0) (get_or y a 0) h g);
  below = λ j lt. put-other y c b (get_or c a 0) (get_or y a 0) j (λ e. omega arith);
  above = λ j k. put-other y c b (get_or c a 0) (get_or y a 0) j (λ e. omega arith);
}

-- slots copied one by one, from the lowest on
module _ (a b : ℕ) (s : Stacks) where
  pub moves-none : Moves (apart a b) b (b + 0) s s
  moves-none = record {
    mains = refl;
    alts = refl;
    placed = record { there = λ j h lt. absurd (omega arith); below = λ j lt. refl; above = λ j h. refl };
  }

  pub moves-next : (k n : ℕ) → a + n ≤ b → k < n → (t u : Stacks) → Moves (apart a b) b (b + k) s t → Moves (apart (a + k) (b + k)) (b + k) (b + k + 1) t u → Moves (apart a b) b (b + (k + 1)) s u
  unfolding apart
  moves-next k n g lt t u v w = record {
    mains = w.mains ∙ v.mains;
    alts = w.alts ∙ v.alts;
    placed = record {
      there = λ j h l. either j (b + k) (cells (slots_of u) j ≡ cells (slots_of s) (a + (j - b)))
          (λ e. let x : a + k + (j - (b + k)) ≡ a + (j - b) = omega arith in
          w.placed.there j (omega arith) (omega arith) ∙ v.placed.below (a + k + (j - (b + k))) (omega arith) ∙ rw x)
          (λ n. w.placed.below j (omega (arith, n)) ∙ v.placed.there j h (omega (arith, n)));
      below = λ j l. w.placed.below j (omega arith) ∙ v.placed.below j l;
      above = λ j h. w.placed.above j (omega arith) ∙ v.placed.above j (omega arith);
    };
  }
