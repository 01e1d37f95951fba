-- What each operation on main is by its definition, over the slots that hold the stacks.
use mathlib.Core.Path.{◌≡◌, refl, ◌∙◌}
use mathlib.Core.List.{List, [], ◌∷◌, ◌++◌}
use Prim.Native.Nat.{ℕ, zero, suc, ◌+◌, ◌-◌, ◌≤◌, ◌<◌}
use native.Mathlib.Nat.{add-zero}
use native.Mathlib.Numerals.{add-one}
use native.Mathlib.Omega.{arith}
use borrow.Author.Tests.{le-leb, lt-leb}
use lib.ListN.{length, take, drop}
use lib.Seq.{drop_at}
use Rattle.definition.specs.Refusals.{main_dry, stacks_full}
use Rattle.refusals.specs.View.{refusal_of}
use Rattle.refusals.specs.declared.Refusal.{Refusal}
use Rattle.definition.specs.Stacks as S
use Rattle.definition.specs.Stacks.{push_item, drop_items, copy_items, rotate_items, tuck_top, nip_second, plain_step}
use Rattle.definition.specs.Walk.{Item, unknown, marking}
use Rattle.slots.specs.View.{Slots, cells, backs, tops}
use Rattle.slots.specs.Parts.{Placed, apart, turn}
use Rattle.slots.proofs.Laws.{seg, length-tops, tops-ext, length-seg, tops-seg, tops-parts, length-parts, low_part, turned-list, Wrote, wrote-copies, wrote-turned, placed_one}
use Rattle.stack.specs.View.{stacks_in}

-- the definition's stacks: main as given, alt as in the slots of p
abbrev pub changed : Slots → List Item → ℕ → S.Outcome Item
changed p l a = S.done (record { main = l; alt = tops (backs p) a })

pub main-is : (p q : Slots) (b n a : ℕ) (l : List Item) → Wrote p b n l q → (m : ℕ) → m ≡ b + n → m + a ≤ 244
    → (o : S.Outcome Item) → o ≡ changed p (l ++ tops (cells p) b) a → S.done (stacks_in q m a) ≡ o
unfolding stacks_in
main-is p q b n a l w m e h o g =
    let k : tops (backs q) a ≡ tops (backs p) a = tops-ext (backs q) (backs p) a (λ j lt. w.above (243 - j) (omega arith)) in
    rw (e, w.main, k, g)

two : (c : ℕ → Item) (m : ℕ) → 2 ≤ m → tops c m ≡ c (m - 2 + 1) ∷ c (m - 2) ∷ tops c (m - 2)
two c m h = tops-seg c (m - 2) 2 m (omega arith) ∙ rw add-zero

module _ (p : Slots) (m a : ℕ) where
  -- Pushes and drops

  module _ (limit : ℕ) (x : Item) where
    pub push-full : limit < m + a + 1 → push_item limit x (stacks_in p m a) ≡ S.refused (stacks_full (m + a + 1) limit)
    unfolding push_item stacks_in
    push-full h = rw (length-tops, length-tops, lt-leb (m + a + 1) limit h)

    push-is : m + a + 1 ≤ limit → push_item limit x (stacks_in p m a) ≡ changed p (x ∷ tops (cells p) m) a
    unfolding push_item stacks_in
    push-is h = rw (length-tops, length-tops, le-leb (m + a + 1) limit h)

    -- the item x in the slot on top of main
    pub push-done : m + a + 1 ≤ limit → limit ≤ 244 → (q : Slots) → cells q m ≡ x → ((j : ℕ) → (j ≡ m → ⊥) → cells q j ≡ cells p j) → S.done (stacks_in q (m + 1) a) ≡ push_item limit x (stacks_in p m a)
    push-done h t q e g = main-is p q m 1 a (x ∷ []) (record {
      main = rw (add-one, e, tops-ext (cells q) (cells p) m (λ j lt. g j (λ z. omega arith)));
      below = λ j lt. g j (λ z. omega arith);
      above = λ j lt. g j (λ z. omega arith);
    }) (m + 1) refl (omega arith) _ (push-is h)

  module _ (k : ℕ) where
    pub drop-short : m < k → drop_items k (stacks_in p m a) ≡ S.refused (main_dry k m)
    unfolding drop_items stacks_in
    drop-short h = rw (length-tops, lt-leb k m h)

    pub drop-is : k ≤ m → drop_items k (stacks_in p m a) ≡ S.done (stacks_in p (m - k) a)
    unfolding drop_items stacks_in
    drop-is h = rw (length-tops, le-leb k m h, tops-seg (cells p) (m - k) k m (omega arith), drop_at (seg (cells p) (m - k) k) (tops (cells p) (m - k)) k (length-seg (cells p) (m - k) k))

  -- Copies and rotations

  module _ (limit depth count : ℕ) where
    pub copy-short : m < depth → copy_items limit depth count (stacks_in p m a) ≡ S.refused (main_dry depth m)
    unfolding copy_items stacks_in
    copy-short h = rw (length-tops, lt-leb depth m h)

    module _ (h : depth ≤ m) where
      pub copy-full : limit < m + a + count → copy_items limit depth count (stacks_in p m a) ≡ S.refused (stacks_full (m + a + count) limit)
      unfolding copy_items stacks_in
      copy-full g = rw (length-tops, length-tops, le-leb depth m h, lt-leb (m + a + count) limit g)

      module _ (k : count ≤ depth) (g : m + a + count ≤ limit) where
        copy_is : copy_items limit depth count (stacks_in p m a) ≡ changed p (seg (cells p) (m - depth) count ++ tops (cells p) m) a
        unfolding copy_items stacks_in
        copy_is =
            let c = cells p in
            let b : ℕ = m - depth in
            let d : ℕ = depth - count in
            let t : length (seg c (b + count) d ++ seg c b count) ≡ depth = length-parts c b count d ∙ omega arith in
            let low : drop d (take depth (tops c m)) ≡ seg c b count =
            rw (tops-parts c b count d m (omega arith)) (low_part (seg c (b + count) d) (seg c b count) (tops c b) d depth (length-seg c (b + count) d) t) in
            rw (length-tops, length-tops, le-leb depth m h, le-leb (m + a + count) limit g, low)

        pub copy-done : limit ≤ 244 → (q : Slots) → Placed (apart (m - depth) m) p m (m + count) q → S.done (stacks_in q (m + count) a) ≡ copy_items limit depth count (stacks_in p m a)
        copy-done t q w = main-is p q m count a _ (wrote-copies p m count q (m - depth) w) (m + count) refl (omega arith) _ copy_is

  module _ (count shift : ℕ) where
    pub rotate-short : m < count → rotate_items count shift (stacks_in p m a) ≡ S.refused (main_dry count m)
    unfolding rotate_items stacks_in
    rotate-short h = rw (length-tops, lt-leb count m h)

    module _ (h : count ≤ m) (k : shift ≤ count) where
      rotate-is : rotate_items count shift (stacks_in p m a) ≡ changed p ((seg (cells p) (m - count) shift ++ seg (cells p) (m - count + shift) (count - shift)) ++ tops (cells p) (m - count)) a
      unfolding rotate_items stacks_in
      rotate-is =
          let c = cells p in
          let b : ℕ = m - count in
          let d : ℕ = count - shift in
          let t : length (seg c (b + shift) d ++ seg c b shift) ≡ count = length-parts c b shift d ∙ omega arith in
          rw (
            length-tops,
            le-leb count m h,
            tops-parts c b shift d m (omega arith),
            turned-list (seg c (b + shift) d) (seg c b shift) (tops c b) d count (length-seg c (b + shift) d) t,
          )

      pub rotate-done : m + a ≤ 244 → (q : Slots) → Placed (turn (m - count) (m - (m - count) - shift) shift) p (m - count) m q → S.done (stacks_in q m a) ≡ rotate_items count shift (stacks_in p m a)
      rotate-done r q w =
          let b : ℕ = m - count in
          let d : m - b - shift ≡ count - shift = omega arith in
          let e : m ≡ b + (shift + (count - shift)) = omega arith in
          let v : Placed (turn b (count - shift) shift) p b (b + (shift + (count - shift))) q = rw (← e, ← d) w in
          main-is p q b (shift + (count - shift)) a _ (wrote-turned p b (count - shift) q shift v) m e r _ rotate-is

  -- TUCK and NIP

  module _ (limit : ℕ) where
    pub tuck-short : m < 1 → tuck_top limit (stacks_in p m a) ≡ S.refused (main_dry 1 m)
    unfolding tuck_top stacks_in
    tuck-short h = rw (length-tops, lt-leb 1 m h)

    pub tuck-one : 1 ≤ m → m < 2 → tuck_top limit (stacks_in p m a) ≡ S.refused (main_dry 2 m)
    unfolding tuck_top stacks_in
    tuck-one g h = rw (length-tops, le-leb 1 m g, lt-leb 2 m h)

    module _ (g : 2 ≤ m) where
      pub tuck-full : limit < m + a + 1 → tuck_top limit (stacks_in p m a) ≡ S.refused (stacks_full (m + a + 1) limit)
      unfolding tuck_top stacks_in
      tuck-full h = rw (length-tops, length-tops, le-leb 1 m (omega arith), le-leb 2 m g, lt-leb (m + a + 1) limit h)

      module _ (h : m + a + 1 ≤ limit) where
        tuck-is : tuck_top limit (stacks_in p m a) ≡ changed p (cells p (m - 2 + 1) ∷ cells p (m - 2) ∷ cells p (m - 2 + 1) ∷ tops (cells p) (m - 2)) a
        unfolding tuck_top stacks_in
        tuck-is = rw (length-tops, length-tops, le-leb 1 m (omega arith), le-leb 2 m g, le-leb (m + a + 1) limit h, two (cells p) m g)

        -- the top copied, and then the two below the copy put on top of it
        pub tuck-done : limit ≤ 244 → (q r : Slots) → Placed (apart (m - 1) m) p m (m + 1) q → Placed (turn (m - 2) (m + 1 - (m - 2) - 2) 2) q (m - 2) (m + 1) r
            → S.done (stacks_in r (m + 1) a) ≡ tuck_top limit (stacks_in p m a)
        tuck-done t q r v w =
            let b : ℕ = m - 2 in
            let l : List Item = cells p (b + 1) ∷ cells p b ∷ cells p (b + 1) ∷ [] in
            let e₁ : m + 1 - b - 2 ≡ 1 = omega arith in
            let e₂ : m + 1 ≡ b + (2 + 1) = omega arith in
            let e₃ : m ≡ b + 2 = omega arith in
            let e₄ : m - 1 ≡ b + 1 = omega arith in
            let x : Placed (turn b 1 2) q b (b + (2 + 1)) r = rw (← e₁, ← e₂) w in
            let o = wrote-turned q b 1 r 2 x in
            let y : cells q (b + 2) ≡ cells p (b + 1) = rw (← e₃, ← e₄) (placed_one p (m - 1) m q v) in
            let e : (seg (cells q) b 2 ++ seg (cells q) (b + 2) 1) ++ tops (cells q) b ≡ l ++ tops (cells p) b =
            rw (
              add-zero b,
              add-zero (b + 2),
              v.below (b + 1) (omega arith),
              v.below b (omega arith),
              y,
              tops-ext (cells q) (cells p) b (λ j lt. v.below j (omega arith)),
            ) in
            main-is p r b 3 a l (record {
              main = o.main ∙ e;
              below = λ j lt. o.below j lt ∙ v.below j (omega arith);
              above = λ j k. o.above j k ∙ v.above j (omega arith);
            }) (m + 1) (omega arith) (omega arith) _ tuck-is

  pub nip-short : m < 2 → nip_second (stacks_in p m a) ≡ S.refused (main_dry 2 m)
  unfolding nip_second stacks_in
  nip-short h = rw (length-tops, lt-leb 2 m h)

  module _ (g : 2 ≤ m) where
    nip-is : nip_second (stacks_in p m a) ≡ changed p (cells p (m - 2 + 1) ∷ tops (cells p) (m - 2)) a
    unfolding nip_second stacks_in
    nip-is = rw (length-tops, le-leb 2 m g, two (cells p) m g)

    pub nip-done : m + a ≤ 244 → (q : Slots) → Placed (apart (m - 1) (m - 1 - 1)) p (m - 1 - 1) (m - 1 - 1 + 1) q → S.done (stacks_in q (m - 1) a) ≡ nip_second (stacks_in p m a)
    nip-done r q w =
        let e₁ : m - 1 - 1 ≡ m - 2 = omega arith in
        let e₂ : m - 1 ≡ m - 2 + 1 = omega arith in
        main-is p q (m - 2) 1 a _ (wrote-copies p (m - 2) 1 q (m - 2 + 1) (rw (e₁, e₂) at w)) (m - 1) (omega arith) (omega arith) _ (nip-is ∙ rw add-zero)

-- A plain class: a push, after the drop

module _ (t : S.Stacks Item) (limit d k : ℕ) (g : d ≡ k) where
  pub effect-short : (pushes : ℕ) (f : Refusal) → drop_items d t ≡ S.refused (refusal_of f) → plain_step marking limit k pushes t ≡ S.refused (refusal_of f)
  unfolding plain_step
  effect-short pushes f e = rw (← g, e)

  module _ (u : S.Stacks Item) (e : drop_items d t ≡ S.done u) where
    pub effect-none : (pushes : ℕ) → pushes ≡ 0 → plain_step marking limit k pushes t ≡ S.done u
    unfolding plain_step
    effect-none pushes z = rw (z, ← g, e)

    pub effect-one : (pushes : ℕ) → (pushes ≡ 0 → ⊥) → plain_step marking limit k pushes t ≡ push_item limit unknown u
    unfolding plain_step
    effect-one zero n = absurd (n refl)
    effect-one (suc j) n = rw (← g, e)

  pub effect-full : (p : Slots) (m a : ℕ) → drop_items d t ≡ S.done (stacks_in p m a) → (pushes : ℕ) → (pushes ≡ 0 → ⊥) → limit < m + a + 1
      → plain_step marking limit k pushes t ≡ S.refused (stacks_full (m + a + 1) limit)
  effect-full p m a e pushes n h = effect-one (stacks_in p m a) e pushes n ∙ push-full p m a limit unknown h

-- for `try_tuck` and `try_apply_effect`
pub ruleset tucks = (tuck-short, tuck-one)

pub ruleset effects = (effect-short, effect-none, effect-one, effect-full)
