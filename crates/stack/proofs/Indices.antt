-- PICK, ROLL, DEPTH, SIZE and ZK, by their definitions.
use mathlib.Core.Path.{◌≡◌, refl, sym, ap, ◌∙◌}
use mathlib.Core.Option.{some}
use Prim.Native.Nat.{ℕ, zero, suc, ◌+◌, ◌-◌, ◌%◌, ◌^◌, ◌≤◌, ◌<◌}
use native.Mathlib.Omega.{arith}
use borrow.Author.Tests.{le-leb, lt-leb, ne_eqb}
use lib.ListN.{get_or}
use Rattle.std.specs.Prelude.{Result, Ok, Err}
use Rattle.definition.specs.Classes.{DEPTH, SIZE, PICK, ZK}
use Rattle.definition.specs.Decoding.{Instruction, serialize, plus}
use Rattle.definition.specs.Refusals.{main_dry, bad_tag}
use Rattle.definition.specs.Stacks as S
use Rattle.definition.specs.Stacks.{push_item, copy_items, pop_index, size_item, zk_drop, zk_by, tag_of, no_tag, groth16, r0_succinct, step, drop_items}
use Rattle.definition.specs.Walk.{Item, unknown, known, bytes_known, marking}
use Rattle.refusals.specs.View.{refusal_of}
use Rattle.refusals.specs.declared.Refusal.{Refusal}
use Rattle.decode.specs.View.{low_bytes, item_of, value_of, Held}
use Rattle.decode.specs.declared.Value.{Value}
use Rattle.decode.proofs.Bytes.{length-low}
use Rattle.number_form.proofs.Numbers.{held_number, item-of-number}
use Rattle.slots.specs.View.{Slots, slot_item, cells, Canon}
use Rattle.slots.specs.Parts.{code_length}
use Rattle.slots.proofs.Codes.{either, by_code, item-low, item-high}
use Rattle.slots.proofs.Laws.{length-tops}
use Rattle.stack.specs.View.{stacks_in}
use Rattle.stack.specs.Parts.{PopsIn, Sizes}
use Rattle.stack.proofs.Pops.{pop-short, pop-is, on-at, on-refused}

-- PICK

module _ (R : S.Rules) (i : Instruction) (p : Slots) (m a : ℕ) (c : Result ℕ Refusal) (k : PopsIn p m a c) where
  pub pick-at : (n : ℕ) → c ≡ Ok n → (limit : ℕ) → R.limit ≡ limit → step marking R i PICK (stacks_in p m a) ≡ copy_items limit (n + 1) 1 (stacks_in p (m - 1) a)
  unfolding step
  pick-at n e limit g = on-at p m a c k n e (λ n t. copy_items R.limit (n + 1) 1 t) ∙ rw g

  pub pick-refused : (f : Refusal) → c ≡ Err f → step marking R i PICK (stacks_in p m a) ≡ S.refused (refusal_of f)
  unfolding step
  pick-refused f e = on-refused p m a c k f e (λ n t. copy_items R.limit (n + 1) 1 t)

-- DEPTH and SIZE

-- the length of the item in a slot
sized : (code n len : ℕ) → (code ≡ 9 → ⊥) → len ≡ code_length code → size_item marking (bytes_known (slot_item code n)) ≡ known (serialize (plus len))
unfolding code_length
sized code n len g e = by_code code n (size_item marking (bytes_known (slot_item code n)) ≡ known (serialize (plus len)))
    (λ h. rw (item-low code n h, length-low, e, le-leb code 8 h))
    (λ h. absurd (g h))
    (λ h. rw (item-high code n h, e, lt-leb code 8 (omega arith)))

-- the value that SIZE pushes is held, and stands for what the definition pushes
module _ (code n : ℕ) where
  size-unknown : code ≡ 9 → size_item marking (bytes_known (slot_item code n)) ≡ unknown
  size-unknown e = rw e

  pub size-value : (len : ℕ) (v : Value) → (code ≡ 9 → ⊥) → len ≡ code_length code → v ≡ value_of (known (serialize (plus len))) → v ≡ value_of (size_item marking (bytes_known (slot_item code n)))
  size-value len v g e h = h ∙ ap value_of (sym (sized code n len g e))

  size_is : (Held (value_of (size_item marking (bytes_known (slot_item code n))))) × (item_of (value_of (size_item marking (bytes_known (slot_item code n)))) ≡ size_item marking (bytes_known (slot_item code n)))
  size_is = either code 9 _
      (λ e. rw (size-unknown e) (tt, refl))
      (λ g. rw (sized code n (code_length code) g refl) (held_number (code_length code), item-of-number (code_length code)))

pub size-held : (code : ℕ) (v : Value) → Sizes code v → Held v
size-held code v k = rw (k 0) (size_is code 0).0

module _ (R : S.Rules) (i : Instruction) (limit : ℕ) (g : R.limit ≡ limit) (p : Slots) (m a : ℕ) where
  pub depth-is : (v : Value) (n : ℕ) → v ≡ value_of (known (serialize (plus n))) → n ≡ m → step marking R i DEPTH (stacks_in p m a) ≡ push_item limit (item_of v) (stacks_in p m a)
  unfolding step stacks_in
  depth-is v n e k = rw (e, item-of-number n, length-tops, g, k)

  pub size-short : m < 1 → step marking R i SIZE (stacks_in p m a) ≡ S.refused (main_dry 1 m)
  unfolding step
  size-short h = pop-short p m a h _

  pub size-is : 1 ≤ m → (v : Value) → Sizes (get_or p.codes (m - 1) 0) v → step marking R i SIZE (stacks_in p m a) ≡ push_item limit (item_of v) (stacks_in p m a)
  unfolding step
  size-is h v k = pop-is p m a h _ ∙ rw (k (get_or p.bytes (m - 1) 0), (size_is (get_or p.codes (m - 1) 0) (get_or p.bytes (m - 1) 0)).1, g)

pub number-held : (v : Value) (n : ℕ) → v ≡ value_of (known (serialize (plus n))) → Held v
number-held v n e = rw e (held_number n)

-- ZK

module _ (limit n : ℕ) (t u : S.Stacks Item) where
  pub zk-drop-done : drop_items n t ≡ S.done u → zk_drop marking limit n t ≡ push_item limit (slot_item 11 0) u
  unfolding serialize
  zk-drop-done e = rw e

-- the tag in a slot
tag-other : (code n : ℕ) → Canon code n → (code ≡ 0x2b → ⊥) → (code ≡ 0x2a → ⊥) → tag_of (bytes_known (slot_item code n)) ≡ no_tag
tag-other code n c g h = by_code code n (tag_of (bytes_known (slot_item code n)) ≡ no_tag)
    (λ k. ap (λ x. tag_of (bytes_known x)) (item-low code n k) ∙ low code c.held c.large k)
    (λ k. rw k)
    (λ k. ap (λ x. tag_of (bytes_known x)) (item-high code n k) ∙ rw (ne_eqb (code - 10) 0x20 (λ e. h (omega arith)), ne_eqb (code - 10) 0x21 (λ e. g (omega arith))))
  where
    low : (l : ℕ) → (1 ≤ l → l ≤ 8 → n < 256 ^ l) → (l ≡ 1 → 246 ≤ n) → l ≤ 8 → tag_of (some (low_bytes l n)) ≡ no_tag
    low zero b m k = refl
    low (suc zero) b m k =
        let d : n < 256 ^ 1 = b (omega arith) k in
        let w : 246 ≤ n = m refl in
        let e : n % 256 ≡ n = omega arith in
        rw (e, ne_eqb n 0x20 (λ e. omega arith), ne_eqb n 0x21 (λ e. omega arith))
    low (suc (suc l)) b m k = refl

module _ (R : S.Rules) (i : Instruction) (limit : ℕ) (y : R.limit ≡ limit) (p : Slots) (m a : ℕ) where
  pub zk-dry : m < 1 → step marking R i ZK (stacks_in p m a) ≡ S.refused (main_dry 1 m)
  unfolding step
  zk-dry h = pop-short p m a h _

  module _ (h : 1 ≤ m) where
    abbrev code : ℕ
    code = get_or p.codes (m - 1) 0

    by-tag : (t : S.Tag) → tag_of (bytes_known (cells p (m - 1))) ≡ t → step marking R i ZK (stacks_in p m a) ≡ zk_by marking limit t (stacks_in p (m - 1) a)
    unfolding step
    by-tag t e = pop-is p m a h _ ∙ rw (e, y)

    pub zk-other : Canon code (get_or p.bytes (m - 1) 0) → (code ≡ 0x2b → ⊥) → (code ≡ 0x2a → ⊥) → step marking R i ZK (stacks_in p m a) ≡ S.refused bad_tag
    zk-other c g k = by-tag no_tag (tag-other code (get_or p.bytes (m - 1) 0) c g k)

    pub zk-r0 : code ≡ 0x2b → step marking R i ZK (stacks_in p m a) ≡ zk_drop marking limit 8 (stacks_in p (m - 1) a)
    zk-r0 g = by-tag r0_succinct (rw g)

    module _ (g : code ≡ 0x2a) where
      pub zk-short : m < 3 → step marking R i ZK (stacks_in p m a) ≡ S.refused (main_dry 1 0)
      zk-short k = by-tag groth16 (rw g) ∙ either m 1 (zk_by marking limit groth16 (stacks_in p (m - 1) a) ≡ S.refused (main_dry 1 0))
          (λ e. let z : m - 1 ≡ 0 = omega arith in pop-short p (m - 1) a (omega arith) _ ∙ rw z)
          (λ n. let z : m - 1 - 1 ≡ 0 = omega arith in pop-is p (m - 1) a (omega (arith, n)) _ ∙ pop-short p (m - 1 - 1) a (omega arith) _ ∙ rw z)

      module _ (k : 3 ≤ m) where
        counts : step marking R i ZK (stacks_in p m a) ≡ pop_index marking (stacks_in p (m - 3) a) (zk_drop marking limit)
        counts =
            let e : m - 1 - 1 - 1 ≡ m - 3 = omega arith in
            by-tag groth16 (rw g) ∙ pop-is p (m - 1) a (omega arith) _ ∙ pop-is p (m - 1 - 1) a (omega arith) _ ∙ rw e

        module _ (c : Result ℕ Refusal) (o : PopsIn p (m - 3) a c) where
          pub zk-at : (n : ℕ) → c ≡ Ok n → step marking R i ZK (stacks_in p m a) ≡ zk_drop marking limit n (stacks_in p (m - 3 - 1) a)
          zk-at n q = counts ∙ on-at p (m - 3) a c o n q (zk_drop marking limit)

          pub zk-refused : (f : Refusal) → c ≡ Err f → step marking R i ZK (stacks_in p m a) ≡ S.refused (refusal_of f)
          zk-refused f q = counts ∙ on-refused p (m - 3) a c o f q (zk_drop marking limit)
