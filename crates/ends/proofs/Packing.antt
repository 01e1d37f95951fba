-- The end stacks: the items of slots as numbers, in the form that a caller reads.
use mathlib.Core.Path.{◌≡◌, refl, sym, ap, subst⁻¹, ◌∙◌}
use mathlib.Core.List.{List, reverse, reverse-cons}
use Prim.Native.Nat.{ℕ, zero, suc, ◌+◌, ◌-◌, ◌≤◌, ◌<◌}
use native.Mathlib.Nat.{add-zero, add-suc, suc-add, zero-add}
use native.Mathlib.Numerals.{add-one}
use native.Mathlib.Omega.{arith}
use borrow.Author.Tests.{lt-ltb, le-ltb}
use lib.ListN.{length, set, replicate, get_or-replicate}
use Rattle.definition.specs.Stacks as S
use Rattle.definition.specs.Walk.{Item}
use Rattle.decode.proofs.Bytes.{length-low, bytes_low}
use Rattle.decode.specs.View.{item_of, value_of, Held}
use Rattle.decode.specs.declared.Value.{Value}
use Rattle.decode.specs.declared.Value.TheVariants.{Unknown}
use Rattle.decode.proofs.Values.{value-of-item}
use lib.ListN.{get_or, length-set}
use lib.Seq.{get_or-set_same, get_or-set_other}
use Rattle.ends.specs.View.{items_of, span, end_stacks_of, packed_end}
use Rattle.ends.proofs.Spans.{span_ext, span-add, list-is}
use Rattle.ends.proofs.Ends.{HeldItem, Helds, HeldStacks, of-packed}
use Rattle.slots.specs.View.{Slots, slot_item, cells, backs, tops, Canon}
use Rattle.slots.proofs.Codes.{either, either-le, by_code, item-low, item-high, item-none}
use Rattle.slots.proofs.Laws.{length-tops}
use Rattle.stack.specs.View.{slots_of, stacks_in, view}
use Rattle.ends.specs.Parts.{end_slot}
use Rattle.stack.specs.declared.Stacks.{Stacks}

-- The slot of item k of all

module _ (mains k : ℕ) where
  pub slot-main : k < mains → k ≡ end_slot mains k
  unfolding end_slot
  slot-main h = rw (lt-ltb k mains h)

  pub slot-alt : mains ≤ k → 243 - (k - mains) ≡ end_slot mains k
  unfolding end_slot
  slot-alt h = rw (le-ltb k mains h)

  pub slot-within : k < 244 → end_slot mains k < 244
  slot-within h = either-le mains k (end_slot mains k < 244) (λ g. omega (arith, slot-alt g)) (λ g. omega (arith, slot-main g))

-- The loop

module _ (p : Slots) (mains : ℕ) where
  -- item k of all
  abbrev pub end_item : ℕ → Item
  end_item k = cells p (end_slot mains k)

  -- the first k items stand as values in the array, whose other places are unknown
  pub record Ending (k : ℕ) (items : List Value) : Type 0 where
    pub whole : length items ≡ 244
    pub used : (j : ℕ) → j < k → get_or items j Unknown ≡ value_of (end_item j)
    pub unused : (j : ℕ) → k ≤ j → j < 244 → get_or items j Unknown ≡ Unknown

  pub ending-none : Ending 0 (replicate 244 Unknown)
  ending-none = record { whole = refl; used = λ j h. absurd (omega arith); unused = λ j g h. get_or-replicate 244 j Unknown Unknown h }

  pub ending-more : (k : ℕ) (items : List Value) → Ending k items → k < 244 → (v : Value) → Held v → item_of v ≡ end_item k → Ending (k + 1) (set items k v)
  ending-more k items e h v g m = record {
    whole = length-set items k v ∙ e.whole;
    used = λ j l. either j k (get_or (set items k v) j Unknown ≡ value_of (end_item j))
        (λ n. rw n (get_or-set_same items k v Unknown (omega (arith, e.whole)) ∙ sym (value-of-item v g) ∙ ap value_of m))
        (λ n. get_or-set_other items k j v Unknown n ∙ e.used j (omega (arith, n)));
    unused = λ j l m. get_or-set_other items k j v Unknown (λ n. omega arith) ∙ e.unused j (omega arith) m;
  }

-- Items at successive places

tops-span : {A : Type 0} (f : ℕ → A) (n : ℕ) → reverse (tops f n) ≡ span f 0 n
tops-span f zero = refl
tops-span f (suc n) = reverse-cons (f n) (tops f n) ∙ rw (tops-span f n) (sym (ap (span f 0) (sym (add-one n)) ∙ span-add f 0 n 1 ∙ rw zero-add))

span-moved : {A : Type 0} (f g : ℕ → A) (a b n : ℕ) → ((j : ℕ) → j < n → f (a + j) ≡ g (b + j)) → span f a n ≡ span g b n
span-moved f g a b zero h = refl
span-moved f g a b (suc n) h =
    let e : f a ≡ g b = simp add-zero at (h 0 (omega arith)) in
    rw (e, span-moved f g (suc a) (suc b) n (λ j l. rw (suc-add a j, suc-add b j, ← add-suc a j, ← add-suc b j) (h (suc j) (omega arith))))

-- Heights

module _ (s : Stacks) where
  pub main-length : length (view s).main ≡ s.mains
  unfolding stacks_in
  main-length = length-tops (cells (slots_of s)) s.mains

  pub alt-length : length (view s).alt ≡ s.alts
  unfolding stacks_in
  alt-length = length-tops (backs (slots_of s)) s.alts

  total-is : S.total (view s) ≡ s.mains + s.alts
  total-is = rw (main-length, alt-length)

-- From bottom to top

module _ (s : Stacks) where
  items-are : items_of (view s) ≡ span (end_item (slots_of s) s.mains) 0 (s.mains + s.alts)
  unfolding stacks_in
  items-are =
      let c : ℕ → Item = end_item (slots_of s) s.mains in
      let lo : span (cells (slots_of s)) 0 s.mains ≡ span c 0 s.mains = span_ext (cells (slots_of s)) c 0 s.mains (λ k g h. ap (cells (slots_of s)) (slot-main s.mains k (omega arith))) in
      let hi : span (backs (slots_of s)) 0 s.alts ≡ span c s.mains s.alts = span-moved (backs (slots_of s)) c 0 s.mains s.alts
      (λ j h. ap (cells (slots_of s)) (omega (arith, slot-alt s.mains (s.mains + j) (omega arith)))) in
      rw (tops-span (cells (slots_of s)) s.mains, tops-span (backs (slots_of s)) s.alts, lo, hi) (sym (span-add c 0 s.mains s.alts ∙ rw zero-add))

  pub ends-are : (k : ℕ) (items : List Value) → Ending (slots_of s) s.mains k items → k ≡ s.mains + s.alts → record { main = s.mains; alt = s.alts; items = items } ≡ packed_end (view s)
  unfolding packed_end
  ends-are k items e n =
      let c : ℕ → Item = end_item (slots_of s) s.mains in
      rw (main-length s, alt-length s, items-are, ← n, list-is value_of c items k Unknown (omega (arith, s.room)) e.whole e.used e.unused)

-- Every item of stacks can be held

item-held : (code n : ℕ) → Canon code n → HeldItem (slot_item code n)
item-held code n c = by_code code n (HeldItem (slot_item code n))
    (λ h. subst⁻¹ HeldItem (item-low code n h) (rw (length-low code n) h, bytes_low code n))
    (λ e. subst⁻¹ HeldItem (item-none code n e) tt)
    (λ h. subst⁻¹ HeldItem (item-high code n h) (omega arith, (omega (arith, c.byte), tt)))

helds-tops : (f : ℕ → Item) → ((j : ℕ) → HeldItem (f j)) → (n : ℕ) → Helds (tops f n)
helds-tops f h zero = tt
helds-tops f h (suc n) = (h n, helds-tops f h n)

module _ (s : Stacks) where
  held-view : HeldStacks (view s)
  unfolding stacks_in
  held-view =
      let c : (j : ℕ) → HeldItem (cells (slots_of s) j) = λ j. item-held _ _ (s.sound.canon j) in
      record {
        room = rw (total-is s) s.room;
        main = helds-tops (cells (slots_of s)) c s.mains;
        alt = helds-tops (backs (slots_of s)) (λ j. c (243 - j)) s.alts;
      }

  -- so the struct stands for the stacks
  pub ends-back : end_stacks_of (packed_end (view s)) ≡ view s
  ends-back = of-packed (view s) held-view
