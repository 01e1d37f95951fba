-- The struct and the stacks that it stands for: each is made of the other.
use mathlib.Core.Bool.{Bool, true, false}
use mathlib.Core.Path.{◌≡◌, refl, sym, ap, ap₂, ◌∙◌}
use mathlib.Core.List.{List, [], ◌∷◌, ◌++◌, map, reverse, reverse_aux, reverse-reverse}
use Prim.Native.Nat.{ℕ, zero, suc, ◌+◌, ◌-◌, ◌≤◌, ◌<◌}
use native.Mathlib.Nat.{zero-add}
use native.Mathlib.Omega.{arith}
use borrow.Author.Tests.{lt-ltb, le-ltb, ltb-true, ltb-false}
use lib.Dec.{ltb}
use lib.ListN.{length, get_or, replicate, length-append, length-reverse, length-map, length-replicate, get_or-replicate, get_or-append, get_or-map, get_or-eq_default}
use lib.Seq.{take_all, take_at, drop_at, get_or-append-add}
use Rattle.definition.specs.Replay.{AreBytes}
use Rattle.definition.specs.Stacks.{Stacks, total}
use Rattle.definition.specs.Walk.{Item, unknown, exact}
use Rattle.decode.specs.View.{item_of, value_of, Held}
use Rattle.decode.specs.declared.Value.{Value}
use Rattle.decode.specs.declared.Value.TheVariants.{Unknown}
use Rattle.decode.proofs.Bytes.{low-number, number-below}
use Rattle.decode.proofs.Values.{value-of-item}
use Rattle.ends.specs.View.{items_of, value_at, span, end_stacks_of, packed_end}
use Rattle.ends.specs.declared.EndStacks.{EndStacks}
use Rattle.ends.proofs.Spans.{span_ext, span-add, length-span, get_d-span, span-part, list-is}

-- What `item` reads

module _ (e : EndStacks) where
  -- its stacks are these where its items are
  stacks-are : (l m : List Item) → span (λ j. item_of (value_at e j)) 0 e.main ≡ reverse l → span (λ j. item_of (value_at e j)) e.main e.alt ≡ reverse m
      → end_stacks_of e ≡ record { main = l; alt = m }
  unfolding end_stacks_of
  stacks-are l m p q = rw (p, q, reverse-reverse l, reverse-reverse m)

  items-are : items_of (end_stacks_of e) ≡ span (λ j. item_of (value_at e j)) 0 (e.main + e.alt)
  unfolding end_stacks_of
  items-are = simp reverse-reverse (sym (span-add (λ j. item_of (value_at e j)) 0 e.main e.alt ∙ rw zero-add))

  module _ (k : ℕ) where
    pub nothing : e.main + e.alt ≤ k → Unknown ≡ value_at e k
    unfolding value_at
    nothing h = rw (le-ltb k (e.main + e.alt) h)

    module _ (h : k < e.main + e.alt) where
      pub nowhere : 244 ≤ k → Unknown ≡ value_at e k
      unfolding value_at
      nowhere g = rw (lt-ltb k (e.main + e.alt) h, le-ltb k 244 g)

      pub there : k < 244 → get_or e.items k Unknown ≡ value_at e k
      unfolding value_at
      there g = rw (lt-ltb k (e.main + e.alt) h, lt-ltb k 244 g)

    shown : item_of (value_at e k) ≡ get_or (items_of (end_stacks_of e)) k unknown
    shown = rw items-are (by (ltb k (e.main + e.alt)) refl)
      where
        by : (b : Bool) → ltb k (e.main + e.alt) ≡ b → item_of (value_at e k) ≡ get_or (span (λ j. item_of (value_at e j)) 0 (e.main + e.alt)) k unknown
        by true t = sym (get_d-span (λ j. item_of (value_at e j)) unknown 0 (e.main + e.alt) k (ltb-true k (e.main + e.alt) t) ∙ rw zero-add)
        by false t =
            let g : e.main + e.alt ≤ k = ltb-false k (e.main + e.alt) t in
            ap item_of (sym (nothing g)) ∙ sym (get_or-eq_default (span (λ j. item_of (value_at e j)) 0 (e.main + e.alt)) unknown (rw length-span g))

    pub shows : (v : Value) → v ≡ value_at e k → item_of v ≡ get_or (items_of (end_stacks_of e)) k unknown
    shows v h = ap item_of h ∙ shown

    pub shows_unknown : Unknown ≡ value_at e k → unknown ≡ get_or (items_of (end_stacks_of e)) k unknown
    shows_unknown = shows Unknown

-- Items as values

-- an item that a place can hold: unknown, or at most 8 bytes
abbrev pub HeldItem : Item → Type 0
HeldItem unknown = Unit {0}
HeldItem (exact l) = (length l ≤ 8) × AreBytes l

-- each item of a stack
abbrev pub Helds : List Item → Type 0
Helds [] = Unit {0}
Helds (x ∷ l) = HeldItem x × Helds l

-- stacks that the struct can hold
pub record HeldStacks (s : Stacks Item) : Type 0 where
  pub room : total s ≤ 244
  pub main : Helds s.main
  pub alt : Helds s.alt

-- an item from its value
item_back : (x : Item) → HeldItem x → item_of (value_of x) ≡ x
item_back unknown h = refl
item_back (exact l) h = ap exact (low-number l h.1)

-- From stacks to the struct and back

helds-append : (l m : List Item) → Helds l → Helds m → Helds (l ++ m)
helds-append [] m h g = g
helds-append (x ∷ l) m h g = (h.0, helds-append l m h.1 g)

helds-onto : (l m : List Item) → Helds l → Helds m → Helds (reverse_aux l m)
helds-onto [] m h g = g
helds-onto (x ∷ l) m h g = helds-onto l (x ∷ m) h.1 (h.0, g)

held_at : (l : List Item) → Helds l → (k : ℕ) → HeldItem (get_or l k unknown)
held_at [] h k = tt
held_at (x ∷ l) h zero = h.0
held_at (x ∷ l) h (suc k) = held_at l h.1 k

module _ (s : Stacks Item) where
  pub items-length : length (items_of s) ≡ total s
  items-length = simp (length-append, length-reverse)

  pub packed-main : (packed_end s).main ≡ length s.main
  unfolding packed_end
  packed-main = refl

  pub packed-alt : (packed_end s).alt ≡ length s.alt
  unfolding packed_end
  packed-alt = refl

  -- item k, from 0
  abbrev pub item_at : ℕ → Item
  item_at k = get_or (items_of s) k unknown

  pub packed-item : (k : ℕ) → k < total s → get_or (packed_end s).items k Unknown ≡ value_of (item_at k)
  unfolding packed_end
  packed-item k h =
      get_or-append (map value_of (items_of s)) (replicate (244 - total s) Unknown) Unknown k (rw (length-map (items_of s) value_of, items-length) h)
      ∙ get_or-map value_of (items_of s) k unknown

  module _ (h : HeldStacks s) where
    items-held : Helds (items_of s)
    items-held = helds-append (reverse s.main) (reverse s.alt) (helds-onto s.main [] h.main tt) (helds-onto s.alt [] h.alt tt)

    packed-at : (k : ℕ) → k < total s → item_of (value_at (packed_end s) k) ≡ item_at k
    packed-at k l = ap item_of (sym (there (packed_end s) k (rw (packed-main, packed-alt) l) (omega (arith, h.room))) ∙ packed-item k l) ∙ item_back (item_at k) (held_at (items_of s) items-held k)

    -- the struct stands for the stacks that it was made of
    pub of-packed : end_stacks_of (packed_end s) ≡ s
    unfolding end_stacks_of
    of-packed =
        let f : ℕ → Item = λ k. item_of (value_at (packed_end s) k) in
        let m : ℕ = length s.main in
        let a : ℕ = length s.alt in
        let lo : span f 0 m ≡ reverse s.main =
        span_ext f item_at 0 m (λ k p q. packed-at k (omega arith)) ∙ span-part (items_of s) unknown 0 m (omega (arith, items-length))
        ∙ take_at (reverse s.main) (reverse s.alt) m (length-reverse s.main) in
        let hi : span f m a ≡ reverse s.alt =
        span_ext f item_at m a (λ k p q. packed-at k (omega arith)) ∙ span-part (items_of s) unknown m a (omega (arith, items-length))
        ∙ rw (drop_at (reverse s.main) (reverse s.alt) m (length-reverse s.main)) (take_all a (reverse s.alt) (omega (arith, length-reverse s.alt))) in
        stacks-are (packed_end s) s.main s.alt (ap (span f 0) packed-main ∙ lo) (ap₂ (λ x y. span f x y) packed-main packed-alt ∙ hi)

-- From the struct to stacks and back

-- a struct in its one form
pub record OneForm (e : EndStacks) : Type 0 where
  pub whole : length e.items ≡ 244
  pub room : e.main + e.alt ≤ 244
  pub used : (k : ℕ) → k < e.main + e.alt → Held (get_or e.items k Unknown)
  pub unused : (k : ℕ) → e.main + e.alt ≤ k → k < 244 → get_or e.items k Unknown ≡ Unknown

module _ (e : EndStacks) (o : OneForm e) where
  main-height : length (end_stacks_of e).main ≡ e.main
  unfolding end_stacks_of
  main-height = simp (length-reverse, length-span)

  alt-height : length (end_stacks_of e).alt ≡ e.alt
  unfolding end_stacks_of
  alt-height = simp (length-reverse, length-span)

  -- the struct is the one that its stacks make
  pub packed-of : packed_end (end_stacks_of e) ≡ e
  unfolding packed_end
  packed-of =
      let f : ℕ → Item = λ k. item_of (value_at e k) in
      let n : ℕ = e.main + e.alt in
      rw (
        main-height,
        alt-height,
        items-are e,
        list-is value_of f e.items n Unknown o.room o.whole (λ k l. sym (ap (λ v. value_of (item_of v)) (sym (there e k l (omega (arith, o.room)))) ∙ value-of-item _ (o.used k l))) o.unused,
      )

-- stacks that it can hold make it in its one form
held-value : (x : Item) → HeldItem x → Held (value_of x)
held-value unknown h = tt
held-value (exact l) h = (h.0, number-below l h.1)

pub one_form : (s : Stacks Item) → HeldStacks s → OneForm (packed_end s)
unfolding packed_end
one_form s h =
    let t : (packed_end s).main + (packed_end s).alt ≡ total s = rw (packed-main s, packed-alt s) in
    record {
      whole = simp (length-append, length-map, length-replicate, length-reverse) (omega (arith, h.room));
      room = omega (arith, t, h.room);
      used = λ k l. rw (packed-item s k (omega (arith, t))) (held-value (item_at s k) (held_at (items_of s) (items-held s h) k));
      unused = λ k g l. rest k (omega (arith, t)) l;
    }
  where
    rest : (k : ℕ) → total s ≤ k → k < 244 → get_or (map value_of (items_of s) ++ replicate (244 - total s) Unknown) k Unknown ≡ Unknown
    rest k g l =
        let n : length (map value_of (items_of s)) ≡ total s = length-map (items_of s) value_of ∙ items-length s in
        let e : length (map value_of (items_of s)) + (k - total s) ≡ k = omega (arith, n) in
        rw e at (get_or-append-add (map value_of (items_of s)) (replicate (244 - total s) Unknown) (k - total s) Unknown) ∙ get_or-replicate (244 - total s) (k - total s) Unknown Unknown (omega arith)

-- for `item`
pub ruleset reads = (nothing, nowhere, there, shows, shows_unknown)
