-- Items popped one by one: indices, counts and tags.
use mathlib.Core.Path.{◌≡◌, refl, sym, ◌∙◌}
use mathlib.Core.Bool.{Bool, true, false, ◌&&◌}
use mathlib.Core.List.{[], ◌∷◌}
use mathlib.Core.Option.{none, some}
use Prim.Native.Nat.{ℕ, ◌+◌, ◌-◌, ◌*◌, ◌^◌, ◌≤◌, ◌<◌}
use native.Mathlib.Nat.{add-zero, pow-succ', pow-le-pow_right}
use native.Mathlib.Omega.{arith}
use borrow.Author.Tests.{ltb-true}
use mir.Syntax.{w64}
use mir.Val.{Fits}
use lib.Dec.{leb, ltb}
use lib.ListN.{length, get_or}
use Rattle.std.specs.Prelude.{Result, Ok, Err}
use Rattle.definition.specs.Basics.{Bytes, pick}
use Rattle.definition.specs.Decoding.{number, last, minimal, value, deserialize, index_read, index_of}
use Rattle.definition.specs.Decoding as D
use Rattle.definition.specs.Refusals.{main_dry}
use Rattle.definition.specs.Stacks as S
use Rattle.definition.specs.Stacks.{pop, pop_index, readable}
use Rattle.definition.specs.Walk.{Item, bytes_known, marking}
use Rattle.definition.specs.Replay.{AreBytes}
use Rattle.refusals.specs.View.{refusal_of}
use Rattle.refusals.specs.declared.Refusal.{Refusal}
use Rattle.refusals.specs.declared.Refusal.TheVariants.{MainDry}
use Rattle.decode.specs.View.{low_bytes, item_of, Held}
use Rattle.number_form.specs.View.{indexed, index_refusal}
use Rattle.decode.specs.declared.Value.{Value}
use Rattle.decode.specs.declared.Value.TheVariants.{Unknown, Exact}
use Rattle.number_form.specs.declared.NoIndex.{NoIndex}
use Rattle.decode.proofs.Bytes.{bytes_low, length-low}
use Rattle.slots.specs.View.{Slots, cells}
use Rattle.slots.specs.Parts.{InSlot}
use Rattle.slots.proofs.Laws.{tops-seg}
use Rattle.stack.specs.View.{stacks_in}
use Rattle.stack.specs.Parts.{Small, counted, PopsIn}

-- Popping

module _ (p : Slots) (m a : ℕ) where
  pub pop-short : m < 1 → (next : Item → S.Stacks Item → S.Outcome Item) → pop (stacks_in p m a) next ≡ S.refused (main_dry 1 m)
  unfolding stacks_in
  pop-short h next = let e : m ≡ 0 = omega arith in rw e

  pub pop-is : 1 ≤ m → (next : Item → S.Stacks Item → S.Outcome Item) → pop (stacks_in p m a) next ≡ next (cells p (m - 1)) (stacks_in p (m - 1) a)
  unfolding stacks_in
  pop-is h next = rw (tops-seg (cells p) (m - 1) 1 m (omega arith), add-zero)

-- Indices

-- the sign's bit is clear: the number has one bit less than its bytes
below-sign : (b : ℕ) (l : Bytes) → AreBytes (b ∷ l) → last (b ∷ l) < 128 → 2 * number (b ∷ l) + 2 ≤ 256 ^ length (b ∷ l)
below-sign b [] h g = omega arith
below-sign b (c ∷ l) h g = rw pow-succ' (omega (arith, below-sign c l h.1 g))

below-2-63 : (l : Bytes) → AreBytes l → length l ≤ 8 → last l < 128 → number l < 2 ^ 63
below-2-63 [] h k g = omega arith
below-2-63 (b ∷ l) h k g =
    let m : 256 ^ length (b ∷ l) ≤ 256 ^ 8 = pow-le-pow_right (omega arith) k in
    omega (arith, below-sign b l h g)

index-small : (l : Bytes) → AreBytes l → (n : ℕ) → length l ≤ 8 → index_read (deserialize l) ≡ D.index n → n < 2 ^ 63
unfolding deserialize
index-small l h n k = by (leb (length l) 8 && minimal l)
  where
    read : (t : Bool) → ltb (last l) 128 ≡ t → index_read (some (pick t (D.plus (number l)) (D.minus (number l - 128 * 256 ^ (length l - 1))))) ≡ D.index n → n < 2 ^ 63
    read true e i =
        let g : n ≡ number l = cc in
        rw g (below-2-63 l h k (ltb-true (last l) 128 e))
    read false e i = absurd (let z : ◌≡◌ {A = ℕ} 0 1 = cc in omega arith)

    by : (t : Bool) → index_read (pick t (some (value l)) none) ≡ D.index n → n < 2 ^ 63
    by true i = read (ltb (last l) 128) refl i
    by false i = absurd (let z : ◌≡◌ {A = ℕ} 0 1 = cc in omega arith)

module _ (p : Slots) (m a : ℕ) where
  pub pop_index-short : m < 1 → (next : ℕ → S.Stacks Item → S.Outcome Item) → pop_index marking (stacks_in p m a) next ≡ S.refused (main_dry 1 m)
  pop_index-short h next = pop-short p m a h _

-- an index as `read_index` and the conversion of its refusals tell it
abbrev told : D.Index → Result ℕ Refusal
told x = by (indexed x)
  where
    by : Result ℕ NoIndex → Result ℕ Refusal
    by (Ok n) = Ok n
    by (Err why) = Err (index_refusal why)

module _ (p : Slots) (m a : ℕ) where
  pub pops-short : m < 1 → (f : Refusal) → f ≡ MainDry 1 m → (r : Result ℕ Refusal) → r ≡ Err f → PopsIn p m a r
  pops-short h f g r e = rw (e, g) (record { small = tt; same = pop_index-short p m a h })

  -- the value v is on top
  module _ (h : 1 ≤ m) (v : Value) (k : InSlot (get_or p.codes (m - 1) 0) (get_or p.bytes (m - 1) 0) v) where
    pops : PopsIn p m a (told (index_of (bytes_known (item_of v))))
    pops = record { small = small v k.held; same = λ next. pop-is p m a h _ ∙ rw (← k.item) (on (index_of (bytes_known (item_of v))) next) }
      where
        some-index : (x : D.Index) → ((n : ℕ) → x ≡ D.index n → n < 2 ^ 63) → Small m (told x)
        some-index D.not_known g = tt
        some-index D.no_number g = tt
        some-index D.negative g = tt
        some-index (D.index n) g = (g n refl, h)

        small : (w : Value) → Held w → Small m (told (index_of (bytes_known (item_of w))))
        small Unknown g = tt
        small (Exact len b) g = some-index _ (λ n x. index-small (low_bytes len b) (bytes_low len b) n (rw (length-low len b) g.0) x)

        on : (x : D.Index) (next : ℕ → S.Stacks Item → S.Outcome Item) → readable marking x (λ n. next n (stacks_in p (m - 1) a)) ≡ counted (told x) (stacks_in p (m - 1) a) next
        on D.not_known next = refl
        on D.no_number next = refl
        on D.negative next = refl
        on (D.index n) next = refl

    module _ (i : Result ℕ NoIndex) (e : i ≡ indexed (index_of (bytes_known (item_of v)))) where
      pub pops-at : (n : ℕ) → i ≡ Ok n → PopsIn p m a (Ok n)
      pops-at n g = by (index_of (bytes_known (item_of v))) (sym e ∙ g) pops
        where
          by : (x : D.Index) → indexed x ≡ Ok n → PopsIn p m a (told x) → PopsIn p m a (Ok n)
          by x z w = rw z at w

      pub pops-none : (why : NoIndex) → i ≡ Err why → (r : Result ℕ Refusal) → r ≡ Err (index_refusal why) → PopsIn p m a r
      pops-none why g r y = rw y (by (index_of (bytes_known (item_of v))) (sym e ∙ g) pops)
        where
          by : (x : D.Index) → indexed x ≡ Err why → PopsIn p m a (told x) → PopsIn p m a (Err (index_refusal why))
          by x z w = rw z at w

-- on from a popped index
module _ (p : Slots) (m a : ℕ) (c : Result ℕ Refusal) (k : PopsIn p m a c) where
  module _ (n : ℕ) (e : c ≡ Ok n) where
    at_small : (n < 2 ^ 63) × (1 ≤ m)
    at_small = rw e at k.small

    -- the next number fits
    pub next_fits : Fits w64 (n + 1)
    next_fits = let h = at_small.0 in record { fits = omega arith }

    pub on-at : (next : ℕ → S.Stacks Item → S.Outcome Item) → pop_index marking (stacks_in p m a) next ≡ next n (stacks_in p (m - 1) a)
    on-at next = k.same next ∙ rw e

  pub on-refused : (f : Refusal) → c ≡ Err f → (next : ℕ → S.Stacks Item → S.Outcome Item) → pop_index marking (stacks_in p m a) next ≡ S.refused (refusal_of f)
  on-refused f e next = k.same next ∙ rw e

-- for `top_count`
pub ruleset popping = (pop_index-short)
