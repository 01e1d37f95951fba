-- The stack operations and `step` keep what the marker shows of a replay's stacks: where the marker's outcome is done, so is
-- the replay's, and the stacks still agree. Beside it, for items of any type, `step` keeps the stacks within the limit.
use mathlib.Core.Bool.{Bool, true, false, ◌&&◌}
use mathlib.Core.List.{List, [], ◌∷◌, ◌++◌}
use mathlib.Core.Option.{some}
use mathlib.Core.Path.{◌≡◌, refl, ap}
use Prim.Native.Nat.{ℕ, zero, suc, ◌+◌, ◌-◌, ◌≤◌}
use native.Mathlib.Omega.{arith}
use borrow.Author.Tests.{leb-true}
use lib.Dec.{leb, ltb}
use lib.ListN.{length, take, drop, length-append, length-take, length-drop}
use Rattle.definition.specs.Basics.{Bytes, pick}
use Rattle.definition.specs.Decoding.{Instruction, Index, not_known, no_number, negative, index, index_of, serialize, plus}
use Rattle.definition.specs.Classes.{Ordinary, unmodelled, push, nothing, TOALT, FROMALT, DEPTH, SIZE, NIP, TUCK, PICK, ROLL, ZK, copies, rotates}
use Rattle.definition.specs.Refusals.{Refusal, main_dry, stacks_full, alt_dry, long_element, max_element}
use Rattle.definition.specs.Stacks.{Rules, Stacks, Outcome, done, refused, ItemOps, Tag, no_tag, groth16, r0_succinct, tag_of, total, needs, room, on_done, push_item, pop_from, drop_items, copy_items, rotate_items, tuck_top, nip_second, move_to_alt, move_from_alt, size_item, readable, pop_index, zk_drop, zk_by, push_literal, step, push_results, plain_step}
use Rattle.definition.specs.Walk.{Item, unknown, exact, known, bytes_known, marking}
use Rattle.definition.specs.Replay.{replaying, Shows, ShowsAll, ShowsStacks}

-- Lists of items

-- `ShowsAll` as pairs of items, one made after the other
pub data Paired : List Item → List Bytes → Type 0 where
  bottom : Paired [] []
  above : {x : Item} {b : Bytes} {l : List Item} {m : List Bytes} → Shows x b → Paired l m → Paired (x ∷ l) (b ∷ m)

pub paired : (l : List Item) (m : List Bytes) → ShowsAll l m → Paired l m
paired [] [] h = bottom
paired [] (b ∷ m) h = absurd h
paired (x ∷ l) [] h = absurd h
paired (x ∷ l) (b ∷ m) h = above h.0 (paired l m h.1)

pub shown : {l : List Item} {m : List Bytes} → Paired l m → ShowsAll l m
shown bottom = tt
shown (above r h) = (r, shown h)

pub paired-length : {l : List Item} {m : List Bytes} → Paired l m → length l ≡ length m
paired-length bottom = refl
paired-length (above r h) = ap suc (paired-length h)

paired-drop : (k : ℕ) {l : List Item} {m : List Bytes} → Paired l m → Paired (drop k l) (drop k m)
paired-drop zero h = h
paired-drop (suc k) bottom = bottom
paired-drop (suc k) (above r h) = paired-drop k h

paired-take : (k : ℕ) {l : List Item} {m : List Bytes} → Paired l m → Paired (take k l) (take k m)
paired-take zero h = bottom
paired-take (suc k) bottom = bottom
paired-take (suc k) (above r h) = above r (paired-take k h)

paired-append : {l : List Item} {m : List Bytes} {l' : List Item} {m' : List Bytes} → Paired l m → Paired l' m' → Paired (l ++ l') (m ++ m')
paired-append bottom g = g
paired-append (above r h) g = above r (paired-append h g)

pub record PairedStacks (s : Stacks Item) (t : Stacks Bytes) : Type 0 where
  pub main : Paired s.main t.main
  pub alt : Paired s.alt t.alt

pub paired_stacks : {s : Stacks Item} {t : Stacks Bytes} → ShowsStacks s t → PairedStacks s t
paired_stacks {s} {t} h = record { main = paired s.main t.main h.main; alt = paired s.alt t.alt h.alt }

pub shown_stacks : {s : Stacks Item} {t : Stacks Bytes} → PairedStacks s t → ShowsStacks s t
shown_stacks h = record { main = shown h.main; alt = shown h.alt }

pub paired-total : {s : Stacks Item} {t : Stacks Bytes} → PairedStacks s t → total s ≡ total t
paired-total h = rw (paired-length h.main, paired-length h.alt)

-- what the marker keeps of a literal is true of it
shows-picked : (b : Bool) (l : Bytes) → Shows (pick b (exact l) unknown) l
shows-picked true l = refl
shows-picked false l = tt

shows-known : (l : Bytes) → Shows (known l) l
shows-known l = search shows-picked

-- Outcomes

-- where the marker's outcome is done, the replay's is, and the stacks agree
pub data Agree : Outcome Item → Outcome Bytes → Type 0 where
  agree : {s : Stacks Item} {t : Stacks Bytes} → PairedStacks s t → Agree (done s) (done t)
  stops : {r : Refusal} {p : Outcome Bytes} → Agree (refused r) p

picks : (b : Bool) {o : Outcome Item} {p : Outcome Bytes} {o' : Outcome Item} {p' : Outcome Bytes} → Agree o p → Agree o' p' → Agree (pick b o o') (pick b p p')
picks true h g = h
picks false h g = g

module _ {s : Stacks Item} {t : Stacks Bytes} (h : PairedStacks s t) where
  needs-agrees : (k : ℕ) {o : Outcome Item} {p : Outcome Bytes} → Agree o p → Agree (needs k s o) (needs k t p)
  needs-agrees k g = rw (paired-length h.main) (picks (leb k (length t.main)) g stops)

  room-agrees : (limit k : ℕ) {o : Outcome Item} {p : Outcome Bytes} → Agree o p → Agree (room limit k s o) (room limit k t p)
  room-agrees limit k g = rw (paired-length h.main, paired-length h.alt) (picks (leb (total t + k) limit) g stops)

  push_item-agrees : (limit : ℕ) (x : Item) (b : Bytes) → Shows x b → Agree (push_item limit x s) (push_item limit b t)
  unfolding push_item
  push_item-agrees limit x b r = room-agrees limit 1 (agree (record { main = above r h.main; alt = h.alt }))

  pub drop_items-agrees : (k : ℕ) → Agree (drop_items k s) (drop_items k t)
  unfolding drop_items
  drop_items-agrees k = needs-agrees k (agree (record { main = paired-drop k h.main; alt = h.alt }))

  copy_items-agrees : (limit depth count : ℕ) → Agree (copy_items limit depth count s) (copy_items limit depth count t)
  unfolding copy_items
  copy_items-agrees limit depth count =
      needs-agrees depth (room-agrees limit count (agree (record {
        main = paired-append (paired-drop (depth - count) (paired-take depth h.main)) h.main;
        alt = h.alt;
      })))

  rotate_items-agrees : (count shift : ℕ) → Agree (rotate_items count shift s) (rotate_items count shift t)
  unfolding rotate_items
  rotate_items-agrees count shift = needs-agrees count (agree (record {
    main = paired-append (paired-append (paired-drop (count - shift) (paired-take count h.main)) (paired-take (count - shift) h.main))
        (paired-drop count h.main);
    alt = h.alt;
  }))

  tuck_top-agrees : (limit : ℕ) → Agree (tuck_top limit s) (tuck_top limit t)
  unfolding tuck_top
  tuck_top-agrees limit = needs-agrees 1 (needs-agrees 2 (room-agrees limit 1 (agree (record {
    main = paired-append (paired-append (paired-take 2 h.main) (paired-take 1 h.main)) (paired-drop 2 h.main);
    alt = h.alt;
  }))))

  nip_second-agrees : Agree (nip_second s) (nip_second t)
  unfolding nip_second
  nip_second-agrees = needs-agrees 2 (agree (record { main = paired-append (paired-take 1 h.main) (paired-drop 2 h.main); alt = h.alt }))

  move_to_alt-agrees : Agree (move_to_alt s) (move_to_alt t)
  unfolding move_to_alt
  move_to_alt-agrees = needs-agrees 1 (agree (record { main = paired-drop 1 h.main; alt = paired-append (paired-take 1 h.main) h.alt }))

  move_from_alt-agrees : Agree (move_from_alt s) (move_from_alt t)
  unfolding move_from_alt
  move_from_alt-agrees = rw (paired-length h.alt) (picks (leb 1 (length t.alt)) (agree (record {
    main = paired-append (paired-take 1 h.alt) h.main;
    alt = paired-drop 1 h.alt;
  })) stops)

-- Operations one after the other

on_done-agrees : {o : Outcome Item} {p : Outcome Bytes} (f : Stacks Item → Outcome Item) (g : Stacks Bytes → Outcome Bytes)
    → Agree o p → ((s : Stacks Item) (t : Stacks Bytes) → PairedStacks s t → Agree (f s) (g t)) → Agree (on_done o refused f) (on_done p refused g)
on_done-agrees f g (agree h) n = n _ _ h
on_done-agrees f g stops n = stops

pop_from-agrees : {l : List Item} {m : List Bytes} {a : List Item} {c : List Bytes} (f : Item → Stacks Item → Outcome Item) (g : Bytes → Stacks Bytes → Outcome Bytes)
    → Paired l m → Paired a c → ((x : Item) (b : Bytes) (s : Stacks Item) (t : Stacks Bytes) → Shows x b → PairedStacks s t → Agree (f x s) (g b t))
    → Agree (pop_from l a f) (pop_from m c g)
pop_from-agrees f g bottom k n = stops
pop_from-agrees f g (above {x = x} {b = b} r h) k n = n x b _ _ r (record { main = h; alt = k })

-- an index that the marker reads is the one that the replay reads
readable-agrees : (v : List Bytes) (x : Item) (b : Bytes) (f : ℕ → Outcome Item) (g : ℕ → Outcome Bytes) → Shows x b → ((n : ℕ) → Agree (f n) (g n))
    → Agree (readable marking (index_of (bytes_known x)) f) (readable (replaying v) (index_of (some b)) g)
readable-agrees v unknown b f g r n = stops
readable-agrees v (exact l) b f g r n = rw r (same (index_of (some b)))
  where
    same : (i : Index) → Agree (readable marking i f) (readable (replaying v) i g)
    same not_known = stops
    same no_number = stops
    same negative = stops
    same (index k) = n k

pop_index-agrees : (v : List Bytes) {s : Stacks Item} {t : Stacks Bytes} (f : ℕ → Stacks Item → Outcome Item) (g : ℕ → Stacks Bytes → Outcome Bytes) → PairedStacks s t
    → ((n : ℕ) (s' : Stacks Item) (t' : Stacks Bytes) → PairedStacks s' t' → Agree (f n s') (g n t')) → Agree (pop_index marking s f) (pop_index (replaying v) t g)
pop_index-agrees v f g h n = pop_from-agrees _ _ h.main h.alt (λ x b s t r k. readable-agrees v x b _ _ r (λ i. n i s t k))

-- SIZE: the length of an exact item is the real one
size-shows : (v : List Bytes) (x : Item) (b : Bytes) → Shows x b → Shows (size_item marking (bytes_known x)) (size_item (replaying v) (some b))
size-shows v unknown b r = tt
size-shows v (exact l) b r = rw r (shows-known (serialize (plus (length b))))

zk_drop-agrees : (v : List Bytes) (limit n : ℕ) {s : Stacks Item} {t : Stacks Bytes} → PairedStacks s t → Agree (zk_drop marking limit n s) (zk_drop (replaying v) limit n t)
zk_drop-agrees v limit n h = on_done-agrees _ _ (drop_items-agrees h n) (λ s t k. push_item-agrees k limit _ _ (shows-known (serialize (plus 1))))

-- a tag that the marker reads is the one that the replay reads
zk_by-agrees : (v : List Bytes) (limit : ℕ) (x : Item) (b : Bytes) {s : Stacks Item} {t : Stacks Bytes} → Shows x b → PairedStacks s t
    → Agree (zk_by marking limit (tag_of (bytes_known x)) s) (zk_by (replaying v) limit (tag_of (some b)) t)
zk_by-agrees v limit unknown b r h = stops
zk_by-agrees v limit (exact l) b r h = rw r (same (tag_of (some b)) h)
  where
    same : (k : Tag) {s : Stacks Item} {t : Stacks Bytes} → PairedStacks s t → Agree (zk_by marking limit k s) (zk_by (replaying v) limit k t)
    same no_tag h = stops
    same groth16 h =
        pop_from-agrees _ _ h.main h.alt (λ key b s t r k.
        pop_from-agrees _ _ k.main k.alt (λ proof b s t r k.
        pop_index-agrees v _ _ k (λ n s t k. zk_drop-agrees v limit n k)))
    same r0_succinct h = zk_drop-agrees v limit 8 h

-- whatever an ordinary instruction does, a replay follows the marker
pub step-agrees : (v : List Bytes) (R : Rules) (i : Instruction) (o : Ordinary) {s : Stacks Item} {t : Stacks Bytes} → PairedStacks s t
    → Agree (step marking R i o s) (step (replaying v) R i o t)
unfolding step
step-agrees v R i unmodelled h = stops
step-agrees v R i push h = picks (R.examined && ltb max_element (length i.literal)) stops (push_item-agrees h R.limit _ _ (shows-known i.literal))
step-agrees v R i nothing h = agree h
step-agrees v R i TOALT h = move_to_alt-agrees h
step-agrees v R i FROMALT h = move_from_alt-agrees h
step-agrees v R i DEPTH {s} {t} h = rw (paired-length h.main) (push_item-agrees h R.limit _ _ (shows-known (serialize (plus (length t.main)))))
step-agrees v R i SIZE h = pop_from-agrees _ _ h.main h.alt (λ x b s t r k. push_item-agrees h R.limit _ _ (size-shows v x b r))
step-agrees v R i NIP h = nip_second-agrees h
step-agrees v R i TUCK h = tuck_top-agrees h R.limit
step-agrees v R i PICK h = pop_index-agrees v _ _ h (λ n s t k. copy_items-agrees k R.limit _ 1)
step-agrees v R i ROLL h = pop_index-agrees v _ _ h (λ n s t k. rotate_items-agrees k _ 1)
step-agrees v R i ZK h = pop_from-agrees _ _ h.main h.alt (λ x b s t r k. zk_by-agrees v R.limit x b r k)
step-agrees v R i (copies depth count) h = copy_items-agrees h R.limit depth count
step-agrees v R i (rotates count shift) h = rotate_items-agrees h count shift

-- and whatever an instruction of a plain class does
pub plain_step-agrees : (v : List Bytes) (limit pops pushes : ℕ) {s : Stacks Item} {t : Stacks Bytes} → PairedStacks s t
    → Agree (plain_step marking limit pops pushes s) (plain_step (replaying v) limit pops pushes t)
unfolding plain_step
plain_step-agrees v limit pops pushes h = on_done-agrees _ _ (drop_items-agrees h pops) (λ s t g. results pushes g)
  where
    results : (n : ℕ) {s : Stacks Item} {t : Stacks Bytes} → PairedStacks s t
        → Agree (push_results marking limit n s) (push_results (replaying v) limit n t)
    results zero g = agree g
    results (suc n) g = push_item-agrees g limit _ _ tt

-- The limit

-- an outcome within the limit, if it is done
abbrev pub Within : {A : Type 0} → ℕ → Outcome A → Type 0
Within limit (done s) = total s ≤ limit
Within limit (refused r) = Unit {0}

module _ {A : Type 0} (limit : ℕ) where
  needs-within : (k : ℕ) (s : Stacks A) (o : Outcome A) → (k ≤ length s.main → Within limit o) → Within limit (needs k s o)
  needs-within k s o h = test (leb k (length s.main)) refl
    where
      test : (b : Bool) → leb k (length s.main) ≡ b → Within limit (pick b o (refused (main_dry k (length s.main))))
      test true e = h (leb-true k (length s.main) e)
      test false e = tt

  room_within : (k : ℕ) (s : Stacks A) (o : Outcome A) → (total s + k ≤ limit → Within limit o) → Within limit (room limit k s o)
  room_within k s o h = test (leb (total s + k) limit) refl
    where
      test : (b : Bool) → leb (total s + k) limit ≡ b → Within limit (pick b o (refused (stacks_full (total s + k) limit)))
      test true e = h (leb-true (total s + k) limit e)
      test false e = tt

  push_item-within : (x : A) (s : Stacks A) → Within limit (push_item limit x s)
  unfolding push_item
  push_item-within x s = room_within 1 s _ (λ h. omega arith)

  pub drop_items-within : (k : ℕ) (s : Stacks A) → total s ≤ limit → Within limit (drop_items k s)
  unfolding drop_items
  drop_items-within k s h = needs-within k s _ (λ n. simp length-drop (omega arith))

  copy_items-within : (depth count : ℕ) (s : Stacks A) → Within limit (copy_items limit depth count s)
  unfolding copy_items
  copy_items-within depth count s = needs-within depth s _ (λ n. room_within count s _ (λ h. simp (length-append, length-drop, length-take) (omega arith)))

  rotate_items-within : (count shift : ℕ) (s : Stacks A) → total s ≤ limit → Within limit (rotate_items count shift s)
  unfolding rotate_items
  rotate_items-within count shift s h = needs-within count s _ (λ n. simp (length-append, length-drop, length-take) (omega arith))

  tuck_top-within : (s : Stacks A) → Within limit (tuck_top limit s)
  unfolding tuck_top
  tuck_top-within s = needs-within 1 s _ (λ m. needs-within 2 s _ (λ n. room_within 1 s _ (λ h. simp (length-append, length-drop, length-take) (omega arith))))

  nip_second-within : (s : Stacks A) → total s ≤ limit → Within limit (nip_second s)
  unfolding nip_second
  nip_second-within s h = needs-within 2 s _ (λ n. simp (length-append, length-drop, length-take) (omega arith))

  move_to_alt-within : (s : Stacks A) → total s ≤ limit → Within limit (move_to_alt s)
  unfolding move_to_alt
  move_to_alt-within s h = needs-within 1 s _ (λ n. simp (length-append, length-drop, length-take) (omega arith))

  move_from_alt-within : (s : Stacks A) → total s ≤ limit → Within limit (move_from_alt s)
  unfolding move_from_alt
  move_from_alt-within s h = test (leb 1 (length s.alt)) refl
    where
      test : (b : Bool) → leb 1 (length s.alt) ≡ b
          → Within limit (pick b (done (record { main = take 1 s.alt ++ s.main; alt = drop 1 s.alt })) (refused alt_dry))
      test true e = let n = leb-true 1 (length s.alt) e in simp (length-append, length-drop, length-take) (omega arith)
      test false e = tt

  on_done-within : (o : Outcome A) (f : Stacks A → Outcome A) → Within limit o → ((t : Stacks A) → total t ≤ limit → Within limit (f t))
      → Within limit (on_done o refused f)
  on_done-within (done t) f h n = n t h
  on_done-within (refused r) f h n = tt

  pop_from-within : (l a : List A) (f : A → Stacks A → Outcome A) → length l + length a ≤ limit
      → ((x : A) (t : Stacks A) → total t ≤ limit → Within limit (f x t)) → Within limit (pop_from l a f)
  pop_from-within [] a f h n = tt
  pop_from-within (x ∷ l) a f h n = n x (record { main = l; alt = a }) (omega arith)

  module _ (I : ItemOps A) where
    pop_index-within : (s : Stacks A) (f : ℕ → Stacks A → Outcome A) → total s ≤ limit
        → ((n : ℕ) (t : Stacks A) → total t ≤ limit → Within limit (f n t)) → Within limit (pop_index I s f)
    pop_index-within s f h n = pop_from-within s.main s.alt _ h (λ x t k. read (index_of (I.to_bytes x)) t k)
      where
        read : (i : Index) (t : Stacks A) → total t ≤ limit → Within limit (readable I i (λ j. f j t))
        read not_known t k = tt
        read no_number t k = tt
        read negative t k = tt
        read (index j) t k = n j t k

    zk_drop-within : (n : ℕ) (s : Stacks A) → total s ≤ limit → Within limit (zk_drop I limit n s)
    zk_drop-within n s h = on_done-within (drop_items n s) _ (drop_items-within n s h) (λ t k. push_item-within _ t)

    zk_by-within : (g : Tag) (s : Stacks A) → total s ≤ limit → Within limit (zk_by I limit g s)
    zk_by-within no_tag s h = tt
    zk_by-within groth16 s h =
        pop_from-within s.main s.alt _ h (λ key t k. pop_from-within t.main t.alt _ k (λ proof u l.
        pop_index-within u _ l (λ n v m. zk_drop-within n v m)))
    zk_by-within r0_succinct s h = zk_drop-within 8 s h

-- a literal is pushed within the limit, or refused
literal-within : {A : Type 0} (I : ItemOps A) (R : Rules) (l : Bytes) (s : Stacks A) → Within R.limit (push_literal I R l s)
literal-within I R l s = test (R.examined && ltb max_element (length l))
  where
    test : (b : Bool) → Within R.limit (pick b (refused (long_element (length l))) (push_item R.limit (I.from_bytes l) s))
    test true = tt
    test false = push_item-within R.limit _ s

-- no ordinary instruction leads over the limit
pub step-within : {A : Type 0} (I : ItemOps A) (R : Rules) (i : Instruction) (o : Ordinary) (s : Stacks A) → total s ≤ R.limit
    → Within R.limit (step I R i o s)
unfolding step
step-within I R i unmodelled s h = tt
step-within I R i push s h = literal-within I R i.literal s
step-within I R i nothing s h = h
step-within I R i TOALT s h = move_to_alt-within R.limit s h
step-within I R i FROMALT s h = move_from_alt-within R.limit s h
step-within I R i DEPTH s h = push_item-within R.limit _ s
step-within I R i SIZE s h = pop_from-within R.limit s.main s.alt _ h (λ x t k. push_item-within R.limit _ s)
step-within I R i NIP s h = nip_second-within R.limit s h
step-within I R i TUCK s h = tuck_top-within R.limit s
step-within I R i PICK s h = pop_index-within R.limit I s _ h (λ n t k. copy_items-within R.limit _ 1 t)
step-within I R i ROLL s h = pop_index-within R.limit I s _ h (λ n t k. rotate_items-within R.limit _ 1 t k)
step-within I R i ZK s h = pop_from-within R.limit s.main s.alt _ h (λ x t k. zk_by-within R.limit I (tag_of (I.to_bytes x)) t k)
step-within I R i (copies depth count) s h = copy_items-within R.limit depth count s
step-within I R i (rotates count shift) s h = rotate_items-within R.limit count shift s h

-- nor one of a plain class
pub plain_step-within : {A : Type 0} (I : ItemOps A) (limit pops pushes : ℕ) (s : Stacks A) → total s ≤ limit
    → Within limit (plain_step I limit pops pushes s)
unfolding plain_step
plain_step-within {A = A} I limit pops pushes s h =
    on_done-within limit (drop_items pops s) _ (drop_items-within limit pops s h) (λ t g. results pushes t g)
  where
    results : (n : ℕ) (t : Stacks A) → total t ≤ limit → Within limit (push_results I limit n t)
    results zero t g = g
    results (suc n) t g = push_item-within limit _ t
