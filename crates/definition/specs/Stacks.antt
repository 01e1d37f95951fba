-- Section 3: the two stacks and what each ordinary opcode does to them, over items of any type, so that the marker
-- (Walk) and a replay (Replay) share it: "A step does what section 3 says with real bytes" (Section 5).
use Rattle.std.specs.Prelude.{Bool, false, ◌&&◌, List, [], ◌∷◌, ◌++◌, ℕ, zero, suc, ◌+◌, ◌-◌, ltb, leb, eqb, length, take, drop}
use Rattle.std.proofs.Math.Option.{Option, none, some}
use Rattle.definition.specs.Basics.{Bytes, pick}
use Rattle.definition.specs.Decoding.{Instruction, serialize, plus, Index, not_known, no_number, negative, index, index_of}
use Rattle.definition.specs.Classes.{Class, Ordinary, unmodelled, push, nothing, TOALT, FROMALT, DEPTH, SIZE, NIP, TUCK, PICK, ROLL, ZK, copies, rotates, class_of}
use Rattle.definition.specs.Refusals.{Refusal, stacks_full, main_dry, alt_dry, bad_index, crooked_number, negative_index, bad_tag, unmodelled_opcode, long_element, max_element}

-- What the marker and a replay go by: the class of each opcode, the limit of both stacks together, and whether the mode is
-- request L7's examined one or plain. Document 01 has one such, `built_in`.
pub record Rules : Type 0 where
  pub class_for : ℕ → Class
  pub limit : ℕ
  pub examined : Bool

-- the classes of Section 2, and "Main and alt hold at most 244 items together", in plain mode
abbrev pub built_in : Rules
built_in = record { class_for = class_of; limit = 244; examined = false }

-- a stack is a list, its top first
pub record Stacks (A : Type 0) : Type 0 where
  pub main : List A
  pub alt : List A

-- "each stack operation yields the changed stacks or a refusal"
pub data Outcome (A : Type 0) : Type 0 where
  done : Stacks A → Outcome A
  refused : Refusal → Outcome A

-- what the operations ask of items of type A
pub record ItemOps (A : Type 0) : Type 0 where
  -- the item of these bytes
  pub from_bytes : Bytes → A
  -- what is known of an item's bytes
  pub to_bytes : A → Option Bytes
  -- the result of a plain class; to the marker also the length of an unknown item
  pub result : A

-- "ZK pops a tag, one exact byte": 20 or 21
pub data Tag : Type 0 where
  no_tag groth16 r0_succinct : Tag

-- the tag in what is known of an item's bytes
abbrev pub tag_of : Option Bytes → Tag
tag_of none = no_tag
tag_of (some []) = no_tag
tag_of (some (b ∷ [])) = pick (eqb b 0x20) groth16 (pick (eqb b 0x21) r0_succinct no_tag)
tag_of (some (b ∷ c ∷ l)) = no_tag

module _ {A : Type 0} where
  -- how many items both hold
  abbrev pub total : Stacks A → ℕ
  total s = length s.main + length s.alt

  -- how many main holds, and alt
  abbrev pub stack_heights : Stacks A → List ℕ
  stack_heights s = length s.main ∷ length s.alt ∷ []

  -- the stacks with another main
  abbrev pub with_main : Stacks A → List A → Stacks A
  with_main s l = record { main = l; alt = s.alt }

  -- the outcome where main has k items, else 7. "Missing items are judged before room, and popped items are gone before room is
  -- judged": each operation below tests in this order.
  abbrev pub needs : ℕ → Stacks A → Outcome A → Outcome A
  needs k s outcome = pick (leb k (length s.main)) outcome (refused (main_dry k (length s.main)))

  -- the outcome where there is room for k items more, else 6
  abbrev pub room : ℕ → ℕ → Stacks A → Outcome A → Outcome A
  room limit k s outcome = pick (leb (total s + k) limit) outcome (refused (stacks_full (total s + k) limit))

  -- on from an outcome: `stop` takes a refusal, `next` the changed stacks
  abbrev pub on_done : {X : Type 0} → Outcome A → (Refusal → X) → (Stacks A → X) → X
  on_done (done s) stop next = next s
  on_done (refused r) stop next = stop r

  -- pushes x, which needs room for 1
  unfoldable pub push_item : ℕ → A → Stacks A → Outcome A
  push_item limit x s = room limit 1 s (done (with_main s (x ∷ s.main)))

  -- needs 1, and goes on with the top and the stacks without it
  abbrev pub pop_from : List A → List A → (A → Stacks A → Outcome A) → Outcome A
  pop_from [] alt next = refused (main_dry 1 0)
  pop_from (x ∷ l) alt next = next x (record { main = l; alt = alt })

  -- pops one item of main
  abbrev pub pop : Stacks A → (A → Stacks A → Outcome A) → Outcome A
  pop s next = pop_from s.main s.alt next

  -- needs 1, and goes on with the top, which stays where it is
  abbrev pub look : Stacks A → (A → Outcome A) → Outcome A
  look s next = pop s (λ top rest. next top)

  -- drops k items of main at once
  unfoldable pub drop_items : ℕ → Stacks A → Outcome A
  drop_items k s = needs k s (done (with_main s (drop k s.main)))

  -- "copy (depth, count): needs depth items, appends the lowest count of them". Of a b c d, a on top, (2,1) makes b a b c d:
  -- the top 2 are a b, and without the first 2 - 1 of these b is left. Room is wanted for all copies at once.
  unfoldable pub copy_items : ℕ → ℕ → ℕ → Stacks A → Outcome A
  copy_items limit depth count s =
      needs depth s (room limit count s (done (with_main s (drop (depth - count) (take depth s.main) ++ s.main))))

  -- "Rotation: needs count, puts the lowest shift of them on top". Of a b c d, (3,1) makes c a b d: c from the top 3, then the
  -- 3 - 1 above it, then what is below the 3.
  unfoldable pub rotate_items : ℕ → ℕ → Stacks A → Outcome A
  rotate_items count shift s =
      needs count s (done (with_main s (drop (count - shift) (take count s.main) ++ take (count - shift) s.main ++ drop count s.main)))

  -- "TUCK needs 1, then 2, then room; puts a copy of the top under the top two". Of a b c d it makes a b a c d.
  unfoldable pub tuck_top : ℕ → Stacks A → Outcome A
  tuck_top limit s =
      needs 1 s (needs 2 s (room limit 1 s (done (with_main s (take 2 s.main ++ take 1 s.main ++ drop 2 s.main)))))

  -- "NIP removes the second, needs 2". Of a b c it makes a c.
  unfoldable pub nip_second : Stacks A → Outcome A
  nip_second s = needs 2 s (done (with_main s (take 1 s.main ++ drop 2 s.main)))

  -- to alt: main a b and alt x become b and a x. "Alt transfers need no room"
  unfoldable pub move_to_alt : Stacks A → Outcome A
  move_to_alt s = needs 1 s (done (record { main = drop 1 s.main; alt = take 1 s.main ++ s.alt }))

  -- from alt: main b and alt a x become a b and x
  unfoldable pub move_from_alt : Stacks A → Outcome A
  move_from_alt s =
      pick (leb 1 (length s.alt)) (done (record { main = take 1 s.alt ++ s.main; alt = drop 1 s.alt })) (refused alt_dry)

module _ {A : Type 0} (I : ItemOps A) where
  -- DEPTH, SIZE and ZK push a number
  abbrev pub number_item : ℕ → A
  number_item n = I.from_bytes (serialize (plus n))

  -- "pushes the top's length if exact, else unknown"
  abbrev pub size_item : Option Bytes → A
  size_item none = I.result
  size_item (some l) = number_item (length l)

  -- an index "readable, not negative". Request L2: "9 stays for an item that is unknown. .. 24 crooked number, when the exact
  -- bytes are no number by section 1; 25 negative index, when they are one below zero; both at the place of 9."
  abbrev pub readable : Index → (ℕ → Outcome A) → Outcome A
  readable not_known next = refused bad_index
  readable no_number next = refused crooked_number
  readable negative next = refused negative_index
  readable (index n) next = next n

  -- pops an index and goes on with it
  abbrev pub pop_index : Stacks A → (ℕ → Stacks A → Outcome A) → Outcome A
  pop_index s next = pop s (λ x t. readable (index_of (I.to_bytes x)) (λ n. next n t))

  -- "It pushes 1", after dropping this many
  abbrev pub zk_drop : ℕ → ℕ → Stacks A → Outcome A
  zk_drop limit n s = on_done (drop_items n s) refused (push_item limit (number_item 1))

  -- "20 pops key, proof and a count read as an index, one by one, then drops that many; 21 drops 8"
  abbrev pub zk_by : ℕ → Tag → Stacks A → Outcome A
  zk_by limit no_tag s = refused bad_tag
  zk_by limit groth16 s =
      pop s (λ key t.
      pop t (λ proof u.
      pop_index u (λ count v.
      zk_drop limit count v)))
  zk_by limit r0_succinct s = zk_drop limit 8 s

  -- a literal is pushed. Request L7: "an examined mode in which the replay faults on pushing a literal above 520 bytes, and the
  -- marker refuses it"; 30 is given "ahead of the test for room at that push"
  abbrev pub push_literal : Rules → Bytes → Stacks A → Outcome A
  push_literal R l s =
      pick (R.examined && ltb max_element (length l)) (refused (long_element (length l))) (push_item R.limit (I.from_bytes l) s)

  -- What an instruction of an ordinary class does. "DEPTH pushes main's height. SIZE needs 1, pushes the top's length". "PICK and
  -- ROLL pop an index .., then need index + 1; PICK copies that item to the top, ROLL moves it": with 1 over a b c, PICK makes
  -- b a b c and ROLL b a c.
  unfoldable pub step : Rules → Instruction → Ordinary → Stacks A → Outcome A
  step R i unmodelled s = refused (unmodelled_opcode i.opcode)
  step R i push s = push_literal R i.literal s
  step R i nothing s = done s
  step R i TOALT s = move_to_alt s
  step R i FROMALT s = move_from_alt s
  step R i DEPTH s = push_item R.limit (number_item (length s.main)) s
  step R i SIZE s = look s (λ top. push_item R.limit (size_item (I.to_bytes top)) s)
  step R i NIP s = nip_second s
  step R i TUCK s = tuck_top R.limit s
  step R i PICK s = pop_index s (λ n t. copy_items R.limit (n + 1) 1 t)
  step R i ROLL s = pop_index s (λ n t. rotate_items (n + 1) 1 t)
  step R i ZK s = pop s (λ tag t. zk_by R.limit (tag_of (I.to_bytes tag)) t)
  step R i (copies depth count) s = copy_items R.limit depth count s
  step R i (rotates count shift) s = rotate_items count shift s

  -- "the plain classes push unknown items": none, or one
  abbrev pub push_results : ℕ → ℕ → Stacks A → Outcome A
  push_results limit zero s = done s
  push_results limit (suc n) s = push_item limit I.result s

  -- what an instruction of a plain class does
  unfoldable pub plain_step : ℕ → ℕ → ℕ → Stacks A → Outcome A
  plain_step limit pops pushes s = on_done (drop_items pops s) refused (push_results limit pushes)
