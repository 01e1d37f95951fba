-- The join of two stacks.
use mathlib.Core.Bool.{Bool, true, false}
use mathlib.Core.Path.{◌≡◌, sym, subst, ◌∙◌}
use mathlib.Core.List.{List}
use Prim.Native.Nat.{ℕ, ◌+◌, ◌-◌, ◌≤◌, ◌<◌}
use native.Mathlib.Omega.{arith}
use borrow.Author.Tests.{eq-eqb, ne_eqb}
use lib.Dec.{eqb}
use lib.ListN.{length, get_or}
use Rattle.definition.specs.Basics.{pick}
use Rattle.definition.specs.Refusals.{arms_differ}
use Rattle.definition.specs.Stacks as S
use Rattle.definition.specs.Walk.{join_item, join_stacks}
use Rattle.slots.specs.View.{Slots, slots, cells, backs, Sound, Canon}
use Rattle.slots.specs.Parts.{Each, JoinedAt, common_code, CommonAt}
use Rattle.slots.proofs.Codes.{either-le, canon-unknown}
use Rattle.slots.proofs.Joins.{tops-join}
use Rattle.slots.proofs.Laws.{length-tops}
use Rattle.stack.specs.View.{stacks_in, slots_of, view}
use Rattle.stack.specs.declared.Stacks.{Stacks}

module _ (p t : Slots) (m a n b : ℕ) where
  pub join-main : (m ≡ n → ⊥) → join_stacks (stacks_in p m a) (stacks_in t n b) ≡ S.refused arms_differ
  unfolding join_stacks stacks_in
  join-main h = rw (length-tops, length-tops, ne_eqb m n h)

  pub join-alt : m ≡ n → (a ≡ b → ⊥) → join_stacks (stacks_in p m a) (stacks_in t n b) ≡ S.refused arms_differ
  unfolding join_stacks stacks_in
  join-alt e h = rw (length-tops, length-tops, length-tops, length-tops, eq-eqb m n e, ne_eqb a b h)

  -- each slot of q has what the two have in common
  join-done : m ≡ n → a ≡ b → m + a ≤ 244 → (q : Slots) → ((j : ℕ) → j < 244 → cells q j ≡ join_item (cells p j) (cells t j)) → S.done (stacks_in q m a) ≡ join_stacks (stacks_in p m a) (stacks_in t n b)
  unfolding join_stacks stacks_in
  join-done e g r q k = rw (
    length-tops,
    length-tops,
    length-tops,
    length-tops,
    eq-eqb m n e,
    eq-eqb a b g,
    tops-join (cells p) (cells t) (cells q) m (λ j lt. k j (omega arith)),
    tops-join (backs p) (backs t) (backs q) a (λ j lt. k (243 - j) (omega arith)),
    ← e,
    ← g,
  )

-- a code that two slots have in common says an item with the bytes of the first
common-canon : (code code1 n : ℕ) → Canon code n → Canon (common_code code code1) n
unfolding common_code
common-canon code code1 n c = by (eqb code code1)
  where
    by : (t : Bool) → Canon (pick t code 9) n
    by true = c
    by false = canon-unknown

-- Codes with which each slot of s says an item by its bytes
codes-sound : (s : Stacks) (x : List ℕ) → length x ≡ length s.codes → ((j : ℕ) → j < 244 → Canon (get_or x j 0) (get_or s.bytes j 0)) → ((j : ℕ) → 244 ≤ j → get_or x j 0 ≡ get_or s.codes j 0)
    → Sound (slots s.bytes x)
codes-sound s x e k h = record {
  whole_bytes = s.sound.whole_bytes;
  whole_codes = e ∙ s.sound.whole_codes;
  canon = λ j. either-le 244 j (Canon (get_or x j 0) (get_or s.bytes j 0)) (λ g. rw (h j g) (s.sound.canon j)) (k j);
}

module _ (s t : Stacks) (x : List ℕ) where
  -- with the codes x each slot of s has what it and that of t have in common
  pub joined-sound : Each (JoinedAt (slots_of s) (slots_of t)) s.codes 0 244 x → Sound (slots s.bytes x)
  joined-sound w = codes-sound s x w.whole (λ j lt. (w.each j (omega arith) lt).canon) w.above

  -- by the codes alone too they say items
  pub common-sound : Each (CommonAt s.codes t.codes) s.codes 0 244 x → Sound (slots s.bytes x)
  common-sound w = codes-sound s x w.whole
      (λ j lt. subst (λ c. Canon c (get_or s.bytes j 0)) (sym (w.each j (omega arith) lt)) (common-canon (get_or s.codes j 0) (get_or t.codes j 0) (get_or s.bytes j 0) (s.sound.canon j)))
      w.above

  pub joined-stacks : Each (JoinedAt (slots_of s) (slots_of t)) s.codes 0 244 x → s.mains ≡ t.mains → s.alts ≡ t.alts → S.done (stacks_in (slots s.bytes x) s.mains s.alts) ≡ join_stacks (view s) (view t)
  joined-stacks w e g = join-done (slots_of s) (slots_of t) s.mains s.alts t.mains t.alts e g s.room (slots s.bytes x) (λ j lt. (w.each j (omega arith) lt).item)

pub ruleset joins = (joined-sound, common-sound, joined-stacks)
