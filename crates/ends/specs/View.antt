-- What the struct `EndStacks` stands for in the definitions.
use Rattle.std.specs.Prelude.{◌&&◌, List, [], ◌∷◌, ◌++◌, map, reverse, ℕ, zero, suc, ◌+◌, ◌-◌, ltb, length, get_or, replicate}
use Rattle.definition.specs.Basics.{pick}
use Rattle.definition.specs.Decoding.{number}
use Rattle.definition.specs.Stacks.{Stacks, total}
use Rattle.definition.specs.Walk.{Item, unknown, exact}
use Rattle.decode.specs.View.{item_of, value_of}
use Rattle.decode.specs.declared.Value.{Value}
use Rattle.decode.specs.declared.Value.TheVariants.{Unknown}
use Rattle.ends.specs.declared.EndStacks.{EndStacks}

-- The items of stacks, main from bottom to top and then alt from bottom to top; a stack is a list with its top first

abbrev pub items_of : Stacks Item → List Item
items_of s = reverse s.main ++ reverse s.alt

-- The stacks that the struct stands for

-- item k of all, from 0, as a value; unknown beyond them
unfoldable pub value_at : EndStacks → ℕ → Value
value_at e k = pick (ltb k (e.main + e.alt) && ltb k 244) (get_or e.items k Unknown) Unknown

-- f at a, .., a + n - 1
abbrev pub span : {A : Type 0} → (ℕ → A) → ℕ → ℕ → List A
span f a zero = []
span f a (suc n) = f a ∷ span f (suc a) n

unfoldable pub end_stacks_of : EndStacks → Stacks Item
end_stacks_of e = record {
  main = reverse (span (λ k. item_of (value_at e k)) 0 e.main);
  alt = reverse (span (λ k. item_of (value_at e k)) e.main e.alt);
}

-- The one struct for stacks: unused places are unknown, so that nothing is left to choose. Of main with 05 and an unknown item
-- on top of it, and alt with the two bytes 01 02: main 2, alt 1, items 05, unknown, 01 02, unknown ..

unfoldable pub packed_end : Stacks Item → EndStacks
packed_end s = record {
  main = length s.main;
  alt = length s.alt;
  items = map value_of (items_of s) ++ replicate (244 - total s) Unknown;
}

-- stacks of no items
abbrev pub no_stacks : Stacks Item
no_stacks = record { main = []; alt = [] }

-- The numbers of an item, for callers that take numbers

-- its length; 255 for an unknown one
abbrev pub item_length : Item → ℕ
item_length unknown = 255
item_length (exact l) = length l

-- its bytes as one number, the first the lowest; 0 for an unknown one
abbrev pub item_number : Item → ℕ
item_number unknown = 0
item_number (exact l) = number l
