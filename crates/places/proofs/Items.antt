-- The numbers of a verdict, and those of the items of its end in lent places.
use mathlib.Core.List.{List, [], ◌∷◌, map}
use mathlib.Core.Path.{◌≡◌, refl, sym, ap, ◌∙◌}
use Prim.Native.Nat.{ℕ, ◌+◌, ◌*◌, ◌≤◌, ◌<◌}
use native.Mathlib.Omega.{arith}
use lib.ListN.{length, take, drop, get_or, length-append, length-take, length-map}
use lib.Seq.{take_at}
use borrow.Rule.Slice.PartMut.{put_mid}
use Rattle.std.specs.List.{flat_map}
use Rattle.std.proofs.lemmas.Grind.{flat_map-append}
use Rattle.std.proofs.lemmas.List.{append-nil, drop-drop, take_more, take-append-drop}
use Rattle.std.proofs.lemmas.Slice.{take-put_mid, drop-put_mid}
use Rattle.definition.specs.Decoding.{number}
use Rattle.definition.specs.Stacks.{Stacks}
use Rattle.definition.specs.Walk.{Item, unknown, exact, Arm, dead, live}
use Rattle.definition.specs.Walk as W
use Rattle.decode.specs.View.{value_of}
use Rattle.decode.specs.declared.Value.{Value}
use Rattle.decode.specs.declared.Value.TheVariants.{Unknown, Exact}
use Rattle.ends.specs.View.{items_of, packed_end}
use Rattle.ends.proofs.Ends.{items-length, packed-main, packed-alt}
use Rattle.stack_analysis.specs.View.{end_as, told_of, heights_of}
use Rattle.places.specs.View.{written, flag, has_end, end_main, end_alt, verdict_numbers, items_numbers, end_numbers}
use Rattle.places.specs.Parts.{value_numbers, heights_numbers, told_numbers, end_heights, in_heights, struct_numbers, ends_numbers}
use Rattle.places.proofs.Places.{too_few, all-written}

-- The loop over the items

three-each : (v : Value) → length (value_numbers v) ≡ 3
three-each Unknown = refl
three-each (Exact len bytes) = refl

numbers-length : (l : List Value) → length (flat_map value_numbers l) ≡ 3 * length l
numbers-length [] = refl
numbers-length (v ∷ l) = length-append (value_numbers v) (flat_map value_numbers l) ∙ omega (arith, three-each v, numbers-length l)

-- the numbers of the first k items stand in the first of the lent places
pub record Listing (values : List Value) (lent : List ℕ) (k : ℕ) (items : List ℕ) : Type 0 where
  pub stands : take (3 * k) items ≡ flat_map value_numbers (take k values)
  pub rest : drop (3 * k) items ≡ drop (3 * k) lent

module _ (values : List Value) (lent : List ℕ) where
  pub listing_none : Listing values lent 0 lent
  listing_none = record { stands = refl; rest = refl }

  -- the next item is read, and its numbers are written behind those of the others
  pub listing-more : (k n : ℕ) (items written : List ℕ) → Listing values lent k items → k < length values
      → written ≡ value_numbers (get_or values k Unknown) → 3 * k + 3 ≤ length items → n ≡ 3
      → Listing values lent (k + 1) (put_mid (3 * k) n items written)
  listing-more k n items written l h e g t =
      let three : length written ≡ 3 = ap (λ (ns : List ℕ). length ns) e ∙ three-each (get_or values k Unknown) in
      let next : 3 * (k + 1) ≡ 3 * k + 3 = omega arith in
      record {
        stands =
            take-put_mid (3 * k) n items written (3 * (k + 1)) (omega (arith, three)) (omega arith) ∙ rw (l.stands, e)
            (sym (ap (flat_map value_numbers) (take_more values k Unknown h) ∙ flat_map-append value_numbers (take k values) (get_or values k Unknown ∷ []) ∙ rw append-nil));
        rest =
            drop-put_mid (3 * k) n items written (3 * (k + 1)) (omega arith) (omega arith) (three ∙ sym t)
            ∙ rw next (sym (drop-drop 3 (3 * k) items) ∙ ap (drop 3) l.rest ∙ drop-drop 3 (3 * k) lent);
      }

  taken-length : (n : ℕ) → n ≤ length values → length (flat_map value_numbers (take n values)) ≡ 3 * n
  taken-length n h = omega (arith, numbers-length (take n values), length-take n values)

  pub too-few-items : (n : ℕ) → n ≤ length values → length lent < 3 * n → lent ≡ written (flat_map value_numbers (take n values)) lent
  too-few-items n h g = too_few (flat_map value_numbers (take n values)) lent (omega (arith, taken-length n h))

  pub all_listed : (n k : ℕ) (items : List ℕ) → n ≤ length values → 3 * n ≤ length lent → k ≡ n → Listing values lent k items
      → items ≡ written (flat_map value_numbers (take n values)) lent
  all_listed n k items h f e l =
      let m = rw e at l in
      sym (take-append-drop (3 * n) items) ∙ rw (m.stands, m.rest)
      (rw (← taken-length n h) (all-written (flat_map value_numbers (take n values)) lent (omega (arith, taken-length n h))))

pub ruleset listings = (listing_none, listing-more, too-few-items, all_listed)

-- The numbers are those of the definition's verdict

value-is : (l : List Item) → flat_map value_numbers (map value_of l) ≡ items_numbers l
value-is [] = refl
value-is (unknown ∷ l) = ap (λ (ns : List ℕ). 255 ∷ 0 ∷ 0 ∷ ns) (value-is l)
value-is (exact b ∷ l) = ap (λ (ns : List ℕ). length b ∷ number b ∷ 0 ∷ ns) (value-is l)

struct_is : (s : Stacks Item) → struct_numbers (packed_end s) ≡ items_numbers (items_of s)
unfolding packed_end
struct_is s =
    let n : length s.main + length s.alt ≡ length (map value_of (items_of s)) = sym (length-map (items_of s) value_of ∙ items-length s) in
    ap (flat_map value_numbers) (take_at (map value_of (items_of s)) _ _ (sym n)) ∙ value-is (items_of s)

-- by the verdict with its end, in either form
module _ (u : W.Verdict) where
  items-by : (c : Arm) → ends_numbers (end_as packed_end c) ≡ end_numbers c
  items-by dead = refl
  items-by (live s) = struct_is s

  packed-by : (c : Arm) → heights_numbers (end_heights (end_as packed_end c)) ≡ flag (has_end c) ∷ end_main c ∷ end_alt c ∷ []
  packed-by dead = refl
  packed-by (live s) = rw (packed-main s, packed-alt s)

  heights-by : (c : Arm) → heights_numbers (end_as heights_of c) ≡ flag (has_end c) ∷ end_main c ∷ end_alt c ∷ []
  heights-by dead = refl
  heights-by (live s) = refl

  pub verdict-items : ends_numbers (end_as packed_end u.end) ≡ end_numbers u.end
  verdict-items = items-by u.end

  pub verdict-packed : told_numbers (in_heights (told_of packed_end u)) ≡ verdict_numbers u
  verdict-packed = ap (λ (l : List ℕ). u.answer.number ∷ u.answer.offset ∷ u.answer.first ∷ u.answer.second ∷ u.rows ∷ u.peak ∷ l) (packed-by u.end)

  pub verdict-heights : told_numbers (told_of heights_of u) ≡ verdict_numbers u
  verdict-heights = ap (λ (l : List ℕ). u.answer.number ∷ u.answer.offset ∷ u.answer.first ∷ u.answer.second ∷ u.rows ∷ u.peak ∷ l) (heights-by u.end)

pub ruleset verdicts = (verdict-items, verdict-packed, verdict-heights)
