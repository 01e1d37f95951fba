-- The words of a listing, one after another.
use mathlib.Core.Bool.{Bool, true, false}
use mathlib.Core.List.{List, [], ◌∷◌, ◌++◌, append_assoc, append-nil}
use mathlib.Core.Option.{Option, none, some}
use mathlib.Core.Path.{◌≡◌, refl, sym, ap, ◌∙◌}
use Prim.Native.Nat.{ℕ, ◌+◌, ◌≤◌}
use native.Mathlib.Omega.{arith}
use lib.Dec.{eqb}
use lib.ListN.{length, length-append}
use Rattle.definition.specs.Basics.{Bytes, pick}
use Rattle.definition_listings.specs.Assembling.{word_read, in_front, words_from, words, Assembly, gives, strange, on_word, assembly}
use Rattle.std.specs.Prelude.{Ok, Err, cond, MatchBool}
use Rattle.std.specs.List.{slice_split, onto_first, IsFirstMatchOrLen, All}
use Rattle.std.proofs.lemmas.List.Splits.{slice_split_none, slice_split_at}
use Rattle.std.proofs.lemmas.Grind.{common_steps}
use Rattle.refusals.specs.declared.Refusal.TheVariants.{StrangeWord}
use Rattle.words.specs.View.{bytes_of, Counted}
use Rattle.assembling.specs.View.{judged_of, assembly_of}

-- The words are the parts at the spaces

abbrev pub space : ℕ → Bool
space c = eqb c 32

onto-front : (c : ℕ) (ws : List Bytes) → in_front c ws ≡ onto_first c ws
onto-front c [] = refl
onto-front c (w ∷ ws) = refl

words-split : (l : Bytes) → words_from l ≡ slice_split space l
words-split [] = refl
words-split (c ∷ l) = by (words-split l) (space c)
  where
    by : words_from l ≡ slice_split space l → (b : Bool) → pick b ([] ∷ words_from l) (in_front c (words_from l)) ≡ cond b ([] ∷ slice_split space l) (onto_first c (slice_split space l))
    by e true = ap (λ (ws : List Bytes). [] ∷ ws) e
    by e false = ap (in_front c) e ∙ onto-front c (slice_split space l)

-- the words that are left, and the first of them
abbrev pub left : Bool → Bytes → List Bytes
left ended rest = cond ended [] (slice_split space rest)

first-left : (rest w more : Bytes) (ended : Bool) → MatchBool ended (rest ≡ w) ((y : ℕ) × (rest ≡ w ++ (y ∷ more))) → IsFirstMatchOrLen space rest (length w)
    → slice_split space rest ≡ w ∷ left ended more
first-left rest w more true e h =
    ap (slice_split space) e ∙ slice_split_none space w (λ k d l. let a = h.0 k d (omega arith) l in grind (arith, common_steps, a, e))
first-left rest w more false e h =
    let front : All (λ z. space z ≡ false) w = λ k d l. let a = h.0 k d (omega arith) l in let b = e.1 in grind (arith, common_steps) in
    let hit : space e.0 ≡ true = let b = e.1 in let a = h.1 (grind (arith, common_steps)) e.0 in grind (arith, common_steps) in
    ap (slice_split space) e.1 ∙ slice_split_at space w e.0 more front hit

-- Bytes in front of what becomes of the words behind them

abbrev pub onto : Bytes → Assembly → Assembly
onto d (gives l) = gives (d ++ l)
onto d (strange offset) = strange offset

onto-none : (a : Assembly) → a ≡ onto [] a
onto-none (gives l) = refl
onto-none (strange offset) = refl

onto-onto : (d b : Bytes) (a : Assembly) → onto d (onto b a) ≡ onto (d ++ b) a
onto-onto d b (gives l) = ap gives (sym (append_assoc d b l))
onto-onto d b (strange offset) = refl

on-good : (b : Bytes) (at : ℕ) (a : Assembly) → on_word (some b) at a ≡ onto b a
on-good b at (gives l) = refl
on-good b at (strange offset) = refl

-- the words before an offset are good, and give `bytes`; the rest are left
pub record Read (l : Bytes) (ended : Bool) (rest : Bytes) (offset : ℕ) (bytes : Bytes) : Type 0 where
  pub is : assembly_of l ≡ onto bytes (assembly offset (left ended rest))
  pub within : ended ≡ false → offset + length rest ≤ length l

pub read_none : (l : Bytes) (ended : Bool) (rest : Bytes) → (length l ≡ 0 → ⊥) → ended ≡ false → rest ≡ l → Read l ended rest 0 []
read_none [] ended rest n e r = absurd (n refl)
read_none (c ∷ l) ended rest n e r = record {
  is = ap (assembly 0) (words-split (c ∷ l)) ∙ rw (e, r) (onto-none (assembly 0 (slice_split space (c ∷ l))));
  within = λ f. omega (arith, ap length r);
}

pub read-all : (l : Bytes) (ended : Bool) (rest : Bytes) (offset : ℕ) (bytes : Bytes) → Read l ended rest offset bytes → ended ≡ true → assembly_of l ≡ gives bytes
read-all l ended rest offset bytes r e = r.is ∙ rw e (ap gives (append-nil bytes))

module _ (l : Bytes) (ended : Bool) (rest : Bytes) (offset : ℕ) (bytes : Bytes) (r : Read l ended rest offset bytes) (going : ended ≡ false)
    (w more : Bytes) (last : Bool) (cut : MatchBool last (rest ≡ w) ((y : ℕ) × (rest ≡ w ++ (y ∷ more)))) (first : IsFirstMatchOrLen space rest (length w)) where
  here : assembly_of l ≡ onto bytes (on_word (word_read w) offset (assembly (offset + length w + 1) (left last more)))
  here = r.is ∙ rw going (ap (λ (ws : List Bytes). onto bytes (assembly offset ws)) (first-left rest w more last cut first))

  -- a strange word
  pub read-strange : word_read w ≡ none → assembly_of l ≡ strange offset
  read-strange e = here ∙ ap (λ (x : Option Bytes). onto bytes (on_word x offset (assembly (offset + length w + 1) (left last more)))) e

  -- and a good one
  pub read_more : (b : Bytes) → word_read w ≡ some b → Read l last more (offset + (length w + 1)) (bytes ++ b)
  read_more b good =
      let n : offset + length w + 1 ≡ offset + (length w + 1) = omega arith in
      record {
        is = here
            ∙ ap (λ (x : Option Bytes). onto bytes (on_word x offset (assembly (offset + length w + 1) (left last more)))) good
            ∙ ap (onto bytes) (on-good b offset (assembly (offset + length w + 1) (left last more)))
            ∙ onto-onto bytes b (assembly (offset + length w + 1) (left last more))
            ∙ ap (λ m. onto (bytes ++ b) (assembly m (left last more))) n;
        within = inner last cut;
      }
    where
      inner : (b : Bool) → MatchBool b (rest ≡ w) ((y : ℕ) × (rest ≡ w ++ (y ∷ more))) → b ≡ false → offset + (length w + 1) + length more ≤ length l
      inner true e f = let z : ◌≡◌ {A = ℕ} 0 1 = cc in absurd (omega arith)
      inner false e f = omega (arith, ap length e.1, length-append w (e.0 ∷ more), r.within going)

-- The first pass: so many bytes are counted.
pub record Judging (l : Bytes) (ended : Bool) (rest : Bytes) (offset size : ℕ) : Type 0 where
  pub bytes : Bytes
  pub read : Read l ended rest offset bytes
  pub count : length bytes ≡ size
  pub least : size ≤ offset

pub judged-empty : (l : Bytes) → length l ≡ 0 → Ok 0 ≡ judged_of (assembly 0 (words l))
judged-empty [] e = refl
judged-empty (c ∷ l) e = absurd (omega arith)

pub judging-none : (l : Bytes) (ended : Bool) (rest : Bytes) → (length l ≡ 0 → ⊥) → ended ≡ false → rest ≡ l → Judging l ended rest 0 0
judging-none l ended rest n e r = record { bytes = []; read = read_none l ended rest n e r; count = refl; least = omega arith }

module _ (l : Bytes) (ended : Bool) (rest : Bytes) (offset size : ℕ) (j : Judging l ended rest offset size) (going : ended ≡ false)
    (w more : Bytes) (last : Bool) (cut : MatchBool last (rest ≡ w) ((y : ℕ) × (rest ≡ w ++ (y ∷ more)))) (first : IsFirstMatchOrLen space rest (length w)) where
  pub judging-strange : word_read w ≡ none → Err (record { offset = offset; refusal = StrangeWord }) ≡ judged_of (assembly_of l)
  judging-strange z = ap judged_of (sym (read-strange l ended rest offset j.bytes j.read going w more last cut first z))

  pub judging-more : (n : ℕ) → Counted w n → Judging l last more (offset + (length w + 1)) (size + n)
  judging-more n sized = record {
    bytes = j.bytes ++ bytes_of w;
    read = read_more l ended rest offset j.bytes j.read going w more last cut first (bytes_of w) sized.good;
    count = length-append j.bytes (bytes_of w) ∙ omega (arith, j.count, sized.size);
    least = omega (arith, j.least, sized.most);
  }
