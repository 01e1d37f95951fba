-- Texts as numbers, and a line as numbers.
use mathlib.Core.Bool.{Bool, true, false, cond, not, ◌&&◌}
use mathlib.Core.Path.{◌≡◌, refl, sym, ap, ◌∙◌, subst}
use mathlib.Core.List.{List, [], ◌∷◌, ◌++◌, append_assoc}
use Prim.Native.Nat.{ℕ, ◌+◌, ◌*◌, ◌^◌, ◌<◌, ◌≤◌}
use native.Mathlib.Omega.{arith}
use borrow.Author.Tests.{lt-ltb, ltb-true, eq-eqb, ne_eqb}
use denote.Param.Members.{Mut}
use denote.Ref.{Bor}
use lib.Dec.{ltb, eqb}
use lib.ListN.{length, take, get_or, set, length-append}
use Rattle.std.proofs.Common.{add-one, Option, Some, None}
use Rattle.std.proofs.Math.Seq.{take-suc-set}
use Rattle.std.proofs.lemmas.Grind.{common_steps}
use Rattle.std.proofs.lemmas.List.{append-nil, take_all}
use Rattle.std.proofs.lemmas.List.Splits.{length-slice_split, slice_split_none, slice_split_at}
use Rattle.std.proofs.lemmas.Int.Digits.{digits_more, digits_value_more}
use Rattle.std.proofs.lemmas.Str.{digit_value_digit}
use Rattle.std.proofs.lemmas.Str.Parse.{IsNumeralModel, numerals_by_value, tells_all_ascii_digits, not_in_digits, digit_at, digits_value-take-le}
use Rattle.std.proofs.lemmas.Fn.{always_returns_same}
use Rattle.std.specs.Bool.{MatchBool, then_some}
use Rattle.std.specs.Fn.{CalledAt, ComputesKey}
use Rattle.std.specs.Slice.Iter.{split_steps, split_rest, split_done, split_callee}
use Rattle.std.specs.declared.slice.Split.{Split}
use Rattle.std.specs.List.{All, IsFirstMatchOrLen}
use Rattle.std.specs.Option.{IfSome, IfNone, is_some}
use Rattle.std.specs.Char.{digit_value}
use Rattle.std.specs.Str.{all_ascii_digits}
use Rattle.std.specs.Str.Parse.{AllDigits, digits_value}
use Rattle.definition.specs.Basics.{pick}
use Rattle.cases.specs.Decimals.{decimal, decimals, with_number, texts_of, numbers_in}

-- Numbers

own : IsNumeralModel (λ ds. all_ascii_digits ds ≡ true) (digits_value 10)
own = numerals_by_value (λ ds. all_ascii_digits ds ≡ true) tells_all_ascii_digits

module _ (text : List ℕ) where
  decimal-yes : all_ascii_digits text ≡ true → 0 < length text → digits_value 10 text < 2 ^ 32 → Some (digits_value 10 text) ≡ decimal text
  unfolding decimal
  decimal-yes a b h = rw (a, lt-ltb 0 (length text) b, lt-ltb (digits_value 10 text) (2 ^ 32) h)

  decimal-no : (all_ascii_digits text ≡ true → 0 < length text → digits_value 10 text < 2 ^ 32 → ⊥) → None ≡ decimal text
  unfolding decimal
  decimal-no h = by (all_ascii_digits text) refl (ltb 0 (length text)) refl (ltb (digits_value 10 text) (2 ^ 32)) refl
    where
      by : (a : Bool) → all_ascii_digits text ≡ a → (b : Bool) → ltb 0 (length text) ≡ b → (d : Bool) → ltb (digits_value 10 text) (2 ^ 32) ≡ d
          → ◌≡◌ {A = Option ℕ} None (pick (a && b && d) (Some (digits_value 10 text)) None)
      by true e true f true g = absurd (h e (ltb-true 0 (length text) f) (ltb-true (digits_value 10 text) (2 ^ 32) g))
      by true e true f false g = refl
      by true e false f d g = refl
      by false e b f d g = refl

  -- where there is no character
  pub decimal-empty : length text ≡ 0 → None ≡ decimal text
  decimal-empty e = decimal-no (λ a b h. omega arith)

  -- where a plus sign comes first
  pub decimal-plus : get_or text 0 0 ≡ 43 → None ≡ decimal text
  decimal-plus e = decimal-no (λ a b h. not_in_digits own text 43 a (λ r. omega arith) 0 b e)

  -- where a character is no digit
  pub decimal-no_digit : (i : ℕ) → i < length text → (digit_value (get_or text i 0) < 10 → ⊥) → None ≡ decimal text
  decimal-no_digit i l n = decimal-no (λ a b h. n (let k = digit_at text i (own.to text a) l in omega (arith, digit_value_digit (get_or text i 0) k)))

  -- the first i characters are digits of this value
  abbrev pub Begun : ℕ → ℕ → Type 0
  Begun i value = AllDigits 10 (take i text) × (value ≡ digits_value 10 (take i text))

  pub begun-more : (i value byte digit : ℕ) → i < length text → Begun i value → byte ≡ get_or text i 0 → (digit_value byte < 10) × (digit ≡ digit_value byte) → Begun (i + 1) (10 * value + digit)
  begun-more i value byte digit l h e k =
      (digits_more 10 text i l h.0 (rw (← e) k.0), omega (arith, digits_value_more 10 text i l, h.1, k.1, ap digit_value e))

  pub begun-large : (i value : ℕ) → Begun i value → 4294967295 < value → None ≡ decimal text
  begun-large i value h m = decimal-no (λ a b d. omega (arith, h.1, digits_value-take-le 10 text i (omega arith)))

  pub begun-all : (i value : ℕ) → Begun i value → length text ≤ i → 0 < length text → value ≤ 4294967295 → Some value ≡ decimal text
  begun-all i value h l s m = let e : take i text ≡ text = take_all i text l in
      let v : value ≡ digits_value 10 text = h.1 ∙ ap (digits_value 10) e in
      ap Some v ∙ decimal-yes (own.from text (subst (AllDigits 10) e h.0)) s (omega (arith, v))

-- Lines

decimals-push : (l : List (List ℕ)) (text : List ℕ) (values : List ℕ) (v : ℕ) → decimals l ≡ Some values → decimal text ≡ Some v
    → decimals (l ++ (text ∷ [])) ≡ Some (values ++ (v ∷ []))
decimals-push [] text values v h k = rw k (let e : values ≡ [] = cc in rw e)
decimals-push (x ∷ l) text values v h k = by (decimal x) (decimals l) h (decimals-push l text)
  where
    by : (a : Option ℕ) (b : Option (List ℕ)) → with_number a b ≡ Some values → ((w : List ℕ) (u : ℕ) → b ≡ Some w → decimal text ≡ Some u → decimals (l ++ (text ∷ [])) ≡ Some (w ++ (u ∷ [])))
        → with_number a (decimals (l ++ (text ∷ []))) ≡ Some (values ++ (v ∷ []))
    by (Some n) (Some w) e f = rw (f w v refl k) (let d : n ∷ w ≡ values = cc in ap (λ z. Some (z ++ (v ∷ []))) d)
    by (Some n) None e f = cc
    by None b e f = cc

decimals-bad : (l : List (List ℕ)) (text : List ℕ) (more : List (List ℕ)) → decimal text ≡ None → decimals (l ++ (text ∷ more)) ≡ None
decimals-bad [] text more h = rw h
decimals-bad (x ∷ l) text more h = rw (decimals-bad l text more h) (by (decimal x))
  where
    by : (a : Option ℕ) → with_number a None ≡ None
    by (Some n) = refl
    by None = refl

-- the texts that are left
abbrev pub left : Bool → List ℕ → List (List ℕ)
left done rest = cond done [] (texts_of rest)

-- what one more part is, where the closure tests for a space
module _ {F : Type 0} (g : Mut F (Bor ℕ × Unit {0}) Bool) (tests : (f : F) (x : ℕ) (b : Bool) (q : F) → CalledAt g f x b q → (q ≡ f) × (b ≡ eqb x 32)) where
  computes : (f : F) → ComputesKey g (λ b. eqb b 32) f
  computes f = always_returns_same g (λ a r. r ≡ eqb a.0.now 32) f (λ a r q k. let m = tests f a.0.now r q (record { shown = a.0; shows = refl; called = k }) in (m.1, m.0))

  part : (xs x rest : List ℕ) (done : Bool) → MatchBool done (xs ≡ x) ((y : ℕ) × (xs ≡ x ++ (y ∷ rest))) → IsFirstMatchOrLen (λ b. eqb b 32) xs (length x) → texts_of xs ≡ x ∷ left done rest
  part xs x rest true e h = ap texts_of e ∙ slice_split_none (λ b. eqb b 32) x (λ k d l. subst (λ ys. eqb (get_or ys k d) 32 ≡ false) e (h.0 k d (omega arith) l))
  part xs x rest false e h =
      let front : All (λ z. eqb z 32 ≡ false) x = λ k d l. let a = h.0 k d (omega arith) l in let b = e.1 in grind (arith, common_steps) in
      let hit : eqb e.0 32 ≡ true = let b = e.1 in let a = h.1 (grind (arith, common_steps)) e.0 in grind (arith, common_steps) in
      ap texts_of e.1 ∙ slice_split_at (λ b. eqb b 32) x e.0 rest front hit

  pub next-part : (s t : Split ℕ F) (x : Bor (List ℕ)) → split_steps g s (Some x) t → texts_of (split_rest s) ≡ x.now ∷ left (split_done t) (split_rest t)
  next-part s t x k = part (split_rest s) x.now (split_rest t) (split_done t) k.1 (k.2 (λ b. eqb b 32) (computes (split_callee s))).1

-- whether there is one more
module _ {F : Type 0} (g : Mut F (Bor ℕ × Unit {0}) Bool) (s t : Split ℕ F) (r : Option (Bor (List ℕ))) (b : Bool) (k : split_steps g s r t) (m : is_some r ≡ not b) (X : Type 0) where
  pub last-some : (split_done s ≡ true → X) → IfSome {T = Unit {0}} (then_some b tt) (λ u. X)
  last-some f = by r b k m
    where
      by : (r : Option (Bor (List ℕ))) (b : Bool) → split_steps g s r t → is_some r ≡ not b → IfSome {T = Unit {0}} (then_some b tt) (λ u. X)
      by None true k m = f k.0
      by None false k m = cc
      by (Some x) true k m = cc
      by (Some x) false k m = tt

  pub last-none : (split_done s ≡ false → X) → IfNone {T = Unit {0}} (then_some b tt) X
  last-none f = by r b k m
    where
      by : (r : Option (Bor (List ℕ))) (b : Bool) → split_steps g s r t → is_some r ≡ not b → IfNone {T = Unit {0}} (then_some b tt) X
      by None true k m = tt
      by None false k m = cc
      by (Some x) true k m = cc
      by (Some x) false k m = f k.0

-- so many texts of the line are read, as the first of these values
pub record Read (line : List ℕ) (i : ℕ) (values : List ℕ) (done : Bool) (rest : List ℕ) : Type 0 where
  pub front : List (List ℕ)
  pub parts : texts_of line ≡ front ++ left done rest
  pub count : length front ≡ i
  pub numbers : decimals front ≡ Some (take i values)

pub read-none : (line values : List ℕ) → Read line 0 values false line
read-none line values = record { front = []; parts = refl; count = refl; numbers = refl }

module _ (line : List ℕ) (n i : ℕ) (values : List ℕ) (done : Bool) (rest : List ℕ) (h : Read line i values done rest) where
  in-wrong : (length (texts_of line) ≡ n → ⊥) → numbers_in n line ≡ None
  unfolding numbers_in
  in-wrong e = rw (ne_eqb (length (texts_of line)) n e)

  in-bad : decimals (texts_of line) ≡ None → numbers_in n line ≡ None
  unfolding numbers_in
  in-bad e = rw e (by (eqb (length (texts_of line)) n))
    where
      by : (t : Bool) → ◌≡◌ {A = Option (List ℕ)} (pick t None None) None
      by true = refl
      by false = refl

  in-all : length (texts_of line) ≡ n → (l : List ℕ) → decimals (texts_of line) ≡ Some l → numbers_in n line ≡ Some l
  unfolding numbers_in
  in-all e l k = rw (eq-eqb (length (texts_of line)) n e, k)

  count-parts : length (texts_of line) ≡ i + length (left done rest)
  count-parts = rw h.parts (length-append h.front (left done rest) ∙ ap (λ x. x + length (left done rest)) h.count)

  -- a text more
  pub read-next : done ≡ false → (x : List ℕ) (done' : Bool) (rest' : List ℕ) → texts_of rest ≡ x ∷ left done' rest' → (v : ℕ) → decimal x ≡ Some v → i < length values
      → Read line (i + 1) (set values i v) done' rest'
  read-next e x done' rest' k v d lt = record {
    front = h.front ++ (x ∷ []);
    parts = h.parts ∙ rw (e, k, append_assoc);
    count = length-append h.front (x ∷ []) ∙ rw h.count;
    numbers = decimals-push h.front x (take i values) v h.numbers d ∙ ap Some (rw add-one (sym (take-suc-set values i v lt)));
  }

  -- one that is no number
  pub read-bad : done ≡ false → (x : List ℕ) (more : List (List ℕ)) → texts_of rest ≡ x ∷ more → decimal x ≡ None → numbers_in n line ≡ None
  read-bad e x more k d = in-bad (rw (h.parts, e, k) (decimals-bad h.front x more d))

  -- too few
  pub read-short : done ≡ true → i < n → numbers_in n line ≡ None
  read-short e lt = in-wrong (λ k. let c : length (left done rest) ≡ 0 = rw e in omega (arith, count-parts))

  -- too many
  pub read-long : done ≡ false → n ≡ i → numbers_in n line ≡ None
  read-long e k = in-wrong (λ g. let c : length (left done rest) ≡ length (texts_of rest) = rw e in omega (arith, count-parts, length-slice_split (λ b. eqb b 32) rest))

  -- as many
  pub read-all : done ≡ true → n ≡ i → n ≡ length values → numbers_in n line ≡ Some values
  read-all e k l =
      let c : length (left done rest) ≡ 0 = rw e in
      in-all (omega (arith, count-parts)) values (rw (h.parts, e, append-nil) (h.numbers ∙ ap Some (take_all i values (omega arith))))
