-- Request L3 as it is worded: fragments that are blanked alike are alike, so their verdicts and logs are the same.
use mathlib.Core.Bool.{Bool, true, false, ◌&&◌}
use mathlib.Core.List.{List, [], ◌∷◌}
use mathlib.Core.Logic.{◌⊎◌, inl, inr}
use mathlib.Core.Path.{◌≡◌, refl, sym, ap, ◌∙◌}
use Prim.Native.Nat.{ℕ, zero, suc, ◌+◌, ◌-◌, ◌≤◌}
use native.Mathlib.Omega.{arith}
use borrow.Author.Tests.{leb-true, eqb-true, ne_eqb, le-leb}
use lib.Dec.{leb, eqb}
use lib.ListN.{length, take, drop, get_or, length-drop}
use lib.Seq.{length-take-le}
use Rattle.definition.specs.Basics.{Bytes, pick}
use Rattle.definition.specs.Decoding.{number, Front, whole, short, alone, pushes, front, Code, on_front, decode_from, decode, malformed_at}
use Rattle.definition.specs.Stacks.{Rules}
use Rattle.definition.specs.Walk.{analysis}
use Rattle.definition.specs.Papers.{Part, bytes_of, initialiser, entries, bodies, mark_paper}
use Rattle.definition_long_data.specs.Blank.{long, length_bytes, data_bytes, blank_from, blank, Blanked, AlikeCode, both_end, both_malformed, both_then, Alike, EachPart, RelatedPapers, TellsNothing}
use Rattle.definition.proofs.TrueOfPaper.{within-front}
use Rattle.definition_long_data.proofs.LongData.{analysis-alike, paper-alike, malformed-alike}

-- What blanking keeps

-- what holds of both values
either : {X : Type 0} (P : X → Type 0) (b : Bool) {x y : X} → P x → P y → P (pick b x y)
either P true h k = h
either P false h k = k

length-blank : (kept blanks : ℕ) (l : Bytes) → length (blank_from kept blanks l) ≡ length l
length-blank kept blanks [] = refl
length-blank zero zero (b ∷ l) =
    ap suc (either (λ m. length m ≡ length l) (long (data_bytes b l)) (length-blank (length_bytes b) (data_bytes b l) l) (length-blank (length_bytes b + data_bytes b l) 0 l))
length-blank zero (suc blanks) (b ∷ l) = ap suc (length-blank 0 blanks l)
length-blank (suc kept) blanks (b ∷ l) = ap suc (length-blank kept blanks l)

-- the bytes before the data
take-blank : (n kept blanks : ℕ) (l : Bytes) → n ≤ kept → take n (blank_from kept blanks l) ≡ take n l
take-blank zero kept blanks l h = refl
take-blank (suc n) kept blanks [] h = refl
take-blank (suc n) zero blanks (b ∷ l) h = absurd (omega arith)
take-blank (suc n) (suc kept) blanks (b ∷ l) h = ap (λ m. b ∷ m) (take-blank n kept blanks l (omega arith))

-- what stands behind an opcode, blanked
abbrev behind : ℕ → ℕ → Bytes → Bytes
behind n size l = pick (long size) (blank_from n size l) (blank_from (n + size) 0 l)

length-behind : (n size : ℕ) (l : Bytes) → length (behind n size l) ≡ length l
length-behind n size l = either (λ m. length m ≡ length l) (long size) (length-blank n size l) (length-blank (n + size) 0 l)

take_behind : (n size : ℕ) (l : Bytes) → take n (behind n size l) ≡ take n l
take_behind n size l = either (λ m. take n m ≡ take n l) (long size) (take-blank n n size l (omega arith)) (take-blank n (n + size) 0 l (omega arith))

-- the bytes of length tell how many of data there are
data-same : (b : ℕ) (l m : Bytes) → take (length_bytes b) l ≡ take (length_bytes b) m → data_bytes b l ≡ data_bytes b m
data-same b l m e = ap (λ r. pick (leb 0x01 b && leb b 0x4b) b (number r)) e

-- What stands at the front

-- n bytes of length and `size` of data
abbrev asked : ℕ → ℕ → Bytes → Front
asked n size rest = pick (leb n (length rest)) (pushes n size (drop n rest)) short

-- an opcode with data behind it, or one that stands alone
abbrev Kind : ℕ → Type 0
Kind b = ((rest : Bytes) → front b rest ≡ asked (length_bytes b) (data_bytes b rest) rest)
    ⊎ ((rest : Bytes) → (length_bytes b + data_bytes b rest ≡ 0) × (front b rest ≡ whole 0 (alone b)))

second-of : (s t : Bool) → (s && t) ≡ true → t ≡ true
second-of true t e = e
second-of false true e = refl
second-of false false e = e

kind : (b : ℕ) → Kind b
unfolding front
kind b = direct (leb 0x01 b && leb b 0x4b) refl
  where
    last : (leb 0x01 b && leb b 0x4b) ≡ false → eqb b 0x4c ≡ false → eqb b 0x4d ≡ false → (t : Bool) → eqb b 0x4e ≡ t → Kind b
    last e1 e2 e3 true e = rw (eqb-true b 0x4e e) (inl (λ rest. refl))
    last e1 e2 e3 false e = inr (λ rest. rw (e1, e2, e3, e) (refl, refl))

    third : (leb 0x01 b && leb b 0x4b) ≡ false → eqb b 0x4c ≡ false → (t : Bool) → eqb b 0x4d ≡ t → Kind b
    third e1 e2 true e = rw (eqb-true b 0x4d e) (inl (λ rest. refl))
    third e1 e2 false e = last e1 e2 e (eqb b 0x4e) refl

    second : (leb 0x01 b && leb b 0x4b) ≡ false → (t : Bool) → eqb b 0x4c ≡ t → Kind b
    second e1 true e = rw (eqb-true b 0x4c e) (inl (λ rest. refl))
    second e1 false e = third e1 e (eqb b 0x4d) refl

    direct : (t : Bool) → (leb 0x01 b && leb b 0x4b) ≡ t → Kind b
    direct true e =
        let below : b ≤ 0x4b = leb-true b 0x4b (second-of (leb 0x01 b) (leb b 0x4b) e) in
        inl (λ rest. rw (e, ne_eqb b 0x4c (λ z. omega (arith, z)), ne_eqb b 0x4d (λ z. omega (arith, z)), ne_eqb b 0x4e (λ z. omega (arith, z)), le-leb 0 (length rest) (omega arith)))
    direct false e = second e (eqb b 0x4c) refl

-- two fronts that are both short, or both whole with so many bytes behind the opcode and literals that differ only where they are long
data Fronts (after : ℕ) : Front → Front → Type 0 where
  both_short : Fronts after short short
  both_whole : {l m : Bytes} → length l ≡ length m → (l ≡ m) ⊎ (long (length l) ≡ true) → Fronts after (whole after l) (whole after m)

-- bytes of the same data, or both with long data in this place
abbrev DataAlike : ℕ → ℕ → Bytes → Bytes → Type 0
DataAlike n size l m = (take (n + size) l ≡ take (n + size) m) ⊎ (long size ≡ true)

asked-alike : (n size : ℕ) (l m : Bytes) → length l ≡ length m → DataAlike n size l m → Fronts (n + size) (asked n size l) (asked n size m)
asked-alike n size l m e d = rw (e, left) (lengths (leb n (length m)))
  where
    left : length (drop n l) ≡ length (drop n m)
    left = length-drop n l ∙ ap (λ k. k - n) e ∙ sym (length-drop n m)

    all : size ≤ length (drop n m) → Fronts (n + size) (whole (n + size) (take size (drop n l))) (whole (n + size) (take size (drop n m)))
    all h =
        let is : length (take size (drop n l)) ≡ size = length-take-le size (drop n l) (omega (arith, left)) in
        both_whole (is ∙ sym (length-take-le size (drop n m) h)) (literals is d)
      where
        literals : length (take size (drop n l)) ≡ size → DataAlike n size l m
            → (take size (drop n l) ≡ take size (drop n m)) ⊎ (long (length (take size (drop n l))) ≡ true)
        literals is (inl s) = inl (sym (within-front n size (n + size) l (omega arith)) ∙ ap (λ r. take size (drop n r)) s ∙ within-front n size (n + size) m (omega arith))
        literals is (inr t) = inr (ap (λ k. long k) is ∙ t)

    datas : (b : Bool) → leb size (length (drop n m)) ≡ b
        → Fronts (n + size) (pick b (whole (n + size) (take size (drop n l))) short) (pick b (whole (n + size) (take size (drop n m))) short)
    datas true h = all (leb-true size (length (drop n m)) h)
    datas false h = both_short

    lengths : (b : Bool) → Fronts (n + size)
        (pick b (pick (leb size (length (drop n m))) (whole (n + size) (take size (drop n l))) short) short)
        (pick b (pick (leb size (length (drop n m))) (whole (n + size) (take size (drop n m))) short) short)
    lengths true = datas (leb size (length (drop n m))) refl
    lengths false = both_short

fronts : (b : ℕ) (l m : Bytes) → length l ≡ length m → data_bytes b l ≡ data_bytes b m → DataAlike (length_bytes b) (data_bytes b l) l m
    → Fronts (length_bytes b + data_bytes b l) (front b l) (front b m)
fronts b l m e s d = by (kind b)
  where
    by : Kind b → Fronts (length_bytes b + data_bytes b l) (front b l) (front b m)
    by (inl k) = rw (k l, k m, ← s) (asked-alike (length_bytes b) (data_bytes b l) l m e d)
    by (inr k) = rw ((k l).1, (k m).1, (k l).0) (both_whole refl (inl refl))

-- The code

code_same : (after b offset : ℕ) {x y : Front} (next next' : ℕ → Code) → Fronts after x y → AlikeCode (next after) (next' after)
    → AlikeCode (on_front x b offset next) (on_front y b offset next')
code_same after b offset next next' both_short h = both_malformed offset
code_same after b offset next next' (both_whole e d) h = both_then (record { opcode = refl; offset = refl; size = e; literal = d }) h

-- at an opcode, where what stands behind it is blanked alike, and `onward` is known of that
module _ (b offset : ℕ) (l m : Bytes) (t : behind (length_bytes b) (data_bytes b l) l ≡ behind (length_bytes b) (data_bytes b m) m)
    (onward : (kept blanks passing : ℕ) → passing ≡ kept + blanks → blank_from kept blanks l ≡ blank_from kept blanks m
    → AlikeCode (decode_from passing (offset + 1) l) (decode_from passing (offset + 1) m)) where
  abbrev n : ℕ
  n = length_bytes b

  abbrev size : ℕ
  size = data_bytes b l

  lengths-same : length l ≡ length m
  lengths-same = sym (length-behind n size l) ∙ ap length t ∙ length-behind n (data_bytes b m) m

  size_same : size ≡ data_bytes b m
  size_same = data-same b l m (sym (take_behind n size l) ∙ ap (λ r. take n r) t ∙ take_behind n (data_bytes b m) m)

  at-opcode : AlikeCode (decode_from 0 offset (b ∷ l)) (decode_from 0 offset (b ∷ m))
  at-opcode = by (long size) refl (t ∙ ap (λ k. behind n k m) (sym size_same))
    where
      from : DataAlike n size l m → AlikeCode (decode_from (n + size) (offset + 1) l) (decode_from (n + size) (offset + 1) m)
          → AlikeCode (decode_from 0 offset (b ∷ l)) (decode_from 0 offset (b ∷ m))
      from d c = code_same (n + size) b offset _ _ (fronts b l m lengths-same size_same d) c

      by : (x : Bool) → long size ≡ x
          → pick x (blank_from n size l) (blank_from (n + size) 0 l) ≡ pick x (blank_from n size m) (blank_from (n + size) 0 m)
          → AlikeCode (decode_from 0 offset (b ∷ l)) (decode_from 0 offset (b ∷ m))
      by true e h = from (inr e) (onward n size (n + size) refl h)
      by false e h =
          from (inl (sym (take-blank (n + size) (n + size) 0 l (omega arith)) ∙ ap (λ r. take (n + size) r) h ∙ take-blank (n + size) (n + size) 0 m (omega arith)))
          (onward (n + size) 0 (n + size) (omega arith) h)

blanked-code : (kept blanks passing offset : ℕ) → passing ≡ kept + blanks → (f g : Bytes) → blank_from kept blanks f ≡ blank_from kept blanks g
    → AlikeCode (decode_from passing offset f) (decode_from passing offset g)
blanked-code kept blanks passing offset e [] [] h = both_end
blanked-code kept blanks passing offset e [] (b ∷ g) h = absurd (omega (arith, ap length h, length-blank kept blanks (b ∷ g)))
blanked-code kept blanks passing offset e (a ∷ f) [] h = absurd (omega (arith, ap length h, length-blank kept blanks (a ∷ f)))
blanked-code zero zero zero offset e (a ∷ f) (b ∷ g) h =
    let s : a ≡ b = ap (λ r. get_or r 0 0) h in
    rw (← s) (at-opcode a offset f g (rw (← s) at (ap (λ r. drop 1 r) h)) (λ kept blanks passing e t. blanked-code kept blanks passing (offset + 1) e f g t))
blanked-code zero zero (suc passing) offset e (a ∷ f) (b ∷ g) h = absurd (omega arith)
blanked-code zero (suc blanks) zero offset e (a ∷ f) (b ∷ g) h = absurd (omega arith)
blanked-code zero (suc blanks) (suc passing) offset e (a ∷ f) (b ∷ g) h =
    blanked-code 0 blanks passing (offset + 1) (omega arith) f g (ap (λ r. drop 1 r) h)
blanked-code (suc kept) blanks zero offset e (a ∷ f) (b ∷ g) h = absurd (omega arith)
blanked-code (suc kept) blanks (suc passing) offset e (a ∷ f) (b ∷ g) h =
    blanked-code kept blanks passing (offset + 1) (omega arith) f g (ap (λ r. drop 1 r) h)

-- The request's relation implies the wider one.
pub blanked_alike : (f g : Bytes) → Blanked f g → Alike f g
unfolding blank decode
blanked_alike f g h = (sym (length-blank 0 0 f) ∙ ap length h ∙ length-blank 0 0 g, blanked-code 0 0 0 0 refl f g h)

pub blanked_alike_of_papers : (p q : Bytes) → RelatedPapers Blanked p q → RelatedPapers Alike p q
blanked_alike_of_papers p q a = record { size = a.size; header = a.header; parts = λ good. each (initialiser p ∷ bodies (entries p)) (a.parts good) }
  where
    each : (xs : List Part) → EachPart Blanked p q xs → EachPart Alike p q xs
    each [] h = tt
    each (x ∷ xs) h = (blanked_alike (bytes_of p x) (bytes_of q x) h.0, each xs h.1)

-- The claim: related fragments, from the same heights and with the same log, have the same verdict and the same log ..
pub long_data_tells_nothing : (R : Rules) (f g : Bytes) → Blanked f g → (main alt : ℕ) (log : List ℕ) → analysis R f main alt log ≡ analysis R g main alt log
long_data_tells_nothing R f g h = analysis-alike R f g (blanked_alike f g h)

-- .. and so have related papers
pub long_data_tells_nothing_of_papers : (R : Rules) (p q : Bytes) → RelatedPapers Blanked p q → (log : List ℕ) → mark_paper R p log ≡ mark_paper R q log
long_data_tells_nothing_of_papers R p q h = paper-alike R p q (blanked_alike_of_papers p q h)

pub blanked_tells_nothing : (R : Rules) → TellsNothing R Blanked
blanked_tells_nothing R = record { fragments = long_data_tells_nothing R; papers = long_data_tells_nothing_of_papers R }

-- "a malformed pair breaking off at the same offset"
pub break_off_alike : (f g : Bytes) → Blanked f g → malformed_at (decode f) ≡ malformed_at (decode g)
break_off_alike f g h = malformed-alike (blanked_alike f g h).1

-- A fragment and itself blanked

blank-again : (kept blanks : ℕ) (l : Bytes) → blank_from kept blanks (blank_from kept blanks l) ≡ blank_from kept blanks l
blank-again kept blanks [] = refl
blank-again zero zero (b ∷ l) =
    ap (λ r. b ∷ r) (ap (λ k. behind (length_bytes b) k rest) same ∙ by (long (data_bytes b l)) (blank_from (length_bytes b) (data_bytes b l)) (blank_from (length_bytes b + data_bytes b l) 0)
    (blank-again (length_bytes b) (data_bytes b l) l) (blank-again (length_bytes b + data_bytes b l) 0 l))
  where
    rest : Bytes
    rest = behind (length_bytes b) (data_bytes b l) l

    same : data_bytes b rest ≡ data_bytes b l
    same = data-same b rest l (take_behind (length_bytes b) (data_bytes b l) l)

    by : (x : Bool) (g h : Bytes → Bytes) → g (g l) ≡ g l → h (h l) ≡ h l → pick x (g (pick x (g l) (h l))) (h (pick x (g l) (h l))) ≡ pick x (g l) (h l)
    by true g h e d = e
    by false g h e d = d
blank-again zero (suc blanks) (b ∷ l) = ap (λ r. 0x00 ∷ r) (blank-again 0 blanks l)
blank-again (suc kept) blanks (b ∷ l) = ap (λ r. b ∷ r) (blank-again kept blanks l)

-- "Candidates share papers with signatures blanked; it must not matter": a fragment is related to itself blanked
pub blank_related : (f : Bytes) → Blanked (blank f) f
unfolding blank
blank_related f = blank-again 0 0 f
