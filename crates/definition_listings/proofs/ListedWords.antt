-- Document 02, L4: one word of a listing. A word that is read gives one whole instruction, whose word it is (`word_instruction`);
-- the word of a decoded instruction is read as the instruction in its shortest form (`word_of_read`), which decodes to the same
-- opcode, push forms aside, and data (`form_whole`).
use mathlib.Core.Bool.{Bool, true, false, ◌&&◌, ◌||◌, not}
use mathlib.Core.List.{[], ◌∷◌, ◌++◌, append_assoc}
use mathlib.Core.Logic.{◌⊎◌, inl, inr}
use mathlib.Core.Option.{Option, none, some}
use mathlib.Core.Path.{◌≡◌, refl, sym, ap, ◌∙◌}
use Prim.Native.Nat.{ℕ, zero, suc, ◌+◌, ◌-◌, ◌*◌, ◌/◌, ◌%◌, ◌^◌, ◌≤◌, ◌<◌}
use native.Mathlib.Nat.{pow-succ'}
use native.Mathlib.Omega.{arith}
use borrow.Author.Tests.{ltb-true, ltb-false, leb-true, leb-false, eqb-true, eqb-false, lt-ltb, le-ltb, le-leb, lt-leb, ne_eqb, not-true}
use lib.Dec.{ltb, leb, eqb}
use lib.ListN.{length, take, drop, length-append, length-take}
use lib.Seq.{take_at, drop_at}
use Rattle.definition.specs.Basics.{Bytes, pick}
use Rattle.definition.specs.Classes.{class_number}
use Rattle.definition.specs.Decoding.{number, Instruction, whole, short, alone, pushes, sized, front, then, decode_from}
use Rattle.definition_listings.specs.Hex.{hex_digit, hex_byte}
use Rattle.definition.specs.Lines.{text}
use Rattle.definition_listings.specs.Assembling.{on_read, digit_read, hex_read, before_end, push_read, unmodelled_read, same, code_in, word_read}
use Rattle.definition_listings.specs.Listing.{hex_bytes, data_word, code_word, word_of}
use Rattle.definition_listings.specs.Shortest.{lowest_first, push_of, in_form}
use Rattle.definition_listings.specs.OpcodeNames.{name_table, name_of}
use Rattle.definition.specs.Replay.{AreBytes}
use Rattle.definition_listings.proofs.NameRule.{both, same_equal, no_space, Ruled, name_read, code_named}

-- something was read, and then this
on_read_some : {A B : Type 0} (o : Option A) (next : A → Option B) (y : B) → on_read o next ≡ some y → (x : A) × (o ≡ some x) × (next x ≡ some y)
on_read_some none next y e = let z : ◌≡◌ {A = ℕ} 0 1 = cc in absurd (omega arith)
on_read_some (some x) next y e = (x, refl, e)

-- Hexadecimal

digit_read_is : (c x : ℕ) → digit_read c ≡ some x → (x < 16) × (hex_digit x ≡ c)
digit_read_is c x = by (leb 48 c && leb c 57) (leb 97 c && leb c 102) refl refl
  where
    by : (p q : Bool) → (leb 48 c && leb c 57) ≡ p → (leb 97 c && leb c 102) ≡ q
        → pick p (some (c - 48)) (pick q (some (c - 87)) none) ≡ some x → (x < 16) × (hex_digit x ≡ c)
    by true q e f h =
        let t = both (leb 48 c) (leb c 57) e in
        let low : 48 ≤ c = leb-true 48 c t.0 in
        let high : c ≤ 57 = leb-true c 57 t.1 in
        let is : c - 48 ≡ x = cc in
        (omega arith, rw (lt-ltb x 10 (omega arith)) (omega arith))
    by false true e f h =
        let t = both (leb 97 c) (leb c 102) f in
        let low : 97 ≤ c = leb-true 97 c t.0 in
        let high : c ≤ 102 = leb-true c 102 t.1 in
        let is : c - 87 ≡ x = cc in
        (omega arith, rw (le-ltb x 10 (omega arith)) (omega arith))
    by false false e f h = let z : ◌≡◌ {A = ℕ} 0 1 = cc in absurd (omega arith)

digit_is_read : (x : ℕ) → x < 16 → digit_read (hex_digit x) ≡ some x
digit_is_read x h = by (ltb x 10) refl
  where
    by : (t : Bool) → ltb x 10 ≡ t → digit_read (pick t (48 + x) (87 + x)) ≡ some x
    by true e =
        let low : x < 10 = ltb-true x 10 e in
        let is : 48 + x - 48 ≡ x = omega arith in
        rw (le-leb 48 (48 + x) (omega arith), le-leb (48 + x) 57 (omega arith), is)
    by false e =
        let low : 10 ≤ x = ltb-false x 10 e in
        let is : 87 + x - 87 ≡ x = omega arith in
        rw (le-leb 48 (87 + x) (omega arith), lt-leb (87 + x) 57 (omega arith), le-leb 97 (87 + x) (omega arith), le-leb (87 + x) 102 (omega arith), is)

-- bytes that are read are written so
hex_read_is : (l d : Bytes) → hex_read l ≡ some d → l ≡ hex_bytes d
hex_read_is [] d e = let is : [] ≡ d = cc in rw (← is)
hex_read_is (c ∷ []) d e = let z : ◌≡◌ {A = ℕ} 0 1 = cc in absurd (omega arith)
hex_read_is (c ∷ f ∷ l) d e =
    let r = on_read_some (digit_read c) (λ x. on_read (digit_read f) (λ y. on_read (hex_read l) (λ bs. some ((16 * x + y) ∷ bs)))) d e in
    let s = on_read_some (digit_read f) (λ y. on_read (hex_read l) (λ bs. some ((16 * r.0 + y) ∷ bs))) d r.2 in
    let t = on_read_some (hex_read l) (λ bs. some ((16 * r.0 + s.0) ∷ bs)) d s.2 in
    by r.0 s.0 t.0 (digit_read_is c r.0 r.1) (digit_read_is f s.0 s.1) (hex_read_is l t.0 t.1) t.2
  where
    by : (x y : ℕ) (bs : Bytes) → (x < 16) × (hex_digit x ≡ c) → (y < 16) × (hex_digit y ≡ f) → l ≡ hex_bytes bs
        → some ((16 * x + y) ∷ bs) ≡ some d → c ∷ f ∷ l ≡ hex_bytes d
    by x y bs p q r e =
        let is : (16 * x + y) ∷ bs ≡ d = cc in
        let high : (16 * x + y) / 16 % 16 ≡ x = omega arith in
        let low : (16 * x + y) % 16 ≡ y = omega arith in
        rw (← is, high, low, p.1, q.1, r)

-- and bytes that are written are read
hex_is_read : (d : Bytes) → AreBytes d → hex_read (hex_bytes d) ≡ some d
hex_is_read [] bs = refl
hex_is_read (b ∷ l) bs =
    let low : b < 256 = bs.0 in
    let is : 16 * (b / 16 % 16) + b % 16 ≡ b = omega arith in
    rw (digit_is_read (b / 16 % 16) (omega arith), digit_is_read (b % 16) (omega arith), hex_is_read l bs.1, is)

-- the `>`
before_end_is : (v l : Bytes) → before_end v ≡ some l → v ≡ l ++ (62 ∷ [])
before_end_is [] l e = let z : ◌≡◌ {A = ℕ} 0 1 = cc in absurd (omega arith)
before_end_is (c ∷ []) l e = by (eqb c 62) refl e
  where
    by : (t : Bool) → eqb c 62 ≡ t → pick t (some []) none ≡ some l → c ∷ [] ≡ l ++ (62 ∷ [])
    by true p q = let is : [] ≡ l = cc in rw (← is, eqb-true c 62 p)
    by false p q = let z : ◌≡◌ {A = ℕ} 0 1 = cc in absurd (omega arith)
before_end_is (c ∷ d ∷ v) l e =
    let r = on_read_some (before_end (d ∷ v)) (λ w. some (c ∷ w)) l e in
    by r.0 (before_end_is (d ∷ v) r.0 r.1) r.2
  where
    by : (w : Bytes) → d ∷ v ≡ w ++ (62 ∷ []) → some (c ∷ w) ≡ some l → c ∷ d ∷ v ≡ l ++ (62 ∷ [])
    by w p q = let is : c ∷ w ≡ l = cc in rw (← is, p)

end_is_read : (l : Bytes) → before_end (l ++ (62 ∷ [])) ≡ some l
end_is_read [] = refl
end_is_read (c ∷ []) = refl
end_is_read (c ∷ d ∷ l) = rw (end_is_read (d ∷ l))

-- One whole instruction

-- these bytes are one whole instruction, whatever follows
pub record Whole (b : Bytes) (code : ℕ) (literal : Bytes) : Type 0 where
  pub after : Bytes
  pub parts : b ≡ code ∷ after
  pub stands : (rest : Bytes) → front code (after ++ rest) ≡ whole (length after) literal

-- bytes that belong to the instruction before
passed : (l rest : Bytes) (offset : ℕ) → decode_from (length l) offset (l ++ rest) ≡ decode_from 0 (offset + length l) rest
passed [] rest offset = let is : offset + 0 ≡ offset = omega arith in rw is
passed (b ∷ l) rest offset =
    let is : offset + 1 + length l ≡ offset + suc (length l) = omega arith in
    rw (passed l rest (offset + 1), is)

-- it is decoded, and then what follows
pub decode_whole : (b rest : Bytes) (code offset : ℕ) (literal : Bytes) (w : Whole b code literal)
    → decode_from 0 offset (b ++ rest)
    ≡ then (record { opcode = code; offset = offset; literal = literal }) (decode_from 0 (offset + 1 + length w.after) rest)
decode_whole b rest code offset literal w = rw (w.parts, w.stands rest, passed w.after rest (offset + 1))

-- a code above the data pushes stands alone
stands_alone : (code : ℕ) → 0x4e < code → (rest : Bytes) → front code rest ≡ whole 0 (alone code)
unfolding front
stands_alone code h rest =
    rw (le-leb 0x01 code (omega arith), lt-leb code 0x4b (omega arith), ne_eqb code 0x4c (λ q. omega arith), ne_eqb code 0x4d (λ q. omega arith), ne_eqb code 0x4e (λ q. omega arith))

pub alone_whole : (code : ℕ) → 0x4e < code → Whole (code ∷ []) code (alone code)
alone_whole code h = record { after = []; parts = refl; stands = λ rest. stands_alone code h rest }

-- a length in so many bytes
lowest_first_length : (k n : ℕ) → length (lowest_first k n) ≡ k
lowest_first_length zero n = refl
lowest_first_length (suc k) n = ap suc (lowest_first_length k (n / 256))

lowest_first_number : (k n : ℕ) → n < 256 ^ k → number (lowest_first k n) ≡ n
lowest_first_number zero n h = omega arith
lowest_first_number (suc k) n h =
    let p : 256 ^ suc k ≡ 256 * 256 ^ k = pow-succ' 256 k in
    rw (lowest_first_number k (n / 256) (omega arith)) (omega arith)

-- data right behind their opcode
data_stand : (before : ℕ) (l rest : Bytes) → pushes before (length l) (l ++ rest) ≡ whole (before + length l) l
data_stand before l rest =
    rw (le-leb (length l) (length (l ++ rest)) (omega (arith, length-append l rest)), take_at l rest (length l) refl)

-- and behind a length of k bytes
sized_stand : (k : ℕ) (l rest : Bytes) → length l < 256 ^ k
    → sized k (lowest_first k (length l) ++ l ++ rest) ≡ whole (length (lowest_first k (length l) ++ l)) l
sized_stand k l rest h =
    let n : length (lowest_first k (length l)) ≡ k = lowest_first_length k (length l) in
    let sum : length (lowest_first k (length l) ++ (l ++ rest)) ≡ k + length (l ++ rest) = length-append (lowest_first k (length l)) (l ++ rest) ∙ ap (◌+ length (l ++ rest)) n in
    let all : length (lowest_first k (length l) ++ l) ≡ k + length l = length-append (lowest_first k (length l)) l ∙ ap (◌+ length l) n in
    rw (
      append_assoc (lowest_first k (length l)) l rest,
      all,
      le-leb k (length (lowest_first k (length l) ++ (l ++ rest))) (omega arith),
      take_at (lowest_first k (length l)) (l ++ rest) k n,
      drop_at (lowest_first k (length l)) (l ++ rest) k n,
      lowest_first_number k (length l) h,
    )
    (data_stand k l rest)

-- a data push of l
pub record Pushed (l b : Bytes) : Type 0 where
  pub code : ℕ
  pub low : code ≤ 0x4e
  pub is : Whole b code l

-- a length that is the opcode
short_stand : (l rest : Bytes) → length l ≤ 0x4b → front (length l) (l ++ rest) ≡ whole (length l) l
unfolding front
short_stand [] rest h = refl
short_stand (b ∷ l) rest h =
    let is : 0 + length (b ∷ l) ≡ length (b ∷ l) = omega arith in
    rw (le-leb 0x01 (length (b ∷ l)) (omega arith), le-leb (length (b ∷ l)) 0x4b h) (data_stand 0 (b ∷ l) rest ∙ ap (λ (n : ℕ). whole n (b ∷ l)) is)

-- the three length forms
stand1 : (l rest : Bytes) → length l ≤ 255 → front 0x4c (lowest_first 1 (length l) ++ l ++ rest) ≡ whole (length (lowest_first 1 (length l) ++ l)) l
unfolding front
stand1 l rest h = sized_stand 1 l rest (omega arith)

stand2 : (l rest : Bytes) → length l ≤ 65535 → front 0x4d (lowest_first 2 (length l) ++ l ++ rest) ≡ whole (length (lowest_first 2 (length l) ++ l)) l
unfolding front
stand2 l rest h = sized_stand 2 l rest (omega arith)

stand4 : (l rest : Bytes) → length l ≤ 4294967295 → front 0x4e (lowest_first 4 (length l) ++ l ++ rest) ≡ whole (length (lowest_first 4 (length l) ++ l)) l
unfolding front
stand4 l rest h = sized_stand 4 l rest (omega arith)

-- a push with the shortest length form is a data push of its data
pub push_of_is : (l b : Bytes) → push_of l ≡ some b → Pushed l b
unfolding push_of
push_of_is l b = by (leb (length l) 0x4b) (leb (length l) 255) (leb (length l) 65535) (leb (length l) 4294967295) refl refl refl refl
  where
    by : (p q r s : Bool) → leb (length l) 0x4b ≡ p → leb (length l) 255 ≡ q → leb (length l) 65535 ≡ r → leb (length l) 4294967295 ≡ s
        → pick p (some (length l ∷ l))
        (pick q (some (0x4c ∷ lowest_first 1 (length l) ++ l))
        (pick r (some (0x4d ∷ lowest_first 2 (length l) ++ l))
        (pick s (some (0x4e ∷ lowest_first 4 (length l) ++ l)) none))) ≡ some b
        → Pushed l b
    by true q r s e f g h is =
        let fits : length l ≤ 0x4b = leb-true (length l) 0x4b e in
        record { code = length l; low = omega arith; is = record { after = l; parts = cc; stands = λ rest. short_stand l rest fits } }
    by false true r s e f g h is =
        let fits : length l ≤ 255 = leb-true (length l) 255 f in
        record { code = 0x4c; low = omega arith; is = record { after = lowest_first 1 (length l) ++ l; parts = cc; stands = λ rest. stand1 l rest fits } }
    by false false true s e f g h is =
        let fits : length l ≤ 65535 = leb-true (length l) 65535 g in
        record { code = 0x4d; low = omega arith; is = record { after = lowest_first 2 (length l) ++ l; parts = cc; stands = λ rest. stand2 l rest fits } }
    by false false false true e f g h is =
        let fits : length l ≤ 4294967295 = leb-true (length l) 4294967295 h in
        record { code = 0x4e; low = omega arith; is = record { after = lowest_first 4 (length l) ++ l; parts = cc; stands = λ rest. stand4 l rest fits } }
    by false false false false e f g h is = let z : ◌≡◌ {A = ℕ} 0 1 = cc in absurd (omega arith)

-- data of up to 4,294,967,295 bytes have a form
has_form : (l : Bytes) → length l ≤ 4294967295 → push_of l ≡ some (in_form (push_of l))
unfolding push_of
has_form l fits = rw (le-leb (length l) 4294967295 fits) (by (leb (length l) 0x4b) (leb (length l) 255) (leb (length l) 65535) _ _ _ _)
  where
    by : (p q r : Bool) (w x y z : Bytes)
        → pick p (some w) (pick q (some x) (pick r (some y) (some z)))
        ≡ some (in_form (pick p (some w) (pick q (some x) (pick r (some y) (some z)))))
    by true q r w x y z = refl
    by false true r w x y z = refl
    by false false true w x y z = refl
    by false false false w x y z = refl

-- A word that is read

-- the bytes b are one instruction, and w is its word
pub record WordFor (w b : Bytes) : Type 0 where
  pub code : ℕ
  pub literal : Bytes
  pub is : Whole b code literal
  pub word : (offset : ℕ) → word_of (record { opcode = code; offset = offset; literal = literal }) ≡ w

-- the first letters
first_is : (w : Bytes) (c : ℕ) → same (take 1 w) (c ∷ []) ≡ true → w ≡ c ∷ drop 1 w
first_is [] c e = let z : ◌≡◌ {A = ℕ} 0 1 = cc in absurd (omega arith)
first_is (d ∷ l) c e = rw (eqb-true d c (both (eqb d c) true e).0)

two_are : (w : Bytes) (c d : ℕ) → same (take 2 w) (c ∷ d ∷ []) ≡ true → w ≡ c ∷ d ∷ drop 2 w
two_are [] c d e = let z : ◌≡◌ {A = ℕ} 0 1 = cc in absurd (omega arith)
two_are (x ∷ []) c d e = let z : ◌≡◌ {A = ℕ} 0 1 = cc (both (eqb x c) false e).1 in absurd (omega arith)
two_are (x ∷ y ∷ l) c d e =
    let t = both (eqb x c) (eqb y d && true) e in
    rw (eqb-true x c t.0, eqb-true y d (both (eqb y d) true t.1).0)

-- data
data_word_for : (v b : Bytes) → on_read (before_end v) (λ l. on_read (hex_read l) push_read) ≡ some b → WordFor (60 ∷ v) b
data_word_for v b e =
    let r = on_read_some (before_end v) (λ l. on_read (hex_read l) push_read) b e in
    let s = on_read_some (hex_read r.0) push_read b r.2 in
    by s.0 s.2 (rw (hex_read_is r.0 s.0 s.1) at (before_end_is v r.0 r.1))
  where
    by : (d : Bytes) → push_read d ≡ some b → v ≡ hex_bytes d ++ (62 ∷ []) → WordFor (60 ∷ v) b
    by [] p q = let z : ◌≡◌ {A = ℕ} 0 1 = cc in absurd (omega arith)
    by (c ∷ d) p q =
        let push : Pushed (c ∷ d) b = push_of_is (c ∷ d) b p in
        record { code = push.code; literal = c ∷ d; is = push.is; word = λ offset. rw (le-leb push.code 0x4e push.low, q) }

-- a data push is modelled
push_modelled : (code : ℕ) → code ≤ 0x4e → eqb (class_number code) 0 ≡ false
unfolding class_number
push_modelled code h = rw (le-leb 0 code (omega arith), le-leb code 0x4f (omega arith))

-- an unmodelled code
unmodelled_word_for : (v b : Bytes) → on_read (hex_read v) unmodelled_read ≡ some b → WordFor (48 ∷ 120 ∷ v) b
unmodelled_word_for v b e =
    let r = on_read_some (hex_read v) unmodelled_read b e in
    by r.0 r.2 (hex_read_is v r.0 r.1)
  where
    one : (c : ℕ) (t s : Bool) → eqb (class_number c) 0 ≡ t → leb c 0x4e ≡ s → pick t (some (c ∷ [])) none ≡ some b → v ≡ hex_byte c → WordFor (48 ∷ 120 ∷ v) b
    one c true true p l q h = let z : ◌≡◌ {A = ℕ} 0 1 = cc (push_modelled c (leb-true c 0x4e l)) in absurd (omega arith)
    one c true false p l q h =
        let is : b ≡ c ∷ [] = cc in
        record { code = c; literal = alone c; is = rw is (alone_whole c (leb-false c 0x4e l)); word = λ offset. rw (l, p, h) }
    one c false s p l q h = let z : ◌≡◌ {A = ℕ} 0 1 = cc in absurd (omega arith)

    by : (d : Bytes) → unmodelled_read d ≡ some b → v ≡ hex_bytes d → WordFor (48 ∷ 120 ∷ v) b
    by [] p q = let z : ◌≡◌ {A = ℕ} 0 1 = cc in absurd (omega arith)
    by (c ∷ []) p q = one c (eqb (class_number c) 0) (leb c 0x4e) refl refl p q
    by (c ∷ d ∷ l) p q = let z : ◌≡◌ {A = ℕ} 0 1 = cc in absurd (omega arith)

zero_stands : (rest : Bytes) → front 0 rest ≡ whole 0 []
unfolding front
zero_stands rest = refl

-- a name
name_word_for : (w b : Bytes) → code_in name_table w ≡ some b → WordFor w b
unfolding name_of
name_word_for w b e =
    let found = name_read w b e in
    by found.0 found.1 found.2 (eqb found.0 0 && same w (text "Op0")) refl found.2.namable
  where
    by : (code : ℕ) → b ≡ code ∷ [] → Ruled code w → (t : Bool) → (eqb code 0 && same w (text "Op0")) ≡ t
        → (t || (ltb 0x4e code && not (eqb (class_number code) 0))) ≡ true → WordFor w b
    by code p r true q h =
        let u = both (eqb code 0) (same w (text "Op0")) q in
        let z : code ≡ 0 = eqb-true code 0 u.0 in
        let is : b ≡ 0 ∷ [] = cc in
        let w0 : w ≡ text "Op0" = same_equal w (text "Op0") u.1 in
        record { code = 0; literal = []; is = record { after = []; parts = is; stands = zero_stands }; word = λ offset. sym w0 }
    by code p r false q h =
        let u = both (ltb 0x4e code) (not (eqb (class_number code) 0)) h in
        let high : 0x4e < code = ltb-true 0x4e code u.0 in
        record {
          code = code;
          literal = alone code;
          is = rw p (alone_whole code high);
          word = λ offset. rw (lt-leb code 0x4e high, not-true (eqb (class_number code) 0) u.1) r.written;
        }

-- a word that is read gives one whole instruction, whose word it is
pub word_instruction : (w b : Bytes) → word_read w ≡ some b → WordFor w b
unfolding word_read
word_instruction w b = by (same (take 1 w) (text "<")) (same (take 2 w) (text "0x")) refl refl
  where
    by : (s t : Bool) → same (take 1 w) (text "<") ≡ s → same (take 2 w) (text "0x") ≡ t
        → pick s (on_read (before_end (drop 1 w)) (λ l. on_read (hex_read l) push_read))
        (pick t (on_read (hex_read (drop 2 w)) unmodelled_read) (code_in name_table w)) ≡ some b
        → WordFor w b
    by true t p q e = rw (first_is w 60 p) (data_word_for (drop 1 w) b e)
    by false true p q e = rw (two_are w 48 120 q) (unmodelled_word_for (drop 2 w) b e)
    by false false p q e = name_word_for w b e

-- The word of an instruction

-- what decoding a fragment of bytes knows of an instruction
pub record Decoded (i : Instruction) : Type 0 where
  pub byte : i.opcode < 256
  pub bytes : AreBytes i.literal
  pub fits : i.opcode ≤ 0x4e → length i.literal ≤ 4294967295
  pub sole : 0x4e < i.opcode → i.literal ≡ alone i.opcode

-- the instruction, a push in its shortest form
abbrev pub form_of : Instruction → Bytes
form_of i = pick (leb i.opcode 0x4e) (in_form (push_of i.literal)) (i.opcode ∷ [])

-- read as b, and one word
pub record ReadAs (w b : Bytes) : Type 0 where
  pub read : word_read w ≡ some b
  pub letters : same w [] ≡ false
  pub spaceless : no_space w ≡ true

no_data_read : ReadAs (data_word []) (in_form (push_of []))
unfolding word_read name_table push_of
no_data_read = record { read = refl; letters = refl; spaceless = refl }

hex_spaceless : (d m : Bytes) → AreBytes d → no_space m ≡ true → no_space (hex_bytes d ++ m) ≡ true
hex_spaceless [] m bs e = e
hex_spaceless (b ∷ l) m bs e = rw (digit (b / 16 % 16) (omega arith), digit (b % 16) (omega arith), hex_spaceless l m bs.1 e)
  where
    digit : (x : ℕ) → x < 16 → eqb (hex_digit x) 32 ≡ false
    digit x h = by (ltb x 10)
      where
        by : (t : Bool) → eqb (pick t (48 + x) (87 + x)) 32 ≡ false
        by true = ne_eqb (48 + x) 32 (λ q. omega arith)
        by false = ne_eqb (87 + x) 32 (λ q. omega arith)

-- data
data_read : (l : Bytes) → AreBytes l → length l ≤ 4294967295 → ReadAs (data_word l) (in_form (push_of l))
unfolding word_read
data_read [] bs fits = no_data_read
data_read (b ∷ l) bs fits =
    record {
      read = rw (end_is_read (hex_bytes (b ∷ l)), hex_is_read (b ∷ l) bs) (has_form (b ∷ l) fits);
      letters = refl;
      spaceless = hex_spaceless (b ∷ l) (62 ∷ []) bs refl;
    }

-- an unmodelled code
unmodelled_is_read : (code : ℕ) → code < 256 → eqb (class_number code) 0 ≡ true → ReadAs (text "0x" ++ hex_byte code) (code ∷ [])
unfolding word_read
unmodelled_is_read code h e =
    record {
      read = rw (hex_is_read (code ∷ []) (h, tt), e);
      letters = refl;
      spaceless = hex_spaceless (code ∷ []) [] (h, tt) refl;
    }

-- a name
name_is_read : (code : ℕ) (w : Bytes) → Ruled code w → ReadAs w (code ∷ [])
unfolding word_read
name_is_read code w r = record { read = rw (r.no_data, r.no_code) r.read; letters = r.letters; spaceless = r.spaceless }

code_read : (code : ℕ) → 0x4e < code → code < 256 → ReadAs (code_word code) (code ∷ [])
code_read code g h = by (eqb (class_number code) 0) refl
  where
    by : (t : Bool) → eqb (class_number code) 0 ≡ t → ReadAs (pick t (text "0x" ++ hex_byte code) (name_of code)) (code ∷ [])
    by true e = unmodelled_is_read code h e
    by false e = name_is_read code (name_of code) (code_named code g h e)

-- the word of an instruction is read as the instruction in its shortest form
pub word_of_read : (i : Instruction) → Decoded i → ReadAs (word_of i) (form_of i)
word_of_read i d = by (leb i.opcode 0x4e) refl
  where
    by : (t : Bool) → leb i.opcode 0x4e ≡ t
        → ReadAs (pick t (data_word i.literal) (code_word i.opcode)) (pick t (in_form (push_of i.literal)) (i.opcode ∷ []))
    by true e = data_read i.literal d.bytes (d.fits (leb-true i.opcode 0x4e e))
    by false e = code_read i.opcode (leb-false i.opcode 0x4e e) d.byte

-- The shortest form of an instruction

-- b is one instruction, i but for the form of a push and the offset
pub record FormFor (i : Instruction) (b : Bytes) : Type 0 where
  pub code : ℕ
  pub is : Whole b code i.literal
  pub alike : ((i.opcode ≤ 0x4e) × (code ≤ 0x4e)) ⊎ (i.opcode ≡ code)

pub form_whole : (i : Instruction) → Decoded i → FormFor i (form_of i)
form_whole i d = by (leb i.opcode 0x4e) refl
  where
    by : (t : Bool) → leb i.opcode 0x4e ≡ t → FormFor i (pick t (in_form (push_of i.literal)) (i.opcode ∷ []))
    by true e =
        let low : i.opcode ≤ 0x4e = leb-true i.opcode 0x4e e in
        let p : Pushed i.literal (in_form (push_of i.literal)) = push_of_is i.literal (in_form (push_of i.literal)) (has_form i.literal (d.fits low)) in
        record { code = p.code; is = p.is; alike = inl (low, p.low) }
    by false e =
        let high : 0x4e < i.opcode = leb-false i.opcode 0x4e e in
        record { code = i.opcode; is = rw (d.sole high) (alone_whole i.opcode high); alike = inr refl }

-- Decoded instructions

take_bytes : (n : ℕ) (l : Bytes) → AreBytes l → AreBytes (take n l)
take_bytes zero l bs = tt
take_bytes (suc n) [] bs = tt
take_bytes (suc n) (b ∷ l) bs = (bs.0, take_bytes n l bs.1)

drop_bytes : (n : ℕ) (l : Bytes) → AreBytes l → AreBytes (drop n l)
drop_bytes zero l bs = bs
drop_bytes (suc n) [] bs = tt
drop_bytes (suc n) (b ∷ l) bs = drop_bytes n l bs.1

alone_bytes : (code : ℕ) → code < 256 → AreBytes (alone code)
alone_bytes code h = by (eqb code 0x4f) (leb 0x51 code && leb code 0x60)
  where
    by : (s t : Bool) → AreBytes (pick s (0x81 ∷ []) (pick t ((code - 0x50) ∷ []) []))
    by true t = (omega arith, tt)
    by false true = (omega arith, tt)
    by false false = tt

-- n bytes are a number below 256 ^ n
number_below : (n : ℕ) (l : Bytes) → AreBytes l → number (take n l) < 256 ^ n
number_below zero l bs = omega arith
number_below (suc n) [] bs = let p : 256 ^ suc n ≡ 256 * 256 ^ n = pow-succ' 256 n in omega (arith, number_below n [] tt)
number_below (suc n) (b ∷ l) bs = let p : 256 ^ suc n ≡ 256 * 256 ^ n = pow-succ' 256 n in omega (arith, number_below n l bs.1)

-- the literal of a data push
record Data (l : Bytes) : Type 0 where
  bytes : AreBytes l
  fits : length l ≤ 4294967295

pushes_data : (before size after : ℕ) (rest l : Bytes) → AreBytes rest → size ≤ 4294967295 → pushes before size rest ≡ whole after l → Data l
pushes_data before size after rest l bs h = by (leb size (length rest))
  where
    by : (t : Bool) → pick t (whole (before + size) (take size rest)) short ≡ whole after l → Data l
    by true e =
        let is : take size rest ≡ l = cc in
        rw (← is) (record { bytes = take_bytes size rest bs; fits = omega (arith, length-take size rest) })
    by false e = let z : ◌≡◌ {A = ℕ} 0 1 = cc in absurd (omega arith)

sized_data : (n after : ℕ) (rest l : Bytes) → AreBytes rest → 256 ^ n ≤ 4294967296 → sized n rest ≡ whole after l → Data l
sized_data n after rest l bs h = by (leb n (length rest))
  where
    by : (t : Bool) → pick t (pushes n (number (take n rest)) (drop n rest)) short ≡ whole after l → Data l
    by true e = pushes_data n (number (take n rest)) after (drop n rest) l (drop_bytes n rest bs) (omega (arith, number_below n rest bs)) e
    by false e = let z : ◌≡◌ {A = ℕ} 0 1 = cc in absurd (omega arith)

data_decoded : (code offset : ℕ) (l : Bytes) → code ≤ 0x4e → Data l → Decoded (record { opcode = code; offset = offset; literal = l })
data_decoded code offset l h d =
    record { byte = omega arith; bytes = d.bytes; fits = λ k. d.fits; sole = λ k. absurd (omega arith) }

pub front_decoded : (code offset after : ℕ) (rest l : Bytes) → code < 256 → AreBytes rest → front code rest ≡ whole after l
    → Decoded (record { opcode = code; offset = offset; literal = l })
unfolding front
front_decoded code offset after rest l h bs =
    by (leb 0x01 code && leb code 0x4b) (eqb code 0x4c) (eqb code 0x4d) (eqb code 0x4e) refl refl refl refl
  where
    D : Type 0
    D = Decoded (record { opcode = code; offset = offset; literal = l })

    sole : (is : alone code ≡ l) → (code ≤ 0x4e → code ≡ 0) → D
    sole is z =
        rw (← is) (record { byte = h; bytes = alone_bytes code h; fits = λ k. none (z k); sole = λ k. refl })
      where
        none : code ≡ 0 → length (alone code) ≤ 4294967295
        none e = rw e (omega arith)

    by : (p q r s : Bool) → (leb 0x01 code && leb code 0x4b) ≡ p → eqb code 0x4c ≡ q → eqb code 0x4d ≡ r → eqb code 0x4e ≡ s
        → pick p (pushes 0 code rest) (pick q (sized 1 rest) (pick r (sized 2 rest) (pick s (sized 4 rest) (whole 0 (alone code)))))
        ≡ whole after l
        → D
    by true q r s e f g k is =
        let low : code ≤ 0x4b = leb-true code 0x4b (both (leb 0x01 code) (leb code 0x4b) e).1 in
        data_decoded code offset l (omega arith) (pushes_data 0 code after rest l bs (omega arith) is)
    by false true r s e f g k is = data_decoded code offset l (omega (arith, eqb-true code 0x4c f)) (sized_data 1 after rest l bs (omega arith) is)
    by false false true s e f g k is = data_decoded code offset l (omega (arith, eqb-true code 0x4d g)) (sized_data 2 after rest l bs (omega arith) is)
    by false false false true e f g k is = data_decoded code offset l (omega (arith, eqb-true code 0x4e k)) (sized_data 4 after rest l bs (omega arith) is)
    by false false false false e f g k is =
        sole (cc) (λ low. small (leb 0x01 code) (leb code 0x4b) refl refl e low)
      where
        small : (s t : Bool) → leb 0x01 code ≡ s → leb code 0x4b ≡ t → (s && t) ≡ false → code ≤ 0x4e → code ≡ 0
        small true true p q e low = let z : ◌≡◌ {A = ℕ} 0 1 = cc in absurd (omega arith)
        small true false p q e low =
            omega (arith, leb-false code 0x4b q, eqb-false code 0x4c f, eqb-false code 0x4d g, eqb-false code 0x4e k)
        small false t p q e low = omega (arith, leb-false 0x01 code p)
