-- The listing of a fragment, from instruction to instruction.
use mathlib.Core.Bool.{Bool, true, false}
use mathlib.Core.List.{[], ◌∷◌, ◌++◌, append_assoc, append-nil}
use mathlib.Core.Option.{Option, none, some}
use mathlib.Core.Path.{◌≡◌, refl, sym, ap, ◌∙◌}
use Prim.Native.Nat.{ℕ, ◌+◌, ◌-◌, ◌^◌, ◌≤◌, ◌<◌}
use native.Mathlib.Omega.{arith}
use borrow.Author.Tests.{le-leb, lt-leb, ltb-true, ltb-false}
use lib.Dec.{ltb}
use lib.ListN.{length, drop, length-append}
use Rattle.definition.specs.Basics.{Bytes, pick}
use Rattle.definition.specs.Decoding.{Front, whole, short, front, Code, decode, instructions, malformed_at}
use Rattle.definition_listings.specs.Listing.{parted}
use Rattle.definition.specs.Replay.{AreBytes}
use Rattle.decode.specs.View.{decoded_front, decoded_rest, decoded_at, code_at, Count, counted_of, count_by, count_in}
use Rattle.decode.specs.declared.Instruction.{Instruction}
use Rattle.decode.specs.declared.Malformed.{Malformed}
use Rattle.std.specs.Prelude.{Some, None, Ok, Err}
use Rattle.refusals.specs.declared.Refusal.TheVariants as Refusal
use Rattle.std.specs.Prelude as R
use Rattle.std.specs.Prelude.{Result, min}
use Rattle.names.proofs.Tables.{never}
use Rattle.text.specs.View.{Puts}
use Rattle.text.specs.declared.Lent.{Lent}
use Rattle.text.proofs.Puts.{puts_as, puts-none, then-puts}
use Rattle.assembling.specs.View.{converted_of}
use Rattle.definition_listings.specs.Listing.{unwritten, put, on_decoded, listed}
use Rattle.definition.specs.Refusals.{refused_at, output_short}
use Rattle.definition.specs.Decoding.{ends}
use Rattle.decode.proofs.Codes.{InstructionAt, code-start, code-instruction, code-ends, code-malformed}
use Rattle.listing.specs.View.{Stands, word_at, listing_of, whole_or_malformed, Measures}
use Rattle.listing.proofs.Decoded.{the_instruction, in-place, word-is, after, parted-first, after-end, goes_on_lem}

-- the words of the instructions before an offset, with the space behind each, are `done`
pub record Before (f : Bytes) (p : ℕ) (done : Bytes) : Type 0 where
  pub within : p ≤ length f
  pub code : malformed_at (decode f) ≡ malformed_at (code_at f p)
  pub is : malformed_at (decode f) ≡ none → listing_of f ≡ done ++ parted (instructions (code_at f p))

pub before-start : (f : Bytes) → Before f 0 []
before-start f = record {
  within = omega arith;
  code = ap malformed_at (code-start f);
  is = λ m. ap (λ (c : Code). parted (instructions c)) (code-start f);
}

-- an answer that is an instruction
pub told : (f : Bytes) (p : ℕ) {r : Result (R.Option Instruction) Malformed} {o : R.Option Instruction} {i : Instruction}
    → r ≡ decoded_at f p → r ≡ Ok o → o ≡ Some i → decoded_at f p ≡ Ok (Some i)
told f p is e k = sym is ∙ e ∙ ap (λ (x : R.Option Instruction). Ok x) k

-- an instruction that is decoded at an offset
module _ (f : Bytes) (p : ℕ) (bytes : AreBytes f) (i : Instruction) (e : decoded_at f p ≡ Ok (Some i)) where
  at_place : InstructionAt f p i
  at_place = code-instruction f p bytes i e

  pub stands : Stands f i
  stands = in-place f p i at_place e

  module _ (done : Bytes) (b : Before f p done) where
    behind : malformed_at (decode f) ≡ malformed_at (code_at f i.next)
    behind = b.code ∙ ap malformed_at at_place.code

    with-word : malformed_at (decode f) ≡ none → listing_of f ≡ (done ++ word_at f i) ++ after (instructions (code_at f i.next))
    with-word m =
        let is = instructions (code_at f i.next) in
        b.is m
        ∙ ap (λ (c : Code). done ++ parted (instructions c)) at_place.code
        ∙ ap (λ (x : Bytes). done ++ x) (parted-first (the_instruction f p i at_place e) is ∙ ap (λ (x : Bytes). x ++ after is) (word-is f p i at_place e))
        ∙ sym (append_assoc done (word_at f i) (after is))

    -- behind the last instruction
    pub before_last : length f ≤ i.next → Before f i.next (done ++ word_at f i)
    before_last h =
        let c : code_at f i.next ≡ ends = after-end f i.next (omega (arith, stands.within)) in
        record {
          within = stands.within;
          code = behind;
          is = λ m. with-word m ∙ ap (λ (c : Code). (done ++ word_at f i) ++ after (instructions c)) c ∙ sym (ap (λ (c : Code). (done ++ word_at f i) ++ parted (instructions c)) c);
        }

    -- behind one before the last
    more-word : i.next < length f → malformed_at (decode f) ≡ none → listing_of f ≡ (done ++ word_at f i ++ (32 ∷ [])) ++ parted (instructions (code_at f i.next))
    more-word n m =
        with-word m
        ∙ ap (λ (x : Bytes). (done ++ word_at f i) ++ x) (goes_on_lem f i.next n (sym behind ∙ m))
        ∙ sym (append_assoc (done ++ word_at f i) (32 ∷ []) (parted (instructions (code_at f i.next))))

    pub before_more : i.next < length f → Before f i.next (done ++ word_at f i ++ (32 ∷ []))
    before_more n = record { within = stands.within; code = behind; is = more-word n }

-- the end, and a malformed instruction
module _ (f : Bytes) (p : ℕ) (done : Bytes) (b : Before f p done) where
  pub whole-end : decoded_at f p ≡ Ok None → malformed_at (decode f) ≡ none
  whole-end e = b.code ∙ ap malformed_at (code-ends f p e).0

  pub listing-end : decoded_at f p ≡ Ok None → listing_of f ≡ done
  listing-end e =
      b.is (whole-end e) ∙ ap (λ (c : Code). done ++ parted (instructions c)) (code-ends f p e).0 ∙ append-nil done

  pub malformed-here : {m : Malformed} → decoded_at f p ≡ Err m → malformed_at (decode f) ≡ some p
  malformed-here e = b.code ∙ ap malformed_at (code-malformed f p e).0

pub malformed-offset : (f : Bytes) (p : ℕ) (m : Malformed) → decoded_at f p ≡ Err m → m.offset ≡ p
unfolding decoded_at
malformed-offset f p m e = by (drop p f) e
  where
    at_front : (b : ℕ) (w : Front) → decoded_front w b p ≡ Err m → m.offset ≡ p
    at_front b (whole after literal) e = never (cc)
    at_front b short e = let i : record { offset = p } ≡ m = cc in sym (ap (λ (x : Malformed). x.offset) i)

    by : (l : Bytes) → decoded_rest l p ≡ Err m → m.offset ≡ p
    by [] e = never (cc)
    by (b ∷ rest) e = at_front b (front b rest) e

-- the words before an offset are put
pub record ListedTo (f : Bytes) (a : Lent) (p : ℕ) (b : Lent) : Type 0 where
  pub done : Bytes
  pub before : Before f p done
  pub puts : Puts a done b

pub listed_start : (f : Bytes) (a : Lent) → ListedTo f a 0 a
listed_start f a = record { done = []; before = before-start f; puts = puts-none a }

module _ (f : Bytes) (a : Lent) (p : ℕ) (b : Lent) (to : ListedTo f a p b) where
  pub listed-end : decoded_at f p ≡ Ok None → Puts a (listing_of f) b
  listed-end e = puts_as (sym (listing-end f p to.done to.before e)) to.puts

  pub whole-here : decoded_at f p ≡ Ok None → Ok tt ≡ whole_or_malformed (malformed_at (decode f))
  whole-here e = rw (whole-end f p to.done to.before e) refl

  pub refused-here : (m : Malformed) → decoded_at f p ≡ Err m → Err m ≡ whole_or_malformed (malformed_at (decode f))
  refused-here m e = rw (malformed-here f p to.done to.before e) (ap (λ n. Err (record { offset = n })) (malformed-offset f p m e))

  module _ (bytes : AreBytes f) (i : Instruction) (e : decoded_at f p ≡ Ok (Some i)) (c : Lent) (w : Puts b (word_at f i) c) where
    pub listed-last : length f ≤ i.next → ListedTo f a i.next c
    listed-last h = record { done = to.done ++ word_at f i; before = before_last f p bytes i e to.done to.before h; puts = then-puts to.puts w }

    pub listed-more : (d : Lent) → i.next < length f → Puts c (32 ∷ []) d → ListedTo f a i.next d
    listed-more d n v = record {
      done = to.done ++ word_at f i ++ (32 ∷ []);
      before = before_more f p bytes i e to.done to.before n;
      puts = then-puts (then-puts to.puts w) v;
    }

-- the words before an offset are counted, as far as they are within the room
pub record MeasuredTo (f : Bytes) (room p size : ℕ) : Type 0 where
  pub done : Bytes
  pub before : Before f p done
  pub counted : min size (room + 1) ≡ min (length done) (room + 1)

pub measured-start : (f : Bytes) (room : ℕ) → MeasuredTo f room 0 0
measured-start f room = record { done = []; before = before-start f; counted = refl }

module _ (f : Bytes) (room p size : ℕ) (to : MeasuredTo f room p size) where
  pub measured-end : decoded_at f p ≡ Ok None → Measures (Ok size) f room
  measured-end e =
      (whole-end f p to.done to.before e, to.counted ∙ ap (λ (l : Bytes). min (length l) (room + 1)) (sym (listing-end f p to.done to.before e)))

  pub measured-malformed : (m : Malformed) → decoded_at f p ≡ Err m → Measures (Err m) f room
  measured-malformed m e = malformed-here f p to.done to.before e ∙ ap (λ n. some n) (sym (malformed-offset f p m e))

  module _ (bytes : AreBytes f) (i : Instruction) (e : decoded_at f p ≡ Ok (Some i)) where
    abbrev word : Bytes
    word = word_at f i

    -- behind the last instruction, and behind one before the last
    measured-last : (new : ℕ) → length f ≤ i.next → min new (room + 1) ≡ min (length to.done + length word) (room + 1) → MeasuredTo f room i.next new
    measured-last new h q = record {
      done = to.done ++ word;
      before = before_last f p bytes i e to.done to.before h;
      counted = q ∙ ap (λ n. min n (room + 1)) (sym (length-append to.done word));
    }

    measured-one : (new : ℕ) → i.next < length f → min new (room + 1) ≡ min (length to.done + length word + 1) (room + 1) → MeasuredTo f room i.next new
    measured-one new h q = record {
      done = to.done ++ word ++ (32 ∷ []);
      before = before_more f p bytes i e to.done to.before h;
      counted = q ∙ ap (λ n. min n (room + 1)) (sym (length-append (to.done ++ word) (32 ∷ []) ∙ ap (λ n. n + 1) (length-append to.done word)));
    }

    pub measured-more : (counted space new : ℕ) → size ≤ room → room + 1 < 2 ^ 64 → counted ≡ length word
        → space ≡ pick (ltb i.next (length f)) 1 0 → new ≡ min (min (size + counted) (2 ^ 64 - 1) + space) (2 ^ 64 - 1) → MeasuredTo f room i.next new
    measured-more counted space new h k w s n = by (ltb i.next (length f)) refl s
      where
        by : (b : Bool) → ltb i.next (length f) ≡ b → space ≡ pick b 1 0 → MeasuredTo f room i.next new
        by true t s = measured-one new (ltb-true i.next (length f) t) (omega (arith, to.counted, h, k, w, s, n))
        by false t s = measured-last new (ltb-false i.next (length f) t) (omega (arith, to.counted, h, k, w, s, n))

  -- more than the room
  pub measured-short : room < size → malformed_at (decode f) ≡ none → Measures (Ok size) f room
  measured-short o all =
      let l = ap length (to.before.is all) in
      (all, omega (arith, to.counted, o, l, length-append to.done (parted (instructions (code_at f p)))))

-- the instructions are counted of a whole fragment alone
pub counted-whole : (f : Bytes) (n : ℕ) → counted_of (Ok n) ≡ count_in (decode f) → malformed_at (decode f) ≡ none
counted-whole f n e = by (malformed_at (decode f)) e
  where
    by : (o : Option ℕ) → counted_of (Ok n) ≡ count_by o (length (instructions (decode f))) → o ≡ none
    by none e = refl
    by (some p) e =
        let z : ◌≡◌ {A = ℕ} 0 3 = ap (λ (c : Count). c.answer.number) e in
        absurd (omega arith)

-- The answers

pub whole-fragment : (m : Option ℕ) → Ok tt ≡ whole_or_malformed m → m ≡ none
whole-fragment none e = refl
whole-fragment (some o) e = never (cc)

-- a fragment that is whole is not refused
pub refused-whole : (f : Bytes) {m : Malformed} {p : Type 0} → malformed_at (decode f) ≡ none → Err m ≡ whole_or_malformed (malformed_at (decode f)) → p
refused-whole f w e = let q : Err _ ≡ whole_or_malformed none = e ∙ ap whole_or_malformed w in never (cc)

module _ (f out : Bytes) where
  pub listed-malformed-at : (m : Malformed) → malformed_at (decode f) ≡ some m.offset
      → converted_of (Err (record { offset = m.offset; refusal = Refusal.Malformed })) out ≡ listed f out
  unfolding listed
  listed-malformed-at m e = sym (ap (λ (o : Option ℕ). on_decoded o (listing_of f) out) e)

  pub listed-malformed : (m : Malformed) → Err m ≡ whole_or_malformed (malformed_at (decode f))
      → converted_of (Err (record { offset = m.offset; refusal = Refusal.Malformed })) out ≡ listed f out
  listed-malformed m e = listed-malformed-at m (by (malformed_at (decode f)) e)
    where
      by : (o : Option ℕ) → Err m ≡ whole_or_malformed o → o ≡ some m.offset
      by none e = never (cc)
      by (some o) e =
          let i : m ≡ record { offset = o } = cc in
          ap (λ (x : Malformed). some x.offset) (sym i)

  module _ (whole : malformed_at (decode f) ≡ none) where
    is-put : listed f out ≡ put (listing_of f) out
    unfolding listed
    is-put = ap (λ (m : Option ℕ). on_decoded m (listing_of f) out) whole

    pub listed-short : length out < length (listing_of f) → unwritten (refused_at 0 output_short) out ≡ listed f out
    listed-short h = sym (is-put ∙ rw (lt-leb (length (listing_of f)) (length out) h) refl)

    pub listed-done : (size : ℕ) (new : Bytes) → length (listing_of f) ≡ size → size ≤ length out
        → new ≡ listing_of f ++ drop (length (listing_of f)) out → converted_of (Ok size) new ≡ listed f out
    listed-done size new n h w =
        sym (is-put
        ∙ rw (le-leb (length (listing_of f)) (length out) (omega (arith, n, h)))
        (ap (λ n. converted_of (Ok n) (listing_of f ++ drop (length (listing_of f)) out)) n
        ∙ ap (λ (x : Bytes). converted_of (Ok size) x) (sym w)))
