-- Document 02, L4, both ways. Assembling a listing and listing the result gives the listing again, byte for byte (`assemble_list`).
-- Listing a fragment of bytes and assembling the result gives the fragment with each push in its shortest form (`list_assemble`),
-- which is not malformed (`shortest_whole`) and has the same instructions and data, push forms aside (`shortest_same`); it is its
-- own shortest form (`shortest_twice`). The same of the functions that write into lent outputs with room (`assembled_listed`,
-- `listed_assembled`).
use mathlib.Core.Bool.{Bool, true, false, not}
use mathlib.Core.List.{List, [], ◌∷◌, ◌++◌, append_assoc}
use mathlib.Core.Logic.{inl, inr}
use mathlib.Core.Option.{Option, none, some}
use mathlib.Core.Path.{◌≡◌, refl, ap, ◌∙◌}
use Prim.Native.Nat.{ℕ, zero, suc, ◌+◌, ◌≤◌}
use native.Mathlib.Omega.{arith}
use borrow.Author.Tests.{eqb-true, le-leb, not-true}
use lib.Dec.{leb, eqb}
use lib.ListN.{length, take, drop}
use lib.Seq.{take_at}
use Rattle.definition.specs.Basics.{Bytes, pick}
use Rattle.definition.specs.Decoding.{Instruction, Front, whole, short, front, on_front, decode_from, decode, instructions, malformed_at}
use Rattle.definition.specs.Lines.{text}
use Rattle.definition_listings.specs.Assembling.{same, word_read, in_front, words_from, words, Assembly, gives, strange, on_word, assembly, on_assembly, assembled}
use Rattle.definition_listings.specs.Listing.{word_of, parted, Converted, unwritten, put, on_decoded, listed}
use Rattle.definition_listings.specs.Shortest.{shortest_of, shortest, SameButForm, SameButForms}
use Rattle.definition.specs.Refusals.{refused_at, output_short}
use Rattle.definition.specs.Replay.{AreBytes}
use Rattle.definition_listings.proofs.ListedWords.{decode_whole, WordFor, word_instruction, Decoded, form_of, word_of_read, form_whole, front_decoded}
use Rattle.definition_listings.proofs.NameRule.{both, no_space}

-- Words and spaces

-- words with one space between them
abbrev spaced : List Bytes → Bytes
spaced [] = []
spaced (w ∷ []) = w
spaced (w ∷ v ∷ ws) = w ++ text " " ++ spaced (v ∷ ws)

-- the words of instructions
abbrev words_of : List Instruction → List Bytes
words_of [] = []
words_of (i ∷ is) = word_of i ∷ words_of is

parted_spaced : (is : List Instruction) → parted is ≡ spaced (words_of is)
parted_spaced [] = refl
parted_spaced (i ∷ []) = refl
parted_spaced (i ∷ j ∷ is) = rw (parted_spaced (j ∷ is))

spaced_in_front : (c : ℕ) (ws : List Bytes) → spaced (in_front c ws) ≡ c ∷ spaced ws
spaced_in_front c [] = refl
spaced_in_front c (w ∷ []) = refl
spaced_in_front c (w ∷ v ∷ ws) = refl

-- an empty word in front of others
spaced_empty : (l : Bytes) → spaced ([] ∷ words_from l) ≡ 32 ∷ spaced (words_from l)
spaced_empty [] = refl
spaced_empty (d ∷ l) = by (eqb d 32) (words_from l)
  where
    by : (t : Bool) (ws : List Bytes) → spaced ([] ∷ pick t ([] ∷ ws) (in_front d ws)) ≡ 32 ∷ spaced (pick t ([] ∷ ws) (in_front d ws))
    by true ws = refl
    by false [] = refl
    by false (w ∷ ws) = refl

-- the words of a listing make it up
words_from_spaced : (l : Bytes) → spaced (words_from l) ≡ l
words_from_spaced [] = refl
words_from_spaced (c ∷ l) = by (eqb c 32) refl (words_from_spaced l)
  where
    by : (t : Bool) → eqb c 32 ≡ t → spaced (words_from l) ≡ l → spaced (pick t ([] ∷ words_from l) (in_front c (words_from l))) ≡ c ∷ l
    by true e h = rw (spaced_empty l, h, eqb-true c 32 e)
    by false e h = rw (spaced_in_front c (words_from l), h)

words_spaced : (l : Bytes) → spaced (words l) ≡ l
words_spaced [] = refl
words_spaced (c ∷ l) = words_from_spaced (c ∷ l)

-- Assemble, then list

-- every word was read
on_word_gives : (o : Option Bytes) (at : ℕ) (rest : Assembly) (b : Bytes) → on_word o at rest ≡ gives b
    → (x : Bytes) × (l : Bytes) × (o ≡ some x) × (rest ≡ gives l) × (b ≡ x ++ l)
on_word_gives none at rest b e = let z : ◌≡◌ {A = ℕ} 0 1 = cc in absurd (omega arith)
on_word_gives (some x) at (gives l) b e = (x, l, refl, refl, cc)
on_word_gives (some x) at (strange offset) b e = let z : ◌≡◌ {A = ℕ} 0 1 = cc in absurd (omega arith)

-- of the words from one on
assemble_words : (at offset : ℕ) (ws : List Bytes) (b : Bytes) → assembly at ws ≡ gives b
    → (malformed_at (decode_from 0 offset b) ≡ none) × (words_of (instructions (decode_from 0 offset b)) ≡ ws)
assemble_words at offset [] b e = let is : [] ≡ b = cc in rw (← is) (refl, refl)
assemble_words at offset (w ∷ ws) b e =
    let t = on_word_gives (word_read w) at (assembly (at + length w + 1) ws) b e in
    by t.0 t.1 (word_instruction w t.0 t.2) t.4 (λ next. assemble_words (at + length w + 1) next ws t.1 t.3)
  where
    Back : Bytes → List Bytes → ℕ → Type 0
    Back b ws offset = (malformed_at (decode_from 0 offset b) ≡ none) × (words_of (instructions (decode_from 0 offset b)) ≡ ws)

    by : (x l : Bytes) → WordFor w x → b ≡ x ++ l → ((next : ℕ) → Back l ws next) → Back b (w ∷ ws) offset
    by x l f q later =
        let next = offset + 1 + length f.is.after in
        let d = decode_whole x l f.code offset f.literal f.is in
        (rw (q, d) (later next).0, rw (q, d, f.word offset, (later next).1))

-- "Assembling a listing and listing the result gives the listing again", for every listing
pub assemble_list : (listing b : Bytes) → assembly 0 (words listing) ≡ gives b
    → (malformed_at (decode b) ≡ none) × (parted (instructions (decode b)) ≡ listing)
unfolding decode
assemble_list listing b e =
    let t = assemble_words 0 0 (words listing) b e in
    (t.0, parted_spaced (instructions (decode_from 0 0 b)) ∙ ap spaced t.1 ∙ words_spaced listing)

-- List, then assemble

-- each instruction is one that decoding gives
abbrev AllDecoded : List Instruction → Type 0
AllDecoded [] = Unit {0}
AllDecoded (i ∷ is) = Decoded i × AllDecoded is

-- also those before where a fragment is malformed
all_decoded : (passing offset : ℕ) (l : Bytes) → AreBytes l → AllDecoded (instructions (decode_from passing offset l))
all_decoded zero offset [] bs = tt
all_decoded (suc passing) offset [] bs = tt
all_decoded (suc passing) offset (b ∷ l) bs = all_decoded passing (offset + 1) l bs.1
all_decoded zero offset (b ∷ l) bs = by (front b l) refl (λ after. all_decoded after (offset + 1) l bs.1)
  where
    by : (f : Front) → front b l ≡ f → ((after : ℕ) → AllDecoded (instructions (decode_from after (offset + 1) l)))
        → AllDecoded (instructions (on_front f b offset (λ after. decode_from after (offset + 1) l)))
    by (whole after literal) e later = (front_decoded b offset after l literal bs.0 bs.1 e, later after)
    by short e later = tt

-- a word in front of the rest
words_from_word : (w : Bytes) → no_space w ≡ true → words_from w ≡ w ∷ []
words_from_word [] h = refl
words_from_word (c ∷ w) h =
    let t = both (not (eqb c 32)) (no_space w) h in
    rw (not-true (eqb c 32) t.0, words_from_word w t.1)

words_from_space : (w l : Bytes) → no_space w ≡ true → words_from (w ++ (32 ∷ l)) ≡ w ∷ words_from l
words_from_space [] l h = refl
words_from_space (c ∷ w) l h =
    let t = both (not (eqb c 32)) (no_space w) h in
    rw (not-true (eqb c 32) t.0, words_from_space w l t.1)

-- the words of the listing are those of the instructions
words_from_parted : (i : Instruction) (is : List Instruction) → AllDecoded (i ∷ is) → words_from (parted (i ∷ is)) ≡ words_of (i ∷ is)
words_from_parted i [] d = words_from_word (word_of i) (word_of_read i d.0).spaceless
words_from_parted i (j ∷ is) d =
    rw (append_assoc (word_of i) (text " ") (parted (j ∷ is)), words_from_space (word_of i) (parted (j ∷ is)) (word_of_read i d.0).spaceless, words_from_parted j is d.1)

-- a listing that has letters has words
letters_append : (w l : Bytes) → same w [] ≡ false → same (w ++ l) [] ≡ false
letters_append [] l e = let z : ◌≡◌ {A = ℕ} 0 1 = cc in absurd (omega arith)
letters_append (c ∷ w) l e = refl

words_letters : (l : Bytes) → same l [] ≡ false → words l ≡ words_from l
words_letters [] e = let z : ◌≡◌ {A = ℕ} 0 1 = cc in absurd (omega arith)
words_letters (c ∷ l) e = refl

parted_letters : (i : Instruction) (is : List Instruction) → Decoded i → same (parted (i ∷ is)) [] ≡ false
parted_letters i [] d = (word_of_read i d).letters
parted_letters i (j ∷ is) d =
    letters_append (word_of i ++ text " ") (parted (j ∷ is)) (letters_append (word_of i) (text " ") (word_of_read i d).letters)

words_parted : (is : List Instruction) → AllDecoded is → words (parted is) ≡ words_of is
words_parted [] d = refl
words_parted (i ∷ is) d = words_letters (parted (i ∷ is)) (parted_letters i is d.0) ∙ words_from_parted i is d

assemble_words_of : (at : ℕ) (is : List Instruction) → AllDecoded is → assembly at (words_of is) ≡ gives (shortest_of is)
assemble_words_of at [] d = refl
assemble_words_of at (i ∷ is) d = rw ((word_of_read i d.0).read, assemble_words_of (at + length (word_of i) + 1) is d.1)

-- "Listing a fragment and assembling it gives the same instructions and data with each push in its shortest form": of every
-- fragment of bytes, of one that is malformed with the instructions before
pub list_assemble : (f : Bytes) → AreBytes f → assembly 0 (words (parted (instructions (decode f)))) ≡ gives (shortest f)
unfolding decode shortest
list_assemble f bs =
    let d = all_decoded 0 0 f bs in
    rw (words_parted (instructions (decode_from 0 0 f)) d) (assemble_words_of 0 (instructions (decode_from 0 0 f)) d)

-- The shortest form

-- of instructions
shortest_decodes : (offset : ℕ) (is : List Instruction) → AllDecoded is
    → (malformed_at (decode_from 0 offset (shortest_of is)) ≡ none) × (SameButForms is (instructions (decode_from 0 offset (shortest_of is))))
shortest_decodes offset [] d = (refl, tt)
shortest_decodes offset (i ∷ is) d =
    let f = form_whole i d.0 in
    let next = offset + 1 + length f.is.after in
    let later = shortest_decodes next is d.1 in
    let e = decode_whole (form_of i) (shortest_of is) f.code offset i.literal f.is in
    (rw e later.0, rw e ((f.alike, refl), later.1))

-- it is not malformed
pub shortest_whole : (f : Bytes) → AreBytes f → malformed_at (decode (shortest f)) ≡ none
unfolding decode shortest
shortest_whole f bs = (shortest_decodes 0 (instructions (decode_from 0 0 f)) (all_decoded 0 0 f bs)).0

-- it has "the same instructions and data", push forms aside
pub shortest_same : (f : Bytes) → AreBytes f → SameButForms (instructions (decode f)) (instructions (decode (shortest f)))
unfolding decode shortest
shortest_same f bs = (shortest_decodes 0 (instructions (decode_from 0 0 f)) (all_decoded 0 0 f bs)).1

-- instructions that are the same push forms aside have one shortest form
form_same : (i j : Instruction) → SameButForm i j → form_of j ≡ form_of i
form_same i j (inl low, l) = rw (le-leb i.opcode 0x4e low.0, le-leb j.opcode 0x4e low.1, l)
form_same i j (inr e, l) = rw (e, l)

shortest_of_same : (is js : List Instruction) → SameButForms is js → shortest_of js ≡ shortest_of is
shortest_of_same [] [] s = refl
shortest_of_same [] (j ∷ js) s = absurd s
shortest_of_same (i ∷ is) [] s = absurd s
shortest_of_same (i ∷ is) (j ∷ js) s = rw (form_same i j s.0, shortest_of_same is js s.1)

-- and so it is its own shortest form
pub shortest_twice : (f : Bytes) → AreBytes f → shortest (shortest f) ≡ shortest f
unfolding shortest
shortest_twice f bs = shortest_of_same (instructions (decode f)) (instructions (decode (shortest f))) (shortest_same f bs)

-- Lent outputs

-- the bytes that were written
abbrev pub written : Converted → Bytes
written c = take c.size c.out

put_written : (result out : Bytes) → (put result out).number ≡ 0 → written (put result out) ≡ result
put_written result out = by (leb (length result) (length out))
  where
    answer : Bool → Converted
    answer t =
        pick t (record { number = 0; offset = 0; size = length result; out = result ++ drop (length result) out }) (unwritten (refused_at 0 output_short) out)

    by : (t : Bool) → (answer t).number ≡ 0 → written (answer t) ≡ result
    by true e = take_at result (drop (length result) out) (length result) refl
    by false e = absurd (omega arith)

put_room : (result out : Bytes) → length result ≤ length out
    → put result out ≡ record { number = 0; offset = 0; size = length result; out = result ++ drop (length result) out }
put_room result out h = rw (le-leb (length result) (length out) h)

on_assembly_written : (a : Assembly) (out : Bytes) → (on_assembly a out).number ≡ 0 → a ≡ gives (written (on_assembly a out))
on_assembly_written (gives l) out e = rw (put_written l out e)
on_assembly_written (strange offset) out e = absurd (omega arith)

on_decoded_written : (o : Option ℕ) (result out : Bytes) → (on_decoded o result out).number ≡ 0 → written (on_decoded o result out) ≡ result
on_decoded_written none result out e = put_written result out e
on_decoded_written (some offset) result out e = absurd (omega arith)

-- what the assembler wrote, listed into any output with room for the listing, is the listing, and the rest of the output stays
pub assembled_listed : (listing out room : Bytes) → (assembled listing out).number ≡ 0 → length listing ≤ length room
    → listed (written (assembled listing out)) room
    ≡ record { number = 0; offset = 0; size = length listing; out = listing ++ drop (length listing) room }
unfolding assembled listed
assembled_listed listing out room e h =
    let b = written (on_assembly (assembly 0 (words listing)) out) in
    let t = assemble_list listing b (on_assembly_written (assembly 0 (words listing)) out e) in
    rw (t.0, t.1) (put_room listing room h)

-- what the lister wrote, assembled into any output with room for the shortest form, is the shortest form, and the rest stays
pub listed_assembled : (f out room : Bytes) → AreBytes f → (listed f out).number ≡ 0 → length (shortest f) ≤ length room
    → assembled (written (listed f out)) room
    ≡ record { number = 0; offset = 0; size = length (shortest f); out = shortest f ++ drop (length (shortest f)) room }
unfolding assembled listed
listed_assembled f out room bs e h =
    rw (on_decoded_written (malformed_at (decode f)) (parted (instructions (decode f))) out e, list_assemble f bs) (put_room (shortest f) room h)
