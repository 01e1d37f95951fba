-- Request L3 by example: related pairs that are accepted, refused in the walk and malformed, and a pair of papers; and pairs that
-- are not related, with verdicts or logs that differ.
use mathlib.Core.List.{[], ◌∷◌, ◌++◌}
use mathlib.Core.Path.{◌≡◌, refl, ap}
use Prim.Native.Nat.{ℕ}
use native.Mathlib.Omega.{arith}
use lib.ListN.{replicate, get_or}
use Rattle.definition.specs.Basics.{Bytes}
use Rattle.definition.specs.Decoding.{front, decode, serialize, deserialize}
use Rattle.definition.specs.Classes.{class_number, class_of}
use Rattle.definition.specs.Refusals.{accepted, answer}
use Rattle.definition.specs.Stacks.{built_in, push_item, drop_items, copy_items, step, plain_step}
use Rattle.definition.specs.Walk.{live, dead, unknown, log_row, walk, analysis_of, Marked, analysis}
use Rattle.definition.specs.Papers.{PaperMarked, good_header, fragments, mark_from, dispatch, mark_paper}
use Rattle.definition_long_data.specs.Blank.{blank, Blanked, both_malformed, Alike, RelatedPapers}

-- Related pairs

-- a signature of 64 times this byte, a key of 32 times that one, and OpCheckSig: 40 .. 20 .. ac
abbrev signed : ℕ → ℕ → Bytes
signed s k = 0x40 ∷ replicate 64 s ++ 0x20 ∷ replicate 32 k ++ 0xac ∷ []

-- blanked, both are 00
pub signed_blank : blank (signed 0x5a 0x02) ≡ signed 0x00 0x00
unfolding blank
signed_blank = refl

-- it is accepted, as it is and blanked, with the same rows
abbrev SignedMarked : Marked → Type 0
SignedMarked m = m ≡ record {
  verdict = record { answer = accepted; rows = 3; peak = 2; end = live (record { main = unknown ∷ []; alt = [] }) };
  log = 0 ∷ 0 ∷ 0 ∷ 65 ∷ 1 ∷ 0 ∷ 98 ∷ 2 ∷ 0 ∷ [];
}

pub signed_marked : (Blanked (signed 0x5a 0x02) (signed 0x00 0x00))
    × ((SignedMarked (analysis built_in (signed 0x5a 0x02) 0 0 (replicate 9 0)))
    × (SignedMarked (analysis built_in (signed 0x00 0x00) 0 0 (replicate 9 0))))
unfolding blank analysis analysis_of walk log_row step plain_step push_item drop_items copy_items class_of class_number decode front serialize deserialize
signed_marked = (refl, (refl, refl))

-- 09 and nine bytes, SIZE, PICK: the size of long data is not known, so PICK is refused, 9 at 11
abbrev sizes : ℕ → Bytes
sizes b = 0x09 ∷ replicate 9 b ++ 0x82 ∷ 0x79 ∷ []

pub sizes_marked : (Blanked (sizes 0x01) (sizes 0x80))
    × (((analysis built_in (sizes 0x01) 9 0 (replicate 9 0)).verdict.answer ≡ answer 9 11 0 0)
    × ((analysis built_in (sizes 0x80) 9 0 (replicate 9 0)).verdict.answer ≡ answer 9 11 0 0))
unfolding blank analysis analysis_of walk log_row step plain_step push_item drop_items copy_items class_of class_number decode front serialize deserialize
sizes_marked = (refl, (refl, refl))

-- 51, and a push of 32 bytes that is broken off after two: what is there is blanked, and both are 3 at 1
abbrev broken_off : ℕ → ℕ → Bytes
broken_off a b = 0x51 ∷ 0x4c ∷ 0x20 ∷ a ∷ b ∷ []

pub broken_off_marked : (blank (broken_off 0x07 0x08) ≡ broken_off 0x00 0x00)
    × ((Blanked (broken_off 0x07 0x08) (broken_off 0x4c 0x01))
    × (((analysis built_in (broken_off 0x07 0x08) 0 0 []).verdict.answer ≡ answer 3 1 0 0)
    × ((analysis built_in (broken_off 0x4c 0x01) 0 0 []).verdict.answer ≡ answer 3 1 0 0)))
unfolding blank analysis analysis_of walk log_row step plain_step push_item drop_items copy_items class_of class_number decode front serialize deserialize
broken_off_marked = (refl, (refl, (refl, refl)))

-- the wider relation does not look at a broken tail: 4c 05 01 and 4c 06 02 are alike, both 3 at 0, and not blanked alike
pub tails_alike : (Alike (0x4c ∷ 0x05 ∷ 0x01 ∷ []) (0x4c ∷ 0x06 ∷ 0x02 ∷ []))
    × (Blanked (0x4c ∷ 0x05 ∷ 0x01 ∷ []) (0x4c ∷ 0x06 ∷ 0x02 ∷ []) → ⊥)
unfolding blank decode front
tails_alike = ((refl, both_malformed 0), λ h. absurd (omega (arith, ap (λ l. get_or l 1 0) h)))

-- A paper with one entry, of one parameter, and one state field; its body, at 15, is 4c 09, nine bytes and 6d (drops two); its
-- initialiser, at 27, is 4c 0a, which is broken off. Byte 14 is in no part.
abbrev half : ℕ → ℕ → ℕ → Bytes
half between sig state =
    0x01 ∷ 0x00 ∷ 0x01 ∷ 0x00 ∷ 0x1b ∷ 0x00 ∷ 0x05 ∷ 0x00 ∷ 0x01 ∷ 0x00 ∷ 0x0f ∷ 0x00 ∷ 0x0c ∷ 0x00 ∷ between ∷
    0x4c ∷ 0x09 ∷ replicate 9 sig ++ 0x6d ∷ 0x4c ∷ 0x0a ∷ replicate 3 state

pub papers_related : RelatedPapers Blanked (half 0x00 0x5a 0x07) (half 0xff 0x00 0x08)
unfolding blank good_header
papers_related = record { size = refl; header = refl; parts = λ good. (refl, (refl, tt)) }

-- the body is accepted, and the initialiser is refused, 3 at 0
abbrev HalfMarked : PaperMarked → Type 0
HalfMarked m = m ≡ record {
  paper = record { entry = 1; verdict = record { answer = answer 3 0 0 0; rows = 2; peak = 0; end = dead } };
  verdicts = record { answer = accepted; rows = 2; peak = 3; end = live (record { main = unknown ∷ []; alt = [] }) } ∷ [];
  log = 0 ∷ 2 ∷ 0 ∷ 11 ∷ 3 ∷ 0 ∷ 9 ∷ 9 ∷ 9 ∷ [];
}

pub papers_marked : (HalfMarked (mark_paper built_in (half 0x00 0x5a 0x07) (replicate 9 9))) × (HalfMarked (mark_paper built_in (half 0xff 0x00 0x08) (replicate 9 9)))
unfolding good_header fragments mark_from dispatch mark_paper analysis analysis_of walk log_row step plain_step push_item drop_items copy_items class_of class_number decode front serialize deserialize
papers_marked = (refl, refl)

-- Pairs that are not related

-- eight bytes, an index to PICK: they are known, and needed is one more
abbrev eight : ℕ → Bytes
eight b = 0x08 ∷ replicate 7 0x00 ++ b ∷ 0x79 ∷ []

pub eight_differ : (blank (eight 0x01) ≡ eight 0x01) × ((blank (eight 0x02) ≡ eight 0x02) × ((Blanked (eight 0x01) (eight 0x02) → ⊥)
    × (((analysis built_in (eight 0x01) 1 0 (replicate 6 0)).verdict.answer ≡ answer 7 9 72057594037927937 1)
    × ((analysis built_in (eight 0x02) 1 0 (replicate 6 0)).verdict.answer ≡ answer 7 9 144115188075855873 1))))
unfolding blank analysis analysis_of walk log_row step plain_step push_item drop_items copy_items class_of class_number decode front serialize deserialize
eight_differ = (refl, (refl, ((λ h. absurd (omega (arith, ap (λ l. get_or l 8 0) h))), (refl, refl))))

-- data of another length: 4c 09 and nine bytes, 4c 0a and ten, then 75; the rows have other offsets
abbrev longer : ℕ → Bytes
longer n = 0x4c ∷ n ∷ replicate n 0x07 ++ 0x75 ∷ []

pub longer_differ : (Blanked (longer 9) (longer 10) → ⊥)
    × (((analysis built_in (longer 9) 0 0 (replicate 6 0)).log ≡ (0 ∷ 0 ∷ 0 ∷ 11 ∷ 1 ∷ 0 ∷ []))
    × ((analysis built_in (longer 10) 0 0 (replicate 6 0)).log ≡ (0 ∷ 0 ∷ 0 ∷ 12 ∷ 1 ∷ 0 ∷ [])))
unfolding blank analysis analysis_of walk log_row step plain_step push_item drop_items copy_items class_of class_number decode front serialize deserialize
longer_differ = ((λ h. absurd (omega (arith, ap (λ l. get_or l 1 0) h))), (refl, refl))

-- 01 09 and nine bytes: read from the second byte on, 09 is a push of nine bytes of data; it is itself data, and they are opcodes
abbrev inside : ℕ → Bytes
inside b = 0x01 ∷ 0x09 ∷ replicate 9 b

pub inside_differ : (blank (inside 0x51) ≡ inside 0x51) × ((Blanked (inside 0x51) (inside 0x75) → ⊥)
    × (((analysis built_in (inside 0x51) 0 0 (replicate 30 0)).verdict.answer ≡ accepted)
    × ((analysis built_in (inside 0x75) 0 0 (replicate 30 0)).verdict.answer ≡ answer 7 3 1 0)))
unfolding blank analysis analysis_of walk log_row step plain_step push_item drop_items copy_items class_of class_number decode front serialize deserialize
inside_differ = (refl, ((λ h. absurd (omega (arith, ap (λ l. get_or l 2 0) h))), (refl, refl)))
