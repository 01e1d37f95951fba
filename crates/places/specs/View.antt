-- How answers are handed to a caller in another language: as numbers, in places that it lends.
use Rattle.std.specs.Prelude.{Bool, true, false, not, List, [], ◌∷◌, ◌++◌, ℕ, min, ltb, eqb, length, drop, get_or}
use Rattle.definition.specs.Basics.{Bytes, pick}
use Rattle.definition_listings.specs.Listing.{Converted}
use Rattle.definition_rules.specs.Maps.{Options}
use Rattle.definition.specs.Papers.{PaperVerdict, by_mark, display}
use Rattle.definition.specs.Refusals.{Answer}
use Rattle.definition_sums.specs.Sums.{SittingSums}
use Rattle.definition.specs.Walk.{Item, Arm, dead, live, Verdict, Tally}
use Rattle.ends.specs.View.{items_of, item_length, item_number}

-- what is lent beside a map: this limit, and this mode, 0 for plain and any other number for the examined one
abbrev pub lent_options : ℕ → ℕ → Options
lent_options limit mode = record { limit = limit; examined = not (eqb mode 0) }

abbrev pub flag : Bool → ℕ
flag true = 1
flag false = 0

-- the lent places afterwards: these values in the first of them, the rest as lent; all as lent where there are fewer
unfoldable pub written : {A : Type 0} → List A → List A → List A
written values out = pick (ltb (length out) (length values)) out (values ++ drop (length values) out)

-- whether there is an end, and its heights; 0 and 0 where there is none

abbrev pub has_end : Arm → Bool
has_end dead = false
has_end (live s) = true

abbrev pub end_main : Arm → ℕ
end_main dead = 0
end_main (live s) = length s.main

abbrev pub end_alt : Arm → ℕ
end_alt dead = 0
end_alt (live s) = length s.alt

-- the nine numbers of a verdict on a fragment; where there is no end its heights are 0 and 0
abbrev pub verdict_numbers : Verdict → List ℕ
verdict_numbers v =
    v.answer.number ∷ v.answer.offset ∷ v.answer.first ∷ v.answer.second ∷ v.rows ∷ v.peak
    ∷ flag (has_end v.end) ∷ end_main v.end ∷ end_alt v.end ∷ []

-- three numbers to an item: its length (255 if it is unknown), its bytes as one number (0 if it is unknown), its mark, 0
abbrev pub items_numbers : List Item → List ℕ
items_numbers [] = []
items_numbers (x ∷ l) = item_length x ∷ item_number x ∷ 0 ∷ items_numbers l

-- those of an end, main from bottom to top and then alt from bottom to top
abbrev pub end_numbers : Arm → List ℕ
end_numbers dead = []
end_numbers (live s) = items_numbers (items_of s)

-- the four numbers of the limit check's answer
abbrev pub answer_numbers : Answer → List ℕ
answer_numbers a = a.number ∷ a.offset ∷ a.first ∷ a.second ∷ []

-- the seven numbers of a verdict on a paper; it has no end stacks
abbrev pub paper_numbers : PaperVerdict → List ℕ
paper_numbers p =
    p.verdict.answer.number ∷ p.entry ∷ p.verdict.answer.offset ∷ p.verdict.answer.first ∷ p.verdict.answer.second
    ∷ p.verdict.rows ∷ p.verdict.peak ∷ []

-- the tally of four counters: fragments, accepted, rows, greatest peak
abbrev pub tally_from : List ℕ → Tally
tally_from l = record { fragments = get_or l 0 0; accepts = get_or l 1 0; rows = get_or l 2 0; peak = get_or l 3 0 }

-- the four counters of a tally
abbrev pub tally_numbers : Tally → List ℕ
tally_numbers t = t.fragments ∷ t.accepts ∷ t.rows ∷ t.peak ∷ []

-- the numbers of the sums over a sitting: number, sum, count, and how often 0, 1, .. the greatest number in use occurred
abbrev pub sums_numbers : SittingSums → List ℕ
sums_numbers s = s.number ∷ s.sum ∷ s.count ∷ s.counts

-- the three numbers of an assembler's or lister's answer: number, offset, bytes written
abbrev pub converted_numbers : Converted → List ℕ
converted_numbers c = c.number ∷ c.offset ∷ c.size ∷ []

-- where the part that is displayed starts in its fragment: at the offset, or at the end if the offset is past it
unfoldable pub display_start : Bytes → Bytes → ℕ → ℕ → ℕ
display_start body init offset mark = min offset (length (by_mark body init mark))

-- the two numbers of that part: its start and its length
abbrev pub part_numbers : Bytes → Bytes → ℕ → ℕ → List ℕ
part_numbers body init offset mark = display_start body init offset mark ∷ length (display body init offset mark) ∷ []
