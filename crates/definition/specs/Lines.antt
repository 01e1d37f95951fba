-- Section 6: the lines that `stackmark` prints, as bytes.
use Rattle.std.specs.Prelude.{List, [], ◌∷◌, ◌++◌, ℕ, zero, suc, ◌+◌, ◌/◌, ◌%◌, ltb, eqb, length, take, replicate}
use Prim.Native.Char.{code}
use Prim.Native.String.{String}
use Prim.Native.String as S
use Rattle.definition.specs.Basics.{Bytes, pick}
use Rattle.definition.specs.Refusals.{Answer}
use Rattle.definition.specs.Stacks.{Rules, built_in}
use Rattle.definition.specs.Walk.{Arm, dead, live, Verdict}
use Rattle.definition.specs.Papers.{PaperVerdict, PaperMarked, entry_count, mark_paper}

-- A quoted text as bytes: the code of each character; `S.[]` and `S.◌∷◌` are [] and ∷ of texts. `\n` is the newline that ends a
-- line.
abbrev pub text : String → Bytes
text S.[] = []
text (S.◌∷◌ c s) = code c ∷ text s

-- n in decimal, highest digit first: of 305 the text of 30 and then 53, since 48 is the code of 0. `most` is how many digits at
-- most behind the first: n are enough.
abbrev pub decimal_within : ℕ → ℕ → Bytes
decimal_within zero n = (48 + n % 10) ∷ []
decimal_within (suc most) n = pick (ltb n 10) [] (decimal_within most (n / 10)) ++ ((48 + n % 10) ∷ [])

-- a number in decimal
unfoldable pub decimal : ℕ → Bytes
decimal n = decimal_within n n

-- a word and the number behind it
abbrev pub labelled : String → ℕ → Bytes
labelled word n = text word ++ decimal n

-- "end main, end alt (`end none` if dead ..)"
abbrev pub ending : Arm → Bytes
ending dead = text " end none"
ending (live s) = labelled " end " (length s.main) ++ labelled " " (length s.alt)

-- fragment k of a paper with so many entries: its entry, or "`state` for `entry 0` at the initialiser"
abbrev pub name : ℕ → ℕ → Bytes
name entries k = pick (ltb k entries) (labelled "entry " k) (text "state")

-- the line of an accepted fragment: "entry, peak, end main, end alt"
unfoldable pub line : ℕ → ℕ → Verdict → Bytes
line entries k v = name entries k ++ labelled " peak " v.peak ++ ending v.end ++ text "\n"

-- the lines of the accepted fragments, the first of them fragment k
abbrev pub lines : ℕ → ℕ → List Verdict → Bytes
lines entries k [] = []
lines entries k (v ∷ vs) = line entries k v ++ lines entries (k + 1) vs

-- "`refused N at K O A B`: number, entry from 0 .., offset, figures"
unfoldable pub refused_line : ℕ → Answer → Bytes
refused_line entry a =
    labelled "refused " a.number ++ labelled " at " entry ++ labelled " " a.offset ++ labelled " " a.first
    ++ labelled " " a.second ++ text "\n"

-- `accepted`, or the line of the refusal
unfoldable pub last_line : PaperVerdict → Bytes
last_line p = pick (eqb p.verdict.answer.number 0) (text "accepted\n") (refused_line p.entry p.verdict.answer)

-- "Lines of earlier fragments come first"
abbrev pub lines_of : ℕ → PaperMarked → Bytes
lines_of entries m = lines entries 0 m.verdicts ++ last_line m.paper

-- what is printed of a paper with this log lent
unfoldable pub printed : Rules → Bytes → List ℕ → Bytes
printed R paper log = lines_of (entry_count paper) (mark_paper R paper log)

-- "`stackmark` reads a paper from standard input, at most 8,001 bytes, so its 21 always shows 8001, and lends a log of 24,000
-- numbers"
unfoldable pub stackmark : Bytes → Bytes
stackmark input = printed built_in (take 8001 input) (replicate 24000 0)
