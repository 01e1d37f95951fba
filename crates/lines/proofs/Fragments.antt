-- Laws of the lines: their parts by the tests of the code, and the lines of a marked paper one behind another.
use mathlib.Core.List.{List, [], ◌∷◌, ◌++◌, map, append_assoc, append-nil}
use mathlib.Core.Path.{◌≡◌, refl, sym, ap, ◌∙◌}
use Prim.Native.Nat.{ℕ, suc, ◌+◌, ◌≤◌, ◌<◌}
use native.Mathlib.Omega.{arith}
use borrow.Author.Tests.{lt-ltb, le-ltb, ne_eqb}
use lib.ListN.{length, take, get_or, length-take}
use Rattle.std.proofs.lemmas.List.{take_more}
use Rattle.std.specs.Prelude.{Ok, Err}
use Rattle.definition.specs.Basics.{Bytes}
use Rattle.definition.specs.Lines.{text, labelled, name, ending, line, lines, refused_line, last_line, lines_of, printed}
use Rattle.definition.specs.Papers.{PaperMarked, entry_count, mark_paper}
use Rattle.definition.specs.Papers as P
use Rattle.definition.specs.Stacks.{Rules, built_in}
use Rattle.definition.specs.Walk.{Arm, dead, live}
use Rattle.definition.specs.Walk as W
use Rattle.refusals.proofs.OneForm.{refused-some}
use Rattle.refusals.specs.View.{answer_of}
use Rattle.stack_analysis.specs.View.{Told, end_as, told_of, heights_of}
use Rattle.stack_analysis.specs.declared.Accepted.{Accepted}
use Rattle.stack_analysis.specs.declared.Heights.{Heights}
use Rattle.paper.specs.View.{paper_of, told_accepted, items_of, Holds}
use Rattle.paper.specs.declared.AcceptedPaper.{AcceptedPaper}
use Rattle.paper.specs.declared.Marked.{Marked}
use Rattle.paper.specs.declared.RejectedPaper.{RejectedPaper}
use Rattle.lines.specs.View.{end_text, told_line}

-- The parts of a line

pub name-entry : (entries k : ℕ) → k < entries → name entries k ≡ labelled "entry " k
name-entry entries k h = rw (lt-ltb k entries h)

pub name-state : (entries k : ℕ) → entries ≤ k → name entries k ≡ text "state"
name-state entries k h = rw (le-ltb k entries h)

pub ruleset names = (name-entry, name-state)

-- The lines of the fragments accepted, the first of them fragment k

abbrev pub told_lines : ℕ → ℕ → List (Accepted Heights) → Bytes
told_lines entries k [] = []
told_lines entries k (a ∷ l) = told_line entries k a.peak a.end ++ told_lines entries (k + 1) l

pub lines-more : (entries k : ℕ) (l : List (Accepted Heights)) (a : Accepted Heights)
    → told_lines entries k (l ++ (a ∷ [])) ≡ told_lines entries k l ++ told_line entries (k + length l) a.peak a.end
lines-more entries k [] a =
    let n : k + 0 ≡ k = omega arith in
    append-nil (told_line entries k a.peak a.end) ∙ rw n
lines-more entries k (b ∷ l) a =
    let n : k + 1 + length l ≡ k + suc (length l) = omega arith in
    ap (λ (t : Bytes). told_line entries k b.peak b.end ++ t) (lines-more entries (k + 1) l a)
    ∙ sym (append_assoc (told_line entries k b.peak b.end) (told_lines entries (k + 1) l) (told_line entries (k + 1 + length l) a.peak a.end))
    ∙ ap (λ x. (told_line entries k b.peak b.end ++ told_lines entries (k + 1) l) ++ told_line entries x a.peak a.end) n

pub lines-next : (entries k : ℕ) (l : List (Accepted Heights)) (none : Accepted Heights) → k < length l
    → told_lines entries 0 (take (k + 1) l) ≡ told_lines entries 0 (take k l) ++ told_line entries k (get_or l k none).peak (get_or l k none).end
lines-next entries k l none h =
    let n : 0 + length (take k l) ≡ k = omega (arith, length-take k l) in
    ap (told_lines entries 0) (take_more l k none h) ∙ lines-more entries 0 (take k l) (get_or l k none)
    ∙ ap (λ x. told_lines entries 0 (take k l) ++ told_line entries x (get_or l k none).peak (get_or l k none).end) n

-- by the definition's verdicts
end_is : (c : Arm) → end_text (end_as heights_of c) ≡ ending c
end_is dead = refl
end_is (live s) = refl

line-is : (entries k : ℕ) (w : W.Verdict) → told_line entries k w.peak (end_as heights_of w.end) ≡ line entries k w
unfolding line
line-is entries k w = ap (λ (t : Bytes). name entries k ++ labelled " peak " w.peak ++ t ++ text "\n") (end_is w.end)

head_is : {A : Type 0} {x y : A} {l m : List A} → (x ∷ l) ≡ (y ∷ m) → (x ≡ y) × (l ≡ m)
head_is {A} {x} {y} {l} {m} e = (ap (front x) e, ap rest e)
  where
    front : A → List A → A
    front d [] = d
    front d (z ∷ n) = z

    rest : List A → List A
    rest [] = []
    rest (z ∷ n) = n

pub lines-are : (entries k : ℕ) (l : List (Accepted Heights)) (vs : List W.Verdict) → map told_accepted l ≡ map (told_of heights_of) vs
    → told_lines entries k l ≡ lines entries k vs
lines-are entries k [] [] e = refl
lines-are entries k [] (v ∷ vs) e = cc
lines-are entries k (a ∷ l) [] e = cc
lines-are entries k (a ∷ l) (v ∷ vs) e =
    let h = head_is e in
    rw (ap (λ (t : Told Heights). t.peak) h.0, ap (λ (t : Told Heights). t.end) h.0, lines-are entries (k + 1) l vs h.1, line-is entries k v)

-- The last line

pub last-accepted : (a : AcceptedPaper) → last_line (paper_of (Ok a)) ≡ text "accepted\n"
unfolding last_line paper_of
last-accepted a = refl

pub last-refused : (r : RejectedPaper) → last_line (paper_of (Err r)) ≡ refused_line r.entry (answer_of r.refused)
unfolding last_line paper_of
last-refused r = rw (ne_eqb (answer_of r.refused).number 0 (refused-some r.refused))

-- all of them
pub lines-of-marked : (entries : ℕ) (r : Marked) (t last : Bytes) → t ≡ told_lines entries 0 (items_of r.accepted) → last ≡ last_line (paper_of r.verdict)
    → (m : PaperMarked) (log : List ℕ) → Holds m r log → t ++ last ≡ lines_of entries m
lines-of-marked entries r t last e f m log h =
    rw (e, f, lines-are entries 0 (items_of r.accepted) m.verdicts h.accepted) (ap (λ (p : P.PaperVerdict). lines entries 0 m.verdicts ++ last_line p) h.verdict)

-- what is printed of a paper is the lines of what holds its marking
pub printed-by : (R : Rules) (s : Bytes) (log new : List ℕ) (r : Marked) (t : Bytes) → R ≡ built_in → Holds (mark_paper R s log) r new
    → ((m : PaperMarked) (l : List ℕ) → Holds m r l → t ≡ lines_of (entry_count s) m) → t ≡ printed built_in s log
unfolding printed
printed-by R s log new r t e h k = k _ _ h ∙ ap (λ (Q : Rules). lines_of (entry_count s) (mark_paper Q s log)) e
