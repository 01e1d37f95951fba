-- Laws of the rows of a fragment, one put behind another.
use mathlib.Core.List.{List, [], ◌++◌, append-nil, append_assoc}
use mathlib.Core.Path.{◌≡◌, sym, ap, ◌∙◌}
use Prim.Native.Nat.{ℕ, suc, ◌+◌, ◌-◌, ◌*◌, ◌≤◌, ◌<◌, max}
use native.Mathlib.Omega.{arith}
use borrow.Author.Tests.{eq-eqb, ne_eqb}
use lib.ListN.{get_or, length}
use Rattle.definition.specs.Basics.{Bytes}
use Rattle.definition.specs.Classes.{class_at}
use Rattle.definition_rules.specs.Maps.{Options, rules_by}
use Rattle.definition.specs.Stacks.{Rules}
use Rattle.log_rows.specs.Rows.{main_at, alt_at, opcode_at, total_of, greatest, scale_of, depth_after, heading, row, rows_from, rows}
use Rattle.text.specs.declared.Lent.{Lent}
use Rattle.text.specs.View.{Puts}
use Rattle.text.proofs.Puts.{puts_as, puts-none, then-puts}

-- the rows before row j are put, of `count` from row `from` on, by the classes of lent rows, beside whatever options
pub record Rowing (before : Lent) (classes : List ℕ) (fragment : Bytes) (log : List ℕ) (scale from count : ℕ) (now : Lent) (depth j : ℕ) : Type 0 where
  pub done : Options → Bytes
  pub puts : (options : Options) → Puts before (done options) now
  pub all : (options : Options) → rows_from (rules_by classes options) fragment log scale 0 from count
      ≡ done options ++ rows_from (rules_by classes options) fragment log scale depth j (from + count - j)
  pub low : greatest log j (from + count - j) ≤ scale
  pub near : now.size ≤ before.size + 256 * (j - from)
  pub flat : depth ≤ j - from

module _ (before : Lent) (classes : List ℕ) (fragment : Bytes) (log : List ℕ) (scale from count : ℕ) where
  abbrev left : Options → ℕ → ℕ → ℕ → Bytes
  left options depth j n = rows_from (rules_by classes options) fragment log scale depth j n

  pub rowing-none : greatest log from count ≤ scale → Rowing before classes fragment log scale from count before 0 from
  rowing-none h =
      let f : count ≡ from + count - from = omega arith in
      record {
        done = λ options. [];
        puts = λ options. puts-none before;
        all = λ options. ap (left options 0 from) f;
        low = rw (← f) h;
        near = omega arith;
        flat = omega arith;
      }

  module _ (now : Lent) (depth j : ℕ) (i : Rowing before classes fragment log scale from count now depth j) where
    pub rowing-end : from + count ≤ j → (options : Options) → Puts before (rows_from (rules_by classes options) fragment log scale 0 from count) now
    rowing-end h options =
        let e : from + count - j ≡ 0 = omega arith in
        puts_as (sym (i.all options ∙ ap (λ x. i.done options ++ left options depth j x) e ∙ append-nil (i.done options))) (i.puts options)

    module _ (h : j < from + count) where
      one_more_lem : from + count - j ≡ suc (from + count - (j + 1))
      one_more_lem = omega arith

      row_low : max (total_of (main_at log j) (alt_at log j)) (greatest log (j + 1) (from + count - (j + 1))) ≤ scale
      row_low = rw one_more_lem at i.low

      pub row_within : total_of (main_at log j) (alt_at log j) ≤ scale
      row_within = omega (arith, row_low)

      pub rowing-more : {new : Lent} {shown : Bytes} (class deeper : ℕ) → from ≤ j
          → ((options : Options) → shown ≡ row (rules_by classes options) fragment log scale depth j)
          → Puts now shown new → length shown ≤ 81 → class ≡ get_or classes (opcode_at fragment log j) 0 → deeper ≡ depth_after (class_at class) depth
          → deeper ≤ depth + 1 → Rowing before classes fragment log scale from count new deeper (j + 1)
      rowing-more {new} {shown} class deeper b w p n o d l =
          let r : Options → Bytes = λ options. row (rules_by classes options) fragment log scale depth j in
          let g : depth_after (class_at (get_or classes (opcode_at fragment log j) 0)) depth ≡ deeper =
          sym (d ∙ ap (λ x. depth_after (class_at x) depth) o) in
          record {
            done = λ options. i.done options ++ r options;
            puts = λ options. then-puts (i.puts options) (puts_as (w options) p);
            all = λ options.
                i.all options
                ∙ ap (λ x. i.done options ++ left options depth j x) one_more_lem
                ∙ ap (λ x. i.done options ++ (r options ++ left options x (j + 1) (from + count - (j + 1)))) g
                ∙ sym (append_assoc (i.done options) (r options) (left options deeper (j + 1) (from + count - (j + 1))));
            low = omega (arith, row_low);
            near = omega (arith, i.near, n, p.counted);
            flat = omega (arith, i.flat, l);
          }

-- under their heading

module _ {a b c : Lent} {shown : Bytes} (R : Rules) (fragment : Bytes) (log : List ℕ) (peak from count : ℕ) where
  pub table-some : (scale : ℕ) → 0 < count → scale ≡ scale_of peak log from count → shown ≡ heading scale → Puts a shown b
      → Puts b (rows_from R fragment log scale 0 from count) c → Puts a (rows R fragment log peak from count) c
  unfolding rows
  table-some scale h e s w v =
      let z : count ≡ 0 → ⊥ = λ y. absurd (omega (arith, h, y)) in
      rw (ne_eqb count 0 z) (puts_as (ap (λ x. heading x ++ rows_from R fragment log x 0 from count) e) (then-puts (puts_as s w) v))

pub table-none : (a : Lent) (R : Rules) (fragment : Bytes) (log : List ℕ) (peak from count : ℕ) → count ≤ 0 → Puts a (rows R fragment log peak from count) a
unfolding rows
table-none a R fragment log peak from count h =
    let z : count ≡ 0 = omega (arith, h) in
    rw (eq-eqb count 0 z) (puts-none a)

-- a fragment's rows between its lines
pub block-put : {a b c d : Lent} {s t u shown last : Bytes} → shown ≡ s → Puts a shown b → Puts b t c → last ≡ u → Puts c last d → Puts a (s ++ t ++ u) d
block-put e p q f r = then-puts (then-puts (puts_as e p) q) (puts_as f r)

-- what the scale reaches

pub scale-some : (scale peak : ℕ) (log : List ℕ) (from count : ℕ) → scale ≡ scale_of peak log from count → 1 ≤ scale
scale-some scale peak log from count e = omega (arith, e)

pub scale-low : (scale peak : ℕ) (log : List ℕ) (from count : ℕ) → scale ≡ scale_of peak log from count → greatest log from count ≤ scale
scale-low scale peak log from count e = omega (arith, e)

pub ruleset scales = (scale-some, scale-low)

pub ruleset rowings = (rowing-none, rowing-end, rowing-more, row_within)
