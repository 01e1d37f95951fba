-- Laws of the fragments accepted, one put behind another.
use mathlib.Core.List.{List, [], ◌∷◌, ◌++◌, map, append-nil, append_assoc}
use mathlib.Core.Path.{◌≡◌, refl, sym, ap, ◌∙◌}
use Prim.Native.Nat.{ℕ, suc, ◌+◌, ◌*◌, ◌≤◌, ◌<◌}
use native.Mathlib.Omega.{arith}
use lib.ListN.{length, drop, get_or, drop_of_length-le}
use lib.Seq.{drop-cons}
use Rattle.std.specs.Prelude.{None}
use Rattle.definition.specs.Basics.{Bytes}
use Rattle.definition.specs.Lines.{text}
use Rattle.definition_rules.specs.Maps.{Options, rules_by}
use Rattle.stack_analysis.specs.declared.Accepted.{Accepted}
use Rattle.stack_analysis.specs.declared.Heights.{Heights}
use Rattle.paper.specs.View.{told_accepted, rows_of}
use Rattle.text.specs.declared.Lent.{Lent}
use Rattle.text.specs.View.{Puts}
use Rattle.text.proofs.Puts.{puts_as, puts-none, then-puts}
use Rattle.log_blocks.specs.Blocks.{block}
use Rattle.log_text.specs.LogText.{blocks}

-- what is read past the end
abbrev pub blank : Accepted Heights
blank = record { rows = 0; peak = 0; end = None }

-- k of these are put, and the next row is row `from`; by the classes of lent rows, beside whatever options
pub record Blocking (before : Lent) (classes : List ℕ) (paper : Bytes) (log : List ℕ) (fs : List (Accepted Heights)) (now : Lent) (from k : ℕ) : Type 0 where
  pub done : Options → Bytes
  pub puts : (options : Options) → Puts before (done options) now
  pub all : (options : Options) → blocks (rules_by classes options) paper log 0 0 (map told_accepted fs)
      ≡ done options ++ blocks (rules_by classes options) paper log k from (map told_accepted (drop k fs))
  pub sum : from + rows_of (map told_accepted (drop k fs)) ≡ rows_of (map told_accepted fs)
  pub near : now.size ≤ before.size + 256 * from + 1024 * k

module _ (before : Lent) (classes : List ℕ) (paper : Bytes) (log : List ℕ) (fs : List (Accepted Heights)) where
  pub blocking-none : Blocking before classes paper log fs before 0 0
  blocking-none = record { done = λ options. []; puts = λ options. puts-none before; all = λ options. refl; sum = omega arith; near = omega arith }

  module _ (now : Lent) (from k : ℕ) (i : Blocking before classes paper log fs now from k) where
    module _ (h : length fs ≤ k) where
      none_left : drop k fs ≡ []
      none_left = drop_of_length-le fs h

      pub blocking-end : (options : Options) → Puts before (blocks (rules_by classes options) paper log 0 0 (map told_accepted fs)) now
      blocking-end options =
          puts_as
          (sym (i.all options ∙ ap (λ (l : List (Accepted Heights)). i.done options ++ blocks (rules_by classes options) paper log k from (map told_accepted l)) none_left
          ∙ append-nil (i.done options)))
          (i.puts options)

      pub blocking_rows : from ≡ rows_of (map told_accepted fs)
      blocking_rows = omega (arith, i.sum, ap (λ (l : List (Accepted Heights)). rows_of (map told_accepted l)) none_left)

    module _ (h : k < length fs) where
      abbrev this : Accepted Heights
      this = get_or fs k blank

      front : drop k fs ≡ this ∷ drop (k + 1) fs
      front =
          let e : suc k ≡ k + 1 = omega arith in
          drop-cons fs k blank h ∙ ap (λ n. this ∷ drop n fs) e

      pub rows-within : from + this.rows ≤ rows_of (map told_accepted fs)
      rows-within = omega (arith, i.sum, ap (λ (l : List (Accepted Heights)). rows_of (map told_accepted l)) front)

      pub blocking-more : {mid new : Lent} → ((options : Options) → Puts now (block (rules_by classes options) paper log k from (told_accepted this)) mid)
          → mid.size ≤ now.size + 256 * (this.rows + 3) → Puts mid (text "\n") new → Blocking before classes paper log fs new (from + this.rows) (k + 1)
      blocking-more w n v =
          let b : Options → Bytes = λ options. block (rules_by classes options) paper log k from (told_accepted this) in
          record {
            done = λ options. i.done options ++ (b options ++ text "\n");
            puts = λ options. then-puts (i.puts options) (then-puts (w options) v);
            all = λ options.
                i.all options
                ∙ ap (λ (l : List (Accepted Heights)). i.done options ++ blocks (rules_by classes options) paper log k from (map told_accepted l)) front
                ∙ sym (append_assoc (i.done options) (b options ++ text "\n") (blocks (rules_by classes options) paper log (k + 1) (from + this.rows) (map told_accepted (drop (k + 1) fs))));
            sum = omega (arith, i.sum, ap (λ (l : List (Accepted Heights)). rows_of (map told_accepted l)) front);
            near = omega (arith, i.near, n, v.counted);
          }

pub ruleset blockings = (blocking-none, blocking-end, blocking_rows, rows-within, blocking-more)
