-- The second pass of the assembler, and its answers.
use mathlib.Core.Bool.{Bool, true, false}
use mathlib.Core.List.{[], ◌∷◌, ◌++◌}
use mathlib.Core.Option.{Option, none, some}
use mathlib.Core.Path.{◌≡◌, refl, sym, ap, ◌∙◌}
use Prim.Native.Nat.{ℕ, ◌+◌, ◌≤◌, ◌<◌}
use native.Mathlib.Omega.{arith}
use borrow.Author.Tests.{lt-leb, le-leb}
use lib.ListN.{length, drop}
use Rattle.definition.specs.Basics.{Bytes}
use Rattle.definition_listings.specs.Assembling.{word_read, Assembly, gives, strange, on_assembly, assembled}
use Rattle.definition_listings.specs.Listing.{unwritten, put}
use Rattle.definition_listings.specs.Shortest.{in_form}
use Rattle.definition.specs.Refusals.{refused_at, output_short}
use Rattle.text.specs.View.{Puts}
use Rattle.text.specs.declared.Lent.{Lent}
use Rattle.text.proofs.Puts.{puts_as, puts-none, then-puts}
use Rattle.std.specs.Prelude.{Result, Ok, Err, MatchBool}
use Rattle.std.specs.List.{IsFirstMatchOrLen}
use Rattle.refusals.specs.declared.Refused.{Refused}
use Rattle.refusals.specs.declared.Refusal.TheVariants.{StrangeWord}
use Rattle.words.specs.View.{bytes_of}
use Rattle.assembling.specs.View.{converted_of, judged_of, given_by, assembly_of, Good}
use Rattle.names.proofs.Tables.{never}
use Rattle.assembling.proofs.Judging.{Read, space, read_none, read-all, read-strange, read_more}

-- the bytes of the words before an offset are put
pub record WordsTo (a : Lent) (l : Bytes) (ended : Bool) (rest : Bytes) (b : Lent) : Type 0 where
  pub offset : ℕ
  pub bytes : Bytes
  pub read : Read l ended rest offset bytes
  pub puts : Puts a bytes b

pub words-empty : (a : Lent) (l : Bytes) → length l ≡ 0 → Puts a (given_by (assembly_of l)) a
words-empty a [] e = puts-none a
words-empty a (c ∷ l) e = absurd (omega arith)

pub words-start : (a : Lent) (l : Bytes) (ended : Bool) (rest : Bytes) → (length l ≡ 0 → ⊥) → ended ≡ false → rest ≡ l → WordsTo a l ended rest a
words-start a l ended rest n e r = record { offset = 0; bytes = []; read = read_none l ended rest n e r; puts = puts-none a }

pub words-end : (a : Lent) (l : Bytes) (ended : Bool) (rest : Bytes) (b : Lent) → WordsTo a l ended rest b → ended ≡ true → Puts a (given_by (assembly_of l)) b
words-end a l ended rest b to e = puts_as (sym (ap given_by (read-all l ended rest to.offset to.bytes to.read e))) to.puts

module _ (a : Lent) (l : Bytes) (ended : Bool) (rest : Bytes) (b : Lent) (to : WordsTo a l ended rest b) (good : Good l) (going : ended ≡ false)
    (w more : Bytes) (last : Bool) (cut : MatchBool last (rest ≡ w) ((y : ℕ) × (rest ≡ w ++ (y ∷ more)))) (first : IsFirstMatchOrLen space rest (length w)) where
  pub word_good : word_read w ≡ some (bytes_of w)
  word_good = by (word_read w) refl
    where
      by : (r : Option Bytes) → word_read w ≡ r → word_read w ≡ some (bytes_of w)
      by none e = never (cc (read-strange l ended rest to.offset to.bytes to.read going w more last cut first e, good))
      by (some b) e = e ∙ ap some (sym (ap in_form e))

  pub words_more : (d : Lent) → Puts b (bytes_of w) d → WordsTo a l last more d
  words_more d p = record {
    offset = to.offset + (length w + 1);
    bytes = to.bytes ++ bytes_of w;
    read = read_more l ended rest to.offset to.bytes to.read going w more last cut first (bytes_of w) word_good;
    puts = then-puts to.puts p;
  }

-- The answers

module _ (l out : Bytes) (j : Result ℕ Refused) (is : j ≡ judged_of (assembly_of l)) where
  -- a strange word
  pub assembled-strange : (refused : Refused) → j ≡ Err refused → converted_of (Err refused) out ≡ assembled l out
  unfolding assembled
  assembled-strange refused e = by (assembly_of l) (sym is ∙ e)
    where
      by : (a : Assembly) → judged_of a ≡ Err refused → converted_of (Err refused) out ≡ on_assembly a out
      by (gives b) f = never (cc)
      by (strange o) f =
          let i : record { offset = o; refusal = StrangeWord } ≡ refused = cc in
          ap (λ (r : Refused). converted_of (Err r) out) (sym i)

  module _ (size : ℕ) (e : j ≡ Ok size) where
    pub gives-good : Good l
    gives-good = by (assembly_of l) (sym is ∙ e)
      where
        by : (a : Assembly) → judged_of a ≡ Ok size → a ≡ gives (given_by a)
        by (gives b) e = refl
        by (strange o) e = never (cc)

    gives_size : length (given_by (assembly_of l)) ≡ size
    gives_size = by (assembly_of l) (sym is ∙ e)
      where
        by : (a : Assembly) → judged_of a ≡ Ok size → length (given_by a) ≡ size
        by (gives b) e = cc
        by (strange o) e = never (cc)

    by_size : assembled l out ≡ put (given_by (assembly_of l)) out
    unfolding assembled
    by_size = ap (λ (a : Assembly). on_assembly a out) gives-good

    pub assembled-short : length out < size → unwritten (refused_at 0 output_short) out ≡ assembled l out
    assembled-short h = sym (by_size ∙ rw (lt-leb (length (given_by (assembly_of l))) (length out) (omega (arith, gives_size))))

    pub assembled-done : (new : Bytes) → size ≤ length out → (length (given_by (assembly_of l)) ≤ length out
        → new ≡ given_by (assembly_of l) ++ drop (length (given_by (assembly_of l))) out)
        → converted_of (Ok size) new ≡ assembled l out
    assembled-done new h w =
        let g = given_by (assembly_of l) in
        let r : length g ≤ length out = omega (arith, gives_size) in
        sym (by_size
        ∙ rw (le-leb (length g) (length out) r)
        (ap (λ n. converted_of (Ok n) (g ++ drop (length g) out)) gives_size
        ∙ ap (λ (x : Bytes). converted_of (Ok size) x) (sym (w r))))
