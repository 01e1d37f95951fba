-- Laws of the fragments: how many there are, the fragment of a number.
use mathlib.Core.Bool.{Bool, true, false, not}
use mathlib.Core.List.{[], ◌∷◌}
use mathlib.Core.Path.{◌≡◌, refl, ap, ◌∙◌}
use Prim.Native.Nat.{ℕ, zero, suc, ◌+◌, ◌*◌, ◌≤◌, ◌<◌}
use native.Mathlib.Omega.{arith}
use borrow.Author.Tests.{eqb-true, eqb-false, eq-eqb, ne_eqb}
use lib.Dec.{eqb}
use lib.ListN.{length, get_or, length-append, get_or-append}
use lib.Seq.{get_or-append-add}
use Rattle.std.specs.Int.{from_bool}
use Rattle.definition.specs.Basics.{Bytes}
use Rattle.definition.specs.Papers.{Fragment, field, part_at, bytes_of, entries_at, entry_count, entries, state_fields, initialiser, most_parameters, body_fragments, state_fragments, fragments}
use Rattle.header.specs.View.{fragment_at}

-- The fragment of a number

-- the body of the entry that stands at this offset
abbrev pub body_at : Bytes → ℕ → Fragment
body_at p offset = record { bytes = bytes_of p (part_at p (offset + 2)); main = field p offset + state_fields p; alt = 0 }

module _ (p : Bytes) where
  length-bodies : (offset n : ℕ) → length (body_fragments p (entries_at p offset n)) ≡ n
  length-bodies offset zero = refl
  length-bodies offset (suc n) = ap suc (length-bodies (offset + 6) n)

  body-at : (offset n k : ℕ) (d : Fragment) → k < n → get_or (body_fragments p (entries_at p offset n)) k d ≡ body_at p (offset + 6 * k)
  body-at offset zero k d h = absurd (omega arith)
  body-at offset (suc n) zero d h =
      let e : offset ≡ offset + 6 * 0 = omega arith in
      ap (body_at p) e
  body-at offset (suc n) (suc k) d h =
      let e : offset + 6 + 6 * k ≡ offset + 6 * suc k = omega arith in
      body-at (offset + 6) n k d (omega arith) ∙ ap (body_at p) e

  pub fragment-body : (k : ℕ) → k < entry_count p → fragment_at p k ≡ body_at p (8 + 6 * k)
  unfolding fragments
  fragment-body k h =
      get_or-append (body_fragments p (entries p)) (state_fragments p) _ k (omega (arith, length-bodies 8 (entry_count p), h)) ∙ body-at 8 (entry_count p) k _ h

  -- an empty initialiser; one that is not
  without : (initialiser p).size ≡ 0 → length (fragments p) ≡ entry_count p
  unfolding fragments
  without h =
      let e : length (state_fragments p) ≡ 0 = rw (eq-eqb (initialiser p).size 0 h) in
      length-append (body_fragments p (entries p)) (state_fragments p) ∙ omega (arith, e, length-bodies 8 (entry_count p))

  -- the initialiser's
  abbrev pub state : Fragment
  state = record { bytes = bytes_of p (initialiser p); main = most_parameters (entries p); alt = 1 }

  with-state : ((initialiser p).size ≡ 0 → ⊥) → state_fragments p ≡ state ∷ []
  with-state h = rw (ne_eqb (initialiser p).size 0 h)

  with-one : ((initialiser p).size ≡ 0 → ⊥) → length (fragments p) ≡ entry_count p + 1
  unfolding fragments
  with-one h = length-append (body_fragments p (entries p)) (state_fragments p) ∙ omega (arith, ap length (with-state h), length-bodies 8 (entry_count p))

  length-by : (b : Bool) → eqb (initialiser p).size 0 ≡ b → length (fragments p) ≡ entry_count p + from_bool (not b)
  length-by true e = without (eqb-true (initialiser p).size 0 e) ∙ omega arith
  length-by false e = with-one (eqb-false (initialiser p).size 0 e)

  -- how many there are
  pub length-fragments : length (fragments p) ≡ entry_count p + from_bool (not (eqb (initialiser p).size 0))
  length-fragments = length-by (eqb (initialiser p).size 0) refl

  pub entry_count-le : entry_count p ≤ length (fragments p)
  entry_count-le = omega (arith, length-fragments)

  pub length-fragments-le : length (fragments p) ≤ entry_count p + 1
  length-fragments-le = by (eqb (initialiser p).size 0) refl
    where
      by : (b : Bool) → eqb (initialiser p).size 0 ≡ b → length (fragments p) ≤ entry_count p + 1
      by true e = omega (arith, length-by true e)
      by false e = omega (arith, length-by false e)

  state-by : (b : Bool) → eqb (initialiser p).size 0 ≡ b → (k : ℕ) → entry_count p ≤ k → k < length (fragments p) → fragment_at p k ≡ state
  unfolding fragments
  state-by true q k h l = absurd (omega (arith, without (eqb-true (initialiser p).size 0 q), h, l))
  state-by false q k h l =
      let s : state_fragments p ≡ state ∷ [] = rw q in
      let a : length (fragments p) ≡ entry_count p + 1 = with-one (eqb-false (initialiser p).size 0 q) in
      let e : k ≡ length (body_fragments p (entries p)) + 0 = omega (arith, a, length-bodies 8 (entry_count p), h, l) in
      ap (λ m. fragment_at p m) e ∙ get_or-append-add (body_fragments p (entries p)) (state_fragments p) 0 _ ∙ ap (λ l. get_or l 0 (record { bytes = []; main = 0; alt = 0 })) s

  pub fragment-state : (k : ℕ) → entry_count p ≤ k → k < length (fragments p) → fragment_at p k ≡ state
  fragment-state k h l = state-by (eqb (initialiser p).size 0) refl k h l

pub ruleset counting = (length-fragments)
