-- A code with a name is modelled, and the word of one that is not.
use mathlib.Core.Bool.{Bool, true, false, ◌||◌, not}
use mathlib.Core.List.{[], ◌∷◌, ◌++◌}
use mathlib.Core.Path.{◌≡◌, refl, sym, ap, ◌∙◌}
use Prim.Native.Nat.{ℕ, ◌/◌, ◌%◌, ◌<◌}
use native.Mathlib.Omega.{arith}
use lib.Dec.{T, eqb, eqb→eq}
use lib.ListN.{length}
use Rattle.definition.specs.Basics.{Bytes, pick}
use Rattle.definition.specs.Classes.{class_number}
use Rattle.definition.specs.Lines.{text}
use Rattle.definition_listings.specs.Hex.{hex_digit, hex_byte}
use Rattle.definition_listings.specs.Listing.{code_word}
use Rattle.definition_listings.specs.OpcodeNames.{name_table, name_of}
use Rattle.names.proofs.Tables.{holds}
use Rattle.opcodes.proofs.Every.{every, at}

abbrev modelled : ℕ → Bool
modelled code = eqb (length (name_of code)) 0 || not (eqb (class_number code) 0)

all-modelled : T (every modelled 256 0)
unfolding name_of name_table class_number
all-modelled = tt

pub named : (code : ℕ) (name : Bytes) → code < 256 → name ≡ name_of code → (length name ≡ 0 → ⊥) → false ≡ eqb (class_number code) 0
named code name h e n = by (eqb (class_number code) 0) (eqb (length (name_of code)) 0) refl (at modelled 256 0 code all-modelled (omega arith) (omega arith))
  where
    by : (c z : Bool) → eqb (length (name_of code)) 0 ≡ z → T (z || not c) → false ≡ c
    by true true q t = absurd (n (ap length e ∙ eqb→eq (length (name_of code)) 0 (holds (eqb (length (name_of code)) 0) q)))
    by true false q t = absurd t
    by false z q t = refl

pub unmodelled-word : (code high low : ℕ) → code < 256 → eqb (class_number code) 0 ≡ true → high ≡ hex_digit (code / 16) → low ≡ hex_digit (code % 16)
    → 48 ∷ 120 ∷ high ∷ low ∷ [] ≡ code_word code
unmodelled-word code high low h e p q =
    let m : code / 16 ≡ code / 16 % 16 = omega arith in
    ap (λ n. 48 ∷ 120 ∷ n ∷ low ∷ []) (p ∙ ap hex_digit m) ∙ ap (λ n. 48 ∷ 120 ∷ hex_digit (code / 16 % 16) ∷ n ∷ []) q
    ∙ sym (ap (λ b. pick b (text "0x" ++ hex_byte code) (name_of code)) e)
