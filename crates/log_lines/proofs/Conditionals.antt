-- Laws of the arms of a conditional: the row where the other arm ends, and its heights.
use mathlib.Core.Bool.{Bool, true, false, ◌&&◌, ◌||◌}
use mathlib.Core.List.{List}
use mathlib.Core.Path.{◌≡◌, refl, sym, ap, ◌∙◌}
use Prim.Native.Nat.{ℕ, suc, ◌+◌, ◌-◌, ◌≤◌, ◌<◌}
use native.Mathlib.Omega.{arith}
use borrow.Author.Tests.{eq-eqb, ne_eqb}
use lib.Dec.{eqb}
use lib.ListN.{get_or}
use Rattle.definition.specs.Basics.{Bytes, pick}
use Rattle.definition.specs.Classes.{class_at}
use Rattle.definition_rules.specs.Maps.{Options, rules_by}
use Rattle.log_rows.specs.Rows.{opcode_at, is_if, is_else, is_endif}
use Rattle.opcodes.specs.Class.{number_of}
use Rattle.opcodes.specs.declared.Class.{Class}
use Rattle.opcodes.specs.declared.Class.TheVariants.{Unmodelled, Push, Nothing, If, NotIf, Else, EndIf, Return, ToAlt, FromAlt, Depth, Size, Nip, Tuck, Pick, Roll, Zk, Dup, TwoDup, ThreeDup, Over, TwoOver, Rot, TwoRot, Swap, TwoSwap, Effect10, Effect20, Effect01, Effect11, Effect31, Effect21}
use Rattle.log_lines.specs.Log.{opener}

-- a class that is none of IF, NOTIF, ELSE and ENDIF
pub record Plain (class : Class) : Type 0 where
  pub endif : is_endif (class_at (number_of class)) ≡ false
  pub if : is_if (class_at (number_of class)) ≡ false
  pub else : is_else (class_at (number_of class)) ≡ false

plain-class : (class : Class) → (class ≡ EndIf → ⊥) → (class ≡ If → ⊥) → (class ≡ NotIf → ⊥) → (class ≡ Else → ⊥) → Plain class
plain-class Unmodelled p q r s = record { endif = refl; if = refl; else = refl }
plain-class Push p q r s = record { endif = refl; if = refl; else = refl }
plain-class Nothing p q r s = record { endif = refl; if = refl; else = refl }
plain-class If p q r s = absurd (q refl)
plain-class NotIf p q r s = absurd (r refl)
plain-class Else p q r s = absurd (s refl)
plain-class EndIf p q r s = absurd (p refl)
plain-class Return p q r s = record { endif = refl; if = refl; else = refl }
plain-class ToAlt p q r s = record { endif = refl; if = refl; else = refl }
plain-class FromAlt p q r s = record { endif = refl; if = refl; else = refl }
plain-class Depth p q r s = record { endif = refl; if = refl; else = refl }
plain-class Size p q r s = record { endif = refl; if = refl; else = refl }
plain-class Nip p q r s = record { endif = refl; if = refl; else = refl }
plain-class Tuck p q r s = record { endif = refl; if = refl; else = refl }
plain-class Pick p q r s = record { endif = refl; if = refl; else = refl }
plain-class Roll p q r s = record { endif = refl; if = refl; else = refl }
plain-class Zk p q r s = record { endif = refl; if = refl; else = refl }
plain-class Dup p q r s = record { endif = refl; if = refl; else = refl }
plain-class TwoDup p q r s = record { endif = refl; if = refl; else = refl }
plain-class ThreeDup p q r s = record { endif = refl; if = refl; else = refl }
plain-class Over p q r s = record { endif = refl; if = refl; else = refl }
plain-class TwoOver p q r s = record { endif = refl; if = refl; else = refl }
plain-class Rot p q r s = record { endif = refl; if = refl; else = refl }
plain-class TwoRot p q r s = record { endif = refl; if = refl; else = refl }
plain-class Swap p q r s = record { endif = refl; if = refl; else = refl }
plain-class TwoSwap p q r s = record { endif = refl; if = refl; else = refl }
plain-class Effect10 p q r s = record { endif = refl; if = refl; else = refl }
plain-class Effect20 p q r s = record { endif = refl; if = refl; else = refl }
plain-class Effect01 p q r s = record { endif = refl; if = refl; else = refl }
plain-class Effect11 p q r s = record { endif = refl; if = refl; else = refl }
plain-class Effect31 p q r s = record { endif = refl; if = refl; else = refl }
plain-class Effect21 p q r s = record { endif = refl; if = refl; else = refl }

-- n rows are left, and `inner` conditionals are to be opened first; by the classes of lent rows, beside whatever options
module _ (classes : List ℕ) (fragment : Bytes) (log : List ℕ) (from count : ℕ) where
  abbrev left : Options → ℕ → ℕ → ℕ
  left options n inner = opener (rules_by classes options) fragment log from n inner

  abbrev pub Opening : ℕ → ℕ → Type 0
  Opening n inner = (options : Options) → left options count 0 ≡ left options n inner

  abbrev pub Opens : ℕ → Type 0
  Opens row = (options : Options) → row ≡ left options count 0

  pub opening-none : Opening count 0
  opening-none options = refl

  module _ (n inner : ℕ) (i : Opening n inner) where
    pub opening-end : n ≤ 0 → Opens from
    unfolding opener
    opening-end h options =
        let e : n ≡ 0 = omega arith in
        sym (i options ∙ ap (λ m. left options m inner) e)

    -- what follows by the tests: ENDIF, IF or NOTIF, ELSE, and that none is to be opened first
    abbrev onward : Options → Bool → Bool → Bool → Bool → ℕ
    onward options endif if else last =
        pick endif (left options (n - 1) (inner + 1))
        (pick (last && (if || else)) (from + (n - 1)) (left options (n - 1) (pick if (inner - 1) inner)))

    module _ (h : 0 < n) (class : Class) (o : number_of class ≡ get_or classes (opcode_at fragment log (from + (n - 1))) 0) where
      goes : (a b c d : Bool) → is_endif (class_at (number_of class)) ≡ a → is_if (class_at (number_of class)) ≡ b → is_else (class_at (number_of class)) ≡ c → eqb inner 0 ≡ d
          → (options : Options) → left options count 0 ≡ onward options a b c d
      unfolding opener
      goes a b c d p q r t options =
          let e : n ≡ suc (n - 1) = omega arith in
          i options ∙ ap (λ m. left options m inner) e
          ∙ ap (λ x. onward options (is_endif (class_at x)) (is_if (class_at x)) (is_else (class_at x)) (eqb inner 0)) (sym o)
          ∙ ap (λ x. onward options x (is_if (class_at (number_of class))) (is_else (class_at (number_of class))) (eqb inner 0)) p
          ∙ ap (λ x. onward options a x (is_else (class_at (number_of class))) (eqb inner 0)) q
          ∙ ap (λ x. onward options a b x (eqb inner 0)) r
          ∙ ap (λ x. onward options a b c x) t

      -- by a class
      as_class : (d : Class) → class ≡ d → (x : Bool) → eqb inner 0 ≡ x
          → (options : Options) → left options count 0 ≡ onward options (is_endif (class_at (number_of d))) (is_if (class_at (number_of d))) (is_else (class_at (number_of d))) x
      as_class d e x t = goes _ _ _ x (ap (λ (c : Class). is_endif (class_at (number_of c))) e) (ap (λ (c : Class). is_if (class_at (number_of c))) e) (ap (λ (c : Class). is_else (class_at (number_of c))) e) t

      pub opening-endif : class ≡ EndIf → Opening (n - 1) (inner + 1)
      opening-endif e = as_class EndIf e (eqb inner 0) refl

      pub found-if : class ≡ If → inner ≡ 0 → Opens (from + (n - 1))
      found-if e z options = sym (as_class If e true (eq-eqb inner 0 z) options)

      pub found-notif : class ≡ NotIf → inner ≡ 0 → Opens (from + (n - 1))
      found-notif e z options = sym (as_class NotIf e true (eq-eqb inner 0 z) options)

      pub found-else : class ≡ Else → inner ≡ 0 → Opens (from + (n - 1))
      found-else e z options = sym (as_class Else e true (eq-eqb inner 0 z) options)

      pub opening-if : class ≡ If → (inner ≡ 0 → ⊥) → Opening (n - 1) (inner - 1)
      opening-if e z = as_class If e false (ne_eqb inner 0 z)

      pub opening-notif : class ≡ NotIf → (inner ≡ 0 → ⊥) → Opening (n - 1) (inner - 1)
      opening-notif e z = as_class NotIf e false (ne_eqb inner 0 z)

      pub opening-else : class ≡ Else → (inner ≡ 0 → ⊥) → Opening (n - 1) inner
      opening-else e z = as_class Else e false (ne_eqb inner 0 z)

      pub opening-plain : (class ≡ EndIf → ⊥) → (class ≡ If → ⊥) → (class ≡ NotIf → ⊥) → (class ≡ Else → ⊥) → Opening (n - 1) inner
      opening-plain p q r s = by (eqb inner 0) refl
        where
          plain : Plain class
          plain = plain-class class p q r s

          by : (b : Bool) → eqb inner 0 ≡ b → Opening (n - 1) inner
          by true z = goes false false false true plain.endif plain.if plain.else z
          by false z = goes false false false false plain.endif plain.if plain.else z

-- where the conditional opens, whichever test decides
pub ruleset opening = (opening-none, opening-end, opening-endif, found-if, found-notif, found-else, opening-if, opening-notif, opening-else, opening-plain)
