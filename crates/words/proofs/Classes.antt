-- A class by its number.
use mathlib.Core.List.{List, [], ◌∷◌}
use mathlib.Core.Path.{◌≡◌, refl, sym, ap, ◌∙◌}
use lib.ListN.{get_or}
use Rattle.opcodes.specs.Class.{number_of}
use Rattle.opcodes.specs.declared.Class.{Class}
use Rattle.opcodes.specs.declared.Class.TheVariants.{Unmodelled, Push, Nothing, If, NotIf, Else, EndIf, Return, ToAlt, FromAlt, Depth, Size, Nip, Tuck, Pick, Roll, Zk, Dup, TwoDup, ThreeDup, Over, TwoOver, Rot, TwoRot, Swap, TwoSwap, Effect10, Effect20, Effect01, Effect11, Effect31, Effect21}

-- the classes in the order of their numbers
abbrev pub by_number : List Class
by_number = Unmodelled ∷ Push ∷ Nothing ∷ If ∷ NotIf ∷ Else ∷ EndIf ∷ Return ∷ ToAlt ∷ FromAlt ∷ Depth ∷ Size ∷ Nip ∷ Tuck ∷ Pick ∷ Roll ∷ Zk ∷ Dup ∷ TwoDup ∷ ThreeDup ∷ Over ∷ TwoOver ∷ Rot ∷ TwoRot ∷ Swap ∷ TwoSwap ∷ Effect10 ∷ Effect20 ∷ Effect01 ∷ Effect11 ∷ Effect31 ∷ Effect21 ∷ []

numbered : (class : Class) → get_or by_number (number_of class) Unmodelled ≡ class
numbered Unmodelled = refl
numbered Push = refl
numbered Nothing = refl
numbered If = refl
numbered NotIf = refl
numbered Else = refl
numbered EndIf = refl
numbered Return = refl
numbered ToAlt = refl
numbered FromAlt = refl
numbered Depth = refl
numbered Size = refl
numbered Nip = refl
numbered Tuck = refl
numbered Pick = refl
numbered Roll = refl
numbered Zk = refl
numbered Dup = refl
numbered TwoDup = refl
numbered ThreeDup = refl
numbered Over = refl
numbered TwoOver = refl
numbered Rot = refl
numbered TwoRot = refl
numbered Swap = refl
numbered TwoSwap = refl
numbered Effect10 = refl
numbered Effect20 = refl
numbered Effect01 = refl
numbered Effect11 = refl
numbered Effect31 = refl
numbered Effect21 = refl

-- two classes of one number are the same
pub class-by_number : (c d : Class) → number_of c ≡ number_of d → c ≡ d
class-by_number c d e = sym (numbered c) ∙ ap (λ n. get_or by_number n Unmodelled) e ∙ numbered d
