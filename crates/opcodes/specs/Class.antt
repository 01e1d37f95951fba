-- The numbers of the classes.
use Rattle.std.specs.Prelude.{ℕ, ◌≡◌, ◌<◌, Result, MatchResult}
use Rattle.opcodes.specs.declared.Class.{Class}
use Rattle.opcodes.specs.declared.Class.TheVariants.{Unmodelled, Push, Nothing, If, NotIf, Else, EndIf, Return, ToAlt, FromAlt, Depth, Size, Nip, Tuck, Pick, Roll, Zk, Dup, TwoDup, ThreeDup, Over, TwoOver, Rot, TwoRot, Swap, TwoSwap, Effect10, Effect20, Effect01, Effect11, Effect31, Effect21}
use Rattle.opcodes.specs.declared.NoClass.{NoClass}

-- the number of a class
abbrev pub number_of : Class → ℕ
number_of Unmodelled = 0
number_of Push = 1
number_of Nothing = 2
number_of If = 3
number_of NotIf = 4
number_of Else = 5
number_of EndIf = 6
number_of Return = 7
number_of ToAlt = 8
number_of FromAlt = 9
number_of Depth = 10
number_of Size = 11
number_of Nip = 12
number_of Tuck = 13
number_of Pick = 14
number_of Roll = 15
number_of Zk = 16
number_of Dup = 17
number_of TwoDup = 18
number_of ThreeDup = 19
number_of Over = 20
number_of TwoOver = 21
number_of Rot = 22
number_of TwoRot = 23
number_of Swap = 24
number_of TwoSwap = 25
number_of Effect10 = 26
number_of Effect20 = 27
number_of Effect01 = 28
number_of Effect11 = 29
number_of Effect31 = 30
number_of Effect21 = 31

-- the class of this number, or the number again where it is above 31
abbrev pub Numbers : ℕ → Result Class NoClass → Type 0
Numbers number r = MatchResult r (λ class. number_of class ≡ number) (λ e. (e.0 ≡ number) × (31 < number))
