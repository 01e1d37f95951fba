-- A value and its item say the same: `item_of` and `value_of` are inverse where a value is `Held`.
use mathlib.Core.Bool.{Bool, true, false}
use mathlib.Core.Path.{◌≡◌, refl, sym, ap, ap₂, ◌∙◌}
use borrow.Author.Tests.{leb-true}
use lib.Dec.{leb}
use lib.ListN.{length}
use Rattle.definition.specs.Basics.{Bytes, pick}
use Rattle.definition.specs.Walk.{unknown, exact, known}
use Rattle.definition.specs.Replay.{AreBytes}
use Rattle.decode.specs.View.{item_of, value_of, Held}
use Rattle.decode.specs.declared.Value.{Value}
use Rattle.decode.specs.declared.Value.TheVariants.{Unknown, Exact}
use Rattle.decode.proofs.Bytes.{length-low, number-low, low-number, number-below}

pub value-of-item : (v : Value) → Held v → value_of (item_of v) ≡ v
value-of-item Unknown h = refl
value-of-item (Exact len n) h = ap₂ Exact (length-low len n) (number-low len n h.1)

pub item-of-exact : (l : Bytes) → AreBytes l → item_of (value_of (exact l)) ≡ exact l
item-of-exact l h = ap exact (low-number l h)

-- equal items of held values are equal values
pub same-value : (v w : Value) → Held v → Held w → item_of v ≡ item_of w → v ≡ w
same-value v w hv hw e = sym (value-of-item v hv) ∙ ap value_of e ∙ value-of-item w hw

module _ (l : Bytes) (h : AreBytes l) where
  -- what the marker knows of a literal, as a value, is held, and stands for what it knows
  pub held-known : Held (value_of (known l))
  held-known = by (leb (length l) 8) refl
    where
      by : (t : Bool) → leb (length l) 8 ≡ t → Held (value_of (pick t (exact l) unknown))
      by true e = (leb-true (length l) 8 e, number-below l h)
      by false e = tt

  pub item-of-known : item_of (value_of (known l)) ≡ known l
  item-of-known = by (leb (length l) 8)
    where
      by : (t : Bool) → item_of (value_of (pick t (exact l) unknown)) ≡ pick t (exact l) unknown
      by true = item-of-exact l h
      by false = refl
