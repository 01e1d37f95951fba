-- Pushes of values, by their codes and with their bytes.
use mathlib.Core.Path.{◌≡◌}
use Prim.Native.Nat.{ℕ, ◌^◌, ◌≤◌, ◌<◌}
use Rattle.definition.specs.Stacks as S
use Rattle.definition.specs.Stacks.{push_item}
use Rattle.definition.specs.Walk.{Item}
use Rattle.decode.specs.View.{item_of, Held}
use Rattle.decode.specs.declared.Value.{Value}
use Rattle.decode.specs.declared.Value.TheVariants.{Exact}
use Rattle.slots.specs.View.{slot_item, code_of, Canon}
use Rattle.slots.proofs.Codes.{code-slot}

module _ (v : Value) (h : Held v) (len n : ℕ) (e : v ≡ Exact len n) where
  pub exact-slot : (code : ℕ) → code ≡ code_of len n → Canon code n × (slot_item code n ≡ item_of v)
  exact-slot code g = rw (e, g) (code-slot len n (rw e at h))

  pub exact-held : (code : ℕ) → code ≡ code_of len n → 1 ≤ code → code ≤ 8 → n < 256 ^ code
  exact-held code g = (exact-slot code g).0.held

  pub exact-large : (code : ℕ) → code ≡ code_of len n → code ≡ 1 → 246 ≤ n
  exact-large code g = (exact-slot code g).0.large

  pub push-exact : (code : ℕ) → code ≡ code_of len n → (limit : ℕ) (t : S.Stacks Item) → push_item limit (item_of v) t ≡ push_item limit (slot_item code n) t
  push-exact code g limit t = rw (exact-slot code g).1

-- for `try_push`
pub ruleset pushes = (exact-held, exact-large, push-exact)
