-- A number read from its last byte down: the bytes that are left, and what those behind them made.
use Rattle.std.proofs.Common.{◌≡◌, ◌∙◌, sym, ap, ℕ, ◌+◌, ◌*◌, ◌^◌, ◌≤◌, ◌<◌, [], ◌∷◌, ◌++◌, length, arith}
use native.Mathlib.Nat.{pow-le-pow_right}
use lib.Dec.{lit<}
use Rattle.definition.specs.Basics.{Bytes}
use Rattle.definition.specs.Decoding.{number}
use Rattle.definition.specs.Replay.{AreBytes}
use Rattle.decode.proofs.Bytes.{number-below}

-- the number of these bytes, with a number above them
abbrev pub below : Bytes → ℕ → ℕ
below [] v = v
below (b ∷ l) v = b + 256 * below l v

pub below-none : (l : Bytes) → below l 0 ≡ number l
below-none [] = omega arith
below-none (b ∷ l) = ap (λ n. b + 256 * n) (below-none l)

pub below-push : (l : Bytes) (b v : ℕ) → below (l ++ b ∷ []) v ≡ below l (b + v * 256)
below-push [] b v = omega arith
below-push (a ∷ l) b v = ap (λ n. a + 256 * n) (below-push l b v)

at_least : (l : Bytes) (b v : ℕ) → b + 256 * v ≤ below (l ++ b ∷ []) v
at_least [] b v = omega arith
at_least (a ∷ l) b v = omega (arith, at_least l b v)

-- One turn of the loop: of the bytes that are left, the last goes over into the number.
module _ (s rest l : Bytes) (b v : ℕ) (one : rest ≡ l ++ b ∷ []) (is : below rest v ≡ number s) where
  pub turn : below l (b + v * 256) ≡ number s
  turn = sym (below-push l b v) ∙ ap (λ l. below l v) (sym one) ∙ is

  pub turn-fits : AreBytes s → length s ≤ 8 → b + v * 256 < 2 ^ 64
  turn-fits h n =
      let p : 256 ^ length s ≤ 256 ^ 8 = pow-le-pow_right (lit< tt) n in
      let e : below (l ++ b ∷ []) v ≡ number s = ap (λ l. below l v) (sym one) ∙ is in
      omega (arith, e, at_least l b v, number-below s h, p)
