-- Byte strings and their numbers: `number` and `low_bytes`, where every byte is below 256.
use mathlib.Core.Path.{◌≡◌, refl, ap, ap₂}
use mathlib.Core.List.{[], ◌∷◌}
use Prim.Native.Nat.{ℕ, zero, suc, ◌+◌, ◌*◌, ◌/◌, ◌%◌, ◌^◌, ◌<◌}
use native.Mathlib.Nat.{pow-succ'}
use native.Mathlib.Omega.{arith}
use lib.ListN.{length, take, drop, get_or}
use mir.Syntax.{w8}
use mir.Val.{Fits}
use Rattle.definition.specs.Basics.{Bytes}
use Rattle.definition.specs.Decoding.{number}
use Rattle.definition.specs.Replay.{AreBytes}
use Rattle.decode.specs.View.{low_bytes}

-- What a slice of u8 tells of its elements: `slice-bytes _ c.shared-slice-known.given`.
pub slice-bytes : (s : Bytes) → ((i : ℕ) → Fits w8 (get_or s i 0)) → AreBytes s
slice-bytes [] h = tt
slice-bytes (b ∷ s) h = ((h 0).fits, slice-bytes s (λ i. h (suc i)))

pub bytes_take : (n : ℕ) (s : Bytes) → AreBytes s → AreBytes (take n s)
bytes_take zero s h = tt
bytes_take (suc n) [] h = tt
bytes_take (suc n) (b ∷ s) h = (h.0, bytes_take n s h.1)

pub bytes_drop : (n : ℕ) (s : Bytes) → AreBytes s → AreBytes (drop n s)
bytes_drop zero s h = h
bytes_drop (suc n) [] h = tt
bytes_drop (suc n) (b ∷ s) h = bytes_drop n s h.1

pub bytes_low : (len n : ℕ) → AreBytes (low_bytes len n)
bytes_low zero n = tt
bytes_low (suc len) n = (omega arith, bytes_low len (n / 256))

pub length-low : (len n : ℕ) → length (low_bytes len n) ≡ len
length-low zero n = refl
length-low (suc len) n = ap suc (length-low len (n / 256))

pub number-below : (l : Bytes) → AreBytes l → number l < 256 ^ length l
number-below [] h = omega arith
number-below (b ∷ l) h = rw pow-succ' (omega (arith, number-below l h.1))

-- the bytes of a number of so many bytes, and back
pub number-low : (len n : ℕ) → n < 256 ^ len → number (low_bytes len n) ≡ n
number-low zero n h = omega arith
number-low (suc len) n h =
    let g : n < 256 * 256 ^ len = rw pow-succ' at h in
    rw (number-low len (n / 256) (omega arith)) (omega arith)

pub low-number : (l : Bytes) → AreBytes l → low_bytes (length l) (number l) ≡ l
low-number [] h = refl
low-number (b ∷ l) h =
    let m : (b + 256 * number l) % 256 ≡ b = omega arith in
    let d : (b + 256 * number l) / 256 ≡ number l = omega arith in
    ap₂ (λ (x : ℕ) (y : Bytes). x ∷ y) m (rw d (low-number l h.1))
