-- What a text put into lent bytes is: counted, and written where there is room.
use Rattle.std.specs.Prelude.{◌++◌, ◌≡◌, ℕ, ◌+◌, ◌-◌, ◌^◌, ◌≤◌, min, length, take, drop}
use Rattle.definition.specs.Basics.{Bytes}
use Rattle.text.specs.declared.Lent.{Lent}

-- the lent bytes with a text in place of those from `at` on
abbrev pub placed : Bytes → ℕ → Bytes → Bytes
placed lent at t = take at lent ++ t ++ drop (at + length t) lent

-- the text is written into the lent bytes from `at` on, the rest is as lent, and `next` is the index after it
pub record Written (lent : Bytes) (at : ℕ) (t : Bytes) (new : Bytes) (next : ℕ) : Type 0 where
  pub ends : next ≡ at + length t
  pub holds : new ≡ placed lent at t

-- `t` is put behind the text of `old`: the same bytes are lent, as many as before; the text is longer by `t`, up to the greatest size;
-- and where the lent bytes reach so far, `t` is written behind the text
pub record Puts (old : Lent) (t : Bytes) (new : Lent) : Type 0 where
  pub same : new.bytes.ghost_name ≡ old.bytes.ghost_name
  pub sized : length new.bytes.now ≡ length old.bytes.now
  pub counted : new.size ≡ min (old.size + length t) (2 ^ 64 - 1)
  pub written : old.size + length t ≤ length old.bytes.now → Written old.bytes.now old.size t new.bytes.now new.size
