-- What the private functions of this crate ensure.
use Rattle.std.specs.Prelude.{ℕ, ◌-◌, ltb}
use Rattle.definition.specs.Basics.{pick}

-- the slot of item k of all, main from bottom to top and then alt from bottom to top, whose bottom is slot 243
unfoldable pub end_slot : ℕ → ℕ → ℕ
end_slot mains k = pick (ltb k mains) k (243 - (k - mains))
