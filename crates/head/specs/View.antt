-- The code left at a reading head, and what is read of code.
use Rattle.std.specs.Prelude.{List, [], ◌∷◌, ℕ, zero, suc, Some, None, Ok, Err}
use Rattle.std.proofs.Math.Option.{Option, none, some}
use Rattle.definition.specs.Decoding.{Code}
use Rattle.definition.specs.Refusals.{malformed_fragment, refused_at}
use Rattle.decode.specs.View.{Decoded, code_at, Yield, the_end, refused, yielded, rest}
use Rattle.head.specs.declared.Head.{Head}

-- "A reading head rests on a fragment": the code of the fragment from the head's offset on
abbrev pub left : Head → Code
left h = code_at h.fragment.now h.offset

-- where a head that found this at an offset stands next
abbrev pub offset_after : Decoded → ℕ → ℕ
offset_after (Ok (Some i)) offset = i.next
offset_after (Ok None) offset = offset
offset_after (Err m) offset = offset

-- what so many reads yield, one after another, where this code is left
abbrev pub yields : ℕ → Code → List Yield
yields zero code = []
yields (suc k) code = yielded code ∷ yields k (rest code)

-- "then the end or 3"
abbrev pub at_last : Option ℕ → Yield
at_last none = the_end
at_last (some offset) = refused (refused_at offset malformed_fragment)
