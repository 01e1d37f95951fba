-- What the functions of this crate promise one another.
use Rattle.std.specs.Prelude.{Option, Some, None, List, [], ◌∷◌, ℕ, ◌+◌, take}
use Rattle.std.specs.List.{flat_map}
use Rattle.decode.specs.declared.Value.{Value}
use Rattle.decode.specs.declared.Value.TheVariants.{Unknown, Exact}
use Rattle.ends.specs.declared.EndStacks.{EndStacks}
use Rattle.stack_analysis.specs.View.{Told}
use Rattle.stack_analysis.specs.declared.Heights.{Heights}

-- whether there is an end, and its heights; 0 and 0 where there is none
abbrev pub heights_numbers : Option Heights → List ℕ
heights_numbers (Some h) = 1 ∷ h.main ∷ h.alt ∷ []
heights_numbers None = 0 ∷ 0 ∷ 0 ∷ []

-- the nine numbers of a verdict in heights
abbrev pub told_numbers : Told Heights → List ℕ
told_numbers t =
    t.answer.number ∷ t.answer.offset ∷ t.answer.first ∷ t.answer.second ∷ t.rows ∷ t.peak ∷ heights_numbers t.end

-- a verdict with its end stacks, in heights
abbrev pub end_heights : Option EndStacks → Option Heights
end_heights (Some e) = Some (record { main = e.main; alt = e.alt })
end_heights None = None

abbrev pub in_heights : Told EndStacks → Told Heights
in_heights t = record { answer = t.answer; rows = t.rows; peak = t.peak; end = end_heights t.end }

-- the three numbers of an item: its length, its bytes as one number, its mark
abbrev pub value_numbers : Value → List ℕ
value_numbers Unknown = 255 ∷ 0 ∷ 0 ∷ []
value_numbers (Exact len bytes) = len ∷ bytes ∷ 0 ∷ []

-- those of all items of the struct
abbrev pub struct_numbers : EndStacks → List ℕ
struct_numbers e = flat_map value_numbers (take (e.main + e.alt) e.items)

-- those of an end, where there is one
abbrev pub ends_numbers : Option EndStacks → List ℕ
ends_numbers (Some e) = struct_numbers e
ends_numbers None = []
