use mathlib.Core.List.{append_assoc}
use Rattle.faults.proofs.fault_text.Goals as goal

pub returns-in-Short : goal.returns-in-Short
returns-in-Short c = simp (c.in-Short.is, c.new-line.ensures, c.push_word.ensures.items, c.push_number.ensures.items, append_assoc)

pub returns-in-Count : goal.returns-in-Count
returns-in-Count c = simp (c.in-Count.is, c.new-line.ensures, c.from.ensures, c.push_word-in-Count.ensures.items, c.push_labelled.ensures.items, append_assoc)

pub returns-in-Shared : goal.returns-in-Shared
returns-in-Shared c = simp (c.in-Shared.is, c.new-line.ensures, c.push_word-in-Shared-3.ensures.items, c.push_word-in-Shared-2.ensures.items, c.push_word-in-Shared.ensures.items, c.deref-in-Shared.ensures.0, c.deref-in-Shared-2.ensures.0, c.part_name-in-Shared.ensures, c.part_name-in-Shared-2.ensures, append_assoc)
