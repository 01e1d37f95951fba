-- The parts of a line by what is told of a verdict.
use Rattle.std.specs.Prelude.{Option, Some, None, ◌++◌, ℕ}
use Rattle.definition.specs.Basics.{Bytes}
use Rattle.definition.specs.Lines.{text, labelled, name}
use Rattle.stack_analysis.specs.declared.Heights.{Heights}

-- how a fragment ends: with these heights, or with none
abbrev pub end_text : Option Heights → Bytes
end_text (Some h) = labelled " end " h.main ++ labelled " " h.alt
end_text None = text " end none"

-- the line of an accepted fragment, by its peak and its end
abbrev pub told_line : ℕ → ℕ → ℕ → Option Heights → Bytes
told_line entries k peak end = name entries k ++ labelled " peak " peak ++ end_text end ++ text "\n"
