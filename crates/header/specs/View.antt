-- What this crate's types stand for in the definitions, and entries and fragments by their numbers.
use Rattle.std.specs.Prelude.{List, [], ℕ, ◌+◌, ◌*◌, Result, Ok, Err, get_or}
use Rattle.definition.specs.Basics.{Bytes}
use Rattle.definition.specs.Papers.{Fragment, field, fragments, PaperMarked, refused_paper, mark_from}
use Rattle.definition.specs.Papers as P
use Rattle.definition.specs.Refusals.{dispatch_too_large}
use Rattle.definition.specs.Stacks.{Rules}
use Rattle.header.specs.declared.Part.{Part}
use Rattle.header.specs.declared.Entry.{Entry}
use Rattle.header.specs.declared.DispatchError.{DispatchError}

-- the part and the entry that the structs stand for
abbrev pub part_of : Part → P.Part
part_of p = record { offset = p.offset; size = p.size }

abbrev pub entry_of : Entry → P.Entry
entry_of e = record { parameters = e.parameters; body = part_of e.body }

-- entry k stands at 8 + 6 * k
abbrev pub entry_at : Bytes → ℕ → P.Entry
entry_at p k = record { parameters = field p (8 + 6 * k); body = P.part_at p (8 + 6 * k + 2) }

-- what follows the dispatch check: the fragments are marked, or 20
abbrev pub dispatched : Rules → Bytes → Result (Unit {0}) DispatchError → List ℕ → PaperMarked
dispatched R paper (Ok u) log = mark_from R 0 0 0 (fragments paper) log
dispatched R paper (Err e) log = refused_paper e.entry (dispatch_too_large e.sum R.limit) log

-- fragment k of all that is marked, from 0
abbrev pub fragment_at : Bytes → ℕ → Fragment
fragment_at paper k = get_or (fragments paper) k (record { bytes = []; main = 0; alt = 0 })
