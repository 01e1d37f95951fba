use Prim.Native.Nat.{◌≤◌}
use lib.ListN.{length}
use native.Mathlib.Omega.{arith}
use mathlib.Core.Path.{◌∙◌, ap}
use Rattle.definition_listings.specs.OpcodeNames.{name_of}
use Rattle.names.proofs.Tables.{between, name-between}
use Rattle.names.proofs.Names.name.Goals as goal
use Rattle.names.proofs.Names.name.Goals.{After-from-to}

-- the letters of the name
lies : (c : After-from-to) → (c.from-from.result ≤ c.from-to.result) × (c.from-to.result ≤ length c.args.self.now.letters.now)
lies c = between c.args.self.now.letters.now c.args.self.now.starts.now c.from-code.result _ _ c.args.self.now.letters_right c.args.self.now.starts_right (omega arith) c.from-from.ensures c.from-to.ensures

pub slice_bounds-result-count : goal.slice_bounds-result-count
slice_bounds-result-count c = (lies (goal.at.slice_bounds-result-count c).After-from-to).0

pub slice_bounds-result-start : goal.slice_bounds-result-start
slice_bounds-result-start c = (lies (goal.at.slice_bounds-result-start c).After-from-to).0

pub slice_bounds-result-end : goal.slice_bounds-result-end
slice_bounds-result-end c = omega (arith, (lies (goal.at.slice_bounds-result-end c).After-from-to).1)

pub returns : goal.returns
returns c = name-between c.args.self.now.letters.now c.args.self.now.starts.now c.from-code.result _ _ c.args.self.now.letters_right c.args.self.now.starts_right (omega arith) c.from-from.ensures c.from-to.ensures ∙ ap name_of c.from-code.ensures
