use mathlib.Core.Path.{ap, ◌∙◌}
use native.Mathlib.Omega.{arith}
use Prim.Native.Nat.{◌+◌}
use lib.ListN.{length-take}
use Rattle.std.proofs.lemmas.List.{get_or-take}
use Rattle.places.specs.Parts.{value_numbers}
use Rattle.places.proofs.Items.{listing-more}
use Rattle.places.proofs.write_items.Goals as goal

pub loop-k-preserved : goal.loop-k-preserved
loop-k-preserved c = let e = c.args.e.now in
    let shorter = length-take (e.main + e.alt) e.items in
    listing-more _ _ _ _ _ _ c.loop-k.invariant (omega (arith, c.loop-k-test.true, shorter))
    (c.copy_from_slice.ensures.after ∙ c.item_numbers.ensures ∙ ap value_numbers (get_or-take (e.main + e.alt) e.items c.loop-k.k _ (omega (arith, c.loop-k-test.true, shorter))))
    (omega (arith, c.loop-k.auto.items, c.loop-k-test.true, shorter)) (omega arith)
