-- A read puts its bytes after those so far.
use Rattle.std.proofs.Common.{◌≡◌, ℕ, ◌+◌, ◌≤◌, List, ◌++◌, length, take, drop, ap, sym, ◌∙◌, subst, le_refl, drop_at, length-take-le, arith}
use Rattle.std.specs.Io.KnownBytes.{Consumes}
use Rattle.std.proofs.KnownBytes.{Consumes-trans}
use Rattle.std.proofs.lemmas.List.{take-append-le}
use Rattle.std.proofs.lemmas.Slice.{take-put_mid_below}
use borrow.Rule.Slice.PartMut.{put_mid, post_of}
use lib.Seq.{take-add}
use Rattle.input.proofs.read_input.Goals as goal

take-put_mid_further : (at room n : ℕ) (xs ys : List ℕ)
    → at ≤ length xs
    → n ≤ length ys
    → take (at + n) (put_mid at room xs ys) ≡ take at xs ++ take n ys
take-put_mid_further at room n xs ys within fits =
    take-add at n (put_mid at room xs ys)
    ∙ ap (λ l. l ++ take n (drop at (put_mid at room xs ys))) (take-put_mid_below at room xs ys at (le_refl at) within)
    ∙ ap (λ l. take at xs ++ take n l) (drop_at (take at xs) (ys ++ post_of at room xs) at (length-take-le at xs within))
    ∙ ap (λ l. take at xs ++ l) (take-append-le n ys (post_of at room xs) fits)

pub loop-n-preserved : goal.loop-n-preserved
loop-n-preserved g c = record {
  within = omega (arith, c.in_ok-more.ensures.bound.0);
  bytes =
      subst (Consumes _ _)
      (sym (take-put_mid_further _ _ _ _ _ c.loop-n.invariant.within c.in_ok-more.ensures.bound.0))
      (Consumes-trans _ _ _ _ _ c.loop-n.invariant.bytes c.in_ok-more.ensures.bytes.0);
}
