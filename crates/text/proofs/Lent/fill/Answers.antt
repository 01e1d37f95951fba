use Rattle.std.proofs.Common.{rules, ◌≡◌, refl, arith}
use Rattle.text.proofs.Texts.{part-written}
use Rattle.text.proofs.Lent.fill.Goals as goal

pub returns-then-self : goal.returns-then-self
returns-then-self g c t n f =
    let e : c.write.new.arg2 ≡ t = f _ _ (search rules) (record { shown = _; shows = refl; left = _; met = c.write.ensures; leaves = refl }) in
    record {
      same = refl;
      sized = search rules;
      counted = omega (arith, c.saturating_add-self.ensures, n);
      written = λ h. part-written c.args.self.now.bytes.now c.args.self.now.size _ t _ (search rules) e;
    }
