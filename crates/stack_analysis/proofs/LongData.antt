-- Request L3 of the code: two calls of `analyze` on related fragments, from the same heights and with the same log, answer with the
-- same struct and leave the same log. Each is fixed by the clauses `same` and `logged` of its promise.
use mathlib.Core.List.{List}
use mathlib.Core.Path.{◌≡◌, sym, ap, ◌∙◌}
use Prim.Native.Nat.{ℕ}
use Rattle.definition.specs.Basics.{Bytes}
use Rattle.definition_long_data.specs.Blank.{Blanked}
use Rattle.definition.specs.Stacks.{built_in}
use Rattle.definition.specs.Walk.{Marked, analysis}
use Rattle.definition_long_data.proofs.Blanked.{long_data_tells_nothing}
use Rattle.ends.specs.View.{packed_end}
use Rattle.ends.specs.declared.EndStacks.{EndStacks}
use Rattle.stack_analysis.specs.View.{Verdict, told, told_of}
use Rattle.stack_analysis.proofs.OneForm.{told_one}

-- what `analyze` promises of its answer and of the log afterwards
pub record Analyzed (fragment : Bytes) (main alt : ℕ) (log : List ℕ) (r : Verdict EndStacks) (out : List ℕ) : Type 0 where
  pub same : told r ≡ told_of packed_end (analysis built_in fragment main alt log).verdict
  pub logged : out ≡ (analysis built_in fragment main alt log).log

pub analyze_tells_nothing : (f g : Bytes) → Blanked f g → (main alt : ℕ) (log : List ℕ) (r s : Verdict EndStacks) (r_out s_out : List ℕ)
    → Analyzed f main alt log r r_out → Analyzed g main alt log s s_out → (r ≡ s) × (r_out ≡ s_out)
analyze_tells_nothing f g h main alt log r s r_out s_out a b =
    let e : analysis built_in f main alt log ≡ analysis built_in g main alt log = long_data_tells_nothing built_in f g h main alt log in
    (told_one r s (a.same ∙ ap (λ (m : Marked). told_of packed_end m.verdict) e ∙ sym b.same), a.logged ∙ ap (λ (m : Marked). m.log) e ∙ sym b.logged)
