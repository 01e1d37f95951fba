-- Laws of the entries: the dispatch check, the most parameters.
use mathlib.Core.List.{List, [], ◌∷◌}
use mathlib.Core.Path.{◌≡◌, sym, ap, ◌∙◌}
use Prim.Native.Nat.{ℕ, suc, ◌+◌, ◌-◌, ◌*◌, ◌≤◌, ◌<◌, max}
use native.Mathlib.Omega.{arith}
use borrow.Author.Tests.{lt-ltb, le-ltb}
use Rattle.definition.specs.Basics.{Bytes}
use Rattle.definition.specs.Papers.{Entry, entries_at, entry_count, entries, state_fields, most_parameters, dispatch}
use Rattle.definition.specs.Stacks.{Rules}
use Rattle.std.specs.Prelude.{Ok, Err}
use Rattle.header.specs.View.{dispatched, entry_at}

-- the entries from k on, of n
abbrev pub entries_from : Bytes → ℕ → ℕ → List Entry
entries_from p n k = entries_at p (8 + 6 * k) (n - k)

pub entries-more : (p : Bytes) (n k : ℕ) (entry : Entry) → k < n → entry ≡ entry_at p k → entries_from p n k ≡ entry ∷ entries_from p n (k + 1)
entries-more p n k entry h q =
    let e : n - k ≡ suc (n - (k + 1)) = omega arith in
    let f : 8 + 6 * k + 6 ≡ 8 + 6 * (k + 1) = omega arith in
    ap (λ m. entries_at p (8 + 6 * k) m) e ∙ ap (λ o. entry_at p k ∷ entries_at p o (n - (k + 1))) f
    ∙ ap (λ (e : Entry). e ∷ entries_from p n (k + 1)) (sym q)

pub entries_none : (p : Bytes) (n k : ℕ) → n ≤ k → entries_from p n k ≡ []
entries_none p n k h =
    let e : n - k ≡ 0 = omega arith in
    ap (λ m. entries_at p (8 + 6 * k) m) e

entries-all : (p : Bytes) (n : ℕ) → n ≡ entry_count p → entries p ≡ entries_from p n 0
entries-all p n e =
    let f : entry_count p ≡ n - 0 = omega (arith, e) in
    ap (λ m. entries_at p 8 m) f

-- The dispatch check

-- the entries before k fit
abbrev pub Dispatching : ℕ → Bytes → ℕ → ℕ → Type 0
Dispatching limit p n k = (R : Rules) (log : List ℕ) → R.limit ≡ limit → dispatch R p 0 (entries p) log ≡ dispatch R p k (entries_from p n k) log

module _ (limit : ℕ) (p : Bytes) (n : ℕ) where
  pub dispatching-all : n ≡ entry_count p → Dispatching limit p n 0
  dispatching-all e R log m = ap (λ es. dispatch R p 0 es log) (entries-all p n e)

  module _ (k : ℕ) (i : Dispatching limit p n k) where
    pub dispatching-none : n ≤ k → (R : Rules) (log : List ℕ) → R.limit ≡ limit → dispatch R p 0 (entries p) log ≡ dispatched R p (Ok tt) log
    unfolding dispatch
    dispatching-none h R log m = i R log m ∙ ap (λ es. dispatch R p k es log) (entries_none p n k h)

    module _ (more : k < n) (entry : Entry) (f : entry ≡ entry_at p k) (sum : ℕ) (g : sum ≡ entry.parameters + state_fields p + 3) where
      pub dispatching-over : limit < sum → (R : Rules) (log : List ℕ) → R.limit ≡ limit
          → dispatch R p 0 (entries p) log ≡ dispatched R p (Err (record { entry = k; sum = sum })) log
      unfolding dispatch
      dispatching-over h R log m =
          i R log m ∙ ap (λ es. dispatch R p k es log) (entries-more p n k entry more f) ∙ rw (← g, m, lt-ltb limit sum h)

      pub dispatching-more : sum ≤ limit → Dispatching limit p n (k + 1)
      unfolding dispatch
      dispatching-more h R log m =
          let fits : sum ≤ R.limit = omega arith in
          i R log m ∙ ap (λ es. dispatch R p k es log) (entries-more p n k entry more f) ∙ rw (← g, le-ltb R.limit sum fits)

-- The most parameters

-- those of the entries before k are at most `most`
abbrev pub Greatest : Bytes → ℕ → ℕ → ℕ → Type 0
Greatest p n k most = most_parameters (entries p) ≡ max most (most_parameters (entries_from p n k))

pub greatest-all : (p : Bytes) (n : ℕ) → n ≡ entry_count p → Greatest p n 0 0
greatest-all p n e = ap most_parameters (entries-all p n e) ∙ omega arith

pub greatest-more : (p : Bytes) (n k most most' : ℕ) (e : Entry) → Greatest p n k most → k < n → e ≡ entry_at p k
    → most' ≡ max e.parameters most → Greatest p n (k + 1) most'
greatest-more p n k most most' e i more f g = i ∙ rw (entries-more p n k e more f, g) (omega arith)

pub greatest-none : (p : Bytes) (n k most : ℕ) → Greatest p n k most → n ≤ k → most ≡ most_parameters (entries p)
greatest-none p n k most i h = sym (i ∙ rw (entries_none p n k h) (omega arith))
