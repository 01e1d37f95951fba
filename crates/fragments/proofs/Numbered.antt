-- The fragment of a number: a body, the initialiser, none.
use mathlib.Core.List.{[]}
use lib.ListN.{get_or-eq_default}
use Rattle.std.proofs.Common.{◌≡◌, sym, ap, ◌∙◌, ℕ, ◌+◌, ◌≤◌, ◌<◌, length}
use Rattle.definition.specs.Basics.{Bytes}
use Rattle.definition.specs.Papers.{Fragment, Entry, Part, bytes_of, entry_count, entries, state_fields, initialiser, most_parameters, fragments}
use Rattle.header.specs.View.{entry_at, fragment_at}
use Rattle.header.proofs.Fragments.{fragment-body, fragment-state, entry_count-le}

module _ (p : Bytes) (k n : ℕ) (count : n ≡ entry_count p) where
  -- a body
  module _ (body : k < n) where
    at-body : fragment_at p k ≡ record { bytes = bytes_of p (entry_at p k).body; main = (entry_at p k).parameters + state_fields p; alt = 0 }
    at-body = fragment-body p k (rw (← count) body)

    pub body-bytes : (e : Entry) → e ≡ entry_at p k → (bytes : Bytes) → bytes ≡ bytes_of p e.body → bytes ≡ (fragment_at p k).bytes
    body-bytes e q bytes b = b ∙ ap (λ (e : Entry). bytes_of p e.body) q ∙ sym (ap (λ (f : Fragment). f.bytes) at-body)

    pub body-main : (e : Entry) → e ≡ entry_at p k → (f : ℕ) → f ≡ state_fields p → e.parameters + f ≡ (fragment_at p k).main
    body-main e q f s = rw s (ap (λ (e : Entry). e.parameters + state_fields p) q) ∙ sym (ap (λ (f : Fragment). f.main) at-body)

    pub body-alt : 0 ≡ (fragment_at p k).alt
    body-alt = sym (ap (λ (f : Fragment). f.alt) at-body)

  module _ (past : n ≤ k) (m : ℕ) (all : m ≡ length (fragments p)) where
    -- the initialiser
    module _ (state : k < m) where
      at-state : fragment_at p k ≡ record { bytes = bytes_of p (initialiser p); main = most_parameters (entries p); alt = 1 }
      at-state = fragment-state p k (rw (← count) past) (rw (← all) state)

      pub state-bytes : (i : Part) → i ≡ initialiser p → (bytes : Bytes) → bytes ≡ bytes_of p i → bytes ≡ (fragment_at p k).bytes
      state-bytes i q bytes b = b ∙ ap (bytes_of p) q ∙ sym (ap (λ (f : Fragment). f.bytes) at-state)

      pub state-main : (most : ℕ) → most ≡ most_parameters (entries p) → most ≡ (fragment_at p k).main
      state-main most h = h ∙ sym (ap (λ (f : Fragment). f.main) at-state)

      pub state-alt : 1 ≡ (fragment_at p k).alt
      state-alt = sym (ap (λ (f : Fragment). f.alt) at-state)

    -- none
    module _ (none : m ≤ k) where
      at-none : fragment_at p k ≡ record { bytes = []; main = 0; alt = 0 }
      at-none = get_or-eq_default (fragments p) _ (rw (← all) none)

      pub none-bytes : [] ≡ (fragment_at p k).bytes
      none-bytes = sym (ap (λ (f : Fragment). f.bytes) at-none)

      pub none-main : 0 ≡ (fragment_at p k).main
      none-main = sym (ap (λ (f : Fragment). f.main) at-none)

      pub none-alt : 0 ≡ (fragment_at p k).alt
      none-alt = sym (ap (λ (f : Fragment). f.alt) at-none)

-- the fragment as a whole
module _ (p : Bytes) (k : ℕ) (bytes : Bytes) (main : ℕ) where
  pub body-is : (n : ℕ) (e : Entry) → k < n → n ≡ entry_count p → e ≡ entry_at p k → bytes ≡ bytes_of p e.body → main ≡ e.parameters + state_fields p
      → record { bytes = bytes; main = main; alt = 0 } ≡ fragment_at p k
  body-is n e h c q b m =
      rw (b, m) (ap (λ (e : Entry). record { bytes = bytes_of p e.body; main = e.parameters + state_fields p; alt = 0 }) q) ∙ sym (fragment-body p k (rw (← c) h))

  pub state-is : (n : ℕ) (i : Part) → n ≤ k → n ≡ entry_count p → k < length (fragments p) → i ≡ initialiser p → bytes ≡ bytes_of p i
      → main ≡ most_parameters (entries p) → record { bytes = bytes; main = main; alt = 1 } ≡ fragment_at p k
  state-is n i h c l q b m =
      rw (b, m) (ap (λ (i : Part). record { bytes = bytes_of p i; main = most_parameters (entries p); alt = 1 }) q) ∙ sym (fragment-state p k (rw (← c) h) l)

pub ruleset numbered = (body-is, state-is, entry_count-le)

-- a fragment past the last is empty
pub past : (p : Bytes) (k : ℕ) → length (fragments p) ≤ k → record { bytes = []; main = 0; alt = 0 } ≡ fragment_at p k
past p k h = sym (get_or-eq_default (fragments p) (record { bytes = []; main = 0; alt = 0 }) h)

pub ruleset bytes_of_kth = (body-bytes, state-bytes, none-bytes)

pub ruleset main_of_kth = (body-main, state-main, none-main)

pub ruleset alt_of_kth = (body-alt, state-alt, none-alt)

-- a fragment of these parts
pub parts : (f : Fragment) (bytes : Bytes) (main alt : ℕ) → bytes ≡ f.bytes → main ≡ f.main → alt ≡ f.alt → record { bytes = bytes; main = main; alt = alt } ≡ f
parts f bytes main alt b m a = (λ i. record { bytes = b i; main = m i; alt = a i })

pub ruleset parts_of_kth = (parts)
