-- Which flags of a list are set.
use Rattle.std.specs.Prelude.{ℕ, zero, suc, ◌≡◌, ◌≤◌, ◌<◌, ◌+◌, Bool, true, false, cond, List, get_or}

-- no flag of a range of indices is set
abbrev pub AreClear : ℕ → ℕ → List Bool → Type 0
AreClear first last flags = (k : ℕ) → first ≤ k → k < last → get_or flags k false ≡ false

-- the first set flag of a range of indices
pub record IsFirstSet (first last : ℕ) (flags : List Bool) (k : ℕ) : Type 0 where
  pub from : first ≤ k
  pub within : k < last
  pub is_set : get_or flags k false ≡ true
  pub lowest : AreClear first k flags

-- how many of so many flags from an index on are set
unfoldable pub set_count : ℕ → ℕ → List Bool → ℕ
set_count first zero flags = 0
set_count first (suc n) flags = cond (get_or flags first false) 1 0 + set_count (first + 1) n flags
