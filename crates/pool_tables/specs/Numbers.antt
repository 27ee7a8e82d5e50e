-- Group numbers and blocks within their limits.
use Rattle.std.specs.Prelude.{ℕ, ◌≤◌}
use Rattle.base.specs.formats.Limits.{first_group, last_number}

-- the number of a group that an uberblock may carry
abbrev pub IsGroup : ℕ → Type 0
IsGroup group = (first_group ≤ group) × (group ≤ last_number)
