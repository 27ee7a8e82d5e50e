-- The numbers of a set in their order. The kit's `items` has each of them, and says nothing of their order.
use Rattle.std.specs.Prelude.{ℕ, List, map}
use Rattle.std.specs.Ordering.{nat_cmp}
use Rattle.std.specs.FinMap as finite
use Rattle.std.specs.FinSet as set
use Rattle.std.specs.FinSet.{FinSet}

-- numbers as the keys of a map, where nothing is stored
abbrev pub as_keys : List ℕ → List (ℕ × Unit {0})
as_keys numbers = map (λ (n : ℕ). (n, tt)) numbers

-- the numbers of a set, rising
abbrev pub rising : FinSet nat_cmp → List ℕ
rising numbers = finite.keys (finite.from_entries {R = nat_cmp} (as_keys (set.items numbers)))
