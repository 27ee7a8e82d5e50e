-- What the fields of the dirty bytes stand for, and which fields they have.
use Rattle.std.specs.Prelude.{ℕ, ◌≡◌, ◌+◌, ◌≤◌, List, [], ◌∷◌, length, get_or}
use Rattle.std.specs.Ordering.{nat_cmp}
use Rattle.std.specs.FinMap as finite
use Rattle.std.specs.FinMap.{FinMap}
use Rattle.base.specs.steps.Charges.{with_sum}
use Rattle.throttle.specs.DirtyBytes.{DirtyBytes}
use Rattle.throttle.specs.declared.dirty.Dirty.TheInside.{Inside}

-- the sums of groups one after another, from the first of them on
unfoldable pub sums_from : ℕ → List ℕ → FinMap nat_cmp ℕ
sums_from first [] = finite.empty
sums_from first (n ∷ ns) = with_sum first n (sums_from (first + 1) ns)

abbrev pub dirty_bytes_of : Inside → DirtyBytes
dirty_bytes_of d = record { limit = d.limit; synced = d.synced.0; sums = sums_from (d.synced.0 + 1) d.sums }

-- the sum of three numbers
abbrev pub three_total : List ℕ → ℕ
three_total ns = get_or ns 0 0 + get_or ns 1 0 + get_or ns 2 0

pub record IsWithinLimit (d : Inside) : Type 0 where
  pub three : length d.sums ≡ 3
  pub within : three_total d.sums ≤ d.limit
