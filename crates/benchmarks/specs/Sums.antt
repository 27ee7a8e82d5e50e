-- Lists of numbers, added place by place.
use Rattle.std.specs.Prelude.{ℕ, ◌≡◌, ◌+◌, List, slice_index}

-- the numbers of the third list are the sums of those of the others
abbrev pub AreSums : List ℕ → List ℕ → List ℕ → Type 0
AreSums xs ys zs = (k : ℕ) → slice_index zs k ≡ slice_index xs k + slice_index ys k
