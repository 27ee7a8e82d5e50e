-- The sum of the counts in a payload.
use Rattle.std.proofs.Common.{◌≡◌, ℕ, ◌+◌, List, refl, add-one}
use Rattle.space_maps.specs.Nodes.{map_entry_in}
use Rattle.space_maps.specs.Opening.{count_sum}

pub count_sum-none : (payload : List ℕ) → count_sum payload 0 ≡ 0
unfolding count_sum
count_sum-none payload = refl

pub count_sum-next : (payload : List ℕ) (n : ℕ) → count_sum payload (n + 1) ≡ count_sum payload n + (map_entry_in payload n).count
unfolding count_sum
count_sum-next payload n = rw add-one refl
