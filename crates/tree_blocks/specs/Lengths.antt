-- The length of each object among entries.
use Rattle.std.specs.Prelude.{ℕ, ◌≡◌, List, length, Option, None, option_map, slice_get}
use Rattle.std.specs.Option.{option_map_or}
use Rattle.std.specs.Ordering.{nat_cmp}
use Rattle.std.specs.FinMap as finite
use Rattle.std.specs.FinMap.{FinMap}
use Rattle.tree_blocks.specs.declared.tree.ObjectEntry.{ObjectEntry}

-- the length of object n, None if there is no such object
abbrev pub length_in : List ObjectEntry → ℕ → Option ℕ
length_in entries n = option_map_or (λ (e : ObjectEntry). e.length) (slice_get entries n) None

-- the length of each object, if these objects have new entries
abbrev pub with_lengths : (ℕ → Option ObjectEntry) → (ℕ → Option ℕ) → ℕ → Option ℕ
with_lengths new old n = option_map_or (λ (e : ObjectEntry). e.length) (new n) (old n)

-- entries have the lengths of these objects
abbrev pub HaveLengthsOf : List ObjectEntry → FinMap nat_cmp (List ℕ) → Type 0
HaveLengthsOf entries objects = (n : ℕ) → length_in entries n ≡ option_map length (finite.get objects n)
