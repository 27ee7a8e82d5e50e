-- How many flags of each region are set.
use Rattle.std.specs.Prelude.{ℕ, ◌≡◌, ◌<◌, ◌*◌, ◌^◌, Bool, List, length, slice_index, vec_len}
use Rattle.space.specs.SetFlags.{set_count}
use Rattle.space.specs.declared.counted_flags.CountedFlags.TheInside.{Inside}

-- the flags of a region: those of 504 words
abbrev pub region_size : ℕ
region_size = 32256

-- each count is that of its region
abbrev pub AreCounts : List ℕ → List Bool → Type 0
AreCounts counts flags = (r : ℕ) → r < length counts → slice_index counts r ≡ set_count (r * region_size) region_size flags

-- each flag is of a region, whose count is right
pub record HasRegionCounts (a : Inside) : Type 0 where
  pub regions : length a.flags < vec_len a.counts * region_size
  pub counts : AreCounts a.counts.items a.flags
  pub small : length a.flags < 2 ^ 63
