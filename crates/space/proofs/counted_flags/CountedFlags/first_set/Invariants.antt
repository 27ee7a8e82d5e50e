use Rattle.std.proofs.Common.{◌*◌}
use Rattle.space.specs.Regions.{region_size}
use Rattle.space.specs.SetFlags.{AreClear}
use Rattle.space.proofs.counted_flags.CountedFlags.first_set.Given as goal

-- no flag before the region is set
abbrev pub invariant-loop-region : goal.invariant-loop-region
invariant-loop-region l = AreClear l.first (l.region * region_size) l.self
