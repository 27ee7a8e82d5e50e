use Rattle.std.proofs.Common.{◌≡◌, ◌<◌, ◌≤◌, ◌++◌, map}
use Rattle.std.specs.Prelude.{vec_len, vec_capacity, All}
use Rattle.base.specs.formats.Geometry.{block_address}
use Rattle.base.specs.common.Rising.{rising}
use Rattle.space.specs.FreeSets.{free_from}
use Rattle.space.proofs.free_set.FreeSet.lowest.Given as goal

-- one block for each place so far, and these and those from the next one on are all that are free
abbrev pub invariant-places : goal.invariant-places
invariant-places l = (vec_len l.blocks ≡ l.i) × (l.count ≤ vec_capacity l.blocks) × (map block_address l.blocks.items ++ free_from l.next l.self.free ≡ rising l.self.free)
    × All (λ block. block < l.self.blocks) l.blocks.items
