use Rattle.std.proofs.Common.{◌≡◌, map, take}
use Rattle.tree_plans.specs.Plans.{address_of}
use Rattle.pool_tables.specs.Areas.{after_sync_takes}
use Rattle.pool_tables.proofs.blocks.take_all.Given as goal

-- the blocks so far are taken
abbrev pub invariant-loop-planned : goal.invariant-loop-planned
invariant-loop-planned l = l.free ≡ after_sync_takes (map address_of (take l.planned-index l.blocks)) l.fn.free
