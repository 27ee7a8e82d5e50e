use Rattle.std.proofs.Common.{◌≡◌, length}
use Rattle.base.specs.formats.Geometry.{AreBlocksOf, block_count}
use Rattle.base.specs.steps.Exact.{log_addresses}
use Rattle.intent_log.specs.Kept.{header_fields, log_shown}
use Rattle.mounted.specs.GivenBlocks.{after_gives}
use Rattle.pool_tables.specs.Areas.{addresses_before, blocks_from}
use Rattle.pool_tables.proofs.blocks.give_log.Given as goal

-- what is left to come back makes of the free blocks what all of them make of the first ones
abbrev pub invariant-loop-address : goal.invariant-loop-address
invariant-loop-address l = record {
  count : l.free.blocks ≡ block_count l.geometry;
  placed : AreBlocksOf (block_count l.geometry) (log_addresses (log_shown l.log));
  given : after_gives (addresses_before (header_fields l.header) l.log.kept) l.free ≡ after_gives (addresses_before (header_fields l.header) l.fn.log.kept) l.fn.free;
  same : blocks_from (header_fields l.header) l.log.kept ≡ blocks_from (header_fields l.header) l.fn.log.kept;
  others : l.log ≡ record l.fn.log { kept = l.log.kept; block_room = l.log.block_room };
}

abbrev pub decreases-loop-address : goal.decreases-loop-address
decreases-loop-address l = length l.log.kept
