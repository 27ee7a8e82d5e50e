use Rattle.std.proofs.Common.{◌∙◌, ap}
use Rattle.std.specs.FinSet as set
use Rattle.space.specs.FreeSets.{FreeSpace}
use Rattle.pool_tables.specs.Areas.{after_sync_takes}
use Rattle.pool_tables.proofs.FreeBlocks.{taken_away}
use Rattle.pool_tables.proofs.clients.a_block_that_a_sync_takes_is_not_free.Goals as goal

pub returns : goal.returns
returns c = ap (λ (s : FreeSpace). set.contains s.free 4202496) (c.take_all.ensures ∙ ap (λ l. after_sync_takes l c.args.free.now) c.requires.one) ∙ taken_away c.args.free.now.free 4202496
