use Rattle.pool_core.proofs.GroupSyncs.{closes_first}
use Rattle.pool_core_clients.proofs.steps.an_open_group_is_closed_and_then_synced.Goals as goal

pub returns : goal.returns
returns g c = closes_first 7 c.sync_open_group.result c.args.pool.now c.sync_open_group.new.self c.requires.no_sync c.requires.no_closed c.sync_open_group.ensures
