use Rattle.std.proofs.Common.{◌∙◌}
use Rattle.pool_core.proofs.SyncedGroups.{open_synced, synced_is_durable}
use Rattle.pool_core.specs.States.{shown}
use Rattle.pool_core_clients.proofs.steps.a_commit_to_a_group_that_was_synced_is_durable.Goals as goal

pub returns-in-Ok : goal.returns-in-Ok
returns-in-Ok g c =
    let pool = c.sync_open_group.new.self in
    c.durable.ensures ∙ synced_is_durable (shown pool) c.args.ordinal.0 c.in-Ok.group.0 (open_synced c.in-Ok.group pool 7 c.args.pool.now c.in-Ok.ensures)
