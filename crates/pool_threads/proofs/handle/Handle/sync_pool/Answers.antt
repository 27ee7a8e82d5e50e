use Rattle.std.proofs.Common.{ap, sym}
use Rattle.std.specs.Prelude.{Err}
use Rattle.pool_threads.proofs.WaitsSeen.{pool_ended, sync_at_last_group, sync_refusal_seen}
use Rattle.pool_threads.specs.Waits.{result_of}
use Rattle.pool_threads.proofs.handle.Handle.sync_pool.Goals as goal

pub returns-in-Err-clause-refused : goal.returns-in-Err-clause-refused
returns-in-Err-clause-refused g c =
    let looks = c.look_for_open_group-group.ensures in
    let group = c.look_for_open_group-group.result in
    sync_refusal_seen (Err c.in-Err.error) _ _ (pool_ended group _ _ _ (Err c.in-Err.error) c.sync_up_to.result looks.looked looks.group c.sync_up_to.ensures (sym (ap (result_of group) c.in-Err.is)))

pub returns-in-Err-clause-at_limit : goal.returns-in-Err-clause-at_limit
returns-in-Err-clause-at_limit g c =
    let looks = c.look_for_open_group-group.ensures in
    let group = c.look_for_open_group-group.result in
    sync_at_last_group (Err c.in-Err.error) _ _ (pool_ended group _ _ _ (Err c.in-Err.error) c.sync_up_to.result looks.looked looks.group c.sync_up_to.ensures (sym (ap (result_of group) c.in-Err.is)))
