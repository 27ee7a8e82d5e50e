use Rattle.pool_threads.specs.Handles.{owned_of}
use Rattle.running_pools.proofs.LeftDevices.{only_handle}
use Rattle.commands.proofs.changes.put_and_leave.Goals as goal

pub returns : goal.returns
returns g c = (
  record {
    first = c.handle_after-handle.result;
    only = only_handle (owned_of c.args.pool.now) c.args.first c.handle_after-handle.result c.requires.first c.handle_after-handle.ensures;
    last = c.put_and_sync-end.new.handle;
    did = c.put_and_sync-end.ensures;
  },
  c.leave.ensures,
)
