use Rattle.std.proofs.Common.{Err, Ok, refl}
use Rattle.pool_threads.specs.Handles.{owned_of}
use Rattle.running_pools.proofs.LeftDevices.{only_handle}
use Rattle.commands.proofs.changes.remove_and_leave.Goals as goal

pub returns-in-Err : goal.returns-in-Err
returns-in-Err g c = (
  record {
    first = c.handle_after-handle.result;
    only = only_handle (owned_of c.args.pool.now) c.args.first c.handle_after-handle.result c.requires c.handle_after-handle.ensures;
    count = 0;
    made = Err c.in-Err.refusal;
    done = c.remove.new.handle;
    makes = (c.in-Err.refusal, refl, c.in-Err.ensures);
    last = c.remove.new.handle;
    syncs = (refl, refl);
  },
  c.leave.ensures,
)

pub returns : goal.returns
returns g c = (
  record {
    first = c.handle_after-handle.result;
    only = only_handle (owned_of c.args.pool.now) c.args.first c.handle_after-handle.result c.requires c.handle_after-handle.ensures;
    count = 1;
    made = Ok tt;
    done = c.remove.new.handle;
    makes = (c.in-Ok.field-0, c.remove.new.handle, c.in-Ok.ensures, (refl, refl, refl));
    last = c.sync_pool.new.self;
    syncs = (c.sync_pool.result, c.sync_pool.ensures.synced, c.first_refusal-end.ensures);
  },
  c.leave-2.ensures,
)
