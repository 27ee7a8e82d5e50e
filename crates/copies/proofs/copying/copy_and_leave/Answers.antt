use Rattle.running_pools.proofs.LeftDevices.{only_handle}
use Rattle.pool_threads.specs.Handles.{owned_of}
use Rattle.copies.proofs.Held.{if_done}
use Rattle.copies.proofs.copying.copy_and_leave.Goals as goal

pub returns-clause-copied : goal.returns-clause-copied
returns-clause-copied g c = record {
  first = c.handle_after-handle.result;
  only = only_handle (owned_of c.args.pool.now) c.args.first c.handle_after-handle.result c.requires.first c.handle_after-handle.ensures;
  last = c.copy_and_sync-end.new.new;
  stays = c.copy_and_sync-end.ensures.stays;
  did = if_done g.D.SectorDevice.keeps_model (g.D.SectorDevice.disk c.args.old.now) c.args.skips c.copy_and_sync-end.result c.handle_after-handle.result c.copy_and_sync-end.new.new (g.W.Write.contents c.args.out.now) (g.W.Write.contents c.copy_and_sync-end.new.out) c.copy_and_sync-end.ensures.copied;
  behind = c.leave.ensures;
}
