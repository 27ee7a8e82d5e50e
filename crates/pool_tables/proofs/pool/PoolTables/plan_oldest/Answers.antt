use Rattle.std.proofs.Common.{◌≡◌, subst}
use Rattle.std.specs.Prelude.{IfOk}
use Rattle.base.specs.kept.Stored.{frame_at}
use Rattle.base.proofs.common.KeptLists.{Some-injective}
use Rattle.extents.specs.declared.extents.Extents.{Extents}
use Rattle.group_plans.specs.GroupPlans.{HoldsGroupObjects, objects_with}
use Rattle.pool_tables.specs.Shows.{pool_shown}
use Rattle.pool_tables.proofs.HeldReads.{area_fits}
use Rattle.pool_tables.proofs.pool.PoolTables.plan_oldest.Goals as goal

pub plan_group-requires-clause-room : goal.plan_group-requires-clause-room
plan_group-requires-clause-room g c =
    let pool = c.args.self.now in
    rw c.synced_frame.ensures (area_fits pool.geometry _ pool.sized c.requires.sized)

pub returns-clause-objects : goal.returns-clause-objects
returns-clause-objects g c = λ keeps holds.
    let pool = c.args.self.now in
    let oldest : c.oldest.result.now ≡ pool.changes.oldest = Some-injective c.oldest.ensures in
    subst (λ (extents : Extents). IfOk c.plan_group.result (HoldsGroupObjects (frame_at (pool_shown pool) c.args.group.0) pool.synced.tree pool.log.records (objects_with extents pool.synced.tree))) oldest
    (rw c.records.ensures at (c.plan_group.ensures.objects keeps (rw c.synced_frame.ensures holds)))

pub returns-clause-sound : goal.returns-clause-sound
returns-clause-sound g c = λ keeps holds. c.plan_group.ensures.sound keeps (rw c.synced_frame.ensures holds)
