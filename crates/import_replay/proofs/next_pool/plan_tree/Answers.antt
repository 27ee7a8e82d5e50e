use Rattle.std.proofs.Common.{◌≡◌, ◌+◌, ℕ, List, IfErr, IfOk, subst, sym}
use Rattle.base.specs.common.Rising.{rising}
use Rattle.base.specs.declared.error.PoolError.TheVariants.{NoSpace}
use Rattle.base.specs.declared.pointer.Pointer.{Pointer}
use Rattle.base.specs.disk.Disk.{bytes_of}
use Rattle.base.specs.formats.Blocks.{Frame}
use Rattle.base.specs.formats.Uberblocks.{Uberblock}
use Rattle.base.specs.tree.Places.{Place}
use Rattle.group_plans.specs.GroupPlans.{HoldsGroupObjects, IsShortOfBlocks}
use Rattle.group_plans.specs.OldMaps.{HoldsOwn}
use Rattle.tree_blocks.specs.Pointers.{pointers_of}
use Rattle.records.specs.declared.record.Record.{Record}
use Rattle.uberblocks.specs.Slots.{fields_of}
use Rattle.import_replay.specs.NextPools.{next_frame, objects_replayed}
use Rattle.import_replay.specs.declared.next_pool.ReplayedPool.{ReplayedPool}
use Rattle.import_replay.proofs.next_pool.plan_tree.Goals as goal

pub returns-clause-objects : goal.returns-clause-objects
returns-clause-objects g c = λ held.
    let pool : ReplayedPool = c.args.pool.now in
    let u : Uberblock = fields_of c.args.uberblock.now in
    let now : List ℕ = bytes_of (g.B.SectorDevice.disk c.args.reader.now).now in
    subst (λ (rs : List Record). IfOk c.plan_group.result (HoldsGroupObjects (next_frame u c.args.geometry) pool.synced.tree rs (objects_replayed pool))) c.deref.ensures.value
    (c.plan_group.ensures.objects held.0 (subst (λ (f : Frame). HoldsOwn now f pool.synced.tree) (sym c.frame_of-before.ensures) held.1))

pub returns-clause-sound : goal.returns-clause-sound
returns-clause-sound g c = λ held.
    let pool : ReplayedPool = c.args.pool.now in
    let now : List ℕ = bytes_of (g.B.SectorDevice.disk c.args.reader.now).now in
    c.plan_group.ensures.sound held.0 (subst (λ (f : Frame). HoldsOwn now f pool.synced.tree) (sym c.frame_of-before.ensures) held.1)

pub returns-clause-short : goal.returns-clause-short
returns-clause-short g c = λ held.
    let pool : ReplayedPool = c.args.pool.now in
    let now : List ℕ = bytes_of (g.B.SectorDevice.disk c.args.reader.now).now in
    subst (λ (rs : List Record). IfErr c.plan_group.result (λ e. e ≡ NoSpace
    → IsShortOfBlocks (c.args.uberblock.now.group.0 + 4) rs pool.synced.tree.entries.items (pointers_of pool.synced.tree) (objects_replayed pool) (rising pool.spare.free)))
    c.deref.ensures.value (c.plan_group.ensures.short held.0 (subst (λ (f : Frame). HoldsOwn now f pool.synced.tree) (sym c.frame_of-before.ensures) held.1))

pub returns-clause-no_space : goal.returns-clause-no_space
returns-clause-no_space g c =
    let pool : ReplayedPool = c.args.pool.now in
    subst (λ (rs : List Record). IfErr c.plan_group.result (λ e. e ≡ NoSpace
    → (old : Place → Pointer) × IsShortOfBlocks (c.args.uberblock.now.group.0 + 4) rs pool.synced.tree.entries.items old (objects_replayed pool) (rising pool.spare.free)))
    c.deref.ensures.value c.plan_group.ensures.no_space
