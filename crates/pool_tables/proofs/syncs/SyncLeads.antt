-- What a device call of a running sync makes of the bytes of the device.
use Rattle.std.proofs.Common.{◌≡◌, ℕ, ◌+◌, ◌-◌, true, List, [], length, map, refl, ap, sym, subst, ◌∙◌, arith, inl, inr, vec_len}
use Rattle.std.specs.Prelude.{Option, Some, None, Ok, Err, is_some, option_map, slice_get, unwrap_or}
use Rattle.std.proofs.lemmas.List.{length-map}
use Rattle.std.proofs.lemmas.Option.{slice_get-map}
use Rattle.base.specs.declared.error.PoolError.{PoolError}
use Rattle.base.specs.declared.pointer.Pointer.{Pointer}
use Rattle.base.specs.declared.step.Reply.TheVariants as reply
use Rattle.base.specs.declared.names.Group.{Group}
use Rattle.base.specs.disk.Disk.{Disk, bytes_of, put}
use Rattle.base.specs.disk.DiskCalls.{DiskCall, bytes_made}
use Rattle.base.specs.disk.DiskCalls.DiskCall.{Put, Settle}
use Rattle.base.specs.disk.SyncOrder.{DeviceCall, calls_even_first, calls_in_order}
use Rattle.base.specs.disk.SyncOrder.DeviceCall.{Block, Config, Uberblock, Flush}
use Rattle.base.specs.formats.Geometry.{block_address, config_place, slot_of, slot_place}
use Rattle.base.specs.tree.Places.{Place}
use Rattle.base.specs.kept.PlannedTrees.{NewBlock}
use Rattle.base.specs.steps.Shown.{SyncPlan}
use Rattle.base.specs.kept.Stored.{Advances, NewTree, total_calls}
use Rattle.base.specs.kept.SyncCalls.{call_of_kind, order_of_tree, stage_calls}
use Rattle.base.proofs.disk.Regions.{flushed_clean}
use Rattle.base.proofs.stored.StoredConfigs.{all-calls}
use Rattle.labels.specs.Stages.{labels_of}
use Rattle.labels.specs.declared.stage.Stage.TheVariants.{Even}
use Rattle.sync.specs.CallOrder.{stage_after}
use Rattle.sync.specs.declared.run.LabelStages.{LabelStages}
use Rattle.sync.specs.declared.run.SyncRun.{SyncRun}
use Rattle.sync.specs.Calls.{IsNextCall, MakesCall, Target, block_target, calls_of, config_target, first_labels, last_labels, target_of}
use Rattle.sync.specs.Runs.{SameSync, call_count, other_calls}
use Rattle.sync.proofs.Targets.{WritesTarget}
use Rattle.tree_plans.specs.declared.planner.PlannedBlock.{PlannedBlock}
use Rattle.tree_plans.specs.Plans.{new_block}
use Rattle.tree_blocks.specs.Pointers.{pointers_of}
use Rattle.pool_tables.specs.declared.pool.PoolTables.{PoolTables}
use Rattle.pool_tables.specs.declared.pool.RunningSync.{RunningSync}
use Rattle.unsynced_extents.specs.Unsynced.{name_at}
use Rattle.sync.specs.GroupLabels.{stages_for}
use Rattle.pool_tables.specs.Told.{Leads, SamePlaces, config_of, ShownPool, made_by, new_tree_of, pool_told}
use Rattle.tree_blocks.specs.SyncedTrees.{pointers_after}
use Rattle.pool_tables.specs.Shows.{contents_after_oldest, plan_of, pool_shown}
use Rattle.pool_tables.proofs.syncs.SameSyncs.{same_taken}

-- label stages of which the even labels are the first
abbrev AreEvenFirst : Option LabelStages → Type 0
AreEvenFirst None = Unit {0}
AreEvenFirst (Some stages) = stages.first ≡ Even

-- those of a running sync
stages_even : (guid group size : ℕ) (given : Option (List ℕ)) → AreEvenFirst (stages_for guid group size Even given)
stages_even guid group size None = tt
stages_even guid group size (Some name) = refl

-- their calls in order
even_order : (count : ℕ) (stages : Option LabelStages) → AreEvenFirst stages → calls_in_order count (is_some stages) (first_labels stages) (last_labels stages) ≡ calls_even_first count (is_some (config_of stages))
even_order count None even = refl
even_order count (Some stages) even = λ k. calls_in_order count true (labels_of (even k)) (labels_of (stage_after (even k)))

-- a call that was refused leaves the bytes
failed_write : (o : Option Target) (e : PoolError) (old new : Disk) → WritesTarget o old (Err e) new → bytes_of new.now ≡ bytes_of old.now
failed_write None e old new writes = absurd writes
failed_write (Some t) e old new (inl noted) = ap (λ (d : Disk). bytes_of d.now) noted
failed_write (Some t) e old new (inr same) = ap (λ (d : Disk). bytes_of d.now) same

pub failed_call : (run : SyncRun) (call : DeviceCall) (e : PoolError) (old new : Disk) → MakesCall run call old (Err e) new → bytes_of new.now ≡ bytes_of old.now
failed_call run (Block k) e old new makes = failed_write (target_of run (Block k)) e old new makes
failed_call run (Config label) e old new makes = failed_write (target_of run (Config label)) e old new makes
failed_call run (Uberblock label) e old new makes = failed_write (target_of run (Uberblock label)) e old new makes
failed_call run Flush e old new makes = ap (λ (d : Disk). bytes_of d.now) makes

-- it has six calls besides its blocks, and those of its label stages
all_others : (stages : Option LabelStages) → other_calls stages ≡ 6 + stage_calls (config_of stages) + stage_calls (config_of stages)
all_others None = refl
all_others (Some stages) = refl

module _ (run new : SyncRun) (same : SameSync run new) (pointers : Place → Pointer) where
  abbrev blocks : List NewBlock
  blocks = map new_block run.blocks.items

  many : length blocks ≡ vec_len run.blocks
  many = length-map run.blocks.items new_block ∙ sym run.blocks.ok.0

  -- the same tree, so many of whose calls are made
  made_as : (d : ℕ) → new.done ≡ d → made_by pointers new ≡ record { pointers = pointers; blocks = blocks; slot = run.uberblock; stages = config_of run.stages; done = d }
  made_as d is = λ k. record { pointers = pointers; blocks = map new_block (same.blocks k).items; slot = same.uberblock k; stages = config_of (same.stages k); done = is k }

  -- after a refused call it is as before
  pub made_same : new.done ≡ run.done → made_by pointers new ≡ made_by pointers run
  made_same is = made_as run.done is

  -- after the last one all are made
  pub made_all : new.done ≡ call_count new → (made_by pointers new).done ≡ total_calls (made_by pointers new)
  made_all last =
      let long : length (map new_block new.blocks.items) ≡ vec_len new.blocks = length-map new.blocks.items new_block ∙ sym new.blocks.ok.0 in
      let others = all_others new.stages in
      let count = all-calls (made_by pointers new) in
      omega (arith, last, long, others, count)

  module _ (even : AreEvenFirst run.stages) (done : new.done ≡ run.done + 1) (before after : Disk) (sized : length (bytes_of before.now) ≡ run.geometry) (group : ℕ) (slot : run.slot ≡ slot_of group) where
    abbrev tree : NewTree
    tree = made_by pointers run

    same_order : calls_of run ≡ order_of_tree tree
    same_order = even_order (vec_len run.blocks) run.stages even ∙ ap (λ (n : ℕ). calls_even_first n (is_some (config_of run.stages))) (sym many)

    -- the disk call of a kind
    abbrev Made : DiskCall → Type 0
    Made call = bytes_of after.now ≡ bytes_made call (bytes_of before.now)

    abbrev disk_call : DeviceCall → DiskCall
    disk_call = call_of_kind (length (bytes_of before.now)) group tree

    -- each call leaves the bytes that its kind says
    kind_made : (kind : DeviceCall) → MakesCall run kind before (Ok tt) after → Made (disk_call kind)
    kind_made (Block k) makes = by_block (slice_get run.blocks.items k) makes ∙ ap (λ o. bytes_made (block_put o) (bytes_of before.now)) (sym (slice_get-map new_block run.blocks.items k))
      where
        block_put : Option NewBlock → DiskCall
        block_put o = unwrap_or (option_map (λ (b : NewBlock). Put b.address b.content) o) Settle

        by_block : (o : Option PlannedBlock) → WritesTarget (option_map block_target o) before (Ok tt) after → Made (block_put (option_map new_block o))
        by_block None writes = absurd writes
        by_block (Some b) writes = ap (λ (d : Disk). bytes_of d.now) writes
    kind_made (Config label) makes = by_stages run.stages makes ∙ (λ k. put (config_place (sym sized k) label) (unwrap_or (config_of run.stages) []) (bytes_of before.now))
      where
        by_stages : (o : Option LabelStages) → WritesTarget (option_map (config_target run.geometry label) o) before (Ok tt) after → Made (Put (config_place run.geometry label) (unwrap_or (config_of o) []))
        by_stages None writes = absurd writes
        by_stages (Some stages) writes = ap (λ (d : Disk). bytes_of d.now) writes
    kind_made (Uberblock label) makes = ap (λ (d : Disk). bytes_of d.now) makes ∙ (λ k. put (slot_place (sym sized k) label (slot k)) run.uberblock (bytes_of before.now))
    kind_made Flush makes = (flushed_clean before after makes).1

    -- the next call was made
    pub call_advances : (call : DeviceCall) → IsNextCall run call → MakesCall run call before (Ok tt) after → Advances group (bytes_of before.now) (bytes_of after.now) (made_by pointers run) (made_by pointers new)
    call_advances call at makes = (
      disk_call call,
      slice_get-map disk_call (order_of_tree tree) run.done ∙ ap (λ (o : Option DeviceCall). option_map disk_call o) (ap (λ (calls : List DeviceCall). slice_get calls run.done) (sym same_order) ∙ at),
      kind_made call makes,
      made_as (run.done + 1) done,
    )

-- how a step that ends a sync leads on
pub synced_leads : (group : Group) (o n : ShownPool) (before after : NewTree) → o.running ≡ Some before → o.shown.line.syncing ≡ Some group.0 → n.running ≡ None → SamePlaces n.pointers after.pointers → after.done ≡ total_calls after
    → Advances group.0 o.now n.now before after → Leads (reply.Synced group) o n
synced_leads group o n before after was syncing none same all advances =
    (after.pointers, same, λ past later. (after, record { before = before; running = was; group = group.0; syncing = syncing; advances = advances }, all, refl, none))

-- what the running sync of a pool makes
pub was_running : (pool : PoolTables) (r : RunningSync) → pool.sync ≡ Some r → option_map (new_tree_of pool.synced.tree) pool.sync ≡ Some (made_by (pointers_after r.root r.directories.items r.entries pool.synced.tree) r.run)
was_running pool r is = ap (λ (o : Option RunningSync). option_map (new_tree_of pool.synced.tree) o) is

-- and its group
pub was_syncing : (pool : PoolTables) (r : RunningSync) → pool.sync ≡ Some r → pool.groups.line.syncing ≡ Some r.group.0
was_syncing pool r is = sym pool.sync_line ∙ ap (λ (o : Option RunningSync). option_map (λ (r : RunningSync). r.group.0) o) is

-- and its plan
pub was_planned : (pool : PoolTables) (r : RunningSync) → pool.sync ≡ Some r → (pool_shown pool).sync ≡ Some (plan_of pool.synced.tree (contents_after_oldest pool) r)
was_planned pool r is = ap (λ (o : Option RunningSync). option_map (plan_of pool.synced.tree (contents_after_oldest pool)) o) is

-- of which the next state of its run leaves so many calls
pub planned_still : (pool : PoolTables) (r : RunningSync) (next : SyncRun) → SameSync r.run next → (left : ℕ) → call_count next - next.done ≡ left
    → (let plan : SyncPlan = plan_of pool.synced.tree (contents_after_oldest pool) r in
    (let now : SyncPlan = record plan { steps_left = call_count next - next.done; taken = map (λ (b : PlannedBlock). block_address b.index) next.blocks.items } in now) ≡ record plan { steps_left = left })
planned_still pool r next same left is = λ k. record (plan_of pool.synced.tree (contents_after_oldest pool) r) { steps_left = is k; taken = same_taken r.run next same k }

-- after a refused call it is as before
pub failed_running : (pool : PoolTables) (r : RunningSync) (next : SyncRun) → pool.sync ≡ Some r → SameSync r.run next → next.done ≡ r.run.done
    → Some (made_by (pointers_after r.root r.directories.items r.entries pool.synced.tree) next) ≡ option_map (new_tree_of pool.synced.tree) pool.sync
failed_running pool r next is same done =
    ap (λ (t : NewTree). Some t) (made_same r.run next same (pointers_after r.root r.directories.items r.entries pool.synced.tree) done) ∙ sym (was_running pool r is)

-- The running sync of a pool made its next call.
module _ (pool : PoolTables) (r : RunningSync) (next : SyncRun) (before after : Disk) (is : pool.sync ≡ Some r) (same : SameSync r.run next) (sized : length (bytes_of before.now) ≡ pool.geometry)
    (size : r.run.geometry ≡ pool.geometry) (call : DeviceCall) (at : IsNextCall r.run call) where
  abbrev pointers : Place → Pointer
  pointers = pointers_after r.root r.directories.items r.entries pool.synced.tree

  abbrev IsMade : Type 0
  IsMade = MakesCall r.run call before (Ok tt) after

  pub advanced : next.done ≡ r.run.done + 1 → IsMade → Advances r.group.0 (bytes_of before.now) (bytes_of after.now) (made_by pointers r.run) (made_by pointers next)
  advanced done makes =
      call_advances r.run next same pointers (subst AreEvenFirst (sym (pool.running r is).stages) (stages_even pool.guid r.group.0 pool.geometry (name_at pool.changes 0))) done before after (sized ∙ sym size) r.group.0 (pool.running r is).uberblock.slot call at makes

  pub synced_told : (new : PoolTables) → next.done ≡ r.run.done + 1 → next.done ≡ call_count next → IsMade → new.sync ≡ None → SamePlaces (pointers_of new.synced.tree) pointers
      → Leads (reply.Synced r.group) (pool_told pool (bytes_of before.now)) (pool_told new (bytes_of after.now))
  synced_told new done last makes none places =
      synced_leads r.group (pool_told pool (bytes_of before.now)) (pool_told new (bytes_of after.now)) (made_by pointers r.run) (made_by pointers next) (was_running pool r is) (was_syncing pool r is)
      (ap (λ (o : Option RunningSync). option_map (new_tree_of new.synced.tree) o) none) places (made_all r.run next same pointers last) (advanced done makes)
