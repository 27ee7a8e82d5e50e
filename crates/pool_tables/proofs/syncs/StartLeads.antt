-- The start of a sync, with what is planned of its tree.
use Rattle.std.proofs.Common.{◌≡◌, ◌<◌, ◌≤◌, ◌+◌, ℕ, true, false, arith, List, length, map, refl, ap, sym, subst, ◌∙◌}
use Rattle.std.specs.Prelude.{IfSome, Option, Some, None, Ok, is_some, unwrap_or}
use Rattle.std.specs.BTreeMap.{BTreeMap}
use Rattle.std.specs.Global.{Vec}
use Rattle.std.proofs.lemmas.List.{length-map}
use Rattle.base.specs.common.Rising.{rising}
use Rattle.base.specs.declared.names.ObjectId.{ObjectId}
use Rattle.base.specs.declared.pointer.Pointer.{Pointer}
use Rattle.base.specs.formats.Geometry.{IsGeometry, block_count}
use Rattle.base.specs.history.Contents.{Contents, name_given_by_all}
use Rattle.base.specs.history.Past.{Past}
use Rattle.base.specs.history.Plans.{estimate_of, shape_of}
use Rattle.base.specs.steps.Groups.{Middle}
use Rattle.base.specs.steps.Tables.{AreTablesExplained}
use Rattle.base.specs.tree.Places.{Place, has_block}
use Rattle.base.specs.steps.Shown.{SyncPlan, length_at, listed}
use Rattle.base.specs.steps.Steps.{AreLengthsOf, TakesForEach, ops_of_group}
use Rattle.base.specs.kept.Stored.{IsHeld, IsPlannedSync, frame_at}
use Rattle.base.specs.kept.LabelConfigs.{WritesName}
use Rattle.base.specs.tree.Syncs.{other_step_count, written_places}
use Rattle.base.proofs.formats.Geometry.{IsGeometry-IsSize}
use Rattle.base.proofs.steps.KeptGroups.{quiesced_is}
use Rattle.base.proofs.steps.ListedLengths.{lengths_stay_listed}
use Rattle.base.proofs.steps.WaitingGroups.{next-group}
use Rattle.base.proofs.common.Choices.{none_there}
use Rattle.tree_blocks.specs.declared.tree.ObjectEntry.{ObjectEntry}
use Rattle.tree_blocks.specs.declared.tree.Tree.{Tree}
use Rattle.extents.specs.Patches.{ArePatchesOf}
use Rattle.extents.specs.Synced.{HaveLengthsAfter}
use Rattle.unsynced_extents.specs.Unsynced.{changes_at, name_at}
use Rattle.tree_blocks.specs.Pointers.{pointers_of}
use Rattle.space.proofs.FreeLists.{length-rising}
use Rattle.sync.specs.Runs.{other_calls}
use Rattle.tree_plans.specs.declared.planner.PlannedBlock.{PlannedBlock}
use Rattle.tree_plans.specs.declared.planner.TreePlan.{TreePlan}
use Rattle.tree_plans.specs.Marks.{pending_ops}
use Rattle.tree_plans.specs.Plans.{address_of, new_block}
use Rattle.group_plans.specs.GroupPlans.{IsShortOfBlocks, plan_pointers}
use Rattle.group_plans.specs.Operations.{AreSized, TakesPlace}
use Rattle.tree_blocks.specs.SyncedTrees.{lengths_after, pointers_after}
use Rattle.group_plans.proofs.GroupChanges.{lengths_told}
use Rattle.group_plans.proofs.GroupTrees.{entries_name}
use Rattle.group_plans.proofs.LaidLengths.{lengths_laid}
use Rattle.group_plans.proofs.PlannedBlocks.{addresses_are}
use Rattle.pool_tables.specs.declared.pool.PoolTables.{PoolTables}
use Rattle.pool_tables.specs.declared.pool.RunningSync.{RunningSync}
use Rattle.pool_tables.specs.GroupPlans.{HoldsOldestObjects, MakesOldestTree, begun_plan}
use Rattle.pool_tables.specs.Told.{config_of, held_with, new_tree_of, pool_told}
use Rattle.pool_tables.specs.Lines.{MayStart}
use Rattle.pool_tables.specs.Shows.{contents_after_oldest, pool_shown, synced_of}
use Rattle.pool_tables.proofs.Flags.{is_some-map}
use Rattle.pool_tables.proofs.syncs.SameSyncs.{taken_count}
use Rattle.pool_tables.proofs.syncs.Starts.{steps-given}
use Rattle.pool_tables.proofs.syncs.PlannedContents.{LeadsTo, changes_lead, next_above}
use Rattle.pool_tables.proofs.syncs.PlannedCounts.{enough_blocks, taken_fit, takes_for_each, takes_in_order}
use Rattle.pool_tables.proofs.syncs.PlannedGroups.{bounded_sized, group_takes_place, ops_are, planned_sync}

-- a device of so many blocks has one size
one_geometry : (m n : ℕ) → IsGeometry m → IsGeometry n → block_count m ≡ block_count n → m ≡ n
one_geometry m n first second same =
    let a = IsGeometry-IsSize m first in
    let b = IsGeometry-IsSize n second in
    omega (arith, a.least, a.whole, b.least, b.whole, same)

-- a sync that has made no call yet
pub nothing_made : (tree : Tree) (r : RunningSync) (root : Pointer) (directories : Vec Pointer) (entries : BTreeMap ObjectId ObjectEntry) (blocks : Vec PlannedBlock) → r.root ≡ root → r.directories ≡ directories → r.entries ≡ entries
    → r.run.blocks ≡ blocks → r.run.done ≡ 0
    → new_tree_of tree r ≡ record { pointers = pointers_after root directories.items entries tree; blocks = map new_block blocks.items; slot = r.run.uberblock; stages = config_of r.run.stages; done = 0 }
nothing_made tree r root directories entries blocks root_is directories_are entries_are blocks_are none =
    λ k. record { pointers = pointers_after (root_is k) (directories_are k).items (entries_are k) tree; blocks = map new_block (blocks_are k).items; slot = r.run.uberblock; stages = config_of r.run.stages; done = none k }

-- the blocks that it writes are those of its plan
pub blocks_kept : (r : RunningSync) (planned : Vec PlannedBlock) (told : List PlannedBlock) → r.run.blocks ≡ planned → told ≡ r.run.blocks.items → told ≡ planned.items
blocks_kept r planned told kept is = is ∙ ap (λ (v : Vec PlannedBlock). v.items) kept

-- where no sync runs none is counted as taken, so those that it takes are all
pub none_counted : (pool : PoolTables) → is_some pool.groups.line.syncing ≡ false → pool.free.taken ≡ 0
none_counted pool idle =
    pool.free_counted.taken ∙ ap taken_count (none_there pool.sync (sym (is_some-map (λ (r : RunningSync). r.group.0) pool.sync) ∙ ap (λ (o : Option ℕ). is_some o) pool.sync_line ∙ idle))

pub taken_anew : (pool : PoolTables) (blocks : List PlannedBlock) → is_some pool.groups.line.syncing ≡ false → pool.free.taken + length (map address_of blocks) ≡ length blocks
taken_anew pool blocks idle = omega (arith, none_counted pool idle, length-map blocks address_of)

-- What is known of a group whose sync may start, whatever the past of the pool.
module _ (pool : PoolTables) (group : ℕ) (may : MayStart group pool.groups.line) where
  starts_next : group ≡ pool.groups.line.synced + 1
  starts_next =
      subst (λ (o : Option Middle). IfSome o (λ (m : Middle). m.group ≡ unwrap_or pool.groups.line.syncing pool.groups.line.synced + 1)) (quiesced_is pool.groups.line group may.0)
      pool.accounted.counted.line.middle
      ∙ ap (λ (o : Option ℕ). unwrap_or o pool.groups.line.synced + 1) (none_there pool.groups.line.syncing may.1)

  -- the oldest changes are those of its operations
  oldest_changes : ArePatchesOf (pending_ops group pool.log.records) (changes_at pool.changes 0)
  oldest_changes =
      let same : pool.groups.line.synced + 1 + 0 ≡ group = omega (arith, starts_next) in
      subst (λ (g : ℕ). ArePatchesOf (pending_ops g pool.log.records) (changes_at pool.changes 0)) same (pool.unsynced_kept.changed 0 (omega arith))

  -- so the tree of its plan has the lengths that they leave
  pub planned_lengths : (p : TreePlan) → MakesOldestTree pool group p → HaveLengthsAfter (changes_at pool.changes 0) p.entries pool.synced.tree
  planned_lengths p makes =
      lengths_laid group pool.log.records pool.synced.tree (changes_at pool.changes 0) (lengths_after p.entries pool.synced.tree) oldest_changes makes.1.lengths

-- What a past that explains a pool says of a group whose sync may start.
module _ (past : Past) (pool : PoolTables) (group : ℕ) (may : MayStart group pool.groups.line) (explained : AreTablesExplained (pool_shown pool) past) where
  idle : pool.groups.line.syncing ≡ None
  idle = none_there pool.groups.line.syncing may.1

  middle : pool.groups.line.middle ≡ Some (record { group = group; quiesced = true })
  middle = quiesced_is pool.groups.line group may.0

  pub group_above : pool.groups.line.synced < group
  group_above = next_above (pool_shown pool) past explained group idle middle pool.log.records refl

  -- the name is the one that its operations give last
  pub oldest_name : name_at pool.changes 0 ≡ name_given_by_all (pending_ops group pool.log.records) None
  oldest_name =
      let next : group ≡ pool.groups.line.synced + 1 = next-group (pool_shown pool) past explained group idle middle in
      let same : pool.groups.line.synced + 1 + 0 ≡ group = omega (arith, next) in
      subst (λ (g : ℕ). name_at pool.changes 0 ≡ name_given_by_all (pending_ops g pool.log.records) None) same (pool.unsynced_kept.named 0 (omega arith))

  -- so its operations lead to what they make of the synced contents
  pub oldest_leads : LeadsTo (pool_shown pool) past group pool.log.records (contents_after_oldest pool)
  oldest_leads = changes_lead (pool_shown pool) past explained group idle middle pool.log.records refl (changes_at pool.changes 0) (name_at pool.changes 0) (oldest_changes pool group may) oldest_name

  -- no object is too long then
  pub oldest_sized : AreSized (contents_after_oldest pool).objects
  oldest_sized = bounded_sized (contents_after_oldest pool) oldest_leads.bounded

  -- and take place; the history has the same ones
  pub oldest_ops : ops_of_group group past.entries ≡ pending_ops group pool.log.records
  oldest_ops = ops_are (pool_shown pool) past explained group group_above pool.log.records refl

  pub oldest_takes_place : TakesPlace (pending_ops group pool.log.records) pool.synced.tree.entries.items (synced_of pool) (contents_after_oldest pool)
  oldest_takes_place = group_takes_place (pool_shown pool) past explained group group_above pool.log.records refl (contents_after_oldest pool) oldest_leads.leads pool.synced.tree.entries.items refl

  -- Whatever the device holds: it takes no more blocks than its operations are estimated at.
  pub group_fits : (p : TreePlan) → MakesOldestTree pool group p → length (map address_of p.blocks.items) ≤ estimate_of (map shape_of (ops_of_group group past.entries))
  group_fits p makes =
      let fits = taken_fit (pool_shown pool) past explained group pool.log.records oldest_ops (contents_after_oldest pool) pool.synced.tree.entries.items oldest_takes_place oldest_sized makes.0
      (plan_pointers pool.synced.tree p) (map new_block p.blocks.items) p.freed.items makes.1.places in
      subst (λ (n : ℕ). n ≤ estimate_of (map shape_of (ops_of_group group past.entries))) (length-map p.blocks.items new_block ∙ sym (length-map p.blocks.items address_of)) fits

  -- it has a step for each block, and its other steps
  pub group_steps : (moment : ℕ) (p : TreePlan) → (begun_plan pool group moment p).steps_left ≡ length (map address_of p.blocks.items) + other_step_count (ops_of_group group past.entries)
  group_steps moment p =
      ap (λ (given : Option (List ℕ)). length (map address_of p.blocks.items) + other_calls given) oldest_name
      ∙ ap (λ (n : ℕ). length (map address_of p.blocks.items) + n) (steps-given (pending_ops group pool.log.records) ∙ ap other_step_count (sym oldest_ops))

  -- its lengths are those after the group
  pub group_lengths : (p : TreePlan) → MakesOldestTree pool group p → AreLengthsOf (contents_after_oldest pool) (length_at (listed (lengths_after p.entries pool.synced.tree)))
  group_lengths p makes =
      lengths_stay_listed (contents_after_oldest pool) (lengths_after p.entries pool.synced.tree)
      (lengths_told group pool.log.records pool.synced.tree.entries.items (synced_of pool) (contents_after_oldest pool) oldest_takes_place (lengths_after p.entries pool.synced.tree) makes.1.lengths)

  -- and its plan is not short of blocks
  pub never_short : (old : Place → Pointer) → IsShortOfBlocks group pool.log.records pool.synced.tree.entries.items old (contents_after_oldest pool).objects (rising pool.free.free) → ⊥
  never_short old short =
      enough_blocks (pool_shown pool) past explained group pool.log.records oldest_ops (contents_after_oldest pool) pool.synced.tree.entries.items oldest_takes_place oldest_sized old
      idle may.0 (rising pool.free.free) (length-rising pool.free.free) short

-- What a device holds: a plan of the group is what a start of its sync asks, with each past.
module _ (now : List ℕ) (past : Past) (pool : PoolTables) (group moment : ℕ) (p : TreePlan) (may : MayStart group pool.groups.line) (objects : HoldsOldestObjects pool group p) (x : IsHeld (held_with (pool_told pool now) past)) where
  abbrev pub plan : SyncPlan
  plan = begun_plan pool group moment p

  sized : AreSized (contents_after_oldest pool).objects
  sized = oldest_sized past pool group may x.explained

  takes_place : TakesPlace (pending_ops group pool.log.records) pool.synced.tree.entries.items (synced_of pool) (contents_after_oldest pool)
  takes_place = oldest_takes_place past pool group may x.explained

  -- its stages write the name of the contents that it leaves
  pub group_named : (stages : Option (List ℕ)) → ((before : List ℕ) → WritesName stages pool.geometry pool.guid group before (unwrap_or (name_at pool.changes 0) before))
      → WritesName stages (length now) pool.guid group x.kept.stored.synced.name (contents_after_oldest pool).name
  group_named stages writes =
      let both : Ok (synced_of pool) ≡ Ok x.kept.stored.synced = sym x.explained.trees.synced.replayed ∙ x.kept.stored.replayed in
      let same : synced_of pool ≡ x.kept.stored.synced = cc in
      let long : pool.geometry ≡ length now = one_geometry pool.geometry (length now) pool.sized x.kept.geometry x.kept.stored.blocks in
      subst (λ (c : Contents). WritesName stages (length now) pool.guid group c.name (contents_after_oldest pool).name) same
      (subst (λ (n : ℕ). WritesName stages n pool.guid group pool.synced.name (contents_after_oldest pool).name) long (writes pool.synced.name))

  -- and the plan makes the tree of these contents
  pub group_planned : IsPlannedSync (frame_at (pool_shown pool) group) (pointers_of pool.synced.tree) (plan_pointers pool.synced.tree p) (map new_block p.blocks.items) x.kept.stored.synced.objects (contents_after_oldest pool).objects plan
  group_planned =
      let places = objects.made.places in
      planned_sync now (pool_shown pool) past (pointers_of pool.synced.tree) x.kept.stored x.explained group (group_above past pool group may x.explained) pool.log.records (contents_after_oldest pool) sized pool.synced.tree.entries.items takes_place
      (entries_name pool.synced.tree (synced_of pool).objects takes_place.sizes)
      (plan_pointers pool.synced.tree p) (map new_block p.blocks.items) plan objects.held (addresses_are p.blocks.items) objects.made.whole places.freed places.used refl

  -- what it takes is what its tree has at the places that it writes, in order
  pub group_takes : map (λ (place : Place). (plan_pointers pool.synced.tree p place).address) (written_places (ops_of_group group past.entries) (synced_of pool) (has_block now (pool_shown pool).root)) ≡ plan.taken
  group_takes =
      takes_in_order now (pool_shown pool) past (pointers_of pool.synced.tree) x.kept.stored x.explained group pool.log.records (oldest_ops past pool group may x.explained) (contents_after_oldest pool) pool.synced.tree.entries.items takes_place sized
      (plan_pointers pool.synced.tree p) (map new_block p.blocks.items) p.freed.items plan objects.made.places (addresses_are p.blocks.items)

  pub group_takes_each : TakesForEach now (record { shown = pool_shown pool; past = past }) group plan
  group_takes_each =
      takes_for_each now (pool_shown pool) past (pointers_of pool.synced.tree) x.kept.stored x.explained group pool.log.records (oldest_ops past pool group may x.explained) (contents_after_oldest pool) pool.synced.tree.entries.items takes_place sized
      (plan_pointers pool.synced.tree p) (map new_block p.blocks.items) p.freed.items plan objects.made.places (addresses_are p.blocks.items)
