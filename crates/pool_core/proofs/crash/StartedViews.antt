-- The start of a sync leads from the view of the synced group to that of its own: its blocks are those of a tree, apart
-- from the one of before, and once they stand its tree does.
use Rattle.std.proofs.Common.{◌≡◌, ◌∙◌, ◌⊎◌, inl, inr, ℕ, zero, suc, ◌+◌, ◌-◌, ◌*◌, ◌/◌, ◌<◌, ◌≤◌, All, true, List, [], ◌∷◌, drop, length, length-drop, map, Option, Some, None, refl, ap, sym, subst, arith, vec_len, nat_eq}
use Rattle.std.specs.Prelude.{◌≢◌, IfSome, Ok, nat_le, slice_get}
use Rattle.std.specs.FinMap as finite
use Rattle.std.specs.List.{IsDistinct}
use Rattle.std.proofs.lemmas.Option.{slice_get_within}
use Rattle.base.specs.declared.pointer.Pointer.{Pointer}
use Rattle.base.specs.kept.Layout.{header_now, kept_from}
use Rattle.base.specs.kept.LogRoom.{HasImportRoom}
use Rattle.base.specs.kept.LogRule.{IsLogHeld}
use Rattle.base.specs.kept.Own.{IsAtRest}
use Rattle.base.specs.kept.PoolViews.{IsOpen, IsSyncConfig, IsViewOf}
use Rattle.base.specs.kept.Views.{AreConfigsKnown, AreConfigsUpTo, AreLinked, IsConfigContent, IsFixed, IsView, Logged, View, view_frame}
use Rattle.base.specs.disk.Disk.{Disk, Write, bytes_of, handed}
use Rattle.base.specs.disk.Fairness.{HasFairBytes}
use Rattle.base.specs.formats.Blocks.{Frame}
use Rattle.base.specs.formats.Fields.{no_pointer, number_at, part}
use Rattle.base.specs.formats.Geometry.{IsBlockAddress, IsGeometry, block_address, block_area, block_count, block_size, config_place, slot_of}
use Rattle.base.specs.formats.Limits.{object_count}
use Rattle.base.specs.formats.Versions.{written_version}
use Rattle.base.specs.history.Contents.{Contents}
use Rattle.base.specs.history.History.{entries_up_to, replay}
use Rattle.base.specs.history.Past.{Past}
use Rattle.base.specs.steps.Exact.{AreDistinctPlaces, IsInLog}
use Rattle.base.specs.steps.Tables.{AreTablesExplained}
use Rattle.base.specs.steps.Locks.{is_in}
use Rattle.base.specs.steps.Logs.{KeptBlock}
use Rattle.base.specs.steps.Shown.{Shown, SyncPlan, taken_of, uberblock_of}
use Rattle.base.specs.kept.LabelConfigs.{WritesName}
use Rattle.base.specs.kept.Stored.{IsStored, IsSyncing, IsUnwritten, NewTree, frame_at}
use Rattle.base.specs.kept.PlacedTrees.{HoldsTree}
use Rattle.base.specs.tree.Places.{IsInTree, IsPlace, Place, kind_of}
use Rattle.base.specs.tree.Places.Place.{Data, Directory, Indirect, Root, Top}
use Rattle.base.specs.kept.PlannedTrees.{NewBlock}
use Rattle.base.proofs.common.KeptLists.{All-each, at_filter, at_within, at-map}
use Rattle.base.proofs.crash.LogStarts.{IsCutAt, cut_at, drop-at}
use Rattle.base.proofs.crash.OpenViews.{open_cut}
use Rattle.base.proofs.crash.NewViews.{configs_of_old, logs_of_group}
use Rattle.base.proofs.crash.OwnDisks.{configs_weaker}
use Rattle.base.proofs.disk.Put.{part_same}
use Rattle.base.proofs.disk.WrittenBlocks.{blocks-apart, planned-written, put_blocks, new-stand}
use Rattle.base.proofs.formats.Geometry.{IsGeometry-IsSize}
use Rattle.base.proofs.history.KeptContents.{bounded-no_others}
use Rattle.base.proofs.stored.StoredSets.{at-in, map-at}
use Rattle.base.proofs.stored.StoredTrees.{stored-placed}
use Rattle.base.proofs.tree.FreedBlocks.{in-new_tree, new-in_tree}
use Rattle.base.proofs.tree.PlacedTrees.{in-tree, opens-at, told-in_tree}
use Rattle.base.proofs.tree.PlannedTrees.{planned-holds}
use Rattle.labels.specs.declared.stage.Stage.{Stage}
use Rattle.sync.specs.declared.run.LabelStages.{LabelStages}
use Rattle.sync.specs.declared.run.SyncRun.{SyncRun}
use Rattle.sync.specs.Made.{BlocksWritten, HasDistinctBlocks}
use Rattle.sync.specs.Phases.{HasConfigOf, IsApartFromLog, IsBefore, IsSpareBlock, LeadsViews, SyncViews}
use Rattle.sync.specs.Runs.{call_count}
use Rattle.sync.proofs.RenamedViews.{even_first, known_anew}
use Rattle.sync.proofs.UnderWay.{begins_at_rest}
use Rattle.tree_plans.specs.declared.planner.PlannedBlock.{PlannedBlock}
use Rattle.tree_plans.specs.Plans.{new_block}
use Rattle.pool_tables.specs.Told.{config_of, made_by}
use Rattle.pool_core.specs.KeptSafe.{AreSyncTrees, IsOfTree, IsSyncOnDisk, WritesConfig}
use Rattle.pool_core.proofs.crash.HeldLogs.{held_from}
use Rattle.pool_core.proofs.crash.ViewRooms.{synced_has_room, syncing_has_room}
use Rattle.import_replay.proofs.NextPools.{differ_all}

-- blocks that are written stand
pub written_stand : (base image : List ℕ) (size : ℕ) (blocks : List PlannedBlock) (n : ℕ) → length blocks ≤ n → BlocksWritten base size blocks n image
    → (i : ℕ) (b : NewBlock) → slice_get (map new_block blocks) i ≡ Some b → part image b.address block_size ≡ b.content
written_stand base image size blocks n all written i b at =
    let c = at-map new_block blocks i b at in
    let below : i < n = omega (arith, all, slice_get_within blocks i c.0 c.1) in
    subst (λ (d : NewBlock). part image d.address block_size ≡ d.content) c.2 (written.each i c.0 below c.1)

-- and each other block of the area is as before
pub others_stay : (base image : List ℕ) (size : ℕ) (blocks : List PlannedBlock) (n : ℕ) → length image ≡ length base → BlocksWritten base size blocks n image
    → ((i : ℕ) (b : NewBlock) → slice_get (map new_block blocks) i ≡ Some b → IsBlockAddress (block_count size) b.address)
    → (address : ℕ) → IsBlockAddress (block_count size) address → IsUnwritten (map new_block blocks) address → part image address block_size ≡ part base address block_size
others_stay base image size blocks n long written placed address is other = part_same image base address block_size long (λ i from to.
    let below : is.0 < block_count size = is.1 in
    let there : address ≡ block_address is.0 = is.2 in
    written.others i (omega (arith, from, there)) (omega (arith, to, there, below)) (λ k b early at here.
    let stands = map-at new_block blocks k b at in
    elim (blocks-apart (block_count size) (block_address b.index) address (placed k (new_block b) stands) is (other k (new_block b) stands)) as (λ _. ⊥) [
      | inl before ↦ omega (arith, before, from, here.1)
      | inr behind ↦ omega (arith, behind, to, here.0)
    ]))

pub distinct_blocks : (bs : List PlannedBlock) → ((i j : ℕ) (b c : PlannedBlock) → slice_get bs i ≡ Some b → slice_get bs j ≡ Some c → b.index ≡ c.index → i ≡ j)
    → IsDistinct nat_eq (map (λ (b : PlannedBlock). b.index) bs)
unfolding IsDistinct
distinct_blocks [] apart = tt
distinct_blocks (b ∷ bs) apart = (
  differ_all b bs (λ i c at same. let e = apart zero (suc i) b c refl at same in omega (arith, e)),
  distinct_blocks bs (λ i j c d at_i at_j same. let e = apart (suc i) (suc j) c d at_i at_j same in omega (arith, e)),
)

no_config : (place : Place) → kind_of place ≢ 1
no_config Root = λ same. omega (arith, same)
no_config (Directory d) = λ same. omega (arith, same)
no_config (Top n) = λ same. omega (arith, same)
no_config (Indirect n) = λ same. omega (arith, same)
no_config (Data n r) = λ same. omega (arith, same)

-- A sync that was started, over what the device holds.
module _ (now : List ℕ) (s : Shown) (p : Past) (pointers : Place → Pointer) (new : NewTree) (x : IsStored now s pointers p) (y : IsSyncing now s pointers new p) (explained : AreTablesExplained s p)
    (geometry : IsGeometry (length now)) where
  pub next_group : y.group ≡ s.line.synced + 1
  next_group = subst (λ (o : Option ℕ). IfSome o (λ g. g ≡ s.line.synced + 1)) y.syncing explained.exact.groups.line.syncing

  later : s.line.synced ≤ y.group
  later = omega (arith, next_group)

  olds : HoldsTree now (frame_at s s.line.synced) pointers y.synced.objects
  olds = let same : Ok x.synced ≡ Ok y.synced = sym x.replayed ∙ y.replayed in
      let contents : x.synced ≡ y.synced = cc in
      subst (λ (c : Contents). HoldsTree now (frame_at s s.line.synced) pointers c.objects) contents x.tree

  no_others : (n : ℕ) → object_count ≤ n → finite.get y.plan.contents.objects n ≡ None
  no_others = bounded-no_others y.plan.contents (explained.trees.planned y.group y.plan y.syncing y.running).bounded

  room : block_area + block_size * s.blocks ≤ length now
  room =
      let large = (IsGeometry-IsSize (length now) geometry).least in
      let count : s.blocks ≡ (length now - 524288 - 4194304) / 4096 = x.blocks in
      omega (arith, large, count)

  abbrev after : List ℕ
  after = put_blocks new.blocks now

  news : HoldsTree after (frame_at s y.group) new.pointers y.plan.contents.objects
  news =
      planned-written now (frame_at s s.line.synced) (frame_at s y.group) new.blocks pointers new.pointers y.synced.objects y.plan.contents.objects refl refl later (omega arith) olds y.planned.planned no_others y.are y.leaves room

  -- each block of its tree is one of the tree before, or one that it takes
  pub kept_or_taken : (place : Place) → IsPlace place → new.pointers place ≢ no_pointer
      → IsInTree now s.root (new.pointers place).address ⊎ (is_in (new.pointers place).address (taken_of s.sync) ≡ true)
  kept_or_taken place in_range some =
      let address : ℕ = (new.pointers place).address in
      let there : IsInTree after (new.pointers Root) address = told-in_tree after (frame_at s y.group) new.pointers y.plan.contents.objects news place in_range some in
      elim (in-new_tree now after (frame_at s s.line.synced) (frame_at s y.group) new.blocks pointers new.pointers y.synced.objects y.plan.contents.objects olds news y.planned.planned y.leaves address there)
      as (λ _. IsInTree now s.root address ⊎ (is_in address (taken_of s.sync) ≡ true)) [
        | inl old ↦ inl (subst (λ (r : Pointer). IsInTree now r address) x.root old)
        | inr (i, b, at, is) ↦
            let taken : is_in address y.plan.taken ≡ true = at-in address y.plan.taken (i, ap (λ (l : List ℕ). slice_get l i) (sym y.planned.taken) ∙ map-at (λ (c : NewBlock). c.address) new.blocks i b at ∙ ap (λ (n : ℕ). Some n) is) in
            inr (ap (λ (o : Option SyncPlan). is_in address (taken_of o)) y.running ∙ taken)
      ]

  -- no block that it writes is a config
  pub not_config : (i : ℕ) (b : NewBlock) → slice_get new.blocks i ≡ Some b → number_at b.content 0 ≢ 1
  not_config i b at =
      let image : List ℕ = after in
      let old_frame : Frame = frame_at s s.line.synced in
      let frame : Frame = frame_at s y.group in
      let t = in-tree image frame new.pointers y.plan.contents.objects news b.address
      (new-in_tree now image old_frame frame new.blocks pointers new.pointers y.synced.objects y.plan.contents.objects olds news y.planned.planned y.leaves s.blocks y.are y.planned.used b.address (i, b, at, refl)) in
      let o = opens-at image frame new.pointers y.plan.contents.objects news t.0 t.1 t.3 in
      let stands : part image b.address block_size ≡ b.content = (new-stand s.blocks new.blocks now y.are room i b at).stands in
      let kind : number_at b.content 0 ≡ kind_of t.0 = ap (λ (l : List ℕ). number_at l 0) (sym stands) ∙ ap (λ (a : ℕ). number_at (part image a block_size) 0) (sym t.2) ∙ o.1.block.kind_is in
      λ same. no_config t.0 (sym kind ∙ same)

  -- its tree stands where its blocks do and the others of the area are as before
  pub tree_made : (image : List ℕ) → ((i : ℕ) (b : NewBlock) → slice_get new.blocks i ≡ Some b → part image b.address block_size ≡ b.content)
      → ((address : ℕ) → IsBlockAddress s.blocks address → IsUnwritten new.blocks address → part image address block_size ≡ part now address block_size)
      → HoldsTree image (frame_at s y.group) new.pointers y.plan.contents.objects
  tree_made image stand others =
      planned-holds now image (frame_at s s.line.synced) (frame_at s y.group) refl refl later (omega arith) new.blocks (λ i b at. record { in_area = y.are.in_area i b at; stands = stand i b at })
      pointers new.pointers y.synced.objects y.plan.contents.objects olds y.planned.planned
      (λ place in_range same some. elim (stored-placed now s pointers p x place in_range) as (λ _. part image (pointers place).address block_size ≡ part now (pointers place).address block_size) [
        | inl none ↦ absurd (some none)
        | inr area ↦ others (pointers place).address area (y.leaves place in_range some)
      ]) no_others

  -- no block that it writes is one of a tree with the same root
  pub not_in_tree : (frame : Frame) (old : Place → Pointer) (contents : Contents) → HoldsTree now frame old contents.objects → old Root ≡ s.root
      → (i : ℕ) (b : NewBlock) → slice_get new.blocks i ≡ Some b → (place : Place) → IsPlace place → old place ≢ no_pointer → b.address ≢ (old place).address
  not_in_tree frame old contents holds root i b at place in_range some same =
      let there : IsInTree now (pointers Root) (old place).address = subst (λ (r : Pointer). IsInTree now r (old place).address) (root ∙ sym x.root) (told-in_tree now frame old contents.objects holds place in_range some) in
      let t = in-tree now (frame_at s s.line.synced) pointers y.synced.objects olds (old place).address there in
      y.leaves t.0 t.1 t.3 i b at (same ∙ sym t.2)

-- The new view has the config of the label stages, which is of its group, or the one of before.
abbrev config_for : Option LabelStages → List ℕ → List ℕ
config_for None old = old
config_for (Some stages) old = stages.config

abbrev group_for : Option LabelStages → (old new : ℕ) → ℕ
group_for None old new = old
group_for (Some stages) old new = new

config_is : (o : Option LabelStages) (size guid group old : ℕ) (name synced given config : List ℕ) → name ≡ synced → WritesName (config_of o) size guid group synced given → IsConfigContent config size guid old name
    → IsConfigContent (config_for o config) size guid (group_for o old group) given
config_is None size guid group old name synced given config same named was = subst (λ (n : List ℕ). IsConfigContent config size guid old n) (same ∙ sym named) was
config_is (Some stages) size guid group old name synced given config same named was = named

group_within : (o : Option LabelStages) (old top group : ℕ) → old ≤ top → top < group → group_for o old group ≤ group
group_within None old top group low above = omega (arith, low, above)
group_within (Some stages) old top group low above = omega arith

-- the even labels come first, where label 1 has the config of before
has_config : (o : Option LabelStages) (size : ℕ) (s : Shown) (p : Past) (group : ℕ) (v : SyncViews) → v.fixed.config ≡ 1 → v.new.config ≡ config_for o v.old.config → v.new.config_group ≡ group_for o v.old.config_group group
    → v.old.u.group < group → WritesConfig o size s p group → HasConfigOf o v
has_config None size s p group v odd config of_group above w = config
has_config (Some stages) size s p group v odd config of_group above w =
    subst (λ (first : Stage). HasConfigOf (Some (record { config = stages.config; first = first })) v) (sym w.0) (even_first v stages.config odd (sym config) (omega (arith, of_group, above)))

-- and what counts could pass for no other config
known_for : (o : Option LabelStages) (size t : ℕ) (ws : List Write) (group : ℕ) (old new : View) → new.u.guid ≡ old.u.guid → new.config ≡ config_for o old.config → new.config_group ≡ group_for o old.config_group group → old.u.group < group
    → AreConfigsUpTo size t ws old.u.guid old.u.group (λ above content. ⊥) → AreConfigsKnown size t ws old → AreConfigsKnown size t ws new
known_for None size t ws group old new same config of_group above low known = configs_of_old size t ws old new same config of_group low known
known_for (Some stages) size t ws group old new same config of_group above low known =
    known_anew size t ws old.u.group new (omega (arith, of_group, above)) (subst (λ (guid : ℕ). AreConfigsUpTo size t ws guid old.u.group (λ over content. ⊥)) (sym same) low)

-- A sync that has made no call yet, on a disk at rest on the view of the synced group, whose config label 1 has.
module _ (disk : Disk) (s : Shown) (p : Past) (pointers tree : Place → Pointer) (run : SyncRun) (x : IsStored (bytes_of disk.now) s pointers p) (y : IsSyncing (bytes_of disk.now) s pointers (made_by tree run) p)
    (explained : AreTablesExplained s p) (places : AreDistinctPlaces (bytes_of disk.now) s) (sized : IsGeometry run.geometry) (long : length (bytes_of disk.now) ≡ run.geometry) (slot : run.slot ≡ slot_of y.group) (staged : WritesConfig run.stages run.geometry s p y.group)
    (flushed : ℕ) (old : View) (rest : IsAtRest run.geometry p.created flushed disk.now old) (is : IsViewOf flushed old s p s.line.synced s.root (header_now s.log))
    (odd : IsFixed disk.now (config_place run.geometry 1) old.config) (held : IsLogHeld run.geometry p.created flushed s.suspended disk.now old)
    (configs : AreConfigsUpTo run.geometry p.created (handed disk.now) s.guid s.line.synced (λ above content. ⊥)) where
  abbrev now : List ℕ
  now = bytes_of disk.now

  geometry : IsGeometry (length now)
  geometry = subst (λ (n : ℕ). IsGeometry n) (sym long) sized

  next : y.group ≡ s.line.synced + 1
  next = next_group now s p pointers (made_by tree run) x y explained geometry

  -- how many blocks of the log lie before the header of the sync
  cut : IsCutAt run.geometry flushed old s p y.plan.header
  cut = cut_at run.geometry flushed old s p s.line.synced s.root y.plan.header explained.exact.log.numbered rest.laid.view is y.header explained.exact.log.balanced (explained.exact.sync.balanced y.plan y.running)

  pieces : IsOpen written_version s.log.begun (drop cut.before old.logged)
  pieces = subst (λ (v : ℕ). IsOpen v s.log.begun (drop cut.before old.logged)) is.version_is cut.pieces

  abbrev new : View
  new = record {
    u = uberblock_of s y.group y.plan;
    slot = run.uberblock;
    config_group = group_for run.stages old.config_group y.group;
    name = y.plan.contents.name;
    config = config_for run.stages old.config;
    pointers = tree;
    synced = y.plan.contents;
    logged = drop cut.before old.logged;
  }

  abbrev views : SyncViews
  views = record {
    created = p.created;
    fixed = record { config = 1; config_below = omega arith; slot = rest.slot.label; slot_below = rest.slot.in_range };
    old = old;
    flushed = flushed;
    new = new;
    new_flushed = flushed - cut.before;
  }

  replayed : replay (entries_up_to y.group p.entries) p.base ≡ Ok y.plan.contents
  replayed = (explained.trees.planned y.group y.plan y.syncing y.running).replayed

  above : old.u.group < y.group
  above = omega (arith, is.group_is, next)

  -- the old view has the name of before
  old_name : old.name ≡ y.synced.name
  old_name =
      let same : Ok old.synced ≡ Ok y.synced = sym is.replayed ∙ y.replayed in
      let contents : old.synced ≡ y.synced = cc in
      sym rest.laid.view.name ∙ ap (λ (c : Contents). c.name) contents

  is_view : IsView run.geometry new
  is_view = record {
    geometry = sized;
    uberblock = y.slot;
    config = config_is run.stages run.geometry s.guid y.group old.config_group old.name y.synced.name y.plan.contents.name old.config old_name
        (subst (λ (n : ℕ). WritesName (config_of run.stages) n s.guid y.group y.synced.name y.plan.contents.name) long y.named)
        (subst (λ (g : ℕ). IsConfigContent old.config run.geometry g old.config_group old.name) is.guid rest.laid.view.config);
    not_above = group_within run.stages old.config_group old.u.group y.group rest.laid.view.not_above above;
    name = refl;
    root = y.planned.root;
    linked = subst (λ (guid : ℕ). AreLinked guid (block_count run.geometry) s.import_number y.plan.header (drop cut.before old.logged)) is.guid
        (subst (λ (chain : ℕ). AreLinked old.u.guid (block_count run.geometry) chain y.plan.header (drop cut.before old.logged)) is.import_is cut.linked);
    cut = open_cut written_version s.log.begun (drop cut.before old.logged) pieces;
  }

  -- a log block of the old view is one of the kept log
  logged_in : (j : ℕ) (l : Logged) → slice_get old.logged j ≡ Some l → IsInLog s.log l.block.address
  logged_in j l at =
      let within : j < length old.logged = slice_get_within old.logged j l at in
      let k = at_within (kept_from (header_now s.log) s.log) j (omega (arith, within, is.as_many)) in
      let i = at_filter (λ (b : KeptBlock). nat_le (header_now s.log).number b.number) s.log.kept j k.0 k.1 in
      inr (i.0, k.0, i.1, sym (is.blocks j k.0 l k.1 at).0)

  counted : s.blocks ≡ block_count run.geometry
  counted = x.blocks ∙ ap (λ (n : ℕ). block_count n) long

  placed : (i : ℕ) (b : NewBlock) → slice_get (map new_block run.blocks.items) i ≡ Some b → IsBlockAddress (block_count run.geometry) b.address
  placed i b at = subst (λ (n : ℕ). IsBlockAddress n b.address) counted (y.are.in_area i b at)

  spare : All (IsSpareBlock views) run.blocks.items
  spare = All-each (IsSpareBlock views) run.blocks.items (λ i b at.
      let stands = map-at new_block run.blocks.items i b at in
      record {
        not_config = not_config now s p pointers (made_by tree run) x y explained geometry i (new_block b) stands;
        not_log = y.not_log i (new_block b) stands;
        not_in_tree = not_in_tree now s p pointers (made_by tree run) x y explained geometry (view_frame run.geometry old) old.pointers old.synced rest.laid.firm.tree.holds
            (rest.laid.view.root ∙ is.root_is) i (new_block b) stands;
        not_logged = λ j l below there. y.log_apart l.block.address (logged_in j l there) i (new_block b) stands;
      })

  apart : All (IsApartFromLog old) run.blocks.items
  apart = All-each (IsApartFromLog old) run.blocks.items (λ i b at j l there. y.log_apart l.block.address (logged_in j l there) i (new_block b) (map-at new_block run.blocks.items i b at))

  makes_tree : (image : List ℕ) → length image ≡ length now → BlocksWritten now run.geometry run.blocks.items (vec_len run.blocks) image
      → HoldsTree image (view_frame run.geometry new) tree y.plan.contents.objects
  makes_tree image same written =
      let all : length run.blocks.items ≤ vec_len run.blocks = omega (arith, run.blocks.ok.0) in
      subst (λ (n : ℕ). HoldsTree image (record { version = written_version; guid = s.guid; blocks = n; group = y.group }) tree y.plan.contents.objects) counted
      (tree_made now s p pointers (made_by tree run) x y explained geometry image (written_stand now image run.geometry run.blocks.items (vec_len run.blocks) all written)
      (λ address area other. others_stay now image run.geometry run.blocks.items (vec_len run.blocks) same written placed address (subst (λ (n : ℕ). IsBlockAddress n address) counted area) other))

  leads : LeadsViews now run views
  leads = record {
    old_view = rest.laid.view;
    view = is_view;
    above = above;
    slot = slot;
    other_slot = λ same. let at : old.u.group ≡ s.line.synced = is.group_is in omega (arith, same, at, next);
    uberblock = refl;
    config = has_config run.stages run.geometry s p y.group views refl refl refl above staged;
    blocks = spare;
    tree = makes_tree;
    log = (
      (let fixed : flushed ≤ length old.logged = rest.laid.firm.log.0 in let long = length-drop cut.before old.logged in omega (arith, fixed, long)),
      λ i l at. (cut.before + i, drop-at cut.before old.logged i l at, λ below. omega (arith, below)),
    );
  }

  distinct : HasDistinctBlocks run
  distinct = distinct_blocks run.blocks.items (λ i j b c at_i at_j same.
      y.are.apart i j (new_block b) (new_block c) (map-at new_block run.blocks.items i b at_i) (map-at new_block run.blocks.items j c at_j) (ap (λ (n : ℕ). block_address n) same))

  before : IsBefore views run.geometry disk.now
  before = record {
    rest = record { rest = rest; config = odd; slot = rest.slot.fixed };
    configs = known_for run.stages run.geometry p.created (handed disk.now) y.group old new (sym is.guid) refl refl above
        (subst (λ (g : ℕ). AreConfigsUpTo run.geometry p.created (handed disk.now) g old.u.group (λ above content. ⊥)) (sym is.guid)
        (subst (λ (g : ℕ). AreConfigsUpTo run.geometry p.created (handed disk.now) s.guid g (λ above content. ⊥)) (sym is.group_is) configs)) rest.laid.configs;
    logs = logs_of_group run.geometry p.created cut.before (handed disk.now) old new rest.laid.view (sym is.guid) (sym is.import_is) cut.number_is cut.short refl rest.laid.logs;
  }

  new_is : IsViewOf (flushed - cut.before) new s p y.group y.plan.root y.plan.header
  new_is = record {
    guid = refl;
    group_is = refl;
    root_is = refl;
    import_is = refl;
    header_is = refl;
    replayed = replayed;
    as_many = cut.as_many;
    blocks = cut.blocks;
    flushed_are = λ i k at marked. let low : cut.before + i < flushed = cut.flushed_are i k at marked in omega (arith, low);
    goes_on = cut.goes_on;
    version_is = refl;
    pieces = pieces;
  }

  new_held : IsLogHeld run.geometry p.created (flushed - cut.before) s.suspended disk.now new
  new_held = held_from run.geometry p.created cut.before flushed old new (sym is.guid) (sym is.import_is) cut.number_is cut.short refl s.suspended disk.now held

  -- each block of the new tree is one of the old one or taken, and so is each that is written
  trees : AreSyncTrees now run views y.plan.taken
  trees = record {
    old = rest.laid.firm.tree.holds;
    new = λ place in_range some. elim (kept_or_taken now s p pointers (made_by tree run) x y explained geometry place in_range some) as (λ _. IsOfTree old (tree place).address ⊎ (is_in (tree place).address y.plan.taken ≡ true)) [
      | inl there ↦
          let t = in-tree now (view_frame run.geometry old) old.pointers old.synced.objects rest.laid.firm.tree.holds (tree place).address
          (subst (λ (r : Pointer). IsInTree now r (tree place).address) (sym (rest.laid.view.root ∙ is.root_is)) there) in
          inl (t.0, t.1, t.3, t.2)
      | inr taken ↦ inr (sym (ap (λ (o : Option SyncPlan). is_in (tree place).address (taken_of o)) y.running) ∙ taken)
    ];
    blocks = All-each (λ (b : PlannedBlock). is_in (block_address b.index) y.plan.taken ≡ true) run.blocks.items (λ i b at.
        at-in (block_address b.index) y.plan.taken
        (i, ap (λ (l : List ℕ). slice_get l i) (sym y.planned.taken) ∙ map-at (λ (c : NewBlock). c.address) (map new_block run.blocks.items) i (new_block b) (map-at new_block run.blocks.items i b at)));
  }

  -- both views have room for an import
  old_room : HasImportRoom (block_count run.geometry) old
  old_room = subst (λ (n : ℕ). HasImportRoom n old) counted
      (synced_has_room s p explained now x.free places flushed old (view_frame run.geometry old) rest.laid.firm.tree.holds (rest.laid.view.root ∙ is.root_is) is)

  new_room : HasImportRoom (block_count run.geometry) new
  new_room = subst (λ (n : ℕ). HasImportRoom n new) counted
      (syncing_has_room s p explained now x.free places (flushed - cut.before) new y.group y.plan y.syncing y.running (kept_or_taken now s p pointers (made_by tree run) x y explained geometry) new_is)

  -- So the disk is kept while the sync runs.
  pub started_kept : run.done ≡ 0 → run.done < call_count run → HasFairBytes run.geometry p.created disk.now → IsSyncOnDisk run disk s p
  started_kept begun left bytes = record {
    left = left;
    group = y.group;
    stages = staged;
    plan = y.plan;
    syncing = y.syncing;
    running = y.running;
    base = now;
    views = views;
    created = refl;
    odd = refl;
    way = begins_at_rest disk.now views run begun distinct leads before bytes;
    old_is = is;
    new_is = new_is;
    apart = apart;
    old_held = held;
    new_held = new_held;
    old_room = old_room;
    new_room = new_room;
    trees = trees;
    bytes = bytes;
    configs = configs_weaker run.geometry p.created (handed disk.now) s.guid s.line.synced s.line.synced (λ over content. ⊥) (IsSyncConfig run.geometry s p) (omega arith) (λ over content no_way. absurd no_way) configs;
  }
