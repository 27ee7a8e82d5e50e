-- What the sync of an import writes.
use Rattle.std.specs.Prelude.{ℕ, ◌≡◌, ◌<◌, All, Bool, true, false, List, [], ◌∷◌, ◌++◌, Some, if◌then◌else◌, length, map, nat_eq}
use Rattle.std.specs.Global.{Vec}
use Rattle.std.specs.List.{IsDistinct}
use Rattle.base.specs.disk.DiskCalls.{DiskCall, after_disk_calls}
use Rattle.base.specs.disk.DiskCalls.DiskCall.{Put, Settle}
use Rattle.base.specs.disk.Disk.{Disk, bytes_of}
use Rattle.base.specs.disk.SyncOrder.{in_sync_order}
use Rattle.base.specs.formats.Geometry.{block_address, block_count, slot_of}
use Rattle.base.specs.formats.Labels.{Config, even_labels, odd_labels}
use Rattle.base.specs.formats.Uberblocks.{Uberblock, IsUberblock}
use Rattle.labels.specs.Configs.{IsConfigBlock, config_block}
use Rattle.labels.specs.declared.stage.Stage.{Stage}
use Rattle.labels.specs.declared.stage.Stage.TheVariants.{Even, Odd}
use Rattle.tree_plans.specs.declared.planner.PlannedBlock.{PlannedBlock}
use Rattle.uberblocks.specs.Slots.{fields_of, slot_bytes}
use Rattle.uberblocks.specs.declared.uberblock.Uberblock as declared
use Rattle.sync.specs.GroupLabels.{config_for}
use Rattle.sync.specs.Made.{BlocksWritten}
use Rattle.sync.specs.declared.run.SyncRun.{SyncRun}
use Rattle.import_replay.specs.CreateCalls.{each_label, write_config, write_uberblock}
use Rattle.import_replay.specs.Labelled.{HasOtherSlots, HoldLabels}

-- whether a stage is that of the even labels
abbrev pub is_even : Stage → Bool
is_even Even = true
is_even Odd = false

-- what the sync of an import writes on a device of so many bytes: these blocks, and this config and this uberblock into
-- each label
pub record ImportWrites : Type 0 where
  pub size : ℕ
  pub config : Config
  pub u : Uberblock
  pub blocks : List PlannedBlock

-- the same of values of the engine: the config is that of the uberblock's group, with this name
abbrev pub import_writes : ℕ → List ℕ → declared.Uberblock → Vec PlannedBlock → ImportWrites
import_writes size name u blocks = record { size = size; config = config_for u.guid u.group.0 size name; u = fields_of u; blocks = blocks.items }

-- the blocks lie in the area of a device of so many bytes, and no two have one place
pub record AreApartIn (size : ℕ) (blocks : List PlannedBlock) : Type 0 where
  pub in_area : All (λ (b : PlannedBlock). b.index < block_count size) blocks
  pub distinct : IsDistinct nat_eq (map (λ (b : PlannedBlock). b.index) blocks)

-- the write of a block at its address
abbrev pub write_block : PlannedBlock → DiskCall
write_block b = Put (block_address b.index) b.block

-- a label stage: the config into each of these labels, and a flush
abbrev pub write_stage : ImportWrites → List ℕ → List DiskCall
write_stage w labels = map (write_config w.size w.config) labels ++ Settle ∷ []

-- what it writes, in the order of a sync
abbrev pub calls_in_stages : ImportWrites → (first last : List ℕ) → List DiskCall
calls_in_stages w first last = in_sync_order Settle (map write_block w.blocks) (write_stage w first) (each_label (write_uberblock w.size w.u)) (write_stage w last)

-- the calls of such a sync
abbrev pub calls_of_import : ImportWrites → Bool → List DiskCall
calls_of_import w even_first = if even_first then calls_in_stages w even_labels odd_labels else calls_in_stages w odd_labels even_labels

-- a sync that writes this, with this stage of the labels first
pub record IsGroupSync (w : ImportWrites) (first : Stage) (run : SyncRun) : Type 0 where
  pub geometry : run.geometry ≡ w.size
  pub blocks : run.blocks.items ≡ w.blocks
  pub distinct : IsDistinct nat_eq (map (λ (b : PlannedBlock). b.index) w.blocks)
  pub uberblock : run.uberblock ≡ slot_bytes w.u
  pub slot : run.slot ≡ slot_of w.u.group
  pub stages : run.stages ≡ Some (record { config = config_block w.config; first = first })
  pub is_uberblock : IsUberblock (slot_bytes w.u) w.u
  pub is_config : IsConfigBlock (config_block w.config) w.size w.config

-- The group was synced: the disk is what these calls make of the one before. Each label has the config and the
-- uberblock, and the other slots are as they were. The blocks stand in their places, all other blocks are as they were,
-- and nothing is unflushed.
pub record IsGroupSynced (w : ImportWrites) (even_first : Bool) (old new : Disk) : Type 0 where
  pub synced : new ≡ after_disk_calls (calls_of_import w even_first) old
  pub labelled : HoldLabels w.size w.config w.u (bytes_of new.now)
  pub other_slots : HasOtherSlots w.size w.u.group (bytes_of old.now) (bytes_of new.now)
  pub length_is : length (bytes_of new.now) ≡ length (bytes_of old.now)
  pub blocks_written : BlocksWritten (bytes_of old.now) w.size w.blocks (length w.blocks) (bytes_of new.now)
  pub settled : new.now.unflushed ≡ []
