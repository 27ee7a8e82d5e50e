-- The device calls of a create, in order.
use Rattle.std.specs.Prelude.{ℕ, ◌≡◌, ◌+◌, List, [], ◌∷◌, ◌++◌, map}
use Rattle.std.specs.List.{range_with_len}
use Rattle.base.specs.disk.DiskCalls.{DiskCall, after_disk_calls}
use Rattle.base.specs.disk.DiskCalls.DiskCall.{Put, Settle}
use Rattle.base.specs.disk.Disk.{CrashLeaves, Disk, bytes_of}
use Rattle.base.specs.formats.Geometry.{block_address, block_count, block_size, config_place, label_place, slot_of, slot_place}
use Rattle.base.specs.formats.Labels.{Config}
use Rattle.base.specs.formats.Uberblocks.{Uberblock}
use Rattle.labels.specs.Configs.{config_block}
use Rattle.uberblocks.specs.Slots.{slot_bytes}
use Rattle.import_replay.specs.Cleared.{zeros}
use Rattle.import_replay.specs.Creations.{IsCreatedOn, IsNewPool, first_config, first_uberblock}

-- zeros over a label from its byte 16,384, where its name/value area begins, to its end
abbrev pub clear_tail : ℕ → ℕ → DiskCall
clear_tail size label = Put (label_place size label + 16384) (zeros 245760)

-- zeros over a block
abbrev pub clear_block : ℕ → DiskCall
clear_block k = Put (block_address k) (zeros block_size)

-- a config into a label, and an uberblock into its slot of a label
abbrev pub write_config : ℕ → Config → ℕ → DiskCall
write_config size config label = Put (config_place size label) (config_block config)

abbrev pub write_uberblock : ℕ → Uberblock → ℕ → DiskCall
write_uberblock size u label = Put (slot_place size label (slot_of u.group)) (slot_bytes u)

-- one call for each label, 0 to 3
abbrev pub each_label : (ℕ → DiskCall) → List DiskCall
each_label f = map f (range_with_len 0 4)

-- and one for each block, rising
abbrev pub each_block : ℕ → (ℕ → DiskCall) → List DiskCall
each_block size f = map f (range_with_len 0 (block_count size))

-- The ends of the labels and then all blocks are cleared, and a flush; the config of each label, and a flush; the
-- uberblock of each, and a flush.
abbrev pub create_calls : (size : ℕ) (name : List ℕ) (guid moment : ℕ) → List DiskCall
create_calls size name guid moment =
    each_label (clear_tail size) ++ each_block size clear_block ++ Settle ∷ []
    ++ each_label (write_config size (first_config name guid size)) ++ Settle ∷ []
    ++ each_label (write_uberblock size (first_uberblock guid moment)) ++ Settle ∷ []

-- A create made its calls: the disk then mounts a new pool and has all that a create writes, also after any crash.
pub record IsPoolCreated (size : ℕ) (name : List ℕ) (guid moment : ℕ) (old new : Disk) : Type 0 where
  pub created : IsCreatedOn (bytes_of new.now) name guid
  pub settled : CrashLeaves (λ image. IsCreatedOn image name guid) new.now
  pub written : CrashLeaves (λ image. IsNewPool image name guid moment) new.now
  pub called : new ≡ after_disk_calls (create_calls size name guid moment) old
