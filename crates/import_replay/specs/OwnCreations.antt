-- What a create hands to a disk, for crashes: that nothing else counts since it began, and that it stands as it was
-- handed.
use Rattle.std.specs.Prelude.{ℕ, ◌≡◌, ◌≤◌, ◌<◌, List, [], length}
use Rattle.std.specs.FinMap as map
use Rattle.base.specs.kept.Own.{AreFirstWrites}
use Rattle.base.specs.kept.Views.{View}
use Rattle.base.specs.disk.Disk.{Disk, HandedSince, bytes_of, handed, moments}
use Rattle.base.specs.formats.Fields.{no_pointer, part}
use Rattle.base.specs.formats.Geometry.{block_size, config_place, slot_of, slot_place}
use Rattle.base.specs.formats.Limits.{first_group}
use Rattle.base.specs.formats.Uberblocks.{slot_size}
use Rattle.base.specs.history.Contents.{Contents}
use Rattle.labels.specs.Configs.{config_block}
use Rattle.uberblocks.specs.Slots.{slot_bytes}
use Rattle.import_replay.specs.Creations.{first_config, first_uberblock}

-- the contents of a new pool of this name: no objects
abbrev pub first_contents : List ℕ → Contents
first_contents name = record { name = name; objects = map.empty }

-- the view of a new pool, on a device of so many bytes
abbrev pub first_view : List ℕ → ℕ → ℕ → ℕ → View
first_view name guid moment size = record {
  u = first_uberblock guid moment;
  slot = slot_bytes (first_uberblock guid moment);
  config_group = first_group;
  name = name;
  config = config_block (first_config name guid size);
  pointers = λ place. no_pointer;
  synced = first_contents name;
  logged = [];
}

-- of the writes since t each begins with zeros, or is the view's config or its uberblock; so far
pub record HasFirstWrites (t : ℕ) (v : View) (disk : Disk) : Type 0 where
  pub began : t ≤ moments disk
  pub first : AreFirstWrites t (handed disk.now) v

-- the calls from the old disk to the new one wrote zeros alone, or this config, or this uberblock
abbrev pub AddsZeros : Disk → Disk → Type 0
AddsZeros old new = (t : ℕ) (v : View) → HasFirstWrites t v old → HasFirstWrites t v new

abbrev pub AddsConfig : List ℕ → Disk → Disk → Type 0
AddsConfig config old new = (t : ℕ) (v : View) → v.config ≡ config → HasFirstWrites t v old → HasFirstWrites t v new

abbrev pub AddsSlot : List ℕ → Disk → Disk → Type 0
AddsSlot slot old new = (t : ℕ) (v : View) → v.slot ≡ slot → HasFirstWrites t v old → HasFirstWrites t v new

-- these n bytes were handed whole for a place since t, and stand there
pub record IsHandedAt (t place n : ℕ) (content : List ℕ) (disk : Disk) : Type 0 where
  pub since : HandedSince t (handed disk.now) place content
  pub long : length content ≡ n
  pub stands : part (bytes_of disk.now) place n ≡ content

-- the labels below n have this config so, on a device of so many bytes
abbrev pub AreConfigsHanded : ℕ → ℕ → ℕ → List ℕ → Disk → Type 0
AreConfigsHanded size n t config disk = (label : ℕ) → label < n → IsHandedAt t (config_place size label) block_size config disk

-- and this slot for the first group
abbrev pub AreSlotsHanded : ℕ → ℕ → ℕ → List ℕ → Disk → Type 0
AreSlotsHanded size n t slot disk = (label : ℕ) → label < n → IsHandedAt t (slot_place size label (slot_of first_group)) slot_size slot disk

-- a create that began at t has handed just what the view of its pool has
pub record IsFirstDisk (size t : ℕ) (v : View) (disk : Disk) : Type 0 where
  pub writes : HasFirstWrites t v disk
  pub configs : AreConfigsHanded size 4 t v.config disk
  pub slots : AreSlotsHanded size 4 t v.slot disk
