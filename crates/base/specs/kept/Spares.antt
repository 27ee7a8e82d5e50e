-- Which writes leave a view as it lies: those apart from what is fixed of it, of bytes that could pass for nothing it
-- needs.
use Rattle.std.specs.Prelude.{ℕ, ◌≡◌, ◌≢◌, ◌<◌, ◌⊎◌, List, length, slice_get, Some}
use Rattle.base.specs.formats.Fields.{no_pointer, number_at}
use Rattle.base.specs.formats.Geometry.{block_size, config_place, slot_place, slot_of}
use Rattle.base.specs.tree.Places.{Place, IsPlace}
use Rattle.base.specs.disk.Disk.{Moment, Apart}
use Rattle.base.specs.kept.Views.{View, Logged, HasFixedConfig, HasFixedSlot}

-- so many bytes at a place have none of a fixed config, of the tree and of the flushed log of a view
pub record Spares (size flushed : ℕ) (m : Moment) (v : View) (place n : ℕ) : Type 0 where
  pub config : HasFixedConfig size m v
  pub not_config : Apart place n (config_place size config.label) (length v.config)
  pub not_tree : (p : Place) → IsPlace p → v.pointers p ≢ no_pointer → Apart place n (v.pointers p).address block_size
  pub not_log : (i : ℕ) (l : Logged) → i < flushed → slice_get v.logged i ≡ Some l → Apart place n l.block.address (length l.content)

-- and none of a fixed uberblock
pub record SparesSlot (size : ℕ) (m : Moment) (v : View) (place n : ℕ) : Type 0 where
  pub slot : HasFixedSlot size m v
  pub apart : Apart place n (slot_place size slot.label (slot_of v.u.group)) (length v.slot)

-- a block of a tree: neither a config nor a log block
pub record IsTreeContent (content : List ℕ) : Type 0 where
  pub long : length content ≡ block_size
  pub not_config : number_at content 0 ≢ 1
  pub not_log : number_at content 0 ≢ 6

-- a config of a group that is above the view's, or the view's own
abbrev pub IsOtherConfig : ℕ → List ℕ → View → Type 0
IsOtherConfig size content v = (length content ≡ block_size) × (number_at content 0 ≡ 1) × ((v.u.group < number_at content 16) ⊎ (content ≡ v.config))
