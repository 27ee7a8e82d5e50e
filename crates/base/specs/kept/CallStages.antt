-- What the device calls of a sync keep, in three stages: quiet ones in front, by which the old view stays at rest; the
-- writes of the new uberblock, between the two views; quiet ones after, at rest on the new view.
use Rattle.std.specs.Prelude.{ℕ, ◌≡◌, ◌≢◌, ◌≤◌, ◌<◌, ◌+◌, ◌⊎◌, ⊤, List, length, slice_get, Some}
use Rattle.base.specs.formats.Fields.{no_pointer}
use Rattle.base.specs.formats.Geometry.{block_size, config_place, slot_place, slot_of}
use Rattle.base.specs.tree.Places.{Place, IsPlace}
use Rattle.base.specs.disk.Disk.{Moment, Apart}
use Rattle.base.specs.disk.DiskCalls.{DiskCall}
use Rattle.base.specs.disk.DiskCalls.DiskCall.{Put, Settle}
use Rattle.base.specs.disk.Fairness.{IsCheckedPlace}
use Rattle.base.specs.kept.Views.{View, Logged, IsFixed, IsLaid}
use Rattle.base.specs.kept.Own.{IsAtRest, IsBetween}
use Rattle.base.specs.kept.Spares.{IsTreeContent, IsOtherConfig}

-- where a view has its fixed config and its fixed uberblock
pub record FixedLabels : Type 0 where
  pub config : ℕ
  pub config_below : config < 4
  pub slot : ℕ
  pub slot_below : slot < 4

-- at rest, with the config and the uberblock of these labels fixed
pub record IsAtRestAt (size t flushed : ℕ) (at : FixedLabels) (v : View) (m : Moment) : Type 0 where
  pub rest : IsAtRest size t flushed m v
  pub config : IsFixed m (config_place size at.config) v.config
  pub slot : IsFixed m (slot_place size at.slot (slot_of v.u.group)) v.slot

-- so many bytes are a whole place on the device, and have none of what a view fixes in these labels, in its tree and in
-- its flushed log
pub record SparesAt (size flushed : ℕ) (at : FixedLabels) (v : View) (place n : ℕ) : Type 0 where
  pub whole : IsCheckedPlace size place n
  pub fits : place + n ≤ size
  pub not_config : Apart place n (config_place size at.config) (length v.config)
  pub not_slot : Apart place n (slot_place size at.slot (slot_of v.u.group)) (length v.slot)
  pub not_tree : (p : Place) → IsPlace p → v.pointers p ≢ no_pointer → Apart place n (v.pointers p).address block_size
  pub not_log : (i : ℕ) (l : Logged) → i < flushed → slice_get v.logged i ≡ Some l → Apart place n l.block.address (length l.content)

-- a call that leaves a view as it lies: a flush, or a write of a block of a tree or of another config, apart from what
-- is fixed
abbrev pub IsQuiet : ℕ → ℕ → FixedLabels → View → DiskCall → Type 0
IsQuiet size flushed at v (Put place content) = (IsTreeContent content ⊎ IsOtherConfig size content v) × SparesAt size flushed at v place (length content)
IsQuiet size flushed at v Settle = ⊤

-- the new view is laid, with the config of this label fixed
pub record IsLaidAt (size t flushed config : ℕ) (v : View) (m : Moment) : Type 0 where
  pub laid : IsLaid size t flushed m v
  pub below : config < 4
  pub fixed : IsFixed m (config_place size config) v.config

-- a write of the new uberblock, apart from what both views fix
pub record IsSlotCall (size flushed new_flushed new_config : ℕ) (at : FixedLabels) (old new : View) (place : ℕ) (content : List ℕ) : Type 0 where
  pub content_is : content ≡ new.slot
  pub old_spared : SparesAt size flushed at old place (length content)
  pub new_config_spared : Apart place (length content) (config_place size new_config) (length new.config)
  pub new_tree_spared : (p : Place) → IsPlace p → new.pointers p ≢ no_pointer → Apart place (length content) (new.pointers p).address block_size
  pub new_log_spared : (i : ℕ) (l : Logged) → i < new_flushed → slice_get new.logged i ≡ Some l → Apart place (length content) l.block.address (length l.content)

-- before the first write of the new uberblock, and from then on
pub record IsBetweenAt (size t flushed new_flushed new_config : ℕ) (at : FixedLabels) (old new : View) (m : Moment) : Type 0 where
  pub between : IsBetween size t flushed new_flushed m old new
  pub config : IsFixed m (config_place size at.config) old.config
  pub slot : IsFixed m (slot_place size at.slot (slot_of old.u.group)) old.slot
  pub below : new_config < 4
  pub new_fixed : IsFixed m (config_place size new_config) new.config

abbrev pub IsSwitching : ℕ → ℕ → ℕ → ℕ → ℕ → FixedLabels → View → View → Moment → Type 0
IsSwitching size t flushed new_flushed new_config at old new m =
    (IsAtRestAt size t flushed at old m × IsLaidAt size t new_flushed new_config new m) ⊎ IsBetweenAt size t flushed new_flushed new_config at old new m
