-- What each device call of a sync keeps: quiet calls a pool at rest, and a write of the new uberblock leads between two
-- views.
use Rattle.std.proofs.Common.{◌≡◌, inl, inr, ℕ, ◌+◌, ◌<◌, ◌≤◌, Bool, List, length, arith}
use Rattle.std.specs.Prelude.{◌≢◌}
use Rattle.base.specs.formats.Geometry.{config_place, slot_place, slot_of}
use Rattle.base.specs.disk.Disk.{Moment, bytes_of, wrote, settled}
use Rattle.base.specs.disk.DiskCalls.{DiskCall}
use Rattle.base.specs.disk.DiskCalls.DiskCall.{Put, Settle}
use Rattle.base.specs.kept.Views.{View, IsFixed}
use Rattle.base.specs.kept.Own.{IsAtRest}
use Rattle.base.specs.kept.Spares.{Spares, SparesSlot}
use Rattle.base.specs.kept.CallStages.{FixedLabels, IsAtRestAt, SparesAt, IsQuiet, IsSlotCall, IsBetweenAt, IsSwitching}
use Rattle.base.proofs.disk.Moments.{bytes_may_be_left}
use Rattle.base.proofs.crash.KeptViews.{fixed_wrote, tree_block_rest, config_rest, first_slot, later_slot, fixed_settled, rest_settled}

-- a call keeps P, whatever it answers
abbrev KeepsCall : (Moment → Type 0) → DiskCall → Type 0
KeepsCall P (Put place content) = (moment : ℕ) (done : Bool) (m : Moment) → P m → P (wrote moment place content done m)
KeepsCall P Settle = (m : Moment) → P m → P (settled (bytes_of m) m)

-- a write within a device's size fits the bytes of each moment
write_fits : (size place n : ℕ) (m : Moment) → length (bytes_of m) ≡ size → place + n ≤ size → place + n ≤ length (bytes_of m)
write_fits size place n m long within = omega (arith, long, within)

module _ (size t flushed : ℕ) (at : FixedLabels) (v : View) where
  pub spares_of : (m : Moment) (place n : ℕ) → IsFixed m (config_place size at.config) v.config → SparesAt size flushed at v place n → Spares size flushed m v place n
  spares_of m place n fixed spares = record {
    config = record { label = at.config; in_range = at.config_below; fixed = fixed };
    not_config = spares.not_config;
    not_tree = spares.not_tree;
    not_log = spares.not_log;
  }

  pub slot_of_label : (m : Moment) (place n : ℕ) → IsFixed m (slot_place size at.slot (slot_of v.u.group)) v.slot → SparesAt size flushed at v place n → SparesSlot size m v place n
  slot_of_label m place n fixed spares = record { slot = record { label = at.slot; in_range = at.slot_below; fixed = fixed }; apart = spares.not_slot }

  -- quiet calls keep a pool at rest: the blocks and the flush of a sync, both label stages, and no call at all
  pub quiet_call : (c : DiskCall) → IsQuiet size flushed at v c → KeepsCall (IsAtRestAt size t flushed at v) c
  quiet_call Settle is = λ m rest. record {
    rest = rest_settled m (bytes_of m) (bytes_may_be_left m) size t flushed v rest.rest;
    config = fixed_settled m (bytes_of m) (bytes_may_be_left m) (config_place size at.config) v.config rest.config;
    slot = fixed_settled m (bytes_of m) (bytes_may_be_left m) (slot_place size at.slot (slot_of v.u.group)) v.slot rest.slot;
  }
  quiet_call (Put place content) is = λ moment done m rest.
      let fits = write_fits size place (length content) m rest.rest.laid.firm.size_is is.1.fits in
      record {
        rest = elim is.0 as (λ _. IsAtRest size t flushed (wrote moment place content done m) v) [
          | inl tree ↦ tree_block_rest moment place content done m fits size t flushed v tree (spares_of m place (length content) rest.config is.1) (slot_of_label m place (length content) rest.slot is.1) rest.rest
          | inr config ↦ config_rest moment place content done m fits size t flushed v config (spares_of m place (length content) rest.config is.1) (slot_of_label m place (length content) rest.slot is.1) rest.rest
        ];
        config = fixed_wrote moment place content done m fits (config_place size at.config) v.config is.1.not_config rest.config;
        slot = fixed_wrote moment place content done m fits (slot_place size at.slot (slot_of v.u.group)) v.slot is.1.not_slot rest.slot;
      }

-- The writes of the new uberblock.
module _ (size t flushed new_flushed new_config : ℕ) (at : FixedLabels) (old new : View) (above : old.u.group < new.u.group) (other_slot : slot_of old.u.group ≢ slot_of new.u.group) where
  pub slot_call : (place : ℕ) (content : List ℕ) → IsSlotCall size flushed new_flushed new_config at old new place content
      → (moment : ℕ) (done : Bool) (m : Moment) → IsSwitching size t flushed new_flushed new_config at old new m → IsBetweenAt size t flushed new_flushed new_config at old new (wrote moment place content done m)
  slot_call place content is moment done m (inl (rest, laid)) =
      let fits = write_fits size place (length content) m rest.rest.laid.firm.size_is is.old_spared.fits in
      record {
        between = first_slot moment place content done m fits size t flushed new_flushed old new is.content_is above other_slot
            (spares_of size t flushed at old m place (length content) rest.config is.old_spared) (slot_of_label size t flushed at old m place (length content) rest.slot is.old_spared)
            (record { config = record { label = new_config; in_range = laid.below; fixed = laid.fixed }; not_config = is.new_config_spared; not_tree = is.new_tree_spared; not_log = is.new_log_spared })
            rest.rest laid.laid;
        config = fixed_wrote moment place content done m fits (config_place size at.config) old.config is.old_spared.not_config rest.config;
        slot = fixed_wrote moment place content done m fits (slot_place size at.slot (slot_of old.u.group)) old.slot is.old_spared.not_slot rest.slot;
        below = laid.below;
        new_fixed = fixed_wrote moment place content done m fits (config_place size new_config) new.config is.new_config_spared laid.fixed;
      }
  slot_call place content is moment done m (inr b) =
      let fits = write_fits size place (length content) m b.between.old_laid.firm.size_is is.old_spared.fits in
      record {
        between = later_slot moment place content done m fits size t flushed new_flushed old new b.between is.content_is
            (spares_of size t flushed at old m place (length content) b.config is.old_spared) (slot_of_label size t flushed at old m place (length content) b.slot is.old_spared)
            (record { config = record { label = new_config; in_range = b.below; fixed = b.new_fixed }; not_config = is.new_config_spared; not_tree = is.new_tree_spared; not_log = is.new_log_spared });
        config = fixed_wrote moment place content done m fits (config_place size at.config) old.config is.old_spared.not_config b.config;
        slot = fixed_wrote moment place content done m fits (slot_place size at.slot (slot_of old.u.group)) old.slot is.old_spared.not_slot b.slot;
        below = b.below;
        new_fixed = fixed_wrote moment place content done m fits (config_place size new_config) new.config is.new_config_spared b.new_fixed;
      }
