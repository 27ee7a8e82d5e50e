-- A flush in each phase of a sync: at rest on the old view before the uberblocks, at rest on the new one after the
-- first of them. Once nothing is unflushed all log blocks that stand are fixed.
use Rattle.std.proofs.Common.{◌≡◌, inl, inr, ℕ, ◌-◌, ◌<◌, [], length, refl, ◌∙◌, ap, arith}
use Rattle.base.specs.kept.CallStages.{FixedLabels, IsAtRestAt, IsBetweenAt, IsLaidAt, IsSwitching}
use Rattle.base.specs.kept.LogRule.{AreLogBlocksStanding}
use Rattle.base.specs.kept.Views.{View}
use Rattle.base.specs.disk.Disk.{Moment, bytes_of, settled}
use Rattle.base.specs.formats.Fields.{part}
use Rattle.base.specs.formats.Geometry.{config_place, slot_of, slot_place}
use Rattle.base.specs.formats.Uberblocks.{slot_size}
use Rattle.base.proofs.crash.KeptViews.{between_new, between_old, fixed_settled, laid_settled, rest_settled}
use Rattle.base.proofs.crash.LogCalls.{all_fixed, all_fixed_between, all_fixed_laid}
use Rattle.base.proofs.disk.Moments.{bytes_may_be_left}
use Rattle.sync.specs.Phases.{HasNoNewSlot, HasPhase, IsBetweenOrSwitched, SyncViews, all_flushed}
use Rattle.sync.proofs.PhaseSteps.{before_settled, behind_settled}

module _ (v : SyncViews) (size before config : ℕ) (m : Moment) where
  abbrev after : Moment
  after = settled (bytes_of m) m

  rest_after : (flushed : ℕ) (at : FixedLabels) (w : View) → IsAtRestAt size v.created flushed at w m → IsAtRestAt size v.created flushed at w after
  rest_after flushed at w rest = record {
    rest = rest_settled m (bytes_of m) (bytes_may_be_left m) size v.created flushed w rest.rest;
    config = fixed_settled m (bytes_of m) (bytes_may_be_left m) (config_place size at.config) w.config rest.config;
    slot = fixed_settled m (bytes_of m) (bytes_may_be_left m) (slot_place size at.slot (slot_of w.u.group)) w.slot rest.slot;
  }

  laid_after : IsLaidAt size v.created v.new_flushed config v.new m → IsLaidAt size v.created v.new_flushed config v.new after
  laid_after laid = record {
    laid = laid_settled m (bytes_of m) (bytes_may_be_left m) size v.created v.new_flushed v.new laid.laid;
    below = laid.below;
    fixed = fixed_settled m (bytes_of m) (bytes_may_be_left m) (config_place size config) v.new.config laid.fixed;
  }

  -- where the new uberblock stands in no label, it is at rest on the old view again
  switching_after : HasNoNewSlot (bytes_of m) size v → IsSwitching size v.created v.flushed v.new_flushed config v.fixed v.old v.new m → IsSwitching size v.created v.flushed v.new_flushed config v.fixed v.old v.new after
  switching_after none (inl (rest, laid)) = inl (rest_after v.flushed v.fixed v.old rest, laid_after laid)
  switching_after none (inr b) = inl (
    record {
      rest = between_old m (bytes_of m) (bytes_may_be_left m) size v.created v.flushed v.new_flushed v.old v.new b.between none;
      config = fixed_settled m (bytes_of m) (bytes_may_be_left m) (config_place size v.fixed.config) v.old.config b.config;
      slot = fixed_settled m (bytes_of m) (bytes_may_be_left m) (slot_place size v.fixed.slot (slot_of v.old.u.group)) v.old.slot b.slot;
    },
    laid_after (record { laid = b.between.new_laid; below = b.below; fixed = b.new_fixed }),
  )

  -- where it stands in the first label, it is switched
  later_after : (written : ℕ) → 0 < written → part (bytes_of m) (slot_place size 0 (slot_of v.new.u.group)) slot_size ≡ v.new.slot → IsBetweenOrSwitched v size config written m → IsBetweenOrSwitched v size config written after
  later_after written some stands (inl b) = inr (record {
    labels = record { config = config; config_below = b.below; slot = 0; slot_below = omega arith };
    config_is = refl;
    slot_below = some;
    rest = record {
      rest = between_new m (bytes_of m) (bytes_may_be_left m) size v.created v.flushed v.new_flushed v.old v.new b.between 0 (omega arith) stands;
      config = fixed_settled m (bytes_of m) (bytes_may_be_left m) (config_place size config) v.new.config b.new_fixed;
      slot = record {
        settled = λ i from to touched. touched;
        stands = ap (λ (n : ℕ). part (bytes_of m) (slot_place size 0 (slot_of v.new.u.group)) n) b.between.new_laid.view.uberblock.size ∙ stands;
      };
    };
  })
  later_after written some stands (inr s) = inr (record { labels = s.labels; config_is = s.config_is; slot_below = s.slot_below; rest = rest_after v.new_flushed s.labels v.new s.rest })

  pub phase_settled : (done : ℕ) → (done ≡ before → HasNoNewSlot (bytes_of m) size v) → (before < done → part (bytes_of m) (slot_place size 0 (slot_of v.new.u.group)) slot_size ≡ v.new.slot)
      → HasPhase v size before config done m → HasPhase v size before config done after
  phase_settled done none stands has = record {
    first = λ below. before_settled v size m (has.first below);
    switching = λ same. switching_after (none same) (has.switching same);
    between = λ from to. later_after (done - before) (omega (arith, from)) (stands from) (has.between from to);
    stands = has.stands;
    behind = λ from. behind_settled v size config m (has.behind from);
  }

  -- all log blocks of a view that stand are fixed
  module _ (clean : m.unflushed ≡ []) (old_stand : AreLogBlocksStanding m v.old) (new_stand : AreLogBlocksStanding m v.new) where
    abbrev all : SyncViews
    all = all_flushed v

    rest_raised : (flushed : ℕ) (at : FixedLabels) (w : View) → AreLogBlocksStanding m w → IsAtRestAt size v.created flushed at w m → IsAtRestAt size v.created (length w.logged) at w m
    rest_raised flushed at w stand rest = record { rest = all_fixed size v.created flushed m w clean stand rest.rest; config = rest.config; slot = rest.slot }

    between_raised : IsBetweenAt size v.created v.flushed v.new_flushed config v.fixed v.old v.new m → IsBetweenAt size v.created all.flushed all.new_flushed config v.fixed v.old v.new m
    between_raised b = record {
      between = all_fixed_between size v.created v.flushed v.new_flushed m v.old v.new clean old_stand new_stand b.between;
      config = b.config;
      slot = b.slot;
      below = b.below;
      new_fixed = b.new_fixed;
    }

    switching_raised : IsSwitching size v.created v.flushed v.new_flushed config v.fixed v.old v.new m → IsSwitching size v.created all.flushed all.new_flushed config v.fixed v.old v.new m
    switching_raised (inl (rest, laid)) = inl (
      rest_raised v.flushed v.fixed v.old old_stand rest,
      record { laid = all_fixed_laid size v.created v.new_flushed m v.new clean new_stand laid.laid; below = laid.below; fixed = laid.fixed },
    )
    switching_raised (inr b) = inr (between_raised b)

    later_raised : (written : ℕ) → IsBetweenOrSwitched v size config written m → IsBetweenOrSwitched all size config written m
    later_raised written (inl b) = inl (between_raised b)
    later_raised written (inr s) = inr (record { labels = s.labels; config_is = s.config_is; slot_below = s.slot_below; rest = rest_raised v.new_flushed s.labels v.new new_stand s.rest })

    pub phase_raised : (done : ℕ) → HasPhase v size before config done m → HasPhase all size before config done m
    phase_raised done has = record {
      first = λ below. let b = has.first below in record { rest = rest_raised v.flushed v.fixed v.old old_stand b.rest; configs = b.configs; logs = b.logs };
      switching = λ same. switching_raised (has.switching same);
      between = λ from to. later_raised (done - before) (has.between from to);
      stands = has.stands;
      behind = λ from. let b = has.behind from in record { labels = b.labels; config_is = b.config_is; rest = rest_raised v.new_flushed b.labels v.new new_stand b.rest };
    }
