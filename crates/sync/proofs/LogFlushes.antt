-- A flush of the log between two calls of a sync, and each flush of the sync itself: all log blocks of both views are
-- fixed, and the sync is under way with them.
use Rattle.std.proofs.Common.{◌≡◌, ℕ, List, [], Option, Some, None, Ok, false, refl, sym, subst, arith}
use Rattle.std.specs.Prelude.{All}
use Rattle.std.proofs.lemmas.Option.{slice_get_within}
use Rattle.base.specs.kept.LogRule.{AreLogBlocksStanding}
use Rattle.base.specs.disk.Calls.{Flushes}
use Rattle.base.specs.disk.Disk.{Disk, Moment, bytes_of, settled}
use Rattle.base.proofs.common.KeptLists.{All-at, All-each}
use Rattle.sync.specs.declared.run.LabelStages.{LabelStages}
use Rattle.sync.specs.declared.run.SyncRun.{SyncRun}
use Rattle.sync.specs.Phases.{HasConfigOf, HasPhase, HasPhaseOf, HoldsLogs, IsApartFromLog, IsSpareBlock, IsUnderWay, LeadsViews, SyncViews, all_flushed, calls_before_slots, new_config_label}
use Rattle.sync.proofs.HeldLogs.{logs_settled}
use Rattle.sync.proofs.MadeSlots.{first_slot, slots_stay}
use Rattle.sync.proofs.RaisedPhases.{phase_raised, phase_settled}
use Rattle.sync.proofs.SlotSteps.{flushed_now}
use Rattle.sync.proofs.Targets.{is_sound}

module _ (v : SyncViews) where
  config_raised : (o : Option LabelStages) → HasConfigOf o v → HasConfigOf o (all_flushed v)
  config_raised None has = has
  config_raised (Some stages) has = has

  pub label_raised : (o : Option LabelStages) → new_config_label v o ≡ new_config_label (all_flushed v) o
  label_raised None = refl
  label_raised (Some stages) = refl

  pub leads_raised : (base : List ℕ) (run : SyncRun) → All (IsApartFromLog v.old) run.blocks.items → LeadsViews base run v → LeadsViews base run (all_flushed v)
  leads_raised base run apart leads = record {
    old_view = leads.old_view;
    view = leads.view;
    above = leads.above;
    slot = leads.slot;
    other_slot = leads.other_slot;
    uberblock = leads.uberblock;
    config = config_raised run.stages leads.config;
    blocks = All-each (IsSpareBlock (all_flushed v)) run.blocks.items (λ k b at.
        let spare : IsSpareBlock v b = All-at (IsSpareBlock v) run.blocks.items k b leads.blocks at in
        let free : IsApartFromLog v.old b = All-at (IsApartFromLog v.old) run.blocks.items k b apart at in
        record { not_config = spare.not_config; not_log = spare.not_log; not_in_tree = spare.not_in_tree; not_logged = λ i l below there. free i l there });
    tree = leads.tree;
    log = (omega arith, λ i l at. let old = leads.log.1 i l at in (old.0, old.1, λ below. slice_get_within v.old.logged old.0 l old.1));
  }

  module _ (run : SyncRun) (m : Moment) where
    -- where nothing is unflushed, and each log block stands
    pub phase_raised_of : m.unflushed ≡ [] → AreLogBlocksStanding m v.old → AreLogBlocksStanding m v.new → HasPhaseOf run v m → HasPhaseOf run (all_flushed v) m
    phase_raised_of clean old_stand new_stand has =
        subst (λ (config : ℕ). HasPhase (all_flushed v) run.geometry (calls_before_slots run) config run.done m) (label_raised run.stages)
        (phase_raised v run.geometry (calls_before_slots run) (new_config_label v run.stages) m clean old_stand new_stand run.done has)

    pub way_raised : (base : List ℕ) → All (IsApartFromLog v.old) run.blocks.items → m.unflushed ≡ [] → AreLogBlocksStanding m v.old → AreLogBlocksStanding m v.new → IsUnderWay base v run m → IsUnderWay base (all_flushed v) run m
    way_raised base apart clean old_stand new_stand way = record {
      leads = leads_raised base run apart way.leads;
      distinct = way.distinct;
      unwritten = way.unwritten;
      made = way.made;
      phase = phase_raised_of clean old_stand new_stand way.phase;
    }

    -- after a flush
    pub way_settled : (base : List ℕ) → IsUnderWay base v run m → IsUnderWay base v run (settled (bytes_of m) m)
    way_settled base way =
        let sound = is_sound run way.leads.view.geometry in
        record {
          leads = way.leads;
          distinct = way.distinct;
          unwritten = way.unwritten;
          made = way.made;
          phase = phase_settled v run.geometry (calls_before_slots run) (new_config_label v run.stages) m run.done
              (λ first. slots_stay base (bytes_of m) run sound v way.leads way.made first way.unwritten) (λ later. first_slot base (bytes_of m) run sound v way.leads way.made later) way.phase;
        }

-- a flush of the log that answered Ok
pub log_flushed : (base : List ℕ) (before after : Disk) (v : SyncViews) (run : SyncRun) → HoldsLogs run v false before.now → Flushes before (Ok tt) after → IsUnderWay base v run before.now
    → IsUnderWay base (all_flushed v) run after.now × HoldsLogs run (all_flushed v) false after.now
log_flushed base before after v run holds flushes way =
    let m : Moment = before.now in
    subst (λ (n : Moment). IsUnderWay base (all_flushed v) run n × HoldsLogs run (all_flushed v) false n) (sym (flushed_now before after flushes)) (
      way_raised v run (settled (bytes_of m) m) base holds.apart refl (holds.old.stand refl) (holds.new.stand refl) (way_settled v run m base way),
      logs_settled run v m holds,
    )
