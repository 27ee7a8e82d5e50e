-- A sync begins at rest on its old view, each call of it is of its phases, and it ends at rest on its new view.
use Rattle.std.proofs.Common.{◌≡◌, ◌∙◌, ◌⊎◌, ◌&&◌, inl, inr, ℕ, ◌+◌, ◌<◌, Bool, true, false, List, length, Option, Some, None, sym, subst, arith}
use Rattle.std.specs.Prelude.{if◌then◌else◌, nat_lt, slice_get}
use Rattle.base.specs.kept.Views.{AreSlotsKnown}
use Rattle.base.specs.disk.Disk.{Disk, EachMoment, Moment, bytes_of, handed}
use Rattle.base.specs.disk.Fairness.{HasFairBytes, IsFair, passes_check}
use Rattle.base.specs.formats.Fields.{part}
use Rattle.base.specs.formats.Geometry.{slot_of, slot_place}
use Rattle.base.specs.formats.Uberblocks.{IsUberblock, slot_size}
use Rattle.base.proofs.crash.FoundViews.{slot_known}
use Rattle.base.proofs.disk.Moments.{bytes_may_be_left}
use Rattle.base.specs.kept.SyncCalls.{stage_calls}
use Rattle.sync.specs.declared.run.LabelStages.{LabelStages}
use Rattle.sync.specs.declared.run.SyncRun.{SyncRun}
use Rattle.sync.specs.Calls.{calls_of}
use Rattle.sync.specs.Made.{HasDistinctBlocks, KeepsWritten}
use Rattle.sync.specs.Phases.{SyncViews, LeadsViews, HasNoNewSlot, HoldsLogs, IsBefore, IsBehind, IsLoggedPhase, IsSyncPhase, IsUnderWay, KeepsPhases, all_flushed, calls_before_slots, is_flush, new_config_label, views_after}
use Rattle.sync.specs.Runs.{SameSync, call_count, other_calls}
use Rattle.sync.proofs.Blocks.{nothing_made}
use Rattle.sync.proofs.LogFlushes.{leads_raised}
use Rattle.sync.proofs.PhaseSteps.{of_first, phase_now}

-- at rest on the old view no label has the uberblock of a higher group, since what a read gives is fair
no_new_slot : (m : Moment) (v : SyncViews) (run : SyncRun) → LeadsViews (bytes_of m) run v → IsBefore v run.geometry m → HasFairBytes run.geometry v.created m → HasNoNewSlot (bytes_of m) run.geometry v
no_new_slot m v run leads before bytes label below stands = elim known as (λ _. ⊥) [
  | inl lower ↦ omega (arith, lower, leads.above)
  | inr same ↦
      let as_old : IsUberblock here v.old.u = subst (λ (l : List ℕ). IsUberblock l v.old.u) (sym same) before.rest.rest.laid.view.uberblock in
      let one : v.new.u.group ≡ v.old.u.group = sym is.group ∙ as_old.group in
      omega (arith, one, leads.above)
]
  where
    long : length (bytes_of m) ≡ run.geometry
    long = bytes.size_is

    here : List ℕ
    here = part (bytes_of m) (slot_place (length (bytes_of m)) label (slot_of v.new.u.group)) slot_size

    is : IsUberblock here v.new.u
    is = subst (λ (n : ℕ). IsUberblock (part (bytes_of m) (slot_place n label (slot_of v.new.u.group)) slot_size) v.new.u) (sym long) (subst (λ (l : List ℕ). IsUberblock l v.new.u) (sym stands) leads.view.uberblock)

    known : (v.new.u.group < v.old.u.group) ⊎ (here ≡ v.old.slot)
    known = slot_known v.created m (bytes_of m) (bytes_may_be_left m) (subst (λ (n : ℕ). IsFair (passes_check n) v.created (handed m) (bytes_of m)) (sym long) bytes.fair) v.old.u.group (λ c. c ≡ v.old.slot)
        (subst (λ (n : ℕ). AreSlotsKnown n v.created (handed m) v.old.u.group (λ c. c ≡ v.old.slot)) (sym long) before.rest.rest.slots) label v.new.u below is

pub begins_at_rest : (m : Moment) (v : SyncViews) (run : SyncRun) → run.done ≡ 0 → HasDistinctBlocks run → LeadsViews (bytes_of m) run v → IsBefore v run.geometry m → HasFairBytes run.geometry v.created m → IsUnderWay (bytes_of m) v run m
begins_at_rest m v run none distinct leads before bytes = record {
  leads = leads;
  distinct = distinct;
  unwritten = no_new_slot m v run leads before bytes;
  made = nothing_made (bytes_of m) run none;
  phase = of_first v run.geometry (calls_before_slots run) (new_config_label v run.stages) run.done m (omega (arith, none)) before;
}

-- a sync that is under way is in one of its phases
pub in_phase : (base : List ℕ) (m : Moment) (v : SyncViews) (run : SyncRun) → IsUnderWay base v run m → IsSyncPhase run v m
in_phase base m v run way = phase_now v run m way.phase

-- the last call comes after the uberblocks
pub ends_at_rest : (base : List ℕ) (m : Moment) (v : SyncViews) (run : SyncRun) → run.done ≡ call_count run → IsUnderWay base v run m → IsBehind v run.geometry (new_config_label v run.stages) m
ends_at_rest base m v run all way = way.phase.behind (omega (arith, all, behind run.stages))
  where
    behind : (stages : Option LabelStages) → 1 + stage_calls stages + 4 < other_calls stages
    behind None = omega arith
    behind (Some stages) = omega arith

-- the same sync leads between the same views
pub leads_on : (base : List ℕ) (old new : SyncRun) (v : SyncViews) → SameSync old new → LeadsViews base old v → LeadsViews base new v
leads_on base old new v same leads = record {
  old_view = rw same.geometry leads.old_view;
  view = rw same.geometry leads.view;
  above = leads.above;
  slot = same.slot ∙ leads.slot;
  other_slot = leads.other_slot;
  uberblock = rw same.uberblock leads.uberblock;
  config = rw same.stages leads.config;
  blocks = rw same.blocks leads.blocks;
  tree = rw (same.geometry, same.blocks) leads.tree;
  log = leads.log;
}

pub keeps_phases : (base : List ℕ) (before after : Disk) (v : SyncViews) (old new : SyncRun) → SameSync old new → KeepsWritten old new before.now after.now → KeepsPhases old new before after
    → IsUnderWay base v old before.now → EachMoment (IsSyncPhase old v) before after × IsUnderWay base v new after.now
keeps_phases base before after v old new same written kept way =
    let call = kept.phases base v way.leads way.made way.phase in (
      call.0,
      record {
        leads = leads_on base old new v same way.leads;
        distinct = rw same.blocks way.distinct;
        unwritten = rw same.geometry way.unwritten;
        made = written.made way.distinct base way.made;
        phase = call.1;
      },
    )

-- the logs are held from call to call
pub holds_logs : (base : List ℕ) (before after : Disk) (v : SyncViews) (old new : SyncRun) → SameSync old new → KeepsWritten old new before.now after.now → KeepsPhases old new before after
    → IsUnderWay base v old before.now → HoldsLogs old v false before.now
    → EachMoment (λ m. IsLoggedPhase old v m ⊎ IsLoggedPhase old (views_after old new v) m) before after
    × (IsUnderWay base (views_after old new v) new after.now × HoldsLogs new (views_after old new v) false after.now)
holds_logs base before after v old new same written kept way holds =
    let call = kept.logs base v way.leads way.made way.phase holds in (
      call.0,
      (
        record {
          leads = leads_after (is_flush (slice_get (calls_of old) old.done) && nat_lt old.done new.done);
          distinct = rw same.blocks way.distinct;
          unwritten = unwritten_after (is_flush (slice_get (calls_of old) old.done) && nat_lt old.done new.done);
          made = written.made way.distinct base way.made;
          phase = call.1.0;
        },
        call.1.1,
      ),
    )
  where
    leads_after : (b : Bool) → LeadsViews base new (if b then all_flushed v else v)
    leads_after true = leads_raised v base new (rw same.blocks holds.apart) (leads_on base old new v same way.leads)
    leads_after false = leads_on base old new v same way.leads

    unwritten_after : (b : Bool) → HasNoNewSlot base new.geometry (if b then all_flushed v else v)
    unwritten_after true = rw same.geometry way.unwritten
    unwritten_after false = rw same.geometry way.unwritten
