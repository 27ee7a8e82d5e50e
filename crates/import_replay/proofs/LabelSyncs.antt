-- How the sync of an import goes on, call by call.
use Rattle.std.proofs.Common.{◌≡◌, ◌≢◌, ◌⊎◌, inl, inr, ℕ, ◌+◌, ◌<◌, List, Option, Some, ◌∙◌, ap, subst, arith}
use Rattle.std.specs.Global.{Vec}
use Rattle.std.specs.Prelude.{vec_len}
use Rattle.std.proofs.lemmas.Bool.{cases_eq}
use Rattle.base.specs.declared.error.PoolError.{PoolError}
use Rattle.base.specs.disk.SyncOrder.{DeviceCall}
use Rattle.base.specs.disk.SyncOrder.DeviceCall.{Block, Config as ConfigCall, Uberblock as UberblockCall, Flush}
use Rattle.base.specs.formats.Uberblocks.{IsUberblock}
use Rattle.labels.specs.declared.stage.Stage.{Stage}
use Rattle.tree_plans.specs.declared.planner.PlannedBlock.{PlannedBlock}
use Rattle.uberblocks.specs.Slots.{fields_of, slot_bytes}
use Rattle.uberblocks.specs.declared.uberblock.Uberblock as declared
use Rattle.sync.specs.declared.run.LabelStages.{LabelStages}
use Rattle.sync.specs.declared.run.SyncRun.{SyncRun}
use Rattle.sync.specs.Calls.{refusal_of}
use Rattle.sync.specs.GroupLabels.{IsConfigFor, WritesUberblock, stages_for}
use Rattle.sync.specs.Runs.{SameSync, call_count, other_calls}
use Rattle.import_replay.specs.ImportRefusals.{IsSyncRefusal}
use Rattle.import_replay.specs.LabelSyncs.{AreApartIn, ImportWrites, IsGroupSync, import_writes}

-- a sync that begins with what a group writes is that of the group
pub begun : (size : ℕ) (name : List ℕ) (u : declared.Uberblock) (blocks : Vec PlannedBlock) (first : Stage) (run : SyncRun) → AreApartIn size blocks.items
    → run.geometry ≡ size → run.blocks ≡ blocks → run.uberblock ≡ slot_bytes (fields_of u) → WritesUberblock (fields_of u) run → run.stages ≡ stages_for u.guid u.group.0 size first (Some name)
    → IsConfigFor u.guid u.group.0 size name → IsGroupSync (import_writes size name u blocks) first run
begun size name u blocks first run apart geometry same bytes writes stages config = record {
  geometry = geometry;
  blocks = ap (λ (b : Vec PlannedBlock). b.items) same;
  distinct = apart.distinct;
  uberblock = bytes;
  slot = writes.slot;
  stages = stages;
  is_uberblock = subst (λ (b : List ℕ). IsUberblock b (fields_of u)) bytes writes.bytes;
  is_config = config;
}

-- it has calls left, if it has made none
pub sync_begins : (w : ImportWrites) (first : Stage) (run : SyncRun) → IsGroupSync w first run → run.done ≡ 0 → run.done < call_count run
sync_begins w first run is none = omega (arith, none, ap other_calls is.stages)

-- the sync goes on as it was
pub sync_goes_on : (w : ImportWrites) (first : Stage) (old new : SyncRun) → SameSync old new → IsGroupSync w first old → IsGroupSync w first new
sync_goes_on w first old new same is = record {
  geometry = same.geometry ∙ is.geometry;
  blocks = ap (λ b. b.items) same.blocks ∙ is.blocks;
  distinct = is.distinct;
  uberblock = same.uberblock ∙ is.uberblock;
  slot = same.slot ∙ is.slot;
  stages = same.stages ∙ is.stages;
  is_uberblock = is.is_uberblock;
  is_config = is.is_config;
}

-- the refusal of a call is that of the sync
pub sync_refused : (c : DeviceCall) (e : PoolError) → e ≡ refusal_of c → IsSyncRefusal e
sync_refused (Block k) e is = inl is
sync_refused (ConfigCall label) e is = inl is
sync_refused (UberblockCall label) e is = inl is
sync_refused Flush e is = inr is

-- after a call that was not the last, there are calls left
pub sync_left : (old new : SyncRun) → SameSync old new → old.done < call_count old → new.done ≡ old.done + 1 → (new.done ≡ call_count new → ⊥)
    → new.done < call_count new
sync_left old new same left done not_last = by_place (cases_eq new.done (call_count new))
  where
    count : call_count new ≡ call_count old
    count = ap (λ b. vec_len b + other_calls new.stages) same.blocks ∙ ap (λ (s : Option LabelStages). vec_len old.blocks + other_calls s) same.stages

    by_place : (new.done ≡ call_count new) ⊎ (new.done ≢ call_count new) → new.done < call_count new
    by_place (inl at_end) = absurd (not_last at_end)
    by_place (inr before) = omega (arith, count, before, done, left)
