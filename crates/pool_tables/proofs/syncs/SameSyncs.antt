-- A sync that goes on as it was.
use Rattle.std.proofs.Common.{◌≡◌, ◌∙◌, ◌<◌, ◌+◌, ◌-◌, ◌⊎◌, inl, inr, ℕ, false, List, length, map, vec_len, refl, ap, sym, subst, arith}
use Rattle.std.proofs.Math.Logic.{∥∥₁_map}
use Rattle.std.proofs.lemmas.Bool.{cases_lt, true≢false}
use Rattle.std.specs.Prelude.{Option, Some, None, is_some, option_map}
use Rattle.std.specs.Global.{Vec}
use Rattle.std.specs.Option.{option_map_or}
use Rattle.base.specs.declared.error.PoolError.{PoolError}
use Rattle.base.specs.declared.error.PoolError.TheVariants as error
use Rattle.base.specs.declared.pointer.Pointer.{Pointer}
use Rattle.base.specs.formats.Geometry.{block_address, block_count}
use Rattle.base.specs.disk.SyncOrder.{DeviceCall}
use Rattle.base.specs.disk.SyncOrder.DeviceCall.{Block, Config, Uberblock, Flush}
use Rattle.base.specs.formats.Uberblocks.{Uberblock as Fields, IsUberblock}
use Rattle.base.specs.history.Contents.{Contents}
use Rattle.intent_log.specs.Kept.{header_fields}
use Rattle.sync.specs.Calls.{refusal_of}
use Rattle.tree_plans.specs.declared.planner.PlannedBlock.{PlannedBlock}
use Rattle.base.specs.tree.Places.{IsPlace, Place}
use Rattle.base.specs.kept.PlacedTrees.{ArePlaced, IsPlaced}
use Rattle.sync.specs.declared.run.SyncRun.{SyncRun}
use Rattle.tree_blocks.specs.declared.tree.Tree.{Tree}
use Rattle.pool_tables.specs.declared.pool.RunningSync.{RunningSync}
use Rattle.pool_tables.specs.Shows.{plan_of}
use Rattle.unsynced_extents.specs.Unsynced.{name_at}
use Rattle.sync.specs.Runs.{SameSync, call_count, other_calls}
use Rattle.throttle.specs.DirtyBytes.{total_of}
use Rattle.pool_tables.specs.declared.pool.PoolTables.{PoolTables}
use Rattle.pool_tables.specs.Accounts.{IsFreeSetOf}
use Rattle.pool_tables.specs.Told.{tree_after}
use Rattle.pool_tables.specs.Running.{IsRunning}
use Rattle.sync.specs.GroupLabels.{WritesUberblock}
use Rattle.pool_tables.specs.RunningUberblocks.{uberblock_with}

pub same_count : (old new : SyncRun) → SameSync old new → call_count new ≡ call_count old
same_count old new same = omega (arith, ap vec_len same.blocks, ap other_calls same.stages)

-- the sync that is kept
pub kept_sync : (a b : RunningSync) → Some a ≡ Some b → a ≡ b
kept_sync a b e = cc

-- a sync whose next call was refused has as many left
pub left_as_before : (old new : SyncRun) → SameSync old new → new.done ≡ old.done → old.done < call_count old → new.done < call_count new
left_as_before old new same done left = let count = same_count old new same in omega arith

-- there is none where none runs
pub none_running : (sync : Option RunningSync) (r : RunningSync) → is_some sync ≡ false → sync ≡ Some r → ⊥
none_running sync r none is = true≢false (ap (λ (o : Option RunningSync). is_some o) (sym is) ∙ none)

-- nor has one a plan, on whichever tree
pub none_planned : (old new : Tree) (contents : Contents) (sync : Option RunningSync) → is_some sync ≡ false
    → option_map (plan_of old contents) sync ≡ option_map (plan_of new contents) sync
none_planned old new contents None none = refl
none_planned old new contents (Some r) none = absurd (true≢false none)

-- pointers that are told otherwise are placed as well
pub placed_after : (blocks : ℕ) (old new : Place → Pointer) → ((place : Place) → IsPlace place → new place ≡ old place) → ∥ ArePlaced blocks old ∥₁ → ∥ ArePlaced blocks new ∥₁
placed_after blocks old new same placed =
    ∥∥₁_map {A = ArePlaced blocks old} {B = ArePlaced blocks new} placed (λ at. λ place is. subst (IsPlaced blocks) (sym (same place is)) (at place is))

-- after a call that was made one less is left
pub one_less : (old new : SyncRun) → SameSync old new → new.done ≡ old.done + 1 → call_count new - new.done ≡ call_count old - old.done - 1
one_less old new same done = let count = same_count old new same in omega arith

-- after a refused one as many
pub as_many : (old new : SyncRun) → SameSync old new → new.done ≡ old.done → call_count new - new.done ≡ call_count old - old.done
as_many old new same done = let count = same_count old new same in omega arith

-- where it was not the last one there is one more
pub more_left : (old new : SyncRun) → SameSync old new → new.done ≡ old.done + 1 → old.done < call_count old → (new.done ≡ call_count new → ⊥)
    → (1 < call_count old - old.done) × (new.done < call_count new)
more_left old new same done left not_last =
    let count = same_count old new same in
    elim (cases_lt (old.done + 1) (call_count old)) as (λ _. (1 < call_count old - old.done) × (new.done < call_count new)) [
      | inl low ↦ (omega arith, omega arith)
      | inr high ↦ let last : new.done ≡ call_count new = omega arith in absurd (not_last last)
    ]

-- and where it was, one was left
pub one_left : (old new : SyncRun) → SameSync old new → new.done ≡ old.done + 1 → new.done ≡ call_count new → call_count old - old.done ≡ 1
one_left old new same done last = let count = same_count old new same in omega arith

-- the blocks that it writes lie where they did
pub same_taken : (old new : SyncRun) → SameSync old new → map (λ (b : PlannedBlock). block_address b.index) new.blocks.items ≡ map (λ (b : PlannedBlock). block_address b.index) old.blocks.items
same_taken old new same = ap (λ (v : Vec PlannedBlock). map (λ (b : PlannedBlock). block_address b.index) v.items) same.blocks

-- how many blocks the running sync took, 0 where none runs
abbrev pub taken_count : Option RunningSync → ℕ
taken_count sync = option_map_or (λ (r : RunningSync). length r.run.blocks.items) sync 0

-- after a call it has as many
same_taken_count : (sync : Option RunningSync) (r : RunningSync) (new : SyncRun) → SameSync r.run new → sync ≡ Some r → taken_count sync ≡ length new.blocks.items
same_taken_count sync r new same is = ap taken_count is ∙ ap (λ (v : Vec PlannedBlock). length v.items) (sym same.blocks)

-- so they are counted in the free set as they were
pub counted_still : (pool : PoolTables) (r : RunningSync) (new : SyncRun) → SameSync r.run new → pool.sync ≡ Some r → IsFreeSetOf (block_count pool.geometry) (length new.blocks.items) (total_of pool.dirty) pool.free
counted_still pool r new same is = record {
  sized = pool.free_counted.sized;
  taken = pool.free_counted.taken ∙ same_taken_count pool.sync r new same is;
  reserved = pool.free_counted.reserved;
}

-- and its uberblock is the one that it was
pub same_uberblock : (old new : SyncRun) → SameSync old new → (u : Fields) → WritesUberblock u old → WritesUberblock u new
same_uberblock old new same u writes = record { slot = same.slot ∙ writes.slot; bytes = subst (λ (l : List ℕ). IsUberblock l u) (sym same.uberblock) writes.bytes }

-- the sync is one that a pool may run
abbrev pub RunsIn : PoolTables → RunningSync → Type 0
RunsIn pool r =
    IsRunning pool.geometry (uberblock_with pool.guid pool.import_number (header_fields r.header) r.group.0 r.moment r.root) (tree_after r pool.synced.tree)
    (name_at pool.changes 0) r.run

-- after a call with others left, a run of the same blocks and uberblock is one still
pub runs_on : (pool : PoolTables) (r : RunningSync) (new : SyncRun) → SameSync r.run new → new.done < call_count new → RunsIn pool r
    → IsRunning pool.geometry (uberblock_with pool.guid pool.import_number (header_fields r.header) r.group.0 r.moment r.root) (tree_after r pool.synced.tree)
    (name_at pool.changes 0) new
runs_on pool r new same left was = record {
  geometry = same.geometry ∙ was.geometry;
  stages = same.stages ∙ was.stages;
  left = left;
  uberblock = same_uberblock r.run new same _ was.uberblock;
  placed = was.placed;
}

-- a call is refused as a write or as a flush
pub refused_as : (call : DeviceCall) (e : PoolError) → e ≡ refusal_of call → (e ≡ error.Write) ⊎ (e ≡ error.Flush)
refused_as (Block k) e is = inl is
refused_as (Config l) e is = inl is
refused_as (Uberblock l) e is = inl is
refused_as Flush e is = inr is
